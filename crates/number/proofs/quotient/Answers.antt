-- `quotient` meets its contract: the select is the shift, the shifted dividend is a word, one division leaves the remainder, and the
-- multiplier of the direction takes the whole number.
use mathlib.Core.Path.{◌≡◌, sym, ap, ap₂, ◌∙◌, subst}
use Prim.Native.Nat.{ℕ, ◌+◌, ◌-◌, ◌*◌, ◌/◌, ◌%◌, ◌^◌, ◌<◌}
use native.Mathlib.Nat.{mod-eq_of_lt, mod-lt, div-add-mod'}
use native.Mathlib.Omega.{arith}
use Rattle.number.proofs.Digits.{compared, multiplier-fits}
use Rattle.number.proofs.Division.{shifted-high, quotient-full}
use Rattle.number.specs.Digits.{whole_of}
use Rattle.number.specs.Division.{shifted, whole_quotient, remainder}
use Rattle.number.specs.declared.Direction.TheVariants.{Down}
use Rattle.number.proofs.quotient.Goals as goal
use Rattle.number.proofs.quotient.Goals.{After-either-s}

-- the shifted dividend is a word
fits : (c : After-either-s) → shifted c.args.a c.args.b < 2 ^ 64
fits c = omega (arith, shifted-high c.args.a c.args.b c.requires.0 c.requires.1)

-- and is what the code shifts
word : (c : After-either-s) → c.args.a * 2 ^ c.either-s.result % 2 ^ 64 ≡ shifted c.args.a c.args.b
word c = ap (λ (s : ℕ). c.args.a * 2 ^ s % 2 ^ 64) c.either-s.ensures ∙ mod-eq_of_lt (fits c)

-- the one division
parts : (c : After-either-s) → let n = shifted c.args.a c.args.b in n / c.args.b * c.args.b + n % c.args.b ≡ n
parts c = div-add-mod' (shifted c.args.a c.args.b) c.args.b

-- leaves less than the divisor
left : (c : After-either-s) → remainder c.args.a c.args.b < c.args.b
left c = omega (arith, parts c, mod-lt (shifted c.args.a c.args.b) {m = c.args.b} (omega arith))

-- and what is compared fits
product-fits : (c : After-either-s) → remainder c.args.a c.args.b * c.multiplier-k.result < 2 ^ 64 - 1
product-fits c = let r = remainder c.args.a c.args.b in
    subst (λ (k : ℕ). r * k < 2 ^ 64 - 1) (sym c.multiplier-k.ensures)
    (multiplier-fits c.args.direction r c.args.b (left c) c.requires.1.high)

pub whole-m-requires : goal.whole-m-requires
whole-m-requires c = let q = quotient-full c.args.a c.args.b c.requires.0 c.requires.1 Down in
    rw (word c) (q.high, left c, product-fits c)

pub returns : goal.returns
returns c =
    let e = c.whole-m.ensures ∙ ap (λ (n : ℕ). whole_of (n / c.args.b) (n - n / c.args.b * c.args.b) c.args.b c.multiplier-k.result)
    (word (goal.at.returns c).After-either-s)
    ∙ ap (whole_of (whole_quotient c.args.a c.args.b) (remainder c.args.a c.args.b) c.args.b) c.multiplier-k.ensures
    ∙ compared c.args.direction (whole_quotient c.args.a c.args.b) (remainder c.args.a c.args.b) c.args.b (left (goal.at.returns c).After-either-s) in
    ap₂ (λ (m k : ℕ). record { m = m; x = c.args.x - k }) e c.either-s.ensures
