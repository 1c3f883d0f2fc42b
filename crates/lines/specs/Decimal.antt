-- Decimal numbers: what a word spells (`spelled_whole`, `spelled_signed`).
use Rattle.std.specs.Prelude.{ℕ, ◌+◌, ◌-◌, ◌*◌, ◌^◌, ◌≤◌, Bool, true, not, cond, ◌&&◌, List, [], ◌∷◌, leb, ltb, eqb, Option, Some, None, IfSome}
use Rattle.lines.specs.declared.reading.SignedWhole.{SignedWhole}
use Rattle.lines.specs.declared.reading.SignedWhole.TheVariants as signed

-- `0` to `9`
abbrev pub is_numeral : ℕ → Bool
is_numeral b = not (ltb b 48) && ltb b 58

unfoldable pub all_numerals : List ℕ → Bool
all_numerals [] = true
all_numerals (b ∷ s) = is_numeral b && all_numerals s

-- the number that numerals spell behind the number v
unfoldable pub value_from : ℕ → List ℕ → ℕ
value_from v [] = v
value_from v (b ∷ s) = value_from (v * 10 + (b - 48)) s

-- numerals alone, behind the number v, that spell a number of at most `most`
abbrev pub whole_from : List ℕ → ℕ → ℕ → Option ℕ
whole_from s v most = cond (all_numerals s && leb (value_from v s) most) (Some (value_from v s)) None

-- numerals, at least one, that spell a number of at most `most`
abbrev pub spelled_whole : List ℕ → ℕ → Option ℕ
spelled_whole [] most = None
spelled_whole (b ∷ s) most = whole_from (b ∷ s) 0 most

abbrev pub plus : Option ℕ → Option SignedWhole
plus (Some n) = Some (signed.Plus n)
plus None = None

abbrev pub minus : Option ℕ → Option SignedWhole
minus (Some n) = Some (signed.Minus n)
minus None = None

-- with `-` in front of a negative number; from -2^63 to 2^63 - 1
abbrev pub spelled_signed : List ℕ → Option SignedWhole
spelled_signed [] = None
spelled_signed (b ∷ s) = cond (eqb b 45) (minus (spelled_whole s (2 ^ 63))) (plus (spelled_whole (b ∷ s) (2 ^ 63 - 1)))

abbrev pub WholeUpTo : ℕ → Option ℕ → Type 0
WholeUpTo most r = IfSome r (λ n. n ≤ most)

abbrev pub SignedFits : Option SignedWhole → Type 0
SignedFits (Some (signed.Plus n)) = n ≤ 2 ^ 63 - 1
SignedFits (Some (signed.Minus n)) = n ≤ 2 ^ 63
SignedFits None = Unit {0}
