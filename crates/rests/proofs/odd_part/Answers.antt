-- `odd_part` meets its contract: none for zero, and a word's trailing zeros are its twos.
use mathlib.Core.Path.{sym, ap, ◌∙◌}
use Prim.Native.Nat.{ℕ, ◌+◌, ◌/◌, ◌^◌, ◌<◌}
use native.Mathlib.Omega.{arith}
use Rattle.rests.proofs.Odd.{word-twos}
use Rattle.rests.proofs.Parts.{odd-none, odd-some}
use Rattle.rests.proofs.odd_part.Goals as goal

pub returns-then-n-eq0 : goal.returns-then-n-eq0
returns-then-n-eq0 c = sym (odd-none _ _ _ c.if-n-eq0.true)

pub returns : goal.returns
returns c = let a = c.args in
    let p : 0 < a.n = omega (arith, c.if-n-eq0.false) in
    ap (λ (t : ℕ). record { negative = a.negative; odd = a.n / 2 ^ t; x = a.x + t }) (c.from-twos.ensures ∙ word-twos a.n p c.ranges.n.fits)
    ∙ sym (odd-some a.negative a.n a.x p)
