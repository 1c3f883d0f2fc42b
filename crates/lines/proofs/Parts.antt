-- The parts of a text by their indices: the first stands before the first stop, the others behind that (`parts_first`), from any index on (`parts_from`).
use Prim.Native.Nat.compare
use Prim.Native.Nat.{ℕ, zero, suc, ◌+◌, ◌≤◌}
use native.Mathlib.Omega.{arith}
use mathlib.Core.Path.{◌≡◌, refl, sym, ap, ◌∙◌}
use mathlib.Core.Bool.{Bool, true, false, cond}
use mathlib.Core.List.{List, [], ◌∷◌}
use lib.Dec.{eqb, ltb}
use lib.ListN.{length, drop}
use borrow.Author.Tests.{le-ltb}
use Rattle.lines.specs.Words.{before, in_front, parted, parts_at}

module _ (stop : ℕ) where
  -- one byte more in front moves each index by one
  moved : (b : ℕ) (s : List ℕ) (at : ℕ) → parts_at stop (b ∷ s) (suc at) ≡ parts_at stop s at
  moved b s at = rw (compare.suc-suc (suc (length s)) at)

  pub parts_from : (s : List ℕ) (at n : ℕ) → at ≤ length s → parts_at stop (drop at s) n ≡ parts_at stop s (at + n)
  parts_from s zero n h =
      let e : 0 + n ≡ n = omega arith in
      rw e
  parts_from [] (suc at) n h = absurd (omega arith)
  parts_from (b ∷ s) (suc at) n h =
      let e : suc at + n ≡ suc (at + n) = omega arith in
      parts_from s at n (omega arith) ∙ sym (rw e (moved b s (at + n)))

  step : (b : ℕ) (s : List ℕ) (t : Bool) → parted stop s ≡ before stop s ∷ parts_at stop s (suc (length (before stop s)))
      → cond t ([] ∷ parted stop s) (in_front b (parted stop s))
      ≡ cond t [] (b ∷ before stop s) ∷ parts_at stop (b ∷ s) (suc (length (cond t [] (b ∷ before stop s))))
  step b s true e =
      let l : ltb (suc (length s)) 1 ≡ false = le-ltb (suc (length s)) 1 (omega arith) in
      rw l
  step b s false e = rw e (ap (λ ws. (b ∷ before stop s) ∷ ws) (sym (moved b s (suc (length (before stop s))))))

  pub parts_first : (s : List ℕ) → parted stop s ≡ before stop s ∷ parts_at stop s (suc (length (before stop s)))
  unfolding parted before
  parts_first [] = refl
  parts_first (b ∷ s) = step b s (eqb b stop) (parts_first s)
