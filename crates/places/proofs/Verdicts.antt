-- What the tests of an accepted call have shown: of a source and a target (`source-accepted`, `one-accepted`) and of row and column sets (`sets-accepted`); a
-- shelf changed by accepted calls only stays good (`after-good`).
use Prim.Native.Nat.{ℕ, ◌^◌, ◌<◌, ◌≤◌}
use native.Mathlib.Decide.{dec_lt}
use native.Mathlib.Omega.{arith}
use mathlib.Core.Path.{◌≡◌, refl}
use mathlib.Core.Bool.{not, ◌||◌}
use mathlib.Core.List.{[], ◌∷◌}
use lib.Dec.{eqb}
use lib.ListN.{get_or, get_or-eq_default}
use borrow.Author.Tests.{eqb-true, eqb-false, not-false}
use Rattle.number.proofs.Tests.{neither}
use Rattle.rowset.specs.Mask.{mask_count, mask_beyond}
use Rattle.rowset.proofs.Masks.{mask-within}
use Rattle.places.specs.declared.Shelf.{Shelf}
use Rattle.std.specs.Prelude.{Ok, Err}
use Rattle.verdict.specs.declared.Reason.TheVariants.{WrongChoice}
use Rattle.verdict.specs.Verdict.{Verdict, first_of, after, when}
use Rattle.verdict.proofs.Verdicts.{when-passed}
use Rattle.conditions.proofs.Passed.{Source, Target, alone-accepted, to-accepted}
use Rattle.places.specs.Shelf.{rows_at, Good}
use Rattle.places.specs.Tests.{unfit, source_tests, one_source}

module _ (s : Shelf) where
  pub source-accepted : (p : ℕ) → first_of (source_tests s p) ≡ Ok tt → Source (rows_at s) p
  source-accepted p e = let a = alone-accepted (rows_at s) (p ∷ []) (omega arith) e in record { small = a.1.0; some = a.0 }

  pub one-accepted : (p t : ℕ) → first_of (one_source s p t) ≡ Ok tt → Source (rows_at s) p × Target (rows_at s) t
  one-accepted p t e = let a = to-accepted (rows_at s) (p ∷ []) t (omega arith) e in (record { small = a.0.1.0; some = a.0.0 }, a.1)

-- every place of a good shelf has at most eight rows, and one above 7 has none
pub rows_few : (s : Shelf) → Good s → (p : ℕ) → rows_at s p ≤ 8
unfolding rows_at
rows_few s g p = elim (dec_lt p 8) [ yes h ↦ (g.held p h).few | no h ↦ past h ]
  where
    past : (p < 8 → ⊥) → get_or s.sizes p 0 ≤ 8
    past h = rw (get_or-eq_default s.sizes 0 {n = p} (omega (arith, g.places, h))) (omega arith)

-- a shelf that is changed only where the call was accepted stays good
pub after-good : (old new : Shelf) → Good old → (v : Verdict) → (v ≡ Ok tt → Good new) → Good (after v old new)
after-good old new g (Ok tt) h = h refl
after-good old new g (Err w) h = g

-- SETS that were accepted: equally many rows and columns of n, at least one
pub record Fit (n I J : ℕ) : Type 0 where
  pub counts : mask_count I ≡ mask_count J
  pub some : 0 < I
  pub rows : I < 2 ^ n
  pub columns : J < 2 ^ n

pub sets-accepted : (n I J : ℕ) → when (unfit n I J) WrongChoice ≡ Ok tt → Fit n I J
sets-accepted n I J e =
    let a = neither (not (eqb (mask_count I) (mask_count J))) _ (when-passed (unfit n I J) WrongChoice e) in
    let b = neither (eqb I 0 || eqb J 0) _ a.1 in
    let c = neither (eqb I 0) (eqb J 0) b.0 in
    let d = neither (mask_beyond n I) (mask_beyond n J) b.1 in
    let z : I ≡ 0 → ⊥ = eqb-false I 0 c.0 in
    record {
      counts = eqb-true (mask_count I) (mask_count J) (not-false (eqb (mask_count I) (mask_count J)) a.0);
      some = omega arith;
      rows = mask-within n I d.0;
      columns = mask-within n J d.1;
    }
