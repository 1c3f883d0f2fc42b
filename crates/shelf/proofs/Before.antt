-- LOADS AS THEY WERE before zeros were, as calls: of all bytes but those in which document 01 met a zero off the diagonal (`loads-before`), since both readings
-- of them are the same (`read-before`); so of all that it read as a matrix (`accepted-loads-before`). At a place that turns a load down, of all bytes
-- (`placed-before`). A load that document 01 accepted does what it did (`accepted-load-before`), and what it stores is without zeros
-- (`old-load-without-zeros`).
use Prim.Native.Nat.{ℕ, ◌<◌}
use native.Mathlib.Omega.{arith}
use mathlib.Core.Path.{◌≡◌, refl, sym, ap, subst, ◌∙◌}
use mathlib.Core.List.{List, [], ◌∷◌, ◌++◌}
use Rattle.number.specs.declared.Number.{Number}
use Rattle.number.specs.Number.{Stored}
use Rattle.words.specs.Sources.{Each}
use Rattle.words.proofs.Banded.{stored-banded}
use Rattle.table.specs.Table.{table_of, square_of}
use Rattle.verdict.specs.declared.Refusal.{Refusal}
use Rattle.std.specs.Prelude.{Ok, Err}
use Rattle.verdict.specs.Verdict.{Verdict, first_of, or_else}
use Rattle.verdict.specs.Report.{accepted}
use Rattle.verdict.proofs.Verdicts.{first-last, first-passed, report-accepted}
use Rattle.reader.specs.Matrix.{Reading, matrix, fault, matrix_of, behind_by}
use Rattle.reader.specs.Before.{old_reading, ReadAsBefore}
use Rattle.reader.specs.Before as reader
use Rattle.reader.proofs.Before.{read-before, accepted-before, old-stored}
use Rattle.places.specs.declared.Shelf.{Shelf}
use Rattle.places.specs.Shelf.{holding, rows_at, factors_at, Good}
use Rattle.places.specs.Tests.{target_tests}
use Rattle.places.proofs.Holding.{fits-table, rows-held, factors-held}
use Rattle.conditions.proofs.Passed.{target-accepted}
use Rattle.operations.specs.Before.{WithoutZeros}
use Rattle.shelf.specs.Calls.{changing, of_reading, read_to, load_call}
use Rattle.shelf.specs.Before.{old_load, LoadsBefore, LoadedAsBefore, same, was-six}
use Rattle.shelf.proofs.Loading.{load-turned}

module _ (bytes : List ℕ) where
  -- bytes that are read alike
  by-reading : matrix_of bytes ≡ old_reading bytes → LoadsBefore bytes
  unfolding load_call
  by-reading e = record {
    load-before = λ s p. ap (λ (r : Reading). changing (first_of (target_tests s p ++ (of_reading bytes r ∷ []))) s (read_to s p r)) e;
    rest-before = ap (behind_by bytes) e;
  }

  -- EVERY LOAD STAYS, but that of a zero off the diagonal
  pub loads-before : LoadedAsBefore bytes
  loads-before = by (read-before bytes)
    where
      by : ReadAsBefore bytes (matrix_of bytes) (old_reading bytes) → LoadedAsBefore bytes
      by (reader.same e) = same (by-reading e)
      by (reader.was-six o e z) = was-six o e z

  -- WHAT WAS ACCEPTED
  pub accepted-loads-before : (n : ℕ) (L : List Number) (q : ℕ) → old_reading bytes ≡ matrix n L q → LoadsBefore bytes
  accepted-loads-before n L q e = by-reading (accepted-before bytes n L q e ∙ sym e)

  module _ (s : Shelf) (p : ℕ) where
    -- 1 and 12 are tested before the bytes are read
    pub placed-before : (w : Refusal) → first_of (target_tests s p) ≡ Err w → load_call s p bytes ≡ old_load s p bytes
    placed-before w e =
        sym (load-turned s p bytes w e)
        ∙ ap (λ (v : Verdict). changing v s (read_to s p (old_reading bytes)))
        (sym (first-last (target_tests s p) (of_reading bytes (old_reading bytes)) ∙ ap (λ (v : Verdict). or_else v (of_reading bytes (old_reading bytes))) e))

    -- AN ACCEPTED LOAD
    module _ (done : (old_load s p bytes).report ≡ accepted []) where
      verdict : first_of (target_tests s p ++ (of_reading bytes (old_reading bytes) ∷ [])) ≡ Ok tt
      verdict = report-accepted (first_of (target_tests s p ++ (of_reading bytes (old_reading bytes) ∷ []))) [] done

      passed : (first_of (target_tests s p) ≡ Ok tt) × (of_reading bytes (old_reading bytes) ≡ Ok tt)
      passed = first-passed (target_tests s p) (of_reading bytes (old_reading bytes)) verdict

      pub accepted-load-before : load_call s p bytes ≡ old_load s p bytes
      accepted-load-before = by (old_reading bytes) refl passed.1
        where
          by : (w : Reading) → old_reading bytes ≡ w → of_reading bytes w ≡ Ok tt → load_call s p bytes ≡ old_load s p bytes
          by (matrix n L q) e f = (accepted-loads-before n L q e).load-before s p
          by (fault k o) e f = absurd (let z : ◌≡◌ {A = ℕ} 0 1 = cc in omega arith)

      -- WHAT IT STORES IS WITHOUT ZEROS
      module _ (good : Good s) where
        stored-by : (w : Reading) → old_reading bytes ≡ w → of_reading bytes w ≡ Ok tt → WithoutZeros (read_to s p w) p
        stored-by (matrix n L q) e f =
            let h = old-stored bytes n L q e in
            let small : p < 8 = (target-accepted (rows_at s) p passed.0).small in
            let fits = fits-table n (square_of n L) h.few (stored-banded n (square_of n L) h.stored) in
            let r : rows_at (holding s p n (square_of n L)) p ≡ n = rows-held s good p n (table_of n (square_of n L)) small fits in
            subst (λ (m : ℕ). Each Stored m (factors_at (holding s p n (square_of n L)) p)) (sym r)
            (λ i j x y. subst Stored (sym (factors-held s good p n (square_of n L) small fits i j x y)) (h.stored i j x y))
        stored-by (fault k o) e f = absurd (let z : ◌≡◌ {A = ℕ} 0 1 = cc in omega arith)

        pub old-load-without-zeros : WithoutZeros (old_load s p bytes).shelf p
        old-load-without-zeros = rw verdict (stored-by (old_reading bytes) refl passed.1)
