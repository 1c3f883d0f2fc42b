-- The operations by their accessors: the sets that are asked for are sets of the sources' rows (length-rows_of, length-columns_of) with equally many members
-- (count-asked); and the same operation in other numbers has the same size, fits as well, and asks for the same minors (size-each, steps-each, fit-each,
-- asked-each).
use mathlib.Core.Path.{◌≡◌, refl, sym, ap, ◌∙◌, subst}
use mathlib.Core.List.{List, [], ◌∷◌}
use Prim.Native.Nat.{ℕ, suc, ◌≤◌}
use native.Mathlib.Omega.{arith}
use lib.ListN.{length}
use Rattle.fraction.specs.Arithmetic.{Arithmetic}
use Rattle.words.specs.RowSet.{RowSet, count}
use Rattle.words.specs.Walk.{minor}
use Rattle.words.specs.Operation.{Step, Operation, joined, submatrix, schur, joined_word, steps, rows_of, columns_of, size, Fit, asked_minor}
use Rattle.words.specs.Operation.{each_steps, each_source}
use Rattle.words.proofs.Chosen.{length-among, count-among}
use Rattle.words.proofs.FirstRows.{length-first, count-first}

-- SETS of the result's rows and columns
module _ {A : Type 0} (n : ℕ) where
  pub some-steps : (o : Operation A) → Fit n o → 1 ≤ length (steps o)
  some-steps (joined L) f = f
  some-steps (submatrix b P Q) f = omega arith
  some-steps (schur b k) f = omega arith

  pub length-rows_of : (o : Operation A) → Fit n o → (I : RowSet) → length I ≡ size n o → length (rows_of o I) ≡ n
  length-rows_of (joined L) f I i = i
  length-rows_of (submatrix b P Q) f I i = length-among P I i ∙ f.0
  length-rows_of (schur b k) f I i = omega (arith, length-first k I, f.1, i)

  pub length-columns_of : (o : Operation A) → Fit n o → (J : RowSet) → length J ≡ size n o → length (columns_of o J) ≡ n
  length-columns_of (joined L) f J j = j
  length-columns_of (submatrix b P Q) f J j = length-among Q J (j ∙ sym f.2) ∙ f.1
  length-columns_of (schur b k) f J j = omega (arith, length-first k J, f.1, j)

  pub count-asked : (o : Operation A) → Fit n o → (I J : RowSet) → length I ≡ size n o → length J ≡ size n o → count I ≡ count J
      → count (rows_of o I) ≡ count (columns_of o J)
  count-asked (joined L) f I J i j e = e
  count-asked (submatrix b P Q) f I J i j e = count-among P I i ∙ e ∙ sym (count-among Q J (j ∙ sym f.2))
  count-asked (schur b k) f I J i j e = omega (arith, count-first k I, count-first k J, e)

-- IN OTHER NUMBERS
module _ {A B : Type 0} (f : A → B) (n : ℕ) where
  pub size-each : (o : Operation A) → size n (each_source f o) ≡ size n o
  size-each (joined L) = refl
  size-each (submatrix b P Q) = refl
  size-each (schur b k) = refl

  pub steps-each : (o : Operation A) → steps (each_source f o) ≡ each_steps f (steps o)
  steps-each (joined L) = refl
  steps-each (submatrix b P Q) = refl
  steps-each (schur b k) = refl

  length-each : (L : List (Step A)) → length (each_steps f L) ≡ length L
  length-each [] = refl
  length-each (s ∷ L) = ap suc (length-each L)

  pub fit-each : (o : Operation A) → Fit n o → Fit n (each_source f o)
  fit-each (joined L) h = subst (λ (k : ℕ). 1 ≤ k) (sym (length-each L)) h
  fit-each (submatrix b P Q) h = h
  fit-each (schur b k) h = h

pub asked-each : {A : Type 0} (K : Arithmetic) (f : A → K.Num) (n : ℕ) (o : Operation A) (I J : RowSet)
    → asked_minor K n (each_source f o) I J ≡ minor K (joined_word n (each_steps f (steps o))) (rows_of o I) (columns_of o J)
asked-each K f n (joined L) I J = refl
asked-each K f n (submatrix b P Q) I J = refl
asked-each K f n (schur b k) I J = refl
