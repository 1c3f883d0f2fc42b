-- Laws of row sets: the rows 1 .. n (in-under, in_top); the highest row and the rows under it (has-top, has-under, has-none, put-top, put_under, replaced-down,
-- replaced-up);
-- lengths (length-put, length-replaced, length-rows); sets that are equal (equal-same, equal-true).
use mathlib.Core.Path.{◌≡◌, refl, ap, ◌∙◌}
use mathlib.Core.Bool.{Bool, true, false, cond, false≢true}
use mathlib.Core.List.{[], ◌∷◌}
use Prim.Native.Nat.{ℕ, zero, suc, ◌≤◌}
use native.Mathlib.Omega.{arith}
use lib.Dec.{eqb}
use lib.ListN.{length}
use borrow.Author.Tests.{eq-eqb, ne_eqb}
use Rattle.words.specs.RowSet.{In, RowSet, has, put, count, replaced, equal, rows}

-- a row of n is one of n + 1, and so is the highest
pub in-under : {n i : ℕ} → In n i → In (suc n) i
in-under h = (h.0, omega (arith, h.1))

pub in_top : (n : ℕ) → In (suc n) (suc n)
in_top n = (omega arith, omega arith)

-- the highest row, and the others
pub has-top : (x : Bool) (S : RowSet) → has (suc (length S)) (x ∷ S) ≡ x
unfolding has
has-top x S = rw (eq-eqb (suc (length S)) (suc (length S)) refl)

pub has-under : (i : ℕ) (x : Bool) (S : RowSet) → i ≤ length S → has i (x ∷ S) ≡ has i S
unfolding has
has-under i x S h = rw (ne_eqb i (suc (length S)) (λ e. omega arith))

-- a set without rows has none
pub has-none : (i : ℕ) (S : RowSet) → count S ≡ 0 → has i S ≡ false
unfolding has count
has-none i [] e = refl
has-none i (true ∷ S) e = absurd (omega arith)
has-none i (false ∷ S) e = by (eqb i (suc (length S))) (has-none i S e)
  where
    by : (b : Bool) → has i S ≡ false → cond b false (has i S) ≡ false
    by true h = refl
    by false h = h

pub put-top : (y x : Bool) (S : RowSet) → put (suc (length S)) y (x ∷ S) ≡ y ∷ S
unfolding put
put-top y x S = rw (eq-eqb (suc (length S)) (suc (length S)) refl)

pub put_under : (i : ℕ) (y x : Bool) (S : RowSet) → i ≤ length S → put i y (x ∷ S) ≡ x ∷ put i y S
unfolding put
put_under i y x S h = rw (ne_eqb i (suc (length S)) (λ e. omega arith))

pub length-put : (i : ℕ) (y : Bool) (S : RowSet) → length (put i y S) ≡ length S
unfolding put
length-put i y [] = refl
length-put i y (x ∷ S) = by (eqb i (suc (length S))) (length-put i y S)
  where
    by : (t : Bool) → length (put i y S) ≡ length S → length (cond t (y ∷ S) (x ∷ put i y S)) ≡ suc (length S)
    by true h = refl
    by false h = ap suc h

pub length-replaced : (a o : ℕ) (S : RowSet) → length (replaced a o S) ≡ length S
length-replaced a o S = length-put o true (put a false S) ∙ length-put a false S

pub replaced-under : (a o : ℕ) (x : Bool) (S : RowSet) → a ≤ length S → o ≤ length S → replaced a o (x ∷ S) ≡ x ∷ replaced a o S
replaced-under a o x S h g = ap (put o true) (put_under a false x S h) ∙ put_under o true x (put a false S) (omega (arith, length-put a false S))

-- the two highest rows, S of length n under them: the lower one in place of the higher, and the other way round
pub replaced-down : (x y : Bool) (S : RowSet) → replaced (suc (suc (length S))) (suc (length S)) (x ∷ y ∷ S) ≡ false ∷ true ∷ S
replaced-down x y S =
    ap (put (suc (length S)) true) (put-top false x (y ∷ S))
    ∙ put_under (suc (length S)) true false (y ∷ S) (omega arith) ∙ ap (λ T. false ∷ T) (put-top true y S)

pub replaced-up : (x y : Bool) (S : RowSet) → replaced (suc (length S)) (suc (suc (length S))) (x ∷ y ∷ S) ≡ true ∷ false ∷ S
replaced-up x y S =
    ap (put (suc (suc (length S))) true) (put_under (suc (length S)) false x (y ∷ S) (omega arith) ∙ ap (λ T. x ∷ T) (put-top false y S))
    ∙ put-top true x (false ∷ S)

pub length-rows : (n a b : ℕ) → length (rows n a b) ≡ n
unfolding rows
length-rows zero a b = refl
length-rows (suc n) a b = ap suc (length-rows n a b)

-- sets that are one set
pub equal-same : (S : RowSet) → equal S S ≡ true
unfolding equal
equal-same [] = refl
equal-same (true ∷ S) = equal-same S
equal-same (false ∷ S) = equal-same S

pub equal-true : (S T : RowSet) → equal S T ≡ true → S ≡ T
unfolding equal
equal-true [] [] h = refl
equal-true [] (y ∷ T) h = absurd (false≢true h)
equal-true (x ∷ S) [] h = absurd (false≢true h)
equal-true (true ∷ S) (true ∷ T) h = ap (λ X. true ∷ X) (equal-true S T h)
equal-true (true ∷ S) (false ∷ T) h = absurd (false≢true h)
equal-true (false ∷ S) (true ∷ T) h = absurd (false≢true h)
equal-true (false ∷ S) (false ∷ T) h = ap (λ X. false ∷ X) (equal-true S T h)
