-- THE LATEST SET THAT PASSES a test: it passes where one does (latest-passes), none that passes comes after it (latest-last), and tests that agree have the
-- same one (latest-equal).
use mathlib.Core.Path.{◌≡◌, refl, sym, ap, ap₂, ◌∙◌}
use mathlib.Core.Bool.{Bool, true, false, cond, ◌||◌, false≢true}
use mathlib.Core.List.{[], ◌∷◌}
use Prim.Native.Nat.{ℕ, zero, suc}
use native.Mathlib.Omega.{arith}
use lib.ListN.{length}
use Rattle.words.specs.RowSet.{RowSet}
use Rattle.words.specs.Latest.{some, latest}

-- T does not come after S, comparing the highest rows first
abbrev pub NotAfter : RowSet → RowSet → Type 0
NotAfter [] S = Unit {0}
NotAfter (x ∷ T) [] = Unit {0}
NotAfter (true ∷ T) (true ∷ S) = NotAfter T S
NotAfter (false ∷ T) (false ∷ S) = NotAfter T S
NotAfter (false ∷ T) (true ∷ S) = Unit {0}
NotAfter (true ∷ T) (false ∷ S) = ⊥

pub length-latest : (n : ℕ) (t : RowSet → Bool) → length (latest n t) ≡ n
unfolding latest
length-latest zero t = refl
length-latest (suc n) t = by (some n (λ S. t (true ∷ S))) (length-latest n (λ S. t (true ∷ S))) (length-latest n (λ S. t (false ∷ S)))
  where
    by : (b : Bool) → length (latest n (λ S. t (true ∷ S))) ≡ n → length (latest n (λ S. t (false ∷ S))) ≡ n
        → length (cond b (true ∷ latest n (λ S. t (true ∷ S))) (false ∷ latest n (λ S. t (false ∷ S)))) ≡ suc n
    by true e f = ap suc e
    by false e f = ap suc f

pub some-passes : (n : ℕ) (t : RowSet → Bool) (T : RowSet) → length T ≡ n → t T ≡ true → some n t ≡ true
unfolding some
some-passes zero t [] e h = h
some-passes zero t (x ∷ T) e h = absurd (omega arith)
some-passes (suc n) t [] e h = absurd (omega arith)
some-passes (suc n) t (true ∷ T) e h = ap (λ b. b || some n (λ S. t (false ∷ S))) (some-passes n (λ S. t (true ∷ S)) T (omega arith) h)
some-passes (suc n) t (false ∷ T) e h = by (some n (λ S. t (true ∷ S))) (some-passes n (λ S. t (false ∷ S)) T (omega arith) h)
  where
    by : (b : Bool) → some n (λ S. t (false ∷ S)) ≡ true → b || some n (λ S. t (false ∷ S)) ≡ true
    by true f = refl
    by false f = f

pub latest-passes : (n : ℕ) (t : RowSet → Bool) → some n t ≡ true → t (latest n t) ≡ true
unfolding some latest
latest-passes zero t h = h
latest-passes (suc n) t h = by (some n (λ S. t (true ∷ S))) refl h (latest-passes n (λ S. t (true ∷ S))) (latest-passes n (λ S. t (false ∷ S)))
  where
    by : (b : Bool) → some n (λ S. t (true ∷ S)) ≡ b → b || some n (λ S. t (false ∷ S)) ≡ true
        → (some n (λ S. t (true ∷ S)) ≡ true → t (true ∷ latest n (λ S. t (true ∷ S))) ≡ true)
        → (some n (λ S. t (false ∷ S)) ≡ true → t (false ∷ latest n (λ S. t (false ∷ S))) ≡ true)
        → t (cond b (true ∷ latest n (λ S. t (true ∷ S))) (false ∷ latest n (λ S. t (false ∷ S)))) ≡ true
    by true e h f g = f e
    by false e h f g = g h

pub latest-last : (n : ℕ) (t : RowSet → Bool) (T : RowSet) → length T ≡ n → t T ≡ true → NotAfter T (latest n t)
unfolding latest
latest-last zero t [] e h = tt
latest-last zero t (x ∷ T) e h = absurd (omega arith)
latest-last (suc n) t [] e h = tt
latest-last (suc n) t (x ∷ T) l h =
    by x (some n (λ S. t (true ∷ S))) refl h (latest-last n (λ S. t (true ∷ S)) T (omega arith)) (latest-last n (λ S. t (false ∷ S)) T (omega arith))
  where
    by : (x b : Bool) → some n (λ S. t (true ∷ S)) ≡ b → t (x ∷ T) ≡ true
        → (t (true ∷ T) ≡ true → NotAfter T (latest n (λ S. t (true ∷ S)))) → (t (false ∷ T) ≡ true → NotAfter T (latest n (λ S. t (false ∷ S))))
        → NotAfter (x ∷ T) (cond b (true ∷ latest n (λ S. t (true ∷ S))) (false ∷ latest n (λ S. t (false ∷ S))))
    by true true e h f g = f h
    by true false e h f g = absurd (false≢true (sym e ∙ some-passes n (λ S. t (true ∷ S)) T (omega arith) h))
    by false true e h f g = tt
    by false false e h f g = g h

-- TESTS THAT AGREE
some-equal : (n : ℕ) (t u : RowSet → Bool) → ((S : RowSet) → length S ≡ n → t S ≡ u S) → some n t ≡ some n u
unfolding some
some-equal zero t u h = h [] refl
some-equal (suc n) t u h = ap₂ ◌||◌ (some-equal n _ _ (λ S s. h (true ∷ S) (ap suc s))) (some-equal n _ _ (λ S s. h (false ∷ S) (ap suc s)))

pub latest-equal : (n : ℕ) (t u : RowSet → Bool) → ((S : RowSet) → length S ≡ n → t S ≡ u S) → latest n t ≡ latest n u
unfolding latest
latest-equal zero t u h = refl
latest-equal (suc n) t u h =
    ap (λ b. cond b (true ∷ latest n (λ S. t (true ∷ S))) (false ∷ latest n (λ S. t (false ∷ S)))) (some-equal n _ _ (λ S s. h (true ∷ S) (ap suc s)))
    ∙ ap₂ (λ X Y. cond (some n (λ S. u (true ∷ S))) (true ∷ X) (false ∷ Y)) (latest-equal n _ _ (λ S s. h (true ∷ S) (ap suc s)))
    (latest-equal n _ _ (λ S s. h (false ∷ S) (ap suc s)))
