-- Walks read through a map of row sets, as the complement or the reversal: moves go through (moved-mapped), and so does the state that is 1 at one set
-- if the map is its own inverse (one_at-mapped).
use mathlib.Core.Path.{◌≡◌, refl, sym, ap, ◌∙◌}
use mathlib.Core.Bool.{Bool, true, false, not, cond, ◌&&◌}
use Prim.Native.Nat.{ℕ}
use Rattle.fraction.specs.Arithmetic.{Arithmetic}
use Rattle.words.specs.RowSet.{RowSet, has, replaced, equal}
use Rattle.words.specs.Walk.{State, one_at, moved, moved_if}
use Rattle.words.proofs.RowSets.{equal-same, equal-true}

module _ (K : Arithmetic) where
  open K use {Num, add, mul}

  -- f takes rows a and o to rows c and p
  pub moved-mapped : (f : RowSet → RowSet) (a o c p : ℕ) (w : Num) (ω : State K) (S : RowSet)
      → (has c (f S) && not (has p (f S))) ≡ (has a S && not (has o S)) → replaced c p (f S) ≡ f (replaced a o S)
      → moved K c p w ω (f S) ≡ moved K a o w (λ T. ω (f T)) S
  unfolding moved
  moved-mapped f a o c p w ω S h r = ap (λ t. moved_if K t c p w ω (f S)) h ∙ by (has a S && not (has o S))
    where
      by : (t : Bool) → moved_if K t c p w ω (f S) ≡ moved_if K t a o w (λ T. ω (f T)) S
      by true = ap (λ T. add (ω (f S)) (mul w (ω T))) r
      by false = refl

module _ (f : RowSet → RowSet) (back : (S : RowSet) → f (f S) ≡ S) where
  equal-mapped : (S T : RowSet) → equal S (f T) ≡ equal (f S) T
  equal-mapped S T = both (equal S (f T)) (equal (f S) T) there here
    where
      both : (s t : Bool) → (s ≡ true → t ≡ true) → (t ≡ true → s ≡ true) → s ≡ t
      both true t p q = sym (p refl)
      both false true p q = q refl
      both false false p q = refl

      there : equal S (f T) ≡ true → equal (f S) T ≡ true
      there h = ap (λ X. equal (f X) T) (equal-true S (f T) h) ∙ ap (λ X. equal X T) (back T) ∙ equal-same T

      here : equal (f S) T ≡ true → equal S (f T) ≡ true
      here h = ap (λ X. equal S (f X)) (sym (equal-true (f S) T h)) ∙ ap (equal S) (back S) ∙ equal-same S

  pub one_at-mapped : (K : Arithmetic) (J S : RowSet) → one_at K J (f S) ≡ one_at K (f J) S
  unfolding one_at
  one_at-mapped K J S = ap (λ t. cond t K.one K.zero) (equal-mapped J S)
