-- The wedge of a vector and a form on row sets, and forms that are iterated wedges (wedges): linear in the form (wedge-add, wedge-mul),
-- a function of the rows of the set (wedge-agree), zero where every product is (wedge-zero), and compatible with a diagonal (wedge-diagonal).
use mathlib.Core.Path.{◌≡◌, refl, sym, ap, ap₂, ◌∙◌}
use mathlib.Core.Bool.{true, false}
use mathlib.Core.List.{[], ◌∷◌}
use Prim.Native.Nat.{ℕ, suc}
use lib.ListN.{length}
use Rattle.fraction.specs.Ring.{CRing}
use Rattle.fraction.proofs.Ring.{ring, *-one, *-assoc, zero-*}
use Rattle.words.specs.RowSet.{In, RowSet}
use Rattle.words.proofs.RowSets.{in-under, in_top}
use Rattle.words.proofs.Walks.{under}
use Rattle.words.proofs.Agree.{Agree, agree-under}
use Rattle.minors.proofs.Entries.{entry_product}
unfoldable pub use Rattle.minors.specs.Determinant.{wedge, empty, wedges}

-- the same entries 1 .. n
abbrev pub SameEntries : {A : Type 0} → ℕ → (ℕ → A) → (ℕ → A) → Type 0
SameEntries n v u = (i : ℕ) → In n i → v i ≡ u i

module _ (K : CRing) where
  open K use {R, 𝟘, 𝟙, add as ◌+◌, mul as ◌*◌, neg}

  infixl 65 ◌+◌
  infixl 70 ◌*◌
  pub wedge-add : (w : R) (v : ℕ → R) (ω η : RowSet → R) (S : RowSet) → wedge K v (λ T. ω T + w * η T) S ≡ wedge K v ω S + w * wedge K v η S
  unfolding wedge
  wedge-add w v ω η [] = simp ring
  wedge-add w v ω η (true ∷ S) =
      ap (λ x. v (suc (length S)) * (ω (false ∷ S) + w * η (false ∷ S)) + neg x) (wedge-add w v (under true ω) (under true η) S)
      ∙ step _ _ _ _ _
    where
      step : (a x y p q : R) → a * (x + w * y) + neg (p + w * q) ≡ (a * x + neg p) + w * (a * y + neg q)
      step a x y p q = simp ring
  wedge-add w v ω η (false ∷ S) = wedge-add w v (under false ω) (under false η) S

  pub wedge-mul : (w : R) (v : ℕ → R) (ω : RowSet → R) (S : RowSet) → wedge K v (λ T. ω T * w) S ≡ wedge K v ω S * w
  unfolding wedge
  wedge-mul w v ω [] = simp ring
  wedge-mul w v ω (true ∷ S) = rw (wedge-mul w v (under true ω) S, wedge) (simp ring)
  wedge-mul w v ω (false ∷ S) = wedge-mul w v (under false ω) S

  pub wedge-agree : (v u : ℕ → R) (ω η : RowSet → R) (S : RowSet) → SameEntries (length S) v u → Agree (length S) ω η → wedge K v ω S ≡ wedge K u η S
  unfolding wedge
  wedge-agree v u ω η [] e h = refl
  wedge-agree v u ω η (true ∷ S) e h =
      ap₂ (λ x y. x + neg y) (ap₂ ◌*◌ (e (suc (length S)) (in_top (length S))) (h (false ∷ S) refl))
      (wedge-agree v u (under true ω) (under true η) S (λ i p. e i (in-under p)) (agree-under true h))
  wedge-agree v u ω η (false ∷ S) e h = wedge-agree v u (under false ω) (under false η) S (λ i p. e i (in-under p)) (agree-under false h)

  pub wedge-zero : (v : ℕ → R) (ω : RowSet → R) (S : RowSet) → ((i : ℕ) (T : RowSet) → In (length S) i → length T ≡ length S → v i * ω T ≡ 𝟘)
      → wedge K v ω S ≡ 𝟘
  unfolding wedge
  wedge-zero v ω [] h = refl
  wedge-zero v ω (true ∷ S) h =
      ap₂ (λ x y. x + neg y) (h (suc (length S)) (false ∷ S) (in_top (length S)) refl)
      (wedge-zero v (under true ω) S (λ i T p t. h i (true ∷ T) (in-under p) (ap suc t)))
      ∙ simp ring
  wedge-zero v ω (false ∷ S) h = wedge-zero v (under false ω) S (λ i T p t. h i (false ∷ T) (in-under p) (ap suc t))

  -- the entries of a diagonal matrix, a set's rows multiplied
  pub wedge-diagonal : (c v : ℕ → R) (ω : RowSet → R) (S : RowSet)
      → wedge K v ω S * entry_product K c S ≡ wedge K (λ i. v i * c i) (λ T. ω T * entry_product K c T) S
  unfolding wedge entry_product
  wedge-diagonal c v ω [] = simp ring
  wedge-diagonal c v ω (true ∷ S) =
      step _ _ _ _ _
      ∙ ap (λ x. v (suc (length S)) * c (suc (length S)) * (ω (false ∷ S) * entry_product K c S) + neg x)
      (ap (λ x. x * c (suc (length S))) (wedge-diagonal c v (under true ω) S)
      ∙ sym (wedge-mul (c (suc (length S))) (λ i. v i * c i) (λ T. ω (true ∷ T) * entry_product K c T) S)
      ∙ wedge-agree (λ i. v i * c i) (λ i. v i * c i) _ _ S (λ i p. refl)
      (λ T t. *-assoc K _ _ _ ∙ ap (λ n. ω (true ∷ T) * (entry_product K c T * c (suc n))) (sym t)))
    where
      step : (a d p x y : R) → (a * x + neg y) * (p * d) ≡ a * d * (x * p) + neg (y * p * d)
      step a d p x y = simp ring
  wedge-diagonal c v ω (false ∷ S) = wedge-diagonal c v (under false ω) S

  pub empty-diagonal : (c : ℕ → R) (S : RowSet) → empty K S * entry_product K c S ≡ empty K S
  unfolding empty entry_product
  empty-diagonal c [] = *-one K 𝟙
  empty-diagonal c (true ∷ S) = zero-* K _
  empty-diagonal c (false ∷ S) = empty-diagonal c S
