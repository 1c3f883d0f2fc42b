-- The products of entries by which the letters D and Dinv scale a number (entry_product, scaled-product): positive if the entries are (entry_product-positive,
-- whole_product-positive).
use mathlib.Core.Path.{◌≡◌, sym, ap, ◌∙◌}
use mathlib.Core.Bool.{true, false}
use mathlib.Core.List.{[], ◌∷◌}
use Prim.Native.Nat.{ℕ, zero, suc}
use lib.ListN.{length}
use Rattle.fraction.specs.Ring.{CRing, Ordered, arithmetic}
use Rattle.fraction.proofs.Ring.{ring, *-one, *-assoc, zero-*}
use Rattle.words.specs.RowSet.{In, RowSet}
use Rattle.words.specs.Walk.{scaled}
use Rattle.words.proofs.RowSets.{in-under, in_top}

module _ (K : CRing) where
  open K use {R, 𝟙, mul as ◌*◌}

  infixl 70 ◌*◌
  pub *-right : (a b c : R) → a * b * c ≡ a * c * b
  *-right a b c = simp ring

  -- the product of v i for the rows i of S
  unfoldable pub entry_product : (ℕ → R) → RowSet → R
  entry_product v [] = 𝟙
  entry_product v (true ∷ S) = entry_product v S * v (suc (length S))
  entry_product v (false ∷ S) = entry_product v S

  -- v 1 .. v n
  unfoldable pub whole_product : (ℕ → R) → ℕ → R
  whole_product v zero = 𝟙
  whole_product v (suc n) = whole_product v n * v (suc n)

module _ (K : CRing) (O : Ordered K) where
  open K use {R, 𝟘, mul as ◌*◌}
  open O use {Pos, pos-one, pos-mul}

  infixl 70 ◌*◌
  -- D multiplies by each of its entries, and Dinv by the inverse of each
  pub scaled-product : (f : R → R) (e : ℕ → R) (S : RowSet) (x : R) → scaled (arithmetic K O) (λ y z. y * f z) e S x ≡ x * entry_product K (λ i. f (e i)) S
  unfolding scaled entry_product
  scaled-product f e [] x = sym (*-one K x)
  scaled-product f e (true ∷ S) x = ap (λ y. y * f (e (suc (length S)))) (scaled-product f e S x) ∙ *-assoc K _ _ _
  scaled-product f e (false ∷ S) x = scaled-product f e S x

  pub scaled-zero : (f : R → R) (e : ℕ → R) (S : RowSet) → scaled (arithmetic K O) (λ y z. y * f z) e S 𝟘 ≡ 𝟘
  scaled-zero f e S = scaled-product f e S 𝟘 ∙ zero-* K _

  pub entry_product-positive : (v : ℕ → R) (S : RowSet) → ((i : ℕ) → In (length S) i → Pos (v i)) → Pos (entry_product K v S)
  unfolding entry_product
  entry_product-positive v [] h = pos-one
  entry_product-positive v (true ∷ S) h = pos-mul _ _ (entry_product-positive v S (λ i x. h i (in-under x))) (h (suc (length S)) (in_top (length S)))
  entry_product-positive v (false ∷ S) h = entry_product-positive v S (λ i x. h i (in-under x))

  pub whole_product-positive : (v : ℕ → R) (n : ℕ) → ((i : ℕ) → In n i → Pos (v i)) → Pos (whole_product K v n)
  unfolding whole_product
  whole_product-positive v zero h = pos-one
  whole_product-positive v (suc n) h = pos-mul _ _ (whole_product-positive v n (λ i x. h i (in-under x))) (h (suc n) (in_top n))
