-- THE COUNT IS THAT OF THE PAPER'S PAIRS (`reversals-pairs`). By the items before k: the one pair that ends at item k, if there is one, starts at the last item
-- before it that is not zero (`ending`), which is what the one pass keeps.
use mathlib.Core.Path.{◌≡◌, refl, sym, ap, ap₂, ◌∙◌}
use mathlib.Core.Bool.{Bool, true, false, cond, ◌&&◌, and-true, and-false, and_assoc}
use mathlib.Core.List.{List, [], ◌∷◌, ◌++◌}
use Prim.Native.Nat.{ℕ, zero, suc, ◌+◌, ◌≤◌, ◌<◌}
use native.Mathlib.Omega.{arith}
use lib.ListN.{length, get_or, take, drop, length-take, drop_of_length-le}
use lib.Seq.{take-suc, drop-cons, drop-append-le, drop-length}
use Rattle.number.specs.Signed.{zero_signed}
use Rattle.number.specs.declared.signed.Signed.{Signed}
use Rattle.items.specs.Items.{is_zero_item}
use Rattle.reversals.specs.Reversals.{opposite, turn, latest, reversals_behind, reversals}
use Rattle.reversals.specs.Reversals.{between, all_zero, is_reversal, how_many_below, pairs_below, reversal_pairs}

-- ---- counting
abbrev counted : Bool → ℕ
counted t = cond t 1 0

count_same : (k : ℕ) (f g : ℕ → Bool) → ((i : ℕ) → i < k → f i ≡ g i) → how_many_below k f ≡ how_many_below k g
unfolding how_many_below
count_same zero f g h = refl
count_same (suc k) f g h = ap₂ ◌+◌ (count_same k f g (λ i l. h i (omega arith))) (ap counted (h k (omega arith)))

count_none : (k : ℕ) (f : ℕ → Bool) → ((i : ℕ) → i < k → f i ≡ false) → how_many_below k f ≡ 0
unfolding how_many_below
count_none zero f h = refl
count_none (suc k) f h = omega (arith, count_none k f (λ i l. h i (omega arith)), ap counted (h k (omega arith)))

-- ---- zeros
all-zero-last : (L : List Signed) (a : Signed) → all_zero (L ++ (a ∷ [])) ≡ (all_zero L && is_zero_item a)
unfolding all_zero
all-zero-last [] a = and-true (is_zero_item a)
all-zero-last (b ∷ L) a = ap (λ t. is_zero_item b && t) (all-zero-last L a) ∙ sym (and_assoc (is_zero_item b) (all_zero L) (is_zero_item a))

-- zero is opposite to nothing
opposite-zero : (a b : Signed) → is_zero_item a ≡ true → opposite a b ≡ false
unfolding opposite
opposite-zero a b e = simp e

module _ (L : List Signed) where
  abbrev item : ℕ → Signed
  item i = get_or L i zero_signed

  -- the last of the first k items that is not zero
  unfoldable last_before : ℕ → Signed
  last_before zero = zero_signed
  last_before (suc k) = latest (last_before k) (item k)

  -- whether item i and an item b that stands at k are a reversal
  abbrev pair_with : Signed → ℕ → ℕ → Bool
  pair_with b k i = opposite (item i) b && all_zero (between L i k)

  -- b one place further on: item k stands between, unless it is the first of the pair
  pair-next : (b : Signed) (i k : ℕ) → i < k → k < length L → pair_with b (suc k) i ≡ (pair_with b k i && is_zero_item (item k))
  pair-next b i k h g =
      ap (λ t. opposite (item i) b && t)
      (ap all_zero
      (ap (drop (suc i)) (take-suc L k zero_signed g) ∙ drop-append-le (suc i) (take k L) (item k ∷ []) (omega (arith, length-take k L)))
      ∙ all-zero-last (between L i k) (item k))
      ∙ sym (and_assoc (opposite (item i) b) (all_zero (between L i k)) (is_zero_item (item k)))

  pair-nearest : (b : Signed) (k : ℕ) → pair_with b (suc k) k ≡ opposite (item k) b
  unfolding all_zero
  pair-nearest b k =
      ap (λ M. opposite (item k) b && all_zero M) (drop_of_length-le (take (suc k) L) {i = suc k} (omega (arith, length-take (suc k) L)))
      ∙ and-true (opposite (item k) b)

  -- of the first k items only the last that is not zero can make one with b
  ending : (b : Signed) (k : ℕ) → k ≤ length L → how_many_below k (pair_with b k) ≡ turn (last_before k) b
  unfolding how_many_below last_before
  ending b zero h = sym (ap counted (opposite-zero zero_signed b refl))
  ending b (suc k) h = by (ending b k (omega arith)) (is_zero_item (item k)) refl
    where
      next : (z : Bool) → is_zero_item (item k) ≡ z → (i : ℕ) → i < k → pair_with b (suc k) i ≡ (pair_with b k i && z)
      next z e i l = pair-next b i k l (omega arith) ∙ ap (λ t. pair_with b k i && t) e

      by : how_many_below k (pair_with b k) ≡ turn (last_before k) b → (z : Bool) → is_zero_item (item k) ≡ z
          → how_many_below k (pair_with b (suc k)) + counted (pair_with b (suc k) k) ≡ turn (latest (last_before k) (item k)) b
      by before true e =
          omega (
            arith,
            count_same k (pair_with b (suc k)) (pair_with b k) (λ i l. next true e i l ∙ and-true (pair_with b k i)),
            ap counted (pair-nearest b k ∙ opposite-zero (item k) b e),
            ap (λ z. turn (cond z (last_before k) (item k)) b) e,
          )
      by before false e =
          omega (
            arith,
            count_none k (pair_with b (suc k)) (λ i l. next false e i l ∙ and-false (pair_with b k i)),
            ap counted (pair-nearest b k),
            ap (λ z. turn (cond z (last_before k) (item k)) b) e,
          )

  -- the pairs among the first k items, and what the one pass counts from there on
  so_far : (k : ℕ) → k ≤ length L → pairs_below k (is_reversal L) + reversals_behind (last_before k) (drop k L) ≡ reversals L
  unfolding pairs_below last_before reversals_behind
  so_far zero h = omega arith
  so_far (suc k) h =
      omega (
        arith,
        so_far k (omega arith),
        ending (item k) k (omega arith),
        ap (reversals_behind (last_before k)) (drop-cons L k zero_signed (omega arith)),
      )

  pub reversals-pairs : reversals L ≡ reversal_pairs L
  unfolding reversals_behind
  reversals-pairs = omega (arith, so_far (length L) (omega arith), ap (reversals_behind (last_before (length L))) (drop-length L))
