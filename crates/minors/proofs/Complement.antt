-- JACOBI'S COMPLEMENTARY MINORS: the minors of the inverse's word are those of the word at the complements of the sets, exchanged, over the word's determinant
-- (minor-inverse). The determinant is the product of all diagonal entries (word_determinant), positive where these are (Diagonal, word-diagonal,
-- word_determinant-positive).
use mathlib.Core.Path.{◌≡◌, refl, sym, ap, ap₂, ◌∙◌, fun_ext, subst}
use mathlib.Core.Bool.{Bool, true, false, not, cond, ◌&&◌, not-not}
use mathlib.Core.List.{[], ◌∷◌, ◌++◌, map}
use Prim.Native.Nat.{ℕ, suc, ◌+◌ as ◌+ℕ◌, ◌-◌}
use native.Mathlib.Omega.{arith}
use lib.Dec.{eqb}
use lib.ListN.{length, length-map}
use borrow.Author.Tests.{eqb-true, eqb-false}
use Rattle.fraction.specs.Arithmetic.{Arithmetic}
use Rattle.fraction.specs.Ring.{CRing, Ordered, arithmetic}
use Rattle.fraction.proofs.Ring.{ring, one-*, *-one, *-assoc, *-comm, *-left}
use Rattle.fraction.proofs.Ordered.{inv-mul-pos}
use Rattle.words.specs.RowSet.{In, RowSet, has, put, replaced, count}
use Rattle.words.specs.Word.{Factors, Letter, E, Et, D, Dinv, Word, word, inverse_letter, inverse_word, transposed_letter, transposed_word}
use Rattle.words.specs.Walk.{State, one_at, moved, moved_if, scaled, act, walk, minor}
use Rattle.words.proofs.RowSets.{in-under, in_top, length-put}
use Rattle.words.proofs.Walks.{Rows, All}
use Rattle.words.proofs.Agree.{act-agree}
use Rattle.words.proofs.Words.{transposed-transposed, inverse-all, inverse-row, transposed-rows}
use Rattle.words.proofs.Steps.{Weights, word-weights}
use Rattle.minors.proofs.Transpose.{minor-transposed}
use Rattle.minors.proofs.Mapped.{moved-mapped, one_at-mapped}
use Rattle.minors.proofs.Entries.{*-right, entry_product, whole_product, scaled-product, whole_product-positive}

-- the rows that are not in S
abbrev pub complement : RowSet → RowSet
complement S = map not S

pub complement-complement : (S : RowSet) → complement (complement S) ≡ S
complement-complement [] = refl
complement-complement (x ∷ S) = ap₂ ◌∷◌ (not-not x) (complement-complement S)

pub count-complement : (S : RowSet) → count (complement S) +ℕ count S ≡ length S
unfolding count
count-complement [] = refl
count-complement (true ∷ S) = omega (arith, count-complement S)
count-complement (false ∷ S) = omega (arith, count-complement S)

has-complement : (i : ℕ) (S : RowSet) → In (length S) i → has i (complement S) ≡ not (has i S)
unfolding has
has-complement i [] h = absurd (omega (arith, h.0, h.1))
has-complement i (x ∷ S) h =
    ap (λ k. cond (eqb i (suc k)) (not x) (has i (complement S))) (length-map S not) ∙ by (eqb i (suc (length S))) refl (has-complement i S)
  where
    by : (t : Bool) → eqb i (suc (length S)) ≡ t → (In (length S) i → has i (complement S) ≡ not (has i S))
        → cond t (not x) (has i (complement S)) ≡ not (cond t x (has i S))
    by true e f = refl
    by false e f = f (h.0, omega (arith, h.1, eqb-false i (suc (length S)) e))

put-complement : (i : ℕ) (x : Bool) (S : RowSet) → put i (not x) (complement S) ≡ complement (put i x S)
unfolding put
put-complement i x [] = refl
put-complement i x (y ∷ S) =
    ap₂ (λ k T. cond (eqb i (suc k)) (not x ∷ complement S) (not y ∷ T)) (length-map S not) (put-complement i x S) ∙ by (eqb i (suc (length S)))
  where
    by : (t : Bool) → cond t (not x ∷ complement S) (not y ∷ complement (put i x S)) ≡ complement (cond t (x ∷ S) (y ∷ put i x S))
    by true = refl
    by false = refl

put-by : (i : ℕ) (x z : Bool) (S T : RowSet) (t : Bool) → length T ≡ length S → eqb i (suc (length S)) ≡ t → put i x (z ∷ T) ≡ cond t (x ∷ T) (z ∷ put i x T)
unfolding put
put-by i x z S T t l e = ap (λ u. cond u (x ∷ T) (z ∷ put i x T)) (ap (λ k. eqb i (suc k)) l ∙ e)

put-swap : (i k : ℕ) (x y : Bool) (S : RowSet) → (i ≡ k → ⊥) → put i x (put k y S) ≡ put k y (put i x S)
unfolding put
put-swap i k x y [] n = refl
put-swap i k x y (z ∷ S) n = by (eqb i (suc (length S))) (eqb k (suc (length S))) refl refl (put-swap i k x y S n)
  where
    by : (s t : Bool) → eqb i (suc (length S)) ≡ s → eqb k (suc (length S)) ≡ t → put i x (put k y S) ≡ put k y (put i x S)
        → put i x (cond t (y ∷ S) (z ∷ put k y S)) ≡ put k y (cond s (x ∷ S) (z ∷ put i x S))
    by true true e f h = absurd (n (eqb-true i (suc (length S)) e ∙ sym (eqb-true k (suc (length S)) f)))
    by true false e f h = put-by i x z S (put k y S) true (length-put k y S) e ∙ sym (put-by k y x S S false refl f)
    by false true e f h = put-by i x y S S false refl e ∙ sym (put-by k y z S (put i x S) true (length-put i x S) f)
    by false false e f h =
        put-by i x z S (put k y S) false (length-put k y S) e ∙ ap (λ T. z ∷ T) h ∙ sym (put-by k y z S (put i x S) false (length-put i x S) f)

module _ {A : Type 0} where
  -- E and Et exchanged, D and Dinv exchanged, order kept
  abbrev pub complement_letter : Letter A → Letter A
  complement_letter l = transposed_letter (inverse_letter l)

  unfoldable pub complement_word : Word A → Word A
  complement_word [] = []
  complement_word (l ∷ W) = complement_letter l ∷ complement_word W

  pub inverse-transposed : (W : Word A) → inverse_word W ≡ transposed_word (complement_word W)
  unfolding inverse_word transposed_word complement_word
  inverse-transposed [] = refl
  inverse-transposed (l ∷ W) = ap₂ (λ U x. U ++ (x ∷ [])) (inverse-transposed W) (by l)
    where
      by : (l : Letter A) → inverse_letter l ≡ transposed_letter (complement_letter l)
      by (E j w) = refl
      by (Et j w) = refl
      by (D e) = refl
      by (Dinv e) = refl

  -- it is the inverse's word transposed
  pub complement-rows : (n : ℕ) (W : Word A) → All (Rows n) W → All (Rows n) (complement_word W)
  complement-rows n W h = subst (All (Rows n)) (ap transposed_word (inverse-transposed W) ∙ transposed-transposed (complement_word W))
      (transposed-rows n (inverse_word W) (inverse-all (Rows n) (Rows n) (inverse-row n) W h))

module _ (K : CRing) where
  open K use {R, 𝟙, mul as ◌*◌}

  infixl 70 ◌*◌
  -- where u holds the inverses of v
  entry_product-complement : (v u : ℕ → R) (S : RowSet) → ((i : ℕ) → In (length S) i → v i * u i ≡ 𝟙)
      → entry_product K v (complement S) ≡ whole_product K v (length S) * entry_product K u S
  unfolding entry_product whole_product
  entry_product-complement v u [] h = sym (*-one K 𝟙)
  entry_product-complement v u (true ∷ S) h = entry_product-complement v u S (λ i x. h i (in-under x)) ∙ cancel _ _ _ _ (h (suc (length S)) (in_top (length S)))
    where
      cancel : (a b c d : R) → c * d ≡ 𝟙 → a * b ≡ a * c * (b * d)
      cancel a b c d e = sym (regroup a b c d ∙ ap (λ x. a * b * x) e ∙ *-one K (a * b))
        where
          regroup : (a b c d : R) → a * c * (b * d) ≡ a * b * (c * d)
          regroup a b c d = simp ring
  entry_product-complement v u (false ∷ S) h =
      ap₂ (λ x k. x * v (suc k)) (entry_product-complement v u S (λ i x. h i (in-under x))) (length-map S not) ∙ *-right K _ _ _

module _ (K : CRing) (O : Ordered K) where
  open K use {R, 𝟙, add as ◌+◌, mul as ◌*◌}
  open O use {Pos, pos-one, pos-mul, inv, inv-pos}

  infixl 65 ◌+◌
  infixl 70 ◌*◌
  abbrev F : Arithmetic
  F = arithmetic K O

  -- the product of a letter's diagonal, and of all letters'
  abbrev pub letter_determinant : ℕ → Letter R → R
  letter_determinant n (E j w) = 𝟙
  letter_determinant n (Et j w) = 𝟙
  letter_determinant n (D e) = whole_product K e n
  letter_determinant n (Dinv e) = whole_product K (λ i. inv (e i)) n

  unfoldable pub word_determinant : ℕ → Word R → R
  word_determinant n [] = 𝟙
  word_determinant n (l ∷ W) = letter_determinant n l * word_determinant n W

  -- any weights, positive diagonals
  abbrev pub Diagonal : ℕ → Letter R → Type 0
  Diagonal n = Weights (λ w. Unit {0}) Pos n

  pub word-diagonal : (n : ℕ) (b : Factors R) → ((i : ℕ) → In n i → Pos (b i i)) → All (Diagonal n) (word n b)
  word-diagonal n b p = word-weights (λ w. Unit {0}) Pos n b (record { off = λ i j x y e. tt; on = p })

  pub word_determinant-positive : (n : ℕ) (W : Word R) → All (Diagonal n) W → Pos (word_determinant n W)
  unfolding word_determinant
  word_determinant-positive n [] h = pos-one
  word_determinant-positive n (l ∷ W) h = pos-mul _ _ (by l h.0) (word_determinant-positive n W h.1)
    where
      by : (l : Letter R) → Diagonal n l → Pos (letter_determinant n l)
      by (E j w) h = pos-one
      by (Et j w) h = pos-one
      by (D e) h = whole_product-positive K O e n h
      by (Dinv e) h = whole_product-positive K O (λ i. inv (e i)) n (λ i x. inv-pos _ (h i x))

  -- letters are linear
  moved-scale : (c : R) (a o : ℕ) (w : R) (ω : State F) (S : RowSet) → moved F a o w (λ T. c * ω T) S ≡ c * moved F a o w ω S
  unfolding moved
  moved-scale c a o w ω S = by (has a S && not (has o S))
    where
      law : (c w x y : R) → c * x + w * (c * y) ≡ c * (x + w * y)
      law c w x y = simp ring

      by : (t : Bool) → moved_if F t a o w (λ T. c * ω T) S ≡ c * moved_if F t a o w ω S
      by true = law c w (ω S) (ω (replaced a o S))
      by false = refl

  scaled-scale : (f : R → R) (c : R) (e : ℕ → R) (S : RowSet) (x : R) → scaled F (λ y z. y * f z) e S (c * x) ≡ c * scaled F (λ y z. y * f z) e S x
  scaled-scale f c e S x = scaled-product K O f e S (c * x) ∙ *-assoc K _ _ _ ∙ ap (λ y. c * y) (sym (scaled-product K O f e S x))

  pub act-scale : (c : R) (l : Letter R) (ω : State F) (S : RowSet) → act F l (λ T. c * ω T) S ≡ c * act F l ω S
  unfolding act
  act-scale c (E j w) ω S = moved-scale c j (j - 1) w ω S
  act-scale c (Et j w) ω S = moved-scale c (j - 1) j w ω S
  act-scale c (D e) ω S = scaled-scale (λ x. x) c e S (ω S)
  act-scale c (Dinv e) ω S = scaled-scale inv c e S (ω S)

  moved-complement : (n a o : ℕ) (w : R) (ω : State F) (S : RowSet) → length S ≡ n → In n a → In n o → (o ≡ a → ⊥)
      → moved F a o w ω (complement S) ≡ 𝟙 * moved F o a w (λ T. ω (complement T)) S
  moved-complement n a o w ω S s x y d =
      moved-mapped F complement o a a o w ω S
      (ap₂ (λ t u. t && not u) (has-complement a S (subst (λ m. In m a) (sym s) x)) (has-complement o S (subst (λ m. In m o) (sym s) y))
      ∙ both (has a S) (has o S))
      (ap (put o true) (put-complement a true S) ∙ put-complement o false (put a true S) ∙ ap complement (put-swap o a false true S d))
      ∙ sym (one-* K _)
    where
      both : (t u : Bool) → (not t && not (not u)) ≡ (u && not t)
      both true true = refl
      both true false = refl
      both false true = refl
      both false false = refl

  -- f and g of the entries are inverse to each other
  scaled-complement : (f g : R → R) (n : ℕ) (e : ℕ → R) (S : RowSet) (x : R) → length S ≡ n → ((i : ℕ) → In n i → f (e i) * g (e i) ≡ 𝟙)
      → scaled F (λ y z. y * f z) e (complement S) x ≡ whole_product K (λ i. f (e i)) n * scaled F (λ y z. y * g z) e S x
  scaled-complement f g n e S x s h =
      scaled-product K O f e (complement S) x
      ∙ ap (λ y. x * y) (entry_product-complement K (λ i. f (e i)) (λ i. g (e i)) S (λ i y. h i (subst (λ m. In m i) s y)))
      ∙ *-left K _ _ _ ∙ ap₂ (λ m y. whole_product K (λ i. f (e i)) m * y) s (sym (scaled-product K O g e S x))

  act-complement : (n : ℕ) (l : Letter R) → Rows n l → Diagonal n l → (ω : State F) (S : RowSet) → length S ≡ n
      → act F l ω (complement S) ≡ letter_determinant n l * act F (complement_letter l) (λ T. ω (complement T)) S
  unfolding act
  act-complement n (E j w) r p ω S s =
      moved-complement n j (j - 1) w ω S s (omega (arith, r.0), r.1) (omega (arith, r.0), omega (arith, r.1)) (λ e. omega (arith, r.0))
  act-complement n (Et j w) r p ω S s =
      moved-complement n (j - 1) j w ω S s (omega (arith, r.0), omega (arith, r.1)) (omega (arith, r.0), r.1) (λ e. omega (arith, r.0))
  act-complement n (D e) r p ω S s = scaled-complement (λ x. x) inv n e S (ω (complement S)) s (λ i x. inv-mul-pos K O (e i) (p i x))
  act-complement n (Dinv e) r p ω S s = scaled-complement inv (λ x. x) n e S (ω (complement S)) s (λ i x. *-comm K _ _ ∙ inv-mul-pos K O (e i) (p i x))

  walk-complement : (n : ℕ) (W : Word R) → All (Rows n) W → All (Diagonal n) W → (ω : State F) (S : RowSet) → length S ≡ n
      → walk F W ω (complement S) ≡ word_determinant n W * walk F (complement_word W) (λ T. ω (complement T)) S
  unfolding walk complement_word word_determinant
  walk-complement n [] r p ω S s = sym (one-* K _)
  walk-complement n (l ∷ W) r p ω S s =
      act-complement n l r.0 p.0 (walk F W ω) S s
      ∙ ap (λ x. letter_determinant n l * x)
      (act-agree F n (complement_letter l) _ (λ T. word_determinant n W * walk F (complement_word W) (λ X. ω (complement X)) T)
      (walk-complement n W r.1 p.1 ω) S s
      ∙ act-scale (word_determinant n W) (complement_letter l) (walk F (complement_word W) (λ X. ω (complement X))) S)
      ∙ sym (*-assoc K _ _ _)

  pub minor-complement : (n : ℕ) (W : Word R) → All (Rows n) W → All (Diagonal n) W → (I J : RowSet) → length I ≡ n → length J ≡ n
      → minor F W (complement I) (complement J) ≡ word_determinant n W * minor F (complement_word W) I J
  unfolding minor
  minor-complement n W r p I J i j =
      walk-complement n W r p (one_at F (complement J)) I i
      ∙ ap (λ ω. word_determinant n W * walk F (complement_word W) ω I)
      (fun_ext (λ T. one_at-mapped complement complement-complement F (complement J) T ∙ ap (λ X. one_at F X T) (complement-complement J)))

  pub minor-inverse : (n : ℕ) (W : Word R) → All (Rows n) W → All (Diagonal n) W → (I J : RowSet) → length I ≡ n → length J ≡ n
      → minor F W (complement J) (complement I) ≡ word_determinant n W * minor F (inverse_word W) I J
  minor-inverse n W r p I J i j =
      minor-complement n W r p J I j i
      ∙ ap (λ x. word_determinant n W * x)
      (minor-transposed K O n (complement_word W) (complement-rows n W r) J I j i ∙ ap (λ U. minor F U I J) (sym (inverse-transposed W)))
