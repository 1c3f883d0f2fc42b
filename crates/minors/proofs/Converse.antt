-- The converse: its minors are those of the word, row sets and column sets counted from the other end (minor-converse), with equally many rows (count-reverse).
use mathlib.Core.Path.{◌≡◌, refl, sym, ap, ap₂, ◌∙◌, fun_ext}
use mathlib.Core.Bool.{Bool, true, false, not, cond, ◌&&◌}
use mathlib.Core.List.{[], ◌∷◌, ◌++◌, reverse, reverse-cons, reverse-reverse}
use Prim.Native.Nat.{ℕ, zero, suc, ◌+◌ as ◌+ℕ◌, ◌-◌, ◌≤◌}
use native.Mathlib.Omega.{arith}
use lib.Dec.{eqb, eqb-suc-suc}
use lib.ListN.{length, length-append, length-reverse}
use borrow.Author.Tests.{ne_eqb}
use Rattle.fraction.specs.Arithmetic.{Arithmetic}
use Rattle.fraction.specs.Ring.{CRing, Ordered, arithmetic}
use Rattle.fraction.proofs.Ring.{one-*, *-one}
use Rattle.words.specs.RowSet.{In, RowSet, has, put, count}
use Rattle.words.specs.Word.{Letter, E, Et, D, Dinv, Word, converse_letter, converse_word}
use Rattle.words.specs.Walk.{State, one_at, moved, scaled, act, walk, minor}
use Rattle.words.proofs.RowSets.{has-top, has-under, put-top, put_under, length-put}
use Rattle.words.proofs.Walks.{Rows, All}
use Rattle.words.proofs.Agree.{act-agree}
use Rattle.minors.proofs.Mapped.{moved-mapped, one_at-mapped}
use Rattle.minors.proofs.Entries.{*-right, entry_product, scaled-product}

-- a row x under all others
length-end : (S : RowSet) (x : Bool) → length (S ++ (x ∷ [])) ≡ suc (length S)
length-end S x = omega (arith, length-append S (x ∷ []))

has_end : (i : ℕ) (S : RowSet) (x : Bool) → 1 ≤ i → has (suc i) (S ++ (x ∷ [])) ≡ has i S
unfolding has
has_end i [] x h = rw (ne_eqb (suc i) 1 (λ e. omega arith))
has_end i (y ∷ S) x h = ap₂ (λ t u. cond t y u) (ap (λ k. eqb (suc i) (suc k)) (length-end S x) ∙ eqb-suc-suc i (suc (length S))) (has_end i S x h)

has_last : (S : RowSet) (x : Bool) → has 1 (S ++ (x ∷ [])) ≡ x
unfolding has
has_last [] x = refl
has_last (y ∷ S) x = has-under 1 y (S ++ (x ∷ [])) (omega (arith, length-end S x)) ∙ has_last S x

put-end : (i : ℕ) (z : Bool) (S : RowSet) (x : Bool) → 1 ≤ i → put (suc i) z (S ++ (x ∷ [])) ≡ put i z S ++ (x ∷ [])
unfolding put
put-end i z [] x h = rw (ne_eqb (suc i) 1 (λ e. omega arith))
put-end i z (y ∷ S) x h =
    ap₂ (λ t U. cond t (z ∷ (S ++ (x ∷ []))) (y ∷ U)) (ap (λ k. eqb (suc i) (suc k)) (length-end S x) ∙ eqb-suc-suc i (suc (length S))) (put-end i z S x h)
    ∙ by (eqb i (suc (length S)))
  where
    by : (t : Bool) → cond t (z ∷ (S ++ (x ∷ []))) (y ∷ (put i z S ++ (x ∷ []))) ≡ cond t (z ∷ S) (y ∷ put i z S) ++ (x ∷ [])
    by true = refl
    by false = refl

put_last : (z : Bool) (S : RowSet) (x : Bool) → put 1 z (S ++ (x ∷ [])) ≡ S ++ (z ∷ [])
unfolding put
put_last z [] x = refl
put_last z (y ∷ S) x = put_under 1 z y (S ++ (x ∷ [])) (omega (arith, length-end S x)) ∙ ap (λ T. y ∷ T) (put_last z S x)

-- row i from the lowest is row suc k from the highest
has-reverse : (k i : ℕ) (S : RowSet) → 1 ≤ i → k +ℕ i ≡ length S → has (suc k) (reverse S) ≡ has i S
has-reverse k i [] p e = absurd (omega arith)
has-reverse zero i (x ∷ S) p e =
    let f : i ≡ suc (length S) = omega arith in
    ap (has 1) (reverse-cons x S) ∙ has_last (reverse S) x ∙ sym (ap (λ m. has m (x ∷ S)) f ∙ has-top x S)
has-reverse (suc k) i (x ∷ S) p e =
    ap (has (suc (suc k))) (reverse-cons x S) ∙ has_end (suc k) (reverse S) x (omega arith)
    ∙ has-reverse k i S p (omega arith) ∙ sym (has-under i x S (omega arith))

put-reverse : (k i : ℕ) (z : Bool) (S : RowSet) → 1 ≤ i → k +ℕ i ≡ length S → put (suc k) z (reverse S) ≡ reverse (put i z S)
put-reverse k i z [] p e = absurd (omega arith)
put-reverse zero i z (x ∷ S) p e =
    let f : i ≡ suc (length S) = omega arith in
    ap (put 1 z) (reverse-cons x S) ∙ put_last z (reverse S) x ∙ sym (ap reverse (ap (λ m. put m z (x ∷ S)) f ∙ put-top z x S) ∙ reverse-cons z S)
put-reverse (suc k) i z (x ∷ S) p e =
    ap (put (suc (suc k)) z) (reverse-cons x S) ∙ put-end (suc k) z (reverse S) x (omega arith)
    ∙ ap (λ T. T ++ (x ∷ [])) (put-reverse k i z S p (omega arith)) ∙ sym (ap reverse (put_under i z x S (omega arith)) ∙ reverse-cons x (put i z S))

count-end : (S : RowSet) (x : Bool) → count (S ++ (x ∷ [])) ≡ count (x ∷ S)
unfolding count
count-end [] x = refl
count-end (true ∷ S) true = ap suc (count-end S true)
count-end (true ∷ S) false = ap suc (count-end S false)
count-end (false ∷ S) true = count-end S true
count-end (false ∷ S) false = count-end S false

pub count-reverse : (S : RowSet) → count (reverse S) ≡ count S
unfolding count
count-reverse [] = refl
count-reverse (true ∷ S) = ap count (reverse-cons true S) ∙ count-end (reverse S) true ∙ ap suc (count-reverse S)
count-reverse (false ∷ S) = ap count (reverse-cons false S) ∙ count-end (reverse S) false ∙ count-reverse S

module _ (K : CRing) where
  open K use {R, 𝟙, mul as ◌*◌}

  infixl 70 ◌*◌
  entry_product-end : (v : ℕ → R) (S : RowSet) (x : Bool) → entry_product K v (S ++ (x ∷ [])) ≡ entry_product K (λ i. v (suc i)) S * entry_product K v (x ∷ [])
  unfolding entry_product
  entry_product-end v [] x = sym (one-* K _)
  entry_product-end v (true ∷ S) x = ap₂ (λ y k. y * v (suc k)) (entry_product-end v S x) (length-end S x) ∙ *-right K _ _ _
  entry_product-end v (false ∷ S) x = entry_product-end v S x

  -- the entries read backwards
  entry_product-reverse : (v : ℕ → R) (n : ℕ) (S : RowSet) → length S ≡ n → entry_product K (λ i. v (n +ℕ 1 - i)) (reverse S) ≡ entry_product K v S
  unfolding entry_product
  entry_product-reverse v n [] s = refl
  entry_product-reverse v zero (x ∷ S) s = absurd (omega arith)
  entry_product-reverse v (suc n) (x ∷ S) s =
      ap (entry_product K (λ i. v (suc n +ℕ 1 - i))) (reverse-cons x S) ∙ entry_product-end (λ i. v (suc n +ℕ 1 - i)) (reverse S) x
      ∙ ap₂ ◌*◌ (ap (λ u. entry_product K u (reverse S)) (fun_ext (λ i. ap v (shift i))) ∙ entry_product-reverse v n S (omega arith)) (lowest x)
      ∙ sym (top x)
    where
      shift : (i : ℕ) → suc n +ℕ 1 - suc i ≡ n +ℕ 1 - i
      shift i = omega arith

      lowest : (x : Bool) → entry_product K (λ i. v (suc n +ℕ 1 - i)) (x ∷ []) ≡ cond x (v (suc n)) 𝟙
      lowest true = one-* K _ ∙ ap v (omega arith)
      lowest false = refl

      top : (x : Bool) → entry_product K v (x ∷ S) ≡ entry_product K v S * cond x (v (suc n)) 𝟙
      top true = ap (λ k. entry_product K v S * v (suc k)) (omega arith)
      top false = sym (*-one K _)

module _ (K : CRing) (O : Ordered K) where
  open K use {R, mul as ◌*◌}
  open O use {inv}

  infixl 70 ◌*◌
  abbrev F : Arithmetic
  F = arithmetic K O

  moved-reverse : (n a o c p : ℕ) (w : R) (ω : State F) (S : RowSet) → length S ≡ n → In n a → In n o → c +ℕ a ≡ suc n → p +ℕ o ≡ suc n
      → moved F c p w ω (reverse S) ≡ moved F a o w (λ T. ω (reverse T)) S
  moved-reverse n a o zero p w ω S s x y e f = absurd (omega (arith, x.1))
  moved-reverse n a o (suc c) zero w ω S s x y e f = absurd (omega (arith, y.1))
  moved-reverse n a o (suc c) (suc p) w ω S s x y e f =
      moved-mapped F reverse a o (suc c) (suc p) w ω S
      (ap₂ (λ t u. t && not u) (has-reverse c a S x.0 (omega arith)) (has-reverse p o S y.0 (omega arith)))
      (ap (put (suc p) true) (put-reverse c a false S x.0 (omega arith)) ∙ put-reverse p o true (put a false S) y.0 (omega (arith, length-put a false S)))

  scaled-reverse : (f : R → R) (n : ℕ) (e : ℕ → R) (S : RowSet) (x : R) → length S ≡ n
      → scaled F (λ y z. y * f z) (λ i. e (n +ℕ 1 - i)) (reverse S) x ≡ scaled F (λ y z. y * f z) e S x
  scaled-reverse f n e S x s =
      scaled-product K O f (λ i. e (n +ℕ 1 - i)) (reverse S) x ∙ ap (λ y. x * y) (entry_product-reverse K (λ i. f (e i)) n S s)
      ∙ sym (scaled-product K O f e S x)

  act-reverse : (n : ℕ) (l : Letter R) → Rows n l → (ω : State F) (S : RowSet) → length S ≡ n
      → act F (converse_letter n l) ω (reverse S) ≡ act F l (λ T. ω (reverse T)) S
  unfolding act
  act-reverse n (E j w) h ω S s =
      moved-reverse n j (j - 1) (n +ℕ 2 - j - 1) (n +ℕ 2 - j) w ω S s (omega (arith, h.0), h.1) (omega (arith, h.0), omega (arith, h.1))
      (omega (arith, h.1)) (omega (arith, h.1))
  act-reverse n (Et j w) h ω S s =
      moved-reverse n (j - 1) j (n +ℕ 2 - j) (n +ℕ 2 - j - 1) w ω S s (omega (arith, h.0), omega (arith, h.1)) (omega (arith, h.0), h.1)
      (omega (arith, h.1)) (omega (arith, h.1))
  act-reverse n (D e) h ω S s = scaled-reverse (λ x. x) n e S (ω (reverse S)) s
  act-reverse n (Dinv e) h ω S s = scaled-reverse inv n e S (ω (reverse S)) s

  walk-reverse : (n : ℕ) (W : Word R) → All (Rows n) W → (ω : State F) (S : RowSet) → length S ≡ n
      → walk F (converse_word n W) ω (reverse S) ≡ walk F W (λ T. ω (reverse T)) S
  unfolding walk converse_word
  walk-reverse n [] h ω S s = refl
  walk-reverse n (l ∷ W) h ω S s =
      act-reverse n l h.0 (walk F (converse_word n W) ω) S s
      ∙ act-agree F n l (λ T. walk F (converse_word n W) ω (reverse T)) (walk F W (λ T. ω (reverse T))) (walk-reverse n W h.1 ω) S s

  pub minor-converse : (n : ℕ) (W : Word R) → All (Rows n) W → (I J : RowSet) → length I ≡ n → length J ≡ n
      → minor F (converse_word n W) I J ≡ minor F W (reverse I) (reverse J)
  unfolding minor
  minor-converse n W h I J i j =
      ap (walk F (converse_word n W) (one_at F J)) (sym (reverse-reverse I))
      ∙ walk-reverse n W h (one_at F J) (reverse I) (length-reverse I ∙ i)
      ∙ ap (λ ω. walk F W ω (reverse I)) (fun_ext (one_at-mapped reverse reverse-reverse F J))
