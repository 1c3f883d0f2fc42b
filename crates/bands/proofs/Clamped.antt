-- THE FIRST k ROWS AND COLUMNS CLAMPED: a minor of a source's word at sets with the rows 1 .. k joined is the product of the first k entries of its diagonal
-- times a minor of the word cut to the other rows (clamped-minor). Letters E leave the rows 1 .. k of a set where they are (walk-raising); so do letters Et,
-- since they are letters E of the transposed word.
use mathlib.Core.Path.{◌≡◌, refl, sym, ap, ap₂, ◌∙◌}
use mathlib.Core.Bool.{Bool, true, false, not, cond, ◌&&◌}
use mathlib.Core.List.{[], ◌∷◌, ◌++◌}
use Prim.Native.Nat.{ℕ, suc, ◌-◌, ◌≤◌, ◌<◌, ◌+◌ as ◌+ℕ◌}
use native.Mathlib.Omega.{arith}
use lib.Dec.{leb}
use lib.ListN.{length}
use borrow.Author.Tests.{leb-true, leb-false}
use Rattle.fraction.specs.Arithmetic.{Arithmetic}
use Rattle.fraction.specs.Ring.{CRing, Ordered, arithmetic}
use Rattle.fraction.proofs.Ring.{ring}
use Rattle.words.specs.RowSet.{RowSet, has, replaced, rows, with_first}
use Rattle.words.specs.Word.{Factors, Letter, E, Et, D, Dinv, Word, word, exchanged, transposed_word}
use Rattle.words.specs.Walk.{State, one_at, moved, moved_if, act, walk, minor}
use Rattle.words.proofs.FirstRows.{length-first, long-first, has_first, has-own, replaced-own, equal-first}
use Rattle.words.proofs.Walks.{Rows, All, all_append, walk-append}
use Rattle.words.proofs.Agree.{Agree, act-agree, walk-agree}
use Rattle.words.proofs.Words.{transposed-rows}
use Rattle.words.proofs.Stages.{stages, stages-all, word-stages}
use Rattle.minors.proofs.Mapped.{moved-mapped}
use Rattle.minors.proofs.Entries.{entry_product, scaled-product}
use Rattle.minors.proofs.Transpose.{minor-transposed}
use Rattle.minors.proofs.Complement.{act-scale}

-- letters E alone, with rows among 1 .. n
abbrev pub Raises : {A : Type 0} → ℕ → Letter A → Type 0
Raises n (E j w) = (2 ≤ j) × (j ≤ n)
Raises n (Et j w) = ⊥
Raises n (D e) = ⊥
Raises n (Dinv e) = ⊥

module _ {A : Type 0} where
  -- the letters E of the rows beyond row k + 1, rows counted from k + 1 on; other letters as they are
  unfoldable pub cut : ℕ → Word A → Word A
  cut k [] = []
  cut k (E j w ∷ W) = cond (leb j (suc k)) (cut k W) (E (j - k) w ∷ cut k W)
  cut k (Et j w ∷ W) = Et j w ∷ cut k W
  cut k (D e ∷ W) = D e ∷ cut k W
  cut k (Dinv e ∷ W) = Dinv e ∷ cut k W

  pub cut_all : (P Q : Letter A → Type 0) (k : ℕ) → ((j : ℕ) (w : A) → suc k < j → P (E j w) → Q (E (j - k) w))
      → (W : Word A) (n : ℕ) → All (Raises n) W → All P W → All Q (cut k W)
  unfolding cut
  cut_all P Q k f [] n r h = tt
  cut_all P Q k f (E j w ∷ W) n r h = by (leb j (suc k)) refl (cut_all P Q k f W n r.1 h.1)
    where
      by : (t : Bool) → leb j (suc k) ≡ t → All Q (cut k W) → All Q (cond t (cut k W) (E (j - k) w ∷ cut k W))
      by true e g = g
      by false e g = (f j w (leb-false j (suc k) e) h.0, g)
  cut_all P Q k f (Et j w ∷ W) n r h = absurd r.0
  cut_all P Q k f (D e ∷ W) n r h = absurd r.0
  cut_all P Q k f (Dinv e ∷ W) n r h = absurd r.0

  raises-rows : (n : ℕ) (W : Word A) → All (Raises n) W → All (Rows n) W
  raises-rows n [] h = tt
  raises-rows n (E j w ∷ W) h = (h.0, raises-rows n W h.1)
  raises-rows n (Et j w ∷ W) h = absurd h.0
  raises-rows n (D e ∷ W) h = absurd h.0
  raises-rows n (Dinv e ∷ W) h = absurd h.0

  cut-raises : (k m : ℕ) (W : Word A) → All (Raises (k +ℕ m)) W → All (Raises m) (cut k W)
  cut-raises k m W h = cut_all (Raises (k +ℕ m)) (Raises m) k (λ j w l p. (omega arith, omega (arith, p.1))) W (k +ℕ m) h h

  -- the lower half of a source's word, and WHAT REMAINS of the word: the letters E and Et of the rows beyond row k + 1, and the diagonal beyond row k
  abbrev pub lower_half : ℕ → Factors A → Word A
  lower_half n b = stages n 1 (n - 1) b

  pub lower-raises : (n : ℕ) (b : Factors A) → All (Raises n) (lower_half n b)
  lower-raises n b = stages-all (Raises n) n 1 (n - 1) b (omega arith) (λ i j x y z. (omega arith, z))

  unfoldable pub remains : ℕ → ℕ → Factors A → Word A
  remains k m b = cut k (lower_half (k +ℕ m) b) ++ (D (λ i. b (k +ℕ i) (k +ℕ i)) ∷ transposed_word (cut k (lower_half (k +ℕ m) (exchanged b))))

  pub remains-rows : (k m : ℕ) (b : Factors A) → All (Rows m) (remains k m b)
  unfolding remains
  remains-rows k m b =
      all_append (Rows m) (cut k (lower_half (k +ℕ m) b)) _ (half b) (tt, transposed-rows m (cut k (lower_half (k +ℕ m) (exchanged b))) (half (exchanged b)))
    where
      half : (b : Factors A) → All (Rows m) (cut k (lower_half (k +ℕ m) b))
      half b = raises-rows m (cut k (lower_half (k +ℕ m) b)) (cut-raises k m (lower_half (k +ℕ m) b) (lower-raises (k +ℕ m) b))

-- the numbers at the sets with the first k rows
abbrev onto : (K : Arithmetic) → ℕ → State K → State K
onto K k ω I = ω (with_first k I)

-- A WALK OF LETTERS E, over any arithmetic
module _ (K : Arithmetic) (k m : ℕ) where
  open K use {Num}

  -- a letter of the rows up to row k + 1 does nothing there
  raise-low : (j : ℕ) (w : Num) (ω : State K) (I : RowSet) → 2 ≤ j → j ≤ suc k → act K (E j w) ω (with_first k I) ≡ ω (with_first k I)
  unfolding act moved
  raise-low j w ω I o l =
      ap (λ t. moved_if K (has j (with_first k I) && not t) j (j - 1) w ω (with_first k I)) (has_first k I (j - 1) (omega arith, omega arith))
      ∙ by (has j (with_first k I))
    where
      by : (t : Bool) → moved_if K (t && false) j (j - 1) w ω (with_first k I) ≡ ω (with_first k I)
      by true = refl
      by false = refl

  -- and one of the rows beyond it moves the set's own rows
  raise-high : (j : ℕ) (w : Num) (ω : State K) (I : RowSet) → suc k < j → j ≤ k +ℕ length I
      → act K (E j w) ω (with_first k I) ≡ act K (E (j - k) w) (onto K k ω) I
  unfolding act
  raise-high j w ω I o l =
      let u : k +ℕ (j - k) ≡ j = omega arith in
      let v : k +ℕ (j - k - 1) ≡ j - 1 = omega arith in
      moved-mapped K (with_first k) (j - k) (j - k - 1) j (j - 1) w ω I
      (ap₂ (λ s t. s && not t) (ap (λ i. has i (with_first k I)) (sym u) ∙ has-own k I (j - k) (omega arith))
      (ap (λ i. has i (with_first k I)) (sym v) ∙ has-own k I (j - k - 1) (omega arith)))
      (ap₂ (λ a o. replaced a o (with_first k I)) (sym u) (sym v) ∙ replaced-own k I (j - k) (j - k - 1) (omega arith, omega arith) (omega arith, omega arith))

  walk-raising : (W : Word Num) → All (Raises (k +ℕ m)) W → (ω : State K) → Agree m (onto K k (walk K W ω)) (walk K (cut k W) (onto K k ω))
  unfolding walk cut
  walk-raising [] r ω I i = refl
  walk-raising (E j w ∷ W) r ω I i = by (leb j (suc k)) refl (walk-raising W r.1 ω)
    where
      by : (t : Bool) → leb j (suc k) ≡ t → Agree m (onto K k (walk K W ω)) (walk K (cut k W) (onto K k ω))
          → act K (E j w) (walk K W ω) (with_first k I) ≡ walk K (cond t (cut k W) (E (j - k) w ∷ cut k W)) (onto K k ω) I
      by true e h = raise-low j w (walk K W ω) I r.0.0 (leb-true j (suc k) e) ∙ h I i
      by false e h =
          raise-high j w (walk K W ω) I (leb-false j (suc k) e) (omega (arith, r.0.1, i))
          ∙ act-agree K m (E (j - k) w) (onto K k (walk K W ω)) (walk K (cut k W) (onto K k ω)) h I i
  walk-raising (Et j w ∷ W) r ω I i = absurd r.0
  walk-raising (D e ∷ W) r ω I i = absurd r.0
  walk-raising (Dinv e ∷ W) r ω I i = absurd r.0

  start_first : (J : RowSet) → length J ≡ m → Agree m (onto K k (one_at K (with_first k J))) (one_at K J)
  unfolding one_at
  start_first J j I i = ap (λ t. cond t K.one K.zero) (equal-first k J I (j ∙ sym i))

  minor-raising : (W : Word Num) → All (Raises (k +ℕ m)) W → (I J : RowSet) → length I ≡ m → length J ≡ m
      → minor K W (with_first k I) (with_first k J) ≡ minor K (cut k W) I J
  unfolding minor
  minor-raising W r I J i j = walk-raising W r (one_at K (with_first k J)) I i ∙ walk-agree K m (cut k W) _ _ (start_first J j) I i

-- the product of the first k numbers of a source's diagonal
unfoldable pub scale : (K : CRing) → ℕ → Factors K.R → K.R
scale K k b = entry_product K (λ i. b i i) (rows k 1 k)

module _ (K : CRing) (O : Ordered K) (k m : ℕ) where
  open K use {R, mul as ◌*◌}

  infixl 70 ◌*◌
  abbrev F : Arithmetic
  F = arithmetic K O

  -- THE UPPER HALF, by its transpose
  minor-lowering : (U : Word R) → All (Raises (k +ℕ m)) U → (I J : RowSet) → length I ≡ m → length J ≡ m
      → minor F (transposed_word U) (with_first k I) (with_first k J) ≡ minor F (transposed_word (cut k U)) I J
  minor-lowering U r I J i j =
      sym (minor-transposed K O (k +ℕ m) U (raises-rows (k +ℕ m) U r) (with_first k J) (with_first k I) (long-first k J j) (long-first k I i))
      ∙ minor-raising F k m U r J I j i
      ∙ minor-transposed K O m (cut k U) (raises-rows m (cut k U) (cut-raises k m U r)) J I j i

  -- THE DIAGONAL
  entries-first : (e : ℕ → R) (I : RowSet) → entry_product K e (with_first k I) ≡ entry_product K e (rows k 1 k) * entry_product K (λ i. e (k +ℕ i)) I
  unfolding entry_product
  entries-first e [] = simp ring
  entries-first e (true ∷ I) =
      let u : suc (length (with_first k I)) ≡ k +ℕ suc (length I) = omega (arith, length-first k I) in
      ap₂ (λ x m. x * e m) (entries-first e I) u ∙ assoc _ _ _
    where
      assoc : (a b c : R) → a * b * c ≡ a * (b * c)
      assoc a b c = simp ring
  entries-first e (false ∷ I) = entries-first e I

  diagonal-first : (e : ℕ → R) (ω : State F) (I : RowSet)
      → act F (D e) ω (with_first k I) ≡ entry_product K e (rows k 1 k) * act F (D (λ i. e (k +ℕ i))) (onto F k ω) I
  unfolding act
  diagonal-first e ω I =
      scaled-product K O (λ x. x) e (with_first k I) (ω (with_first k I)) ∙ ap (λ x. ω (with_first k I) * x) (entries-first e I) ∙ regroup _ _ _
      ∙ ap (λ x. entry_product K e (rows k 1 k) * x) (sym (scaled-product K O (λ x. x) (λ i. e (k +ℕ i)) I (ω (with_first k I))))
    where
      regroup : (a b c : R) → a * (b * c) ≡ b * (a * c)
      regroup a b c = simp ring

  -- a number taken out of a walk of rows 1 .. m
  walk-times : (W : Word R) → All (Rows m) W → (c : R) (ω : State F) → Agree m (walk F W (λ T. c * ω T)) (λ T. c * walk F W ω T)
  unfolding walk
  walk-times [] a c ω I i = refl
  walk-times (l ∷ W) a c ω I i =
      act-agree F m l (walk F W (λ T. c * ω T)) (λ T. c * walk F W ω T) (walk-times W a.1 c ω) I i ∙ act-scale K O c l (walk F W ω) I

  -- A MINOR WITH THE FIRST k ROWS AND COLUMNS JOINED
  module _ (b : Factors R) where
    pub clamped-minor : (I J : RowSet) → length I ≡ m → length J ≡ m
        → minor F (word (k +ℕ m) b) (with_first k I) (with_first k J) ≡ scale K k b * minor F (remains k m b) I J
    unfolding minor walk remains scale
    clamped-minor I J i j =
        let L : Word R = lower_half (k +ℕ m) b in
        let U : Word R = lower_half (k +ℕ m) (exchanged b) in
        let e : ℕ → R = λ i. b (k +ℕ i) (k +ℕ i) in
        let c : R = entry_product K (λ i. b i i) (rows k 1 k) in
        let ω : State F = walk F (transposed_word U) (one_at F (with_first k J)) in
        let η : State F = walk F (transposed_word (cut k U)) (one_at F J) in
        ap (λ W. walk F W (one_at F (with_first k J)) (with_first k I)) (word-stages (k +ℕ m) b)
        ∙ ap (λ ν. ν (with_first k I)) (walk-append F L (D (λ i. b i i) ∷ transposed_word U) (one_at F (with_first k J)))
        ∙ walk-raising F k m L (lower-raises (k +ℕ m) b) (act F (D (λ i. b i i)) ω) I i
        ∙ walk-agree F m (cut k L) (onto F k (act F (D (λ i. b i i)) ω)) (λ T. c * act F (D e) η T)
        (λ T t. diagonal-first (λ i. b i i) ω T
        ∙ ap (λ x. c * x) (act-agree F m (D e) (onto F k ω) η (λ S s. minor-lowering U (lower-raises (k +ℕ m) (exchanged b)) S J s j) T t)) I i
        ∙ walk-times (cut k L) (raises-rows m (cut k L) (cut-raises k m L (lower-raises (k +ℕ m) b))) c (act F (D e) η) I i
        ∙ ap (λ x. c * x) (sym (ap (λ ν. ν I) (walk-append F (cut k L) (D e ∷ transposed_word (cut k U)) (one_at F J))))
