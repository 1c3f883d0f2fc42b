-- The word of factors in stages (word-stages): stage k has the letters E of the k highest rows, ascending. What holds of every letter
-- (stage-all, stages-all, word-all; word_rows), and a stage walked from the highest row down (stage-under, stage-false).
use mathlib.Core.Path.{◌≡◌, refl, sym, ap, ap₂, ◌∙◌, subst, fun_ext}
use mathlib.Core.Bool.{Bool, false, not, ◌&&◌}
use mathlib.Core.List.{[], ◌∷◌, ◌++◌}
use Prim.Native.Nat.{ℕ, zero, suc, ◌+◌, ◌-◌, ◌≤◌, ◌<◌}
use native.Mathlib.Omega.{arith}
use lib.ListN.{length}
use Rattle.fraction.specs.Arithmetic.{Arithmetic}
use Rattle.words.specs.RowSet.{RowSet, has}
use Rattle.words.specs.Word.{Factors, Letter, E, Et, D, Word, ascending, descending, for_up, for_down, word, exchanged, transposed_letter, transposed_word}
use Rattle.words.specs.Walk.{State, moved, moved_if, act, walk}
use Rattle.words.proofs.RowSets.{has-top}
use Rattle.words.proofs.Walks.{Rows, All, all_append, under, moved-under, walk-append}
use Rattle.words.proofs.Words.{ascending-last, transposed-ascending, transposed-all}
use Rattle.words.proofs.Agree.{Agree, Under, walk-agree, walk-under}

module _ {A : Type 0} where
  -- E j (b j (k + j - n)) for j = n - k + 1 .. n, by the highest row
  unfoldable pub stage : ℕ → ℕ → Factors A → Word A
  stage n zero b = []
  stage zero (suc k) b = []
  stage (suc n) (suc k) b = stage n k b ++ (E (suc n) (b (suc n) (suc k)) ∷ [])

  -- the stages k, k + 1, .. : m of them
  unfoldable pub stages : ℕ → ℕ → ℕ → Factors A → Word A
  stages n k zero b = []
  stages n k (suc m) b = stage n k b ++ stages n (suc k) m b

  -- stage 0 is empty
  pub stages-zero : (n : ℕ) (b : Factors A) → stages n 0 n b ≡ stages n 1 (n - 1) b
  unfolding stages stage
  stages-zero zero b = refl
  stages-zero (suc n) b =
      let m : n ≡ suc n - 1 = omega arith in
      ap (λ m. stages (suc n) 1 m b) m

  -- as loops
  pub stage-loop : (n k : ℕ) (b : Factors A) → stage n k b ≡ for_up (n - k + 1) n (λ j. E j (b j (k + j - n)) ∷ [])
  unfolding stage ascending
  stage-loop n zero b =
      let c : 0 ≡ suc n - (n - 0 + 1) = omega arith in
      ap (λ c. ascending (n - 0 + 1) c (λ j. E j (b j (0 + j - n)) ∷ [])) c
  stage-loop zero (suc k) b =
      let c : 0 ≡ 1 - (0 - suc k + 1) = omega arith in
      ap (λ c. ascending (0 - suc k + 1) c (λ j. E j (b j (suc k + j - 0)) ∷ [])) c
  stage-loop (suc n) (suc k) b =
      let a : n - k + 1 ≡ suc n - suc k + 1 = omega arith in
      let c : suc (suc n - (n - k + 1)) ≡ suc (suc n) - (suc n - suc k + 1) = omega arith in
      let last : suc n ≡ n - k + 1 + (suc n - (n - k + 1)) = omega arith in
      let column : suc k ≡ suc k + suc n - suc n = omega arith in
      ap₂ ◌++◌ (stage-loop n k b ∙ ap (ascending (n - k + 1) (suc n - (n - k + 1))) (fun_ext (λ j. ap (λ i. E j (b j i) ∷ []) (same j))))
      (ap (λ i. E (suc n) (b (suc n) i) ∷ []) column ∙ ap letter last)
      ∙ sym (ascending-last (n - k + 1) (suc n - (n - k + 1)) letter) ∙ ap₂ (λ i m. ascending i m letter) a c
    where
      letter : ℕ → Word A
      letter j = E j (b j (suc k + j - suc n)) ∷ []

      same : (j : ℕ) → k + j - n ≡ suc k + j - suc n
      same j = omega arith

  pub stages-loop : (n k m : ℕ) (b : Factors A) → stages n k m b ≡ ascending k m (λ i. stage n i b)
  unfolding stages ascending
  stages-loop n k zero b = refl
  stages-loop n k (suc m) b = ap (λ L. stage n k b ++ L) (stages-loop n (suc k) m b)

  lower_loop : (n : ℕ) (b : Factors A) → stages n 1 (n - 1) b ≡ for_up 1 (n - 1) (λ i. for_up (n - i + 1) n (λ j. E j (b j (i + j - n)) ∷ []))
  lower_loop n b =
      let c : n - 1 ≡ suc (n - 1) - 1 = omega arith in
      stages-loop n 1 (n - 1) b ∙ ap₂ (ascending 1) c (fun_ext (λ i. stage-loop n i b))

  upper-loop : (n : ℕ) (b : Factors A)
      → transposed_word (stages n 1 (n - 1) b) ≡ for_down (n - 1) 1 (λ i. for_down n (n - i + 1) (λ j. Et j (b j (i + j - n)) ∷ []))
  unfolding transposed_word
  upper-loop n b =
      let a : 1 + (suc (n - 1) - 1) - 1 ≡ n - 1 = omega arith in
      ap transposed_word (lower_loop n b) ∙ transposed-ascending 1 (suc (n - 1) - 1) _ ∙ ap₂ (λ i f. descending i (suc (n - 1) - 1) f) a (fun_ext inner)
    where
      start : (i : ℕ) → n - i + 1 + (suc n - (n - i + 1)) - 1 ≡ n
      start i = omega arith

      inner : (i : ℕ) → transposed_word (for_up (n - i + 1) n (λ j. E j (b j (i + j - n)) ∷ [])) ≡ for_down n (n - i + 1) (λ j. Et j (b j (i + j - n)) ∷ [])
      inner i =
          transposed-ascending (n - i + 1) (suc n - (n - i + 1)) _ ∙ ap (λ a. descending a (suc n - (n - i + 1)) (λ j. Et j (b j (i + j - n)) ∷ [])) (start i)

  pub word-stages : (n : ℕ) (b : Factors A) → word n b ≡ stages n 1 (n - 1) b ++ (D (λ i. b i i) ∷ transposed_word (stages n 1 (n - 1) (exchanged b)))
  unfolding word
  word-stages n b = sym (ap₂ (λ L U. L ++ (D (λ i. b i i) ∷ U)) (lower_loop n b) (upper-loop n (exchanged b)))

  -- what holds of every letter of a stage, of stages, of the word
  pub stage-all : (P : Letter A → Type 0) (n k : ℕ) (b : Factors A) → ((i j : ℕ) → i + k ≡ n + j → 1 ≤ j → 1 ≤ i → i ≤ n → P (E i (b i j)))
      → All P (stage n k b)
  unfolding stage
  stage-all P n zero b f = tt
  stage-all P zero (suc k) b f = tt
  stage-all P (suc n) (suc k) b f =
      all_append P (stage n k b) _ (stage-all P n k b (λ i j e p o q. f i j (omega arith) p o (omega arith)))
      (f (suc n) (suc k) (omega arith) (omega arith) (omega arith) (omega arith), tt)

  pub stages-all : (P : Letter A → Type 0) (n k m : ℕ) (b : Factors A) → m ≤ n - k → ((i j : ℕ) → 1 ≤ j → j < i → i ≤ n → P (E i (b i j)))
      → All P (stages n k m b)
  unfolding stages
  stages-all P n k zero b h f = tt
  stages-all P n k (suc m) b h f =
      all_append P (stage n k b) _ (stage-all P n k b (λ i j e p o q. f i j p (omega arith) q)) (stages-all P n (suc k) m b (omega arith) f)

  pub transposed-stages-all : (P : Letter A → Type 0) (n k m : ℕ) (b : Factors A) → m ≤ n - k → ((i j : ℕ) → 1 ≤ j → j < i → i ≤ n → P (Et i (b i j)))
      → All P (transposed_word (stages n k m b))
  transposed-stages-all P n k m b h f =
      transposed-all (λ l. P (transposed_letter l)) P (λ l g. g) (stages n k m b) (stages-all (λ l. P (transposed_letter l)) n k m b h f)

  pub word-all : (P : Letter A → Type 0) (n : ℕ) (b : Factors A) → ((i j : ℕ) → 1 ≤ j → j < i → i ≤ n → P (E i (b i j)))
      → P (D (λ i. b i i)) → ((i j : ℕ) → 1 ≤ j → j < i → i ≤ n → P (Et i (b j i))) → All P (word n b)
  word-all P n b f d g =
      subst (All P) (sym (word-stages n b)) (all_append P (stages n 1 (n - 1) b) _ (stages-all P n 1 (n - 1) b (omega arith) f)
      (d, transposed-stages-all P n 1 (n - 1) (exchanged b) (omega arith) g))

  pub stage-rows : (n k : ℕ) (b : Factors A) → k < n → All (Rows n) (stage n k b)
  stage-rows n k b h = stage-all (Rows n) n k b (λ i j e p o q. (omega arith, q))

  pub stages-rows : (n k m : ℕ) (b : Factors A) → m ≤ n - k → All (Rows n) (stages n k m b)
  stages-rows n k m b h = stages-all (Rows n) n k m b h (λ i j p q r. (omega arith, r))

  pub word_rows : (n : ℕ) (b : Factors A) → All (Rows n) (word n b)
  word_rows n b = word-all (Rows n) n b (λ i j p q r. (omega arith, r)) tt (λ i j p q r. (omega arith, r))

module _ (K : Arithmetic) where
  open K use {Num}

  raise-under : (n j : ℕ) (w : Num) (x : Bool) → j ≤ n → Under K n x (E j w)
  unfolding act
  raise-under n j w x h ω S s = moved-under K j (j - 1) w ω x S (omega arith) (omega arith)

  -- a letter of the highest row, which is not in the set
  pub raise-false : (n : ℕ) (w : Num) (ω : State K) → Agree n (under false (act K (E (suc n) w) ω)) (under false ω)
  unfolding act moved
  raise-false n w ω S s =
      ap (λ t. moved_if K (t && not (has (suc n - 1) (false ∷ S))) (suc n) (suc n - 1) w ω (false ∷ S))
      (ap (λ k. has (suc k) (false ∷ S)) (sym s) ∙ has-top false S)

  -- a stage on a set of suc n rows: first the letter of the highest row, then the stage of the rows under it
  pub stage-under : (n k : ℕ) (b : Factors Num) (ω : State K) (x : Bool) (S : RowSet) → length S ≡ n
      → walk K (stage (suc n) (suc k) b) ω (x ∷ S) ≡ walk K (stage n k b) (under x (act K (E (suc n) (b (suc n) (suc k))) ω)) S
  unfolding stage walk
  stage-under n k b ω x S s =
      let l : Letter Num = E (suc n) (b (suc n) (suc k)) in
      ap (λ η. η (x ∷ S)) (walk-append K (stage n k b) (l ∷ []) ω)
      ∙ walk-under K n x (stage n k b) (stage-all (Under K n x) n k b (λ i j e p o q. raise-under n i (b i j) x q)) (walk K (l ∷ []) ω) S s

  pub stage-false : (n k : ℕ) (b : Factors Num) (ω : State K) (S : RowSet) → length S ≡ n
      → walk K (stage (suc n) (suc k) b) ω (false ∷ S) ≡ walk K (stage n k b) (under false ω) S
  stage-false n k b ω S s = stage-under n k b ω false S s ∙ walk-agree K n (stage n k b) _ _ (raise-false n (b (suc n) (suc k)) ω) S s
