-- Laws of words: loops (ascending-last); the transposed word (transposed-append, transposed-transposed, transposed-ascending); and what holds of every letter
-- (transposed-all, inverse-all, converse-all).
use mathlib.Core.Path.{◌≡◌, refl, sym, ap, ap₂, ◌∙◌}
use mathlib.Core.List.{List, [], ◌∷◌, ◌++◌, append-nil, append_assoc}
use Prim.Native.Nat.{ℕ, zero, suc, ◌+◌, ◌-◌}
use native.Mathlib.Omega.{arith}
use Rattle.words.specs.Word.{Letter, E, Et, D, Dinv, Word, ascending, descending, inverse_letter, inverse_word, converse_letter, converse_word}
use Rattle.words.specs.Word.{transposed_letter, transposed_word}
use Rattle.words.proofs.Walks.{Rows, All, all_append}

module _ {A : Type 0} where
  pub ascending-last : (a c : ℕ) (f : ℕ → List A) → ascending a (suc c) f ≡ ascending a c f ++ f (a + c)
  unfolding ascending
  ascending-last a zero f = append-nil (f a) ∙ ap f (omega arith)
  ascending-last a (suc c) f =
      let e : suc a + c ≡ a + suc c = omega arith in
      ap (λ L. f a ++ L) (ascending-last (suc a) c f) ∙ sym (append_assoc (f a) (ascending (suc a) c f) (f (suc a + c)))
      ∙ ap (λ k. f a ++ ascending (suc a) c f ++ f k) e

module _ {A : Type 0} where
  pub transposed-append : (U W : Word A) → transposed_word (U ++ W) ≡ transposed_word W ++ transposed_word U
  unfolding transposed_word
  transposed-append [] W = sym (append-nil (transposed_word W))
  transposed-append (l ∷ U) W =
      ap (λ L. L ++ (transposed_letter l ∷ [])) (transposed-append U W) ∙ append_assoc (transposed_word W) (transposed_word U) (transposed_letter l ∷ [])

  pub transposed_letter-twice : (l : Letter A) → transposed_letter (transposed_letter l) ≡ l
  transposed_letter-twice (E j w) = refl
  transposed_letter-twice (Et j w) = refl
  transposed_letter-twice (D e) = refl
  transposed_letter-twice (Dinv e) = refl

  pub transposed-transposed : (W : Word A) → transposed_word (transposed_word W) ≡ W
  unfolding transposed_word
  transposed-transposed [] = refl
  transposed-transposed (l ∷ W) =
      transposed-append (transposed_word W) (transposed_letter l ∷ []) ∙ ap₂ (λ x L. x ∷ L) (transposed_letter-twice l) (transposed-transposed W)

  -- a loop, from its end
  pub transposed-ascending : (a c : ℕ) (f : ℕ → Word A) → transposed_word (ascending a c f) ≡ descending (a + c - 1) c (λ i. transposed_word (f i))
  unfolding transposed_word ascending descending
  transposed-ascending a zero f = refl
  transposed-ascending a (suc c) f =
      let e : a + c ≡ a + suc c - 1 = omega arith in
      ap transposed_word (ascending-last a c f) ∙ transposed-append (ascending a c f) (f (a + c))
      ∙ ap (λ L. transposed_word (f (a + c)) ++ L) (transposed-ascending a c f)
      ∙ ap (λ k. descending k (suc c) (λ i. transposed_word (f i))) e

-- EVERY LETTER: from a property P to a property Q
module _ {A : Type 0} (P Q : Letter A → Type 0) where
  pub transposed-all : ((l : Letter A) → P l → Q (transposed_letter l)) → (W : Word A) → All P W → All Q (transposed_word W)
  unfolding transposed_word
  transposed-all f [] h = tt
  transposed-all f (l ∷ W) h = all_append Q (transposed_word W) (transposed_letter l ∷ []) (transposed-all f W h.1) (f l h.0, tt)

  pub inverse-all : ((l : Letter A) → P l → Q (inverse_letter l)) → (W : Word A) → All P W → All Q (inverse_word W)
  unfolding inverse_word
  inverse-all f [] h = tt
  inverse-all f (l ∷ W) h = all_append Q (inverse_word W) (inverse_letter l ∷ []) (inverse-all f W h.1) (f l h.0, tt)

  pub converse-all : (n : ℕ) → ((l : Letter A) → P l → Q (converse_letter n l)) → (W : Word A) → All P W → All Q (converse_word n W)
  unfolding converse_word
  converse-all n f [] h = tt
  converse-all n f (l ∷ W) h = (f l h.0, converse-all n f W h.1)

-- rows stay among 1 .. n
module _ {A : Type 0} (n : ℕ) where
  pub transposed-row : (l : Letter A) → Rows n l → Rows n (transposed_letter l)
  transposed-row (E j w) h = h
  transposed-row (Et j w) h = h
  transposed-row (D e) h = h
  transposed-row (Dinv e) h = h

  pub transposed-rows : (W : Word A) → All (Rows n) W → All (Rows n) (transposed_word W)
  transposed-rows = transposed-all (Rows n) (Rows n) transposed-row

  pub inverse-row : (l : Letter A) → Rows n l → Rows n (inverse_letter l)
  inverse-row (E j w) h = h
  inverse-row (Et j w) h = h
  inverse-row (D e) h = h
  inverse-row (Dinv e) h = h

  pub converse-row : (l : Letter A) → Rows n l → Rows n (converse_letter n l)
  converse-row (E j w) h = (omega (arith, h.1), omega (arith, h.0))
  converse-row (Et j w) h = (omega (arith, h.1), omega (arith, h.0))
  converse-row (D e) h = h
  converse-row (Dinv e) h = h
