-- Laws of carrying: vectors that agree (`carry-agree`), a letter of a word whose numbers are in range (`ranged-letter`), the letters of a word from the right,
-- none (`carries-start`) and one more (`carries-letter`), how far the items are then (`carries-ranged`), and an item added to another (`added-agrees`).
use mathlib.Core.Path.{◌≡◌, refl, sym, ap, ap₂, ◌∙◌, subst}
use mathlib.Core.Bool.{cond}
use mathlib.Core.List.{List, [], ◌∷◌}
use Prim.Native.Nat.{ℕ, suc, ◌+◌, ◌-◌, ◌≤◌, ◌<◌}
use native.Mathlib.Decide.{ℕ_discrete}
use native.Mathlib.Omega.{arith}
use borrow.Author.Tests.{eq-eqb, ne_eqb}
use lib.Dec.{eqb}
use lib.ListN.{length, set, get_or, take, drop, drop_of_length-le, take-append-drop}
use lib.Seq.{drop-cons}
use Rattle.number.specs.Signed.{plain, signed_sum, signed_product, signed_arithmetic, SignedRanged}
use Rattle.number.specs.declared.Number.{Number}
use Rattle.number.specs.declared.signed.Signed.{Signed}
use Rattle.number.proofs.Signs.{signed-product-comm}
use Rattle.number.proofs.SignedReach.{signed-ranged-more}
use Rattle.words.specs.RowSet.{In}
use Rattle.words.specs.Word.{Letter, E, Et, D, Dinv, Word}
use Rattle.words.specs.Walk.{carry, carry_letter}
use Rattle.words.proofs.Counts.{total-append}
use Rattle.words.proofs.Related.{letter_cost}
use Rattle.words.proofs.Walks.{All, all-behind}
use Rattle.items.specs.Items.{vector_of, ItemsRanged}
use Rattle.lists.specs.Carrying.{SameItems, Carries, carry_reach, working_reach}
use Rattle.lists.proofs.LetterReach.{RangedLetter, reach_of, carry-reach}
use Rattle.lists.proofs.Vectors.{vector-here, vector-other}

-- a letter makes of vectors that agree such vectors
module _ (n : ℕ) (v w : ℕ → Signed) (h : SameItems n v w) where
  moved-agree : (a o : ℕ) (x : Signed) → In n o →
      SameItems n (λ i. cond (eqb i a) (signed_sum (v i) (signed_product x (v o))) (v i))
      (λ i. cond (eqb i a) (signed_sum (w i) (signed_product x (w o))) (w i))
  moved-agree a o x p i l = ap₂ (λ y z. cond (eqb i a) (signed_sum y (signed_product x z)) y) (h i l) (h o p)

  letter-agree : (l : Letter Signed) → RangedLetter n l → SameItems n (carry_letter signed_arithmetic l v) (carry_letter signed_arithmetic l w)
  unfolding carry_letter
  letter-agree (E j x) s = moved-agree j (j - 1) x (omega (arith, s.0), omega (arith, s.1))
  letter-agree (Et j x) s = moved-agree (j - 1) j x (omega (arith, s.0), s.1)
  letter-agree (D e) s = λ i l. ap (λ y. signed_product y (e i)) (h i l)
  letter-agree (Dinv e) s = absurd s

pub carry-agree : (n : ℕ) (W : Word Signed) → All (RangedLetter n) W → (v w : ℕ → Signed) → SameItems n v w →
    SameItems n (carry signed_arithmetic W v) (carry signed_arithmetic W w)
unfolding carry
carry-agree n [] s v w h = h
carry-agree n (l ∷ W) s v w h = letter-agree n (carry signed_arithmetic W v) (carry signed_arithmetic W w) (carry-agree n W s.1 v w h) l s.0

module _ {n : ℕ} where
  carries-none : (v : List Signed) → length v ≡ 8 → Carries n [] v v
  unfolding carry
  carries-none v e = record { eight = e; agrees = λ i p. refl }

  carries-next : {W : Word Signed} {v u t : List Signed} (l : Letter Signed) → RangedLetter n l → Carries n W v u → Carries n (l ∷ []) u t →
      Carries n (l ∷ W) v t
  unfolding carry
  carries-next {W} {v} {u} {t} l s c d =
      record { eight = d.eight; agrees = λ i p. d.agrees i p ∙ letter-agree n (vector_of u) (carry signed_arithmetic W (vector_of v)) c.agrees l s i p }

-- ---- the letters of a word from the right, those from t on done
module _ (n : ℕ) (X : Word Signed) (s : All (RangedLetter n) X) where
  behind : (t : ℕ) → All (RangedLetter n) (drop t X)
  behind t = all-behind (RangedLetter n) (take t X) (drop t X) (subst (All (RangedLetter n)) (sym (take-append-drop t X)) s)

  pub ranged-letter : (t : ℕ) (d : Letter Signed) → t < length X → RangedLetter n (get_or X t d)
  ranged-letter t d h = (subst (All (RangedLetter n)) (drop-cons X t d h) (behind t)).0

  pub carries-start : (t : ℕ) (v : List Signed) → t ≡ length X → length v ≡ 8 → Carries n (drop t X) v v
  carries-start t v e h = subst (λ W. Carries n W v v) (sym (drop_of_length-le X {i = t} (omega arith))) (carries-none v h)

  pub carries-letter : (t : ℕ) (d : Letter Signed) {v u w : List Signed} → t < length X → Carries n (drop (t + 1) X) v u → Carries n (get_or X t d ∷ []) u w →
      Carries n (drop t X) v w
  carries-letter t d {v} {u} {w} h c l =
      let e : suc t ≡ t + 1 = omega arith in
      let f : drop t X ≡ get_or X t d ∷ drop (t + 1) X = drop-cons X t d h ∙ ap (λ i. get_or X t d ∷ drop i X) e in
      subst (λ W. Carries n W v w) (sym f) (carries-next (get_or X t d) (ranged-letter t d h) c l)

  pub carries-ranged : (t r : ℕ) {v u : List Signed} → r + reach_of X ≤ working_reach → ItemsRanged r n v → Carries n (drop t X) v u →
      ItemsRanged (r + reach_of X) n u
  carries-ranged t r {v} {u} far w c =
      let cost = letter_cost carry_reach carry_reach in
      let e : reach_of X ≡ reach_of (take t X) + reach_of (drop t X) = ap reach_of (sym (take-append-drop t X)) ∙ total-append cost (take t X) (drop t X) in
      record {
        eight = c.eight;
        ranged = λ i p. subst (SignedRanged (r + reach_of X)) (sym (c.agrees i p))
            (signed-ranged-more (omega arith) (carry-reach n r (vector_of v) w.ranged (drop t X) (behind t) (omega arith) i p));
      }

-- ---- item a gets w times item o added
module _ (n a o : ℕ) (w : Number) (v : List Signed) where
  abbrev sum : ℕ → Signed
  sum i = signed_sum (vector_of v i) (signed_product (plain w) (vector_of v o))

  abbrev new : Signed
  new = signed_sum (vector_of v a) (signed_product (vector_of v o) (plain w))

  pub added-agrees : n ≤ 8 → length v ≡ 8 → In n a → SameItems n (vector_of (set v (a - 1) new)) (λ i. cond (eqb i a) (sum i) (vector_of v i))
  added-agrees few eight to i p = elim (ℕ_discrete i a) [
    | yes e ↦ ap (vector_of (set v (a - 1) new)) e ∙ vector-here v eight a to.0 (omega (arith, to.1)) new
        ∙ ap (signed_sum (vector_of v a)) (signed-product-comm (vector_of v o) (plain w))
        ∙ ap sum (sym e) ∙ sym (ap (λ t. cond t (sum i) (vector_of v i)) (eq-eqb i a e))
    | no e ↦ vector-other v eight a to.0 (omega (arith, to.1)) new i p.0 e ∙ sym (ap (λ t. cond t (sum i) (vector_of v i)) (ne_eqb i a e))
  ]
