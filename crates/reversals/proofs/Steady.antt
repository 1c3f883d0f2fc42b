-- CARRYING ADDS NO REVERSAL, as rounded (`word-steady`): through any word whose weights and entries are not negative, D multiplying or dividing, whatever the
-- exponents. Letter by letter: E and Et give one item its own sign, its neighbour's or none; D leaves each item its sign or none.
use mathlib.Core.Path.{◌≡◌, refl, sym, ap}
use mathlib.Core.Bool.{cond, false}
use mathlib.Core.List.{[], ◌∷◌}
use Prim.Native.Nat.{ℕ, zero, suc, ◌-◌, ◌≤◌}
use native.Mathlib.Nat.{le_trans, le_refl}
use native.Mathlib.Omega.{arith}
use borrow.Author.Tests.{eq-eqb, ne_eqb}
use lib.Dec.{eqb}
use Rattle.number.specs.declared.signed.Signed.{Signed}
use Rattle.number.specs.Signed.{zero_signed, signed_arithmetic}
use Rattle.words.specs.Word.{Letter, E, Et, D, Dinv, Word, for_up}
use Rattle.words.specs.Walk.{carry, carry_letter}
use Rattle.words.proofs.Walks.{All, Rows}
use Rattle.reversals.specs.Reversals.{reversals}
use Rattle.reversals.proofs.Signs.{none, sign, turns, signs, first, second, pair-fewer, thinned, reversals-turns}
use Rattle.reversals.proofs.Rounded.{product-own, quotient-own, added-between}

-- the numbers of a letter are not negative
abbrev pub Unsigned : Letter Signed → Type 0
Unsigned (E j w) = w.negative ≡ false
Unsigned (Et j w) = w.negative ≡ false
Unsigned (D e) = (i : ℕ) → (e i).negative ≡ false
Unsigned (Dinv e) = (i : ℕ) → (e i).negative ≡ false

-- the reversals of the items 1 .. n, by their signs
abbrev turns_of : ℕ → (ℕ → Signed) → ℕ
turns_of n v = turns none (signs (λ i. sign (v i)) 1 n)

reversals-of : (n : ℕ) (v : ℕ → Signed) → reversals (for_up 1 n (λ i. v i ∷ [])) ≡ turns_of n v
unfolding sign
reversals-of n v = let e : suc n - 1 ≡ n = omega arith in rw e (reversals-turns v 1 n zero_signed)

module _ (n : ℕ) (v : ℕ → Signed) where
  unmoved : (a k : ℕ) (x : Signed) → (k ≡ a → ⊥) → sign (v k) ≡ sign (cond (eqb k a) x (v k))
  unmoved a k x h = ap (λ t. sign (cond t x (v k))) (sym (ne_eqb k a h))

  letter-steady : (l : Letter Signed) → Rows n l → Unsigned l → turns_of n (carry_letter signed_arithmetic l v) ≤ turns_of n v
  unfolding carry_letter
  letter-steady (E zero w) r u = absurd (omega (arith, r.0))
  letter-steady (E (suc k) w) r u =
      let e : suc k - 1 ≡ k = omega arith in
      pair-fewer _ _ k 1 n none (omega (arith, r.0)) (omega (arith, r.1))
      (second (unmoved (suc k) k _ (λ f. omega arith)) (rw (eq-eqb (suc k) (suc k) refl, e) (added-between (v (suc k)) (v k) w u)))
      (λ m l. unmoved (suc k) m _ (λ f. omega arith)) (λ m l. unmoved (suc k) m _ (λ f. omega arith))
  letter-steady (Et zero w) r u = absurd (omega (arith, r.0))
  letter-steady (Et (suc k) w) r u =
      let e : suc k - 1 ≡ k = omega arith in
      rw e
      (pair-fewer _ _ k 1 n none (omega (arith, r.0)) (omega (arith, r.1))
      (first (unmoved k (suc k) _ (λ f. omega arith)) (rw (eq-eqb k k refl) (added-between (v k) (v (suc k)) w u)))
      (λ m l. unmoved k m _ (λ f. omega arith)) (λ m l. unmoved k m _ (λ f. omega arith)))
  letter-steady (D e) r u = thinned _ _ (λ k. product-own (v k) (e k) (u k)) 1 n none
  letter-steady (Dinv e) r u = thinned _ _ (λ k. quotient-own (v k) (e k) (u k)) 1 n none

turns-steady : (n : ℕ) (W : Word Signed) → All (Rows n) W → All Unsigned W → (v : ℕ → Signed) → turns_of n (carry signed_arithmetic W v) ≤ turns_of n v
unfolding carry
turns-steady n [] r u v = le_refl _
turns-steady n (l ∷ W) r u v = le_trans (letter-steady n (carry signed_arithmetic W v) l r.0 u.0) (turns-steady n W r.1 u.1 v)

pub word-steady : (n : ℕ) (W : Word Signed) → All (Rows n) W → All Unsigned W → (v : ℕ → Signed)
    → reversals (for_up 1 n (λ i. carry signed_arithmetic W v i ∷ [])) ≤ reversals (for_up 1 n (λ i. v i ∷ []))
word-steady n W r u v =
    omega (arith, reversals-of n (carry signed_arithmetic W v), reversals-of n v, turns-steady n W r u v)
