-- How far a letter takes the exponents: an item times a factor (`product-reach`), that added to another item (`added-reach`); and so the items carried
-- through a word (`RangedLetter`, `carry-reach`), as that of factors stored or zero (`ranged-letters`, `word-reach`, `carried-reach`).
use mathlib.Core.Path.{◌≡◌, subst}
use mathlib.Core.Bool.{Bool, true, false, cond}
use mathlib.Core.List.{[], ◌∷◌}
use Prim.Native.Nat.{ℕ, ◌+◌, ◌-◌, ◌*◌, ◌≤◌}
use native.Mathlib.Nat.{mul-le-mul}
use native.Mathlib.Omega.{arith}
use lib.Dec.{eqb}
use Rattle.number.specs.Number.{Ranged}
use Rattle.number.specs.Signed.{plain, signed_sum, signed_product, signed_arithmetic, SignedRanged}
use Rattle.number.specs.declared.Number.{Number}
use Rattle.number.specs.declared.signed.Signed.{Signed}
use Rattle.number.proofs.Signs.{signed-product-comm}
use Rattle.number.proofs.SignedReach.{signed-ranged-more, signed-ranged-plain, signed-ranged-sum, signed-ranged-product}
use Rattle.words.specs.RowSet.{In}
use Rattle.words.specs.Word.{Factors, Letter, E, Et, D, Dinv, Word, total}
use Rattle.words.specs.Walk.{carry, carry_letter}
use Rattle.words.proofs.Counts.{word-cost}
use Rattle.words.proofs.Related.{letter_cost}
use Rattle.words.proofs.Stages.{word-all}
use Rattle.words.specs.Sources.{Each}
use Rattle.words.proofs.Walks.{All}
use Rattle.lists.specs.Lists.{signed_word, carried_vector}
use Rattle.lists.specs.Carrying.{carry_reach, working_reach}

module _ {r : ℕ} {y w : Signed} (far : r ≤ working_reach) (v : SignedRanged r y) (s : SignedRanged 1000 w) where
  pub product-reach : SignedRanged (r + 1033) (signed_product y w)
  product-reach = signed-ranged-more (omega arith) (signed-ranged-product v s (omega arith))

  pub added-reach : {x : Signed} → SignedRanged r x → SignedRanged (r + carry_reach) (signed_sum x (signed_product y w))
  added-reach u = signed-ranged-more (omega arith) (signed-ranged-sum (signed-ranged-more (omega arith) u) product-reach (omega arith))

-- a letter of n rows whose numbers are stored ones or zero
abbrev pub RangedLetter : ℕ → Letter Signed → Type 0
RangedLetter n (E j w) = (2 ≤ j) × (j ≤ n) × SignedRanged 1000 w
RangedLetter n (Et j w) = (2 ≤ j) × (j ≤ n) × SignedRanged 1000 w
RangedLetter n (D e) = (i : ℕ) → In n i → SignedRanged 1000 (e i)
RangedLetter n (Dinv e) = ⊥

abbrev pub Within : ℕ → ℕ → (ℕ → Signed) → Type 0
Within r n v = (i : ℕ) → In n i → SignedRanged r (v i)

module _ (n r : ℕ) (far : r ≤ working_reach) (v : ℕ → Signed) (h : Within r n v) where
  moved-reach : (a o : ℕ) (w : Signed) → In n o → SignedRanged 1000 w →
      Within (r + carry_reach) n (λ i. cond (eqb i a) (signed_sum (v i) (signed_product w (v o))) (v i))
  moved-reach a o w p s i l = go (eqb i a)
    where
      go : (t : Bool) → SignedRanged (r + carry_reach) (cond t (signed_sum (v i) (signed_product w (v o))) (v i))
      go true = subst (λ z. SignedRanged (r + carry_reach) (signed_sum (v i) z)) (signed-product-comm (v o) w) (added-reach far (h o p) s (h i l))
      go false = signed-ranged-more (omega arith) (h i l)

  letter-reach : (l : Letter Signed) → RangedLetter n l → Within (r + carry_reach) n (carry_letter signed_arithmetic l v)
  unfolding carry_letter
  letter-reach (E j w) s = moved-reach j (j - 1) w (omega (arith, s.0), omega (arith, s.1)) s.2
  letter-reach (Et j w) s = moved-reach (j - 1) j w (omega (arith, s.0), s.1) s.2
  letter-reach (D e) s = λ i l. signed-ranged-more (omega arith) (product-reach far (h i l) (s i l))
  letter-reach (Dinv e) s = absurd s

-- how far the letters of a word go
abbrev pub reach_of : Word Signed → ℕ
reach_of W = total (letter_cost carry_reach carry_reach) W

pub carry-reach : (n r : ℕ) (v : ℕ → Signed) → Within r n v → (W : Word Signed) → All (RangedLetter n) W → r + reach_of W ≤ working_reach →
    Within (r + reach_of W) n (carry signed_arithmetic W v)
unfolding carry total
carry-reach n r v h [] s far i l = signed-ranged-more (omega arith) (h i l)
carry-reach n r v h (x ∷ W) s far i l =
    let rest = carry-reach n r v h W s.1 (omega arith) in
    signed-ranged-more (cost x) (letter-reach n (r + reach_of W) (omega arith) (carry signed_arithmetic W v) rest x s.0 i l)
  where
    cost : (x : Letter Signed) → r + reach_of W + carry_reach ≤ r + (letter_cost carry_reach carry_reach x + reach_of W)
    cost (E j w) = omega arith
    cost (Et j w) = omega arith
    cost (D e) = omega arith
    cost (Dinv e) = omega arith

module _ (n : ℕ) (b : Factors Number) where
  pub ranged-letters : Each (Ranged 1000) n b → All (RangedLetter n) (signed_word n b)
  ranged-letters s = word-all (RangedLetter n) n (λ i j. plain (b i j))
      (λ i j p q t. (omega arith, t, signed-ranged-plain (s i j (omega arith, t) (p, omega arith))))
      (λ i p. signed-ranged-plain (s i i p p))
      (λ i j p q t. (omega arith, t, signed-ranged-plain (s j i (p, omega arith) (omega arith, t))))

  pub word-reach : 1 ≤ n → n ≤ 8 → reach_of (signed_word n b) ≤ 64 * carry_reach
  word-reach low high =
      let cost : reach_of (signed_word n b) ≡ carry_reach * (n * n - n) + carry_reach = word-cost carry_reach carry_reach n (λ i j. plain (b i j)) low in
      let few : n * n ≤ 8 * 8 = mul-le-mul high high in
      omega arith

  pub carried-reach : (v : ℕ → Signed) → 1 ≤ n → n ≤ 8 → Each (Ranged 1000) n b → Within 1000 n v → Within working_reach n (carried_vector n b v)
  unfolding carried_vector
  carried-reach v low high s h i l =
      let few = word-reach low high in
      signed-ranged-more (omega arith) (carry-reach n 1000 v h (signed_word n b) (ranged-letters s) (omega arith) i l)
