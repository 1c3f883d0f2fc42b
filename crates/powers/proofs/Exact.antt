-- THE EXACT FACTORS OF STAMPS in fractions stand for those of the mathematics (factors-stand). So they are positive, multiply out to the matrix of powers, and,
-- since fractions that keep the rule for zeros are given by it (fractions-same), no others that keep it do (stamps-factored), for any number of stamps.
use mathlib.Core.Path.{◌≡◌, refl, sym, ap, ◌∙◌, subst}
use mathlib.Core.List.{List}
use Prim.Native.Nat.{ℕ, zero, suc, ◌-◌, ◌*◌, ◌^◌, ◌≤◌, ◌<◌}
use native.Mathlib.Nat.{pow-zero, pow-succ'}
use native.Mathlib.Omega.{arith}
use lib.ListN.{length}
use Rattle.fraction.specs.Fraction.{natural, fraction_product, exact}
use Rattle.fraction.specs.Rational.{Rational, rationals, rationals-ordered, rational}
use Rattle.fraction.proofs.Rational.{rational-same, rational-product, rational-difference, positive-rational}
use Rattle.words.proofs.Banded.{each-banded}
use Rattle.minors.specs.Matrix.{In, Equal}
use Rattle.factors.specs.Demand.{AboveZero, IsZero, BandedFractions, multiplied_out}
use Rattle.minors.proofs.Multiply.{multiplied-equal}
use Rattle.factors.proofs.Exact.{ℚ, StandsAbove, stands-product, stands-quotient, fractions-same}
use Rattle.powers.specs.Stamps.{stamp_at, powers_of, Rising, exact_factors, StampsFactored}
use Rattle.powers.proofs.Complete.{power}
use Rattle.powers.proofs.Related.{stamps-related}
use Rattle.powers.proofs.Runs.{difference, factors}
use Rattle.powers.proofs.Powers.{stamps-multiplied}

-- an ordinary power of a whole number
natural_power : (a d : ℕ) → power rationals (rational (natural a)) d ≡ rational (natural (a ^ d))
unfolding power
natural_power a zero = ap (λ (z : ℕ). rational (natural z)) (sym (pow-zero a))
natural_power a (suc d) =
    let e : a * a ^ d * 1 ≡ a ^ suc d * (1 * 1) = omega (arith, pow-succ' a d) in
    ap (rationals.mul (rational (natural a))) (natural_power a d)
    ∙ sym (rational-product (natural a) (natural (a ^ d)))
    ∙ rational-same (fraction_product (natural a) (natural (a ^ d))) (natural (a ^ suc d)) e

module _ (L : List ℕ) (rising : Rising L) where
  abbrev n : ℕ
  n = length L

  abbrev x : ℕ → Rational
  x i = rational (natural (stamp_at L i))

  abbrev less : ℕ → ℕ → Rational
  less = difference rationals rationals-ordered x

  difference-stands : (i k : ℕ) → 1 ≤ k → k < i → i ≤ n → StandsAbove (natural (stamp_at L i - stamp_at L k)) (less i k)
  difference-stands i k l h u =
      let o = rising.increasing i k l h u in
      (rational-difference (stamp_at L i) (stamp_at L k) (omega arith), omega arith)

  factors-stand : (i j : ℕ) → In n i → In n j → StandsAbove (exact_factors L i j) (factors rationals rationals-ordered x i j)
  factors-stand =
      stamps-related exact ℚ (λ c. StandsAbove) StandsAbove (refl, omega arith) (λ c a a' b b' p q. stands-product p q) n StandsAbove
      (λ c a b h p. p) (λ c a a' b b' h p q. stands-quotient p q) _ _ x less (λ i u. (refl, rising.positive i u)) difference-stands

  positive-differences : (i k : ℕ) → 1 ≤ k → k < i → i ≤ n → rationals-ordered.Pos (less i k)
  positive-differences i k l h u =
      let s = difference-stands i k l h u in
      subst rationals-ordered.Pos s.0 ((positive-rational (natural (stamp_at L i - stamp_at L k))).0 s.1)

  -- they are positive, multiply out to the matrix of powers, and no others do
  pub stamps-factored : StampsFactored L
  stamps-factored = record {
    positive = λ i j u v. (factors-stand i j u v).1;
    powers = powers;
    only = λ c p e. fractions-same n c (exact_factors L) p banded (λ r s y z. e r s y z ∙ sym (powers r s y z));
  }
    where
      banded : BandedFractions n (exact_factors L)
      banded = each-banded AboveZero IsZero (λ x h e. omega arith) n (exact_factors L) (λ i j u v. (factors-stand i j u v).1)

      powers : Equal rationals n (multiplied_out n (exact_factors L)) (powers_of L)
      powers i j u v =
          multiplied-equal rationals rationals-ordered n _ _ (λ r s y z. (factors-stand r s y z).0) i j u v
          ∙ stamps-multiplied rationals rationals-ordered x n positive-differences i j u v
          ∙ natural_power (stamp_at L i) (j - 1)
