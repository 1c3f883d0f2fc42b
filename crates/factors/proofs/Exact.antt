-- THE EXACT RUN in fractions beside the rational numbers: each fraction of the run stands for the number of the mathematics (result-rational), and is zero
-- where that is. So no divisor is zero (exact_below, exact_above), its factors are positive or zero in the pattern (exact-banded), multiply out
-- (exact-multiplied), and are the only ones that do and keep the rule for zeros (exact-only), since these are given by a matrix that accepted fractions
-- multiply out to (fractions-same).
use mathlib.Core.Path.{◌≡◌, refl, sym, ap, ap₂, ◌∙◌, subst}
use mathlib.Core.Bool.{false}
use mathlib.Core.List.{List}
use Prim.Native.Nat.{ℕ, zero, suc, ◌<◌}
use native.Mathlib.Omega.{arith}
use lib.ListN.{length}
use borrow.Author.Tests.{eqb-false}
use Rattle.fraction.specs.Arithmetic.{Arithmetic}
use Rattle.fraction.specs.Fraction.{Fraction, Same, natural, fraction_product, exact}
use Rattle.fraction.specs.Ring.{NonNegative, positive, zero as nothing, arithmetic}
use Rattle.fraction.specs.Rational.{rationals, rationals-ordered, rational, rational-is-zero}
use Rattle.fraction.proofs.Fraction.{product-positive, quotient-positive}
use Rattle.fraction.proofs.Rational.{same-rational, rational-same, rational-zero, rational-one, rational-sum, rational-product, rational-quotient}
use Rattle.fraction.proofs.Rational.{positive-rational}
use Rattle.words.specs.RowSet.{RowSet, rows}
use Rattle.words.specs.Word.{Factors}
use Rattle.words.specs.Walk.{minor}
use Rattle.words.specs.Formula.{new_factor, Divisible}
use Rattle.words.specs.Operation.{Step, Operation, joined_word, steps, rows_of, columns_of, size, Fit, asked_minor, result, each_factor, each_steps, each_source}
use Rattle.words.specs.Sources.{Weighted, Sources}
use Rattle.words.proofs.RowSets.{length-rows}
use Rattle.words.proofs.Operations.{length-rows_of, size-each, steps-each, fit-each, asked-each}
use Rattle.words.proofs.Related.{Related, minor-related}
use Rattle.words.proofs.Steps.{sources-map, sources-weaken}
use Rattle.words.proofs.Banded.{Like, rule-like, banded-like}
use Rattle.words.proofs.Alike.{letters-joined, alike-each}
use Rattle.words.proofs.Formulas.{divisible-related, new_factor-related}
use Rattle.minors.specs.Matrix.{In, Equal}
use Rattle.minors.proofs.Multiply.{multiplied-equal}
use Rattle.bands.specs.Factored.{MatrixFactored}
use Rattle.bands.proofs.Factoring.{tables-unique}
use Rattle.factors.specs.Demand.{Proper, AboveZero, IsZero, FractionsKeepRule, BandedFractions, multiplied_out, determinant_of, Regular}
use Rattle.factors.proofs.Result.{operation_matrix, WeightedSources, solved}

-- the rational numbers' arithmetic
abbrev pub ℚ : Arithmetic
ℚ = arithmetic rationals rationals-ordered

-- a fraction stands for a rational number, and is above zero
abbrev Stands : Fraction → rationals.R → Type 0
Stands x y = rational x ≡ y

abbrev pub StandsAbove : Fraction → rationals.R → Type 0
StandsAbove x y = Stands x y × (0 < x.top)

pub stands-product : {a a' : Fraction} {b b' : rationals.R} → StandsAbove a b → StandsAbove a' b' → StandsAbove (exact.mul a a') (ℚ.mul b b')
stands-product {a} {a'} p q = (rational-product a a' ∙ ap₂ rationals.mul p.0 q.0, product-positive a a' p.1 q.1)

pub stands-quotient : {a a' : Fraction} {b b' : rationals.R} → StandsAbove a b → StandsAbove a' b' → StandsAbove (exact.div a a') (ℚ.div b b')
stands-quotient {a} {a'} p q = (
  rational-quotient a a' q.1 ∙ ap₂ (λ u v. rationals.mul u (rationals-ordered.inv v)) p.0 q.0,
  quotient-positive a a' p.1 q.1,
)

-- a fraction stands for a rational number through every sum, product and quotient
abbrev rational-related : Related exact ℚ (Unit {0}) (λ g x y. Stands x y)
rational-related = record {
  Weight = Stands;
  Entry = StandsAbove;
  after_move = λ g. g;
  rel-stays = λ g x y h. h;
  rel-moves = λ g x x' w y y' v h k l. rational-sum x (fraction_product w x') ∙ ap₂ rationals.add h (rational-product w x' ∙ ap₂ rationals.mul k l);
  after_entry = λ g. g;
  rel-skips = λ g x y h. h;
  rel-times = λ g x e y f h k. rational-product x e ∙ ap₂ rationals.mul h k.0;
  rel-over = λ g x e y f h k. rational-quotient x e k.1 ∙ ap₂ (λ a b. rationals.mul a (rationals-ordered.inv b)) h k.0;
}

-- zero together
pub zero-rational : (x : Fraction) → IsZero x → rational x ≡ rationals.𝟘
zero-rational x e = rational-same x (natural 0) (omega (arith, e)) ∙ rational-zero

pub rational-zero-back : (x : Fraction) → rational x ≡ rationals.𝟘 → IsZero x
rational-zero-back x e = let h = same-rational x (natural 0) (e ∙ sym rational-zero) in omega arith

pub stands-zeros : (x : Fraction) (y : rationals.R) → Stands x y → exact.is_zero x ≡ ℚ.is_zero y
stands-zeros x y e = ap rational-is-zero e

pub rational-nonnegative : (x : Fraction) → NonNegative rationals rationals-ordered (rational x)
rational-nonnegative x = by x.top refl
  where
    by : (t : ℕ) → x.top ≡ t → NonNegative rationals rationals-ordered (rational x)
    by zero e = nothing (zero-rational x e)
    by (suc t) e = positive ((positive-rational x).0 (omega arith))

-- a quotient by what is not zero
top-nonzero : (x : Fraction) (y : rationals.R) → Stands x y → ℚ.is_zero y ≡ false → 0 < x.top
top-nonzero x y e z = let f : x.top ≡ 0 → ⊥ = eqb-false x.top 0 (stands-zeros x y e ∙ z) in omega arith

stands-ratio : (x x' : Fraction) (y y' : rationals.R) → Stands x y → Stands x' y' → ℚ.is_zero y' ≡ false → Stands (exact.div x x') (ℚ.div y y')
stands-ratio x x' y y' p p' z =
    rational-quotient x x' (top-nonzero x' y' p' z) ∙ ap₂ (λ u v. rationals.mul u (rationals-ordered.inv v)) p p'

stands-quotients : (x₁ x₂ x₃ x₄ : Fraction) (y₁ y₂ y₃ y₄ : rationals.R) → Stands x₁ y₁ → Stands x₂ y₂ → Stands x₃ y₃ → Stands x₄ y₄
    → ℚ.is_zero y₃ ≡ false → ℚ.is_zero y₄ ≡ false
    → Stands (exact.div (exact.mul x₁ x₂) (exact.mul x₃ x₄)) (ℚ.div (ℚ.mul y₁ y₂) (ℚ.mul y₃ y₄))
stands-quotients x₁ x₂ x₃ x₄ y₁ y₂ y₃ y₄ p₁ p₂ p₃ p₄ z₃ z₄ =
    rational-quotient (exact.mul x₁ x₂) (exact.mul x₃ x₄) (product-positive x₃ x₄ (top-nonzero x₃ y₃ p₃ z₃) (top-nonzero x₄ y₄ p₄ z₄))
    ∙ ap₂ (λ u v. rationals.mul u (rationals-ordered.inv v)) (rational-product x₁ x₂ ∙ ap₂ rationals.mul p₁ p₂)
    (rational-product x₃ x₄ ∙ ap₂ rationals.mul p₃ p₄)

rational-like : (x : Fraction) → Like AboveZero IsZero rationals-ordered.Pos (λ y. y ≡ rationals.𝟘) x (rational x)
rational-like x = record { positive = (positive-rational x).0; zero = zero-rational x; back = rational-zero-back x }

-- fractions that keep the rule for zeros are given by the matrix that they multiply out to, where accepted ones multiply out to it
pub fractions-same : (n : ℕ) (b c : Factors Fraction) → FractionsKeepRule n b → BandedFractions n c → Equal rationals n (multiplied_out n b) (multiplied_out n c)
    → (i j : ℕ) → In n i → In n j → Same (b i j) (c i j)
fractions-same n b c p q e i j u v =
    same-rational (b i j) (c i j)
    (tables-unique rationals rationals-ordered n (each_factor rational b) (each_factor rational c)
    (rule-like AboveZero IsZero rationals-ordered.Pos (λ x. x ≡ rationals.𝟘) n b (each_factor rational b) (λ i j x y. rational-like (b i j)) p)
    (banded-like AboveZero IsZero rationals-ordered.Pos (λ x. x ≡ rationals.𝟘) n c (each_factor rational c) (λ i j x y. rational-like (c i j)) q) e i j u v)

module _ (n : ℕ) where
  -- MINORS: only the diagonal's entries are divided by
  abbrev Any : Fraction → Type 0
  Any x = Unit {0}

  minor-rational : (L : List (Step Fraction)) → Sources (Weighted Any AboveZero n) L → (I J : RowSet) → length I ≡ n
      → rational (minor exact (joined_word n L) I J) ≡ minor ℚ (joined_word n (each_steps rational L)) I J
  minor-rational L h I J i =
      minor-related exact ℚ (Unit {0}) (λ g x y. Stands x y) rational-related n (joined_word n L) (joined_word n (each_steps rational L))
      (letters-joined Stands StandsAbove n L (each_steps rational L)
      (alike-each Stands StandsAbove n Any AboveZero rational (λ x h. refl) (λ x h. (refl, h)) L h)) tt rational-zero rational-one I J i

  -- OPERATIONS ON FRACTIONS, and the same on rational numbers
  module _ (o : Operation Fraction) (proper : Proper (BandedFractions n) n o) where
    abbrev k : ℕ
    k = size n o

    abbrev q : Operation rationals.R
    q = each_source rational o

    same : size n q ≡ k
    same = size-each rational n o

    pub rational-weighted : WeightedSources rationals rationals-ordered n (each_source rational o)
    rational-weighted =
        subst (Sources (Weighted (NonNegative rationals rationals-ordered) rationals-ordered.Pos n)) (sym (steps-each rational n o))
        (sources-map (BandedFractions n) (Weighted (NonNegative rationals rationals-ordered) rationals-ordered.Pos n) rational
        (λ b h. record { off = λ i j x y e. rational-nonnegative (b i j); on = λ i x. (positive-rational (b i i)).0 (h.diagonal i x) }) (steps o)
        proper.sources)

    pub rational-fit : Fit n (each_source rational o)
    rational-fit = fit-each rational n o proper.fit

    pub asked-rational : (I J : RowSet) → length I ≡ size n o → rational (asked_minor exact n o I J) ≡ asked_minor ℚ n (each_source rational o) I J
    asked-rational I J i =
        minor-rational (steps o)
        (sources-weaken (BandedFractions n) (Weighted Any AboveZero n) (λ b h. record { off = λ i j x y e. tt; on = h.diagonal }) (steps o) proper.sources)
        (rows_of o I) (columns_of o J) (length-rows_of n o proper.fit I i)
        ∙ sym (asked-each ℚ rational n o I J)

    module _ (regular : Regular n o) where
      -- what is known of the rational numbers
      known : MatrixFactored rationals rationals-ordered k (asked_minor ℚ n q) (operation_matrix rationals rationals-ordered n q)
      known =
          subst (λ m. MatrixFactored rationals rationals-ordered m (asked_minor ℚ n q) (operation_matrix rationals rationals-ordered n q)) same
          (solved rationals rationals-ordered n q rational-weighted rational-fit
          (subst (λ m. rationals-ordered.Pos (asked_minor ℚ n q (rows m 1 m) (rows m 1 m))) (sym same)
          (subst rationals-ordered.Pos (asked-rational (rows k 1 k) (rows k 1 k) (length-rows k 1 k))
          ((positive-rational (determinant_of n o)).0 regular))))

      -- NO DIVISOR IS ZERO
      pub exact_below : Divisible exact (size n o) (asked_minor exact n o)
      exact_below =
          divisible-related exact ℚ k Stands Stands stands-zeros rational-zero stands-quotients stands-ratio _ _ (λ I J i j. asked-rational I J i)
          known.divisible

      pub exact_above : Divisible exact (size n o) (λ I J. asked_minor exact n o J I)
      exact_above =
          divisible-related exact ℚ k Stands Stands stands-zeros rational-zero stands-quotients stands-ratio _ _ (λ I J i j. asked-rational J I j)
          known.divisible-exchanged

      result-rational : (i j : ℕ) → In k i → In k j → rational (result exact n o i j) ≡ new_factor ℚ k (asked_minor ℚ n q) i j
      unfolding result
      result-rational =
          new_factor-related exact ℚ k Stands Stands stands-zeros rational-zero stands-quotients stands-ratio _ _ (λ I J i j. asked-rational I J i)
          known.divisible known.divisible-exchanged

      -- POSITIVE OR ZERO, in the pattern
      pub exact-banded : BandedFractions (size n o) (result exact n o)
      exact-banded =
          banded-like rationals-ordered.Pos (λ x. x ≡ rationals.𝟘) AboveZero IsZero k (new_factor ℚ k (asked_minor ℚ n q)) (result exact n o)
          (λ i j x y. let e = result-rational i j x y in record {
            positive = λ p. (positive-rational (result exact n o i j)).1 (subst rationals-ordered.Pos (sym e) p);
            zero = λ z. rational-zero-back (result exact n o i j) (e ∙ z);
            back = λ z. sym e ∙ zero-rational (result exact n o i j) z;
          })
          known.banded

      -- THEY MULTIPLY OUT to the operation's matrix
      pub exact-multiplied : Equal rationals (size n o) (multiplied_out (size n o) (result exact n o))
          (operation_matrix rationals rationals-ordered n (each_source rational o))
      exact-multiplied i j x y = multiplied-equal rationals rationals-ordered k _ _ result-rational i j x y ∙ known.multiplied-out i j x y

      -- AND NO OTHERS DO
      pub exact-only : (c : Factors Fraction) → FractionsKeepRule (size n o) c
          → Equal rationals (size n o) (multiplied_out (size n o) c) (multiplied_out (size n o) (result exact n o))
          → (i j : ℕ) → In (size n o) i → In (size n o) j → Same (c i j) (result exact n o i j)
      exact-only c h e = fractions-same k c (result exact n o) h exact-banded e
