-- EVERYTHING ACCEPTED BEFORE GIVES ITS OLD RESULT (as_before): where all factors of the sources are stored, so that none is zero, no minor of the formulas is
-- zero: not the exact one (exact-nonzero), since positive factors have positive minors, and so not the rounded one (rounded-nonzero), which is zero only where
-- that is. Then the sets R are the rows just before, and the formulas are document 01's (old-factor).
use mathlib.Core.Path.{◌≡◌, refl, sym, ◌∙◌, subst}
use mathlib.Core.Bool.{false}
use Prim.Native.Nat.{ℕ, ◌≤◌}
use native.Mathlib.Omega.{arith}
use borrow.Author.Tests.{ne_eqb}
use lib.ListN.{length}
use Rattle.fraction.specs.Fraction.{Fraction, exact}
use Rattle.fraction.specs.Rational.{rationals, rationals-ordered, rational}
use Rattle.fraction.proofs.Rational.{positive-rational}
use Rattle.number.specs.declared.Number.{Number}
use Rattle.number.specs.Number.{rounded, value, Stored}
use Rattle.words.specs.RowSet.{RowSet, count, rows}
use Rattle.words.specs.Operation.{Operation, steps, rows_of, columns_of, size, Fit, asked_minor, result, each_source}
use Rattle.words.specs.Sources.{Each, Sources, BandedNumbers}
use Rattle.words.proofs.RowSets.{length-rows}
use Rattle.words.proofs.Operations.{some-steps, length-rows_of, length-columns_of, count-asked, size-each, steps-each, fit-each}
use Rattle.words.proofs.Steps.{sources-map, sources-weaken}
use Rattle.words.proofs.Banded.{stored-banded}
use Rattle.minors.specs.Matrix.{Positive}
use Rattle.minors.proofs.Positive.{PositiveSteps, joined-positive}
use Rattle.bands.proofs.Runs.{old-factor}
use Rattle.factors.specs.Demand.{Proper, AboveZero, exactly}
use Rattle.factors.specs.Before.{AsBefore}
use Rattle.factors.proofs.Exact.{asked-rational}
use Rattle.factors.proofs.Bound.{stored-positive}
use Rattle.factors.proofs.Demanded.{proper-value, asked-zeros}

module _ (n : ℕ) (o : Operation Number) (proper : Proper (Each Stored n) n o) where
  banded : Proper (BandedNumbers n) n o
  banded = record { sources = sources-weaken (Each Stored n) (BandedNumbers n) (stored-banded n) (steps o) proper.sources; fit = proper.fit }

  abbrev x : Operation Fraction
  x = exactly o

  abbrev q : Operation rationals.R
  q = each_source rational (exactly o)

  -- the same sources in fractions and in rational numbers, all positive
  above : Sources (Each AboveZero n) (steps x)
  above =
      subst (Sources (Each AboveZero n)) (sym (steps-each value n o))
      (sources-map (Each Stored n) (Each AboveZero n) value (λ b h i j u v. stored-positive (b i j) (h i j u v)) (steps o) proper.sources)

  positive : PositiveSteps rationals rationals-ordered n (steps q)
  positive =
      subst (PositiveSteps rationals rationals-ordered n) (sym (steps-each rational n x))
      (sources-map (Each AboveZero n) (Positive rationals rationals-ordered n) rational (λ b h i j u v. (positive-rational (b i j)).0 (h i j u v)) (steps x)
      above)

  fit : Fit n q
  fit = fit-each rational n x (fit-each value n o proper.fit)

  exact-positive : (I J : RowSet) → length I ≡ size n x → length J ≡ size n x → count I ≡ count J → AboveZero (asked_minor exact n x I J)
  exact-positive I J i j e =
      let i' : length I ≡ size n q = i ∙ sym (size-each rational n x) in
      let j' : length J ≡ size n q = j ∙ sym (size-each rational n x) in
      (positive-rational (asked_minor exact n x I J)).1
      (subst rationals-ordered.Pos (sym (asked-rational n x (proper-value n o banded) I J i))
      (joined-positive rationals rationals-ordered n (steps q) (some-steps n q fit) positive (rows_of q I) (columns_of q J)
      (length-rows_of n q fit I i') (length-columns_of n q fit J j') (count-asked n q fit I J i' j' e)))

  exact-nonzero : (I J : RowSet) → length I ≡ size n x → length J ≡ size n x → count I ≡ count J → exact.is_zero (asked_minor exact n x I J) ≡ false
  exact-nonzero I J i j e = ne_eqb (asked_minor exact n x I J).top 0 (λ z. let p = exact-positive I J i j e in omega arith)

  module _ (some : 1 ≤ n) (few : n ≤ 8) (six : length (steps o) ≤ 6) where
    rounded-nonzero : (I J : RowSet) → length I ≡ size n o → length J ≡ size n o → count I ≡ count J → rounded.is_zero (asked_minor rounded n o I J) ≡ false
    rounded-nonzero I J i j e =
        let k = sym (size-each value n o) in
        asked-zeros n o some few six banded I J i ∙ exact-nonzero I J (i ∙ k) (j ∙ k) e

    -- EVERY OLD RESULT STAYS
    pub as_before : AsBefore n o
    unfolding result
    as_before =
        let k = size n x in
        record {
          regular = exact-positive (rows k 1 k) (rows k 1 k) (length-rows k 1 k) (length-rows k 1 k) refl;
          as-rounded = old-factor rounded (size n o) (asked_minor rounded n o) rounded-nonzero;
          as-exact = old-factor exact (size n x) (asked_minor exact n x) exact-nonzero;
        }
