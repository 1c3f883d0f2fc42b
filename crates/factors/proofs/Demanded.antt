-- DEMAND 3 of every operation of at most six steps on accepted sources of up to eight rows (demand): product, re-signed inverse, converse, Schur complement,
-- and submatrix where that is not singular, among them; no other can be singular (joined-regular, schur-regular). Its exact part holds for any fractions in the
-- pattern, any size and any number of steps (factored). In plain words: of m steps, 7 m / 60 of a millionth (demand-close).
use mathlib.Core.Path.{◌≡◌, refl, sym, ap, ap₂, ◌∙◌, subst}
use mathlib.Core.List.{List}
use Prim.Native.Nat.{ℕ, ◌+◌, ◌-◌, ◌*◌, ◌≤◌, ◌<◌}
use native.Mathlib.Nat.{mul-le-mul, mul-le-mul_left}
use native.Mathlib.Omega.{arith}
use lib.ListN.{length}
use borrow.Author.Tests.{eqb-true, eq-eqb}
use Rattle.fraction.specs.Fraction.{Fraction, exact}
use Rattle.fraction.specs.Rational.{rationals, rationals-ordered, rational}
use Rattle.fraction.specs.Within.{unit, Within, Close}
use Rattle.fraction.proofs.Distance.{within-close}
use Rattle.fraction.proofs.Rational.{positive-rational}
use Rattle.number.specs.declared.Number.{Number}
use Rattle.number.specs.Number.{zero_number, rounded, value, Stored, reach}
use Rattle.number.proofs.Reach.{ranged-more}
use Rattle.number.proofs.Value.{value-top-zero}
use Rattle.words.specs.RowSet.{RowSet, rows}
use Rattle.words.specs.Word.{Factors}
use Rattle.words.specs.Walk.{minor}
use Rattle.words.specs.Operation.{Step, Operation, joined, schur, joined_word, steps, rows_of, columns_of, size, bound_of, bound, asked_minor, result, each_steps}
use Rattle.words.specs.Sources.{Weighted, Banded, Sources, BandedNumbers, Walkable}
use Rattle.words.proofs.RowSets.{length-rows}
use Rattle.words.proofs.RowByRow.{row_by_row-length}
use Rattle.words.proofs.Operations.{some-steps, length-rows_of, size-each, steps-each, fit-each, asked-each}
use Rattle.words.proofs.Steps.{joined-rows, joined-weights, sources-map, sources-weaken}
use Rattle.words.proofs.Banded.{Like, banded-like, StoredOrZero, stored, zero, banded-decided, banded-walkable}
use Rattle.fraction.specs.Ring.{arithmetic, NonNegative}
use Rattle.minors.specs.Matrix.{In}
use Rattle.bands.proofs.Theorem.{whole-regular}
use Rattle.factors.specs.Demand.{Proper, AboveZero, IsZero, BandedFractions, determinant_of, Regular, Factored, exactly, Demand}
use Rattle.factors.proofs.Exact.{rational-weighted, asked-rational, exact_below, exact_above, exact-banded, exact-only}
use Rattle.factors.proofs.Requested.{exact-requested, multiplied-same}
use Rattle.factors.proofs.Near.{Near, near-positive, near-zeros}
use Rattle.factors.proofs.Bound.{stored-positive, spent, reached, result-near, rounded-below, rounded-above, spent-bound, reached-room, no_counts}
use Rattle.factors.proofs.Bound.{Beside, asked-near, counts-length, counts-sum, near-exactly}

-- THE EXACT RUN is right and the only one, for any fractions in the pattern and any number of rows
pub factored : (n : ℕ) (o : Operation Fraction) → Proper (BandedFractions n) n o → Regular n o → Factored n o
factored n o h g = record {
  divisors-below = exact_below n o h g;
  divisors-above = exact_above n o h g;
  banded = exact-banded n o h g;
  requested = exact-requested n o h g;
  only = λ c p r. exact-only n o h g c p (multiplied-same n o c (result exact n o) r (exact-requested n o h g));
}

-- only a submatrix can be singular: where the same rows as columns are asked for, the minor is positive
alike-regular : (n : ℕ) (o : Operation Fraction) → Proper (BandedFractions n) n o
    → columns_of o (rows (size n o) 1 (size n o)) ≡ rows_of o (rows (size n o) 1 (size n o)) → Regular n o
alike-regular n o h e =
    let k : ℕ = size n o in
    let S : RowSet = rows_of o (rows k 1 k) in
    let L : List (Step rationals.R) = each_steps rational (steps o) in
    (positive-rational (determinant_of n o)).1
    (subst rationals-ordered.Pos
    (sym (asked-rational n o h (rows k 1 k) (rows k 1 k) (length-rows k 1 k)
    ∙ asked-each (arithmetic rationals rationals-ordered) rational n o (rows k 1 k) (rows k 1 k)
    ∙ ap (minor (arithmetic rationals rationals-ordered) (joined_word n L) S) e))
    (whole-regular rationals rationals-ordered n (joined_word n L) (joined-rows n L)
    (joined-weights (NonNegative rationals rationals-ordered) rationals-ordered.Pos n L
    (subst (Sources (Weighted (NonNegative rationals rationals-ordered) rationals-ordered.Pos n)) (steps-each rational n o) (rational-weighted n o h)))
    S (length-rows_of n o h.fit (rows k 1 k) (length-rows k 1 k))))

pub joined-regular : (n : ℕ) (L : List (Step Fraction)) → Proper (BandedFractions n) n (joined L) → Regular n (joined L)
joined-regular n L h = alike-regular n (joined L) h refl

pub schur-regular : (n : ℕ) (b : Factors Fraction) (k : ℕ) → Proper (BandedFractions n) n (schur b k) → Regular n (schur b k)
schur-regular n b k h = alike-regular n (schur b k) h refl

-- accepted numbers are accepted as the fractions that they stand for
value-like : (a : Number) → StoredOrZero a → Like Stored (λ a. a ≡ zero_number) AboveZero IsZero a (value a)
value-like a d = record {
  positive = stored-positive a;
  zero = λ e. value-top-zero a (ap (λ (b : Number). b.m) e);
  back = λ e. by d e;
}
  where
    by : StoredOrZero a → IsZero (value a) → a ≡ zero_number
    by (stored s) e = absurd (omega (arith, stored-positive a s, e))
    by (zero z) e = z

banded-value : (n : ℕ) (b : Factors Number) → BandedNumbers n b → BandedFractions n (λ i j. value (b i j))
banded-value n b h =
    banded-like Stored (λ a. a ≡ zero_number) AboveZero IsZero n b (λ i j. value (b i j)) (λ i j x y. value-like (b i j) (banded-decided n b h i j x y)) h

pub proper-value : (n : ℕ) (o : Operation Number) → Proper (BandedNumbers n) n o → Proper (BandedFractions n) n (exactly o)
proper-value n o h = record {
  sources = subst (Sources (BandedFractions n)) (sym (steps-each value n o))
      (sources-map (BandedNumbers n) (BandedFractions n) value (banded-value n) (steps o) h.sources);
  fit = fit-each value n o h.fit;
}

-- A MINOR IS ROUNDED TO ZERO where the exact one is zero, and only there
module _ (n : ℕ) (o : Operation Number) (some : 1 ≤ n) (few : n ≤ 8) (six : length (steps o) ≤ 6) (proper : Proper (BandedNumbers n) n o) where
  banded-near : Beside n (no_counts n (steps o)) o (exactly o)
  banded-near = near-exactly n o (sources-weaken (BandedNumbers n) (Walkable n) (banded-walkable n) (steps o) proper.sources)

  pub asked-zeros : (I J : RowSet) → length I ≡ size n o → rounded.is_zero (asked_minor rounded n o I J) ≡ exact.is_zero (asked_minor exact n (exactly o) I J)
  asked-zeros I J i =
      let κ = no_counts n (steps o) in
      let room = reached-room n κ few (omega (arith, counts-length n (steps o))) in
      near-zeros (asked_minor rounded n o I J) (asked_minor exact n (exactly o) I J)
      (asked-near n some κ (omega (arith, room)) o (exactly o) banded-near (proper-value n o proper).fit I J (i ∙ sym (size-each value n o)))

-- THE ROUNDED RUN beside it
module _ (n : ℕ) (o : Operation Number) (some : 1 ≤ n) (few : n ≤ 8) (six : length (steps o) ≤ 6) (proper : Proper (BandedNumbers n) n o)
    (regular : Regular n (exactly o)) where
  abbrev κ : List ℕ
  κ = no_counts n (steps o)

  exact-run : Factored n (exactly o)
  exact-run = factored n (exactly o) (proper-value n o proper) regular

  reached-few : 4 * reached n κ + 98 ≤ reach
  reached-few = reached-room n κ few (omega (arith, counts-length n (steps o)))

  same : size n (exactly o) ≡ size n o
  same = size-each value n o

  walkable : Sources (Walkable n) (steps o)
  walkable = sources-weaken (BandedNumbers n) (Walkable n) (banded-walkable n) (steps o) proper.sources

  run-near : (i j : ℕ) → In (size n o) i → In (size n o) j
      → Near (4 * spent n κ + 3) (4 * reached n κ + 98) (result rounded n o i j) (result exact n (exactly o) i j)
  run-near i j x y =
      result-near n some κ (omega (arith, reached-few)) o (exactly o) (near-exactly n o walkable) (proper-value n o proper).fit
      exact-run.divisors-below exact-run.divisors-above i j (subst (λ k. In k i) (sym same) x) (subst (λ k. In k j) (sym same) y)

  -- zero together
  zero_of : (i j : ℕ) → In (size n o) i → In (size n o) j → IsZero (result exact n (exactly o) i j) → result rounded n o i j ≡ zero_number
  zero_of i j x y z =
      let h = run-near i j x y in
      let m : (result rounded n o i j).m ≡ 0 = eqb-true _ 0 (near-zeros (result rounded n o i j) (result exact n (exactly o) i j) h ∙ eq-eqb _ 0 z) in
      ap₂ (λ (m x : ℕ). let r : Number = record { m = m; x = x } in r) m (h.ranged.zero m)

  of_zero : (i j : ℕ) → In (size n o) i → In (size n o) j → result rounded n o i j ≡ zero_number → IsZero (result exact n (exactly o) i j)
  of_zero i j x y z =
      eqb-true _ 0 (sym (near-zeros (result rounded n o i j) (result exact n (exactly o) i j) (run-near i j x y))
      ∙ eq-eqb _ 0 (ap (λ (a : Number). a.m) z))

  run-banded : Banded (λ a. 0 < a.m) (λ a. a ≡ zero_number) (size n o) (result rounded n o)
  run-banded =
      banded-like AboveZero IsZero (λ (a : Number). 0 < a.m) (λ a. a ≡ zero_number) (size n o) (result exact n (exactly o)) (result rounded n o)
      (λ i j x y. record { positive = near-positive (run-near i j x y); zero = zero_of i j x y; back = of_zero i j x y })
      (subst (λ k. BandedFractions k (result exact n (exactly o))) same exact-run.banded)

  bound-is : 4 * spent n κ + 3 ≡ bound n o
  bound-is = spent-bound n some κ ∙ ap₂ (λ m s. bound_of m n + 4 * (n * n) * s) (counts-length n (steps o)) (counts-sum n (steps o)) ∙ omega arith

  -- DEMAND 3
  pub demand : Demand n o
  demand = record {
    divisors-below = rounded-below n some κ (omega (arith, reached-few)) o (exactly o) (near-exactly n o walkable) (proper-value n o proper).fit
        exact-run.divisors-below exact-run.divisors-above;
    divisors-above = rounded-above n some κ (omega (arith, reached-few)) o (exactly o) (near-exactly n o walkable) (proper-value n o proper).fit
        exact-run.divisors-below exact-run.divisors-above;
    counts = row_by_row-length (size n o) _ ∙ ap (λ (k : ℕ). k * k) (sym same) ∙ sym (row_by_row-length (size n (exactly o)) _);
    banded = run-banded;
    zeros = λ i j x y. (of_zero i j x y, zero_of i j x y);
    ranged = λ i j x y. ranged-more reached-few (run-near i j x y).ranged;
    within = λ i j x y. subst (λ k. Within k (value (result rounded n o i j)) (result exact n (exactly o) i j)) bound-is (run-near i j x y).within;
    factored = exact-run;
  }

  -- IN PLAIN WORDS: of m steps, each factor differs from the exact one by at most 7 m / 60 of a millionth of it; seven tenths of a millionth for six
  pub demand-close : (i j : ℕ) → In (size n o) i → In (size n o) j
      → Close (7 * length (steps o)) 60000000 (value (result rounded n o i j)) (result exact n (exactly o) i j)
  unfolding unit
  demand-close i j x y = within-close (bound n o) (7 * length (steps o)) 60000000 (omega (arith, bound-few, six)) parts (demand.within i j x y)
    where
      square-few : 2 * n * n - n ≤ 120
      square-few = omega (arith, mul-le-mul_left n few)

      bound-few : bound n o ≤ 480 * length (steps o) + 3
      bound-few = omega (arith, mul-le-mul_left (length (steps o)) square-few)

      parts : (60000000 + 7 * length (steps o)) * bound n o ≤ 7 * length (steps o) * unit
      parts =
          let first : 60000000 + 7 * length (steps o) ≤ 60000042 = omega (arith, six) in
          omega (arith, mul-le-mul first bound-few, some-steps n o proper.fit)
