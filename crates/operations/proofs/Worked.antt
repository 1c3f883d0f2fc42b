-- THE RULE RUN FOR AN OPERATION. A joined word has the operation's steps, and two masks its rows and columns, the first of them clamped (`Sets`: all of them,
-- `all-sets`, or the chosen ones of a submatrix, `chosen-sets`, or all of them with k clamped, `schur-sets`). Then the rule can be run (`run-proper`), and what
-- it hands back is the operation's result (`run-result`).
use mathlib.Core.Path.{◌≡◌, sym, ap, ap₂, ◌∙◌, subst}
use mathlib.Core.Bool.{Bool, true, false}
use mathlib.Core.List.{List}
use Prim.Native.Nat.{ℕ, ◌+◌, ◌-◌, ◌^◌, ◌≤◌, ◌<◌}
use native.Mathlib.Omega.{arith}
use lib.ListN.{length}
use Rattle.number.specs.declared.Number.{Number}
use Rattle.number.specs.Number.{rounded}
use Rattle.rowset.specs.Mask.{mask_count, mask_run}
use Rattle.rowset.proofs.Counts.{mask-count, mask-run, run-below}
use Rattle.words.specs.RowSet.{RowSet, rows, count, among, of_mask, with_first}
use Rattle.words.specs.Word.{Factors}
use Rattle.words.specs.Walk.{minor}
use Rattle.words.specs.Formula.{new_factor, Divisible}
use Rattle.words.specs.Operation.{Step, joined_word, Operation, joined, submatrix, schur, steps, rows_of, columns_of, size, bound_of, asked_minor, result}
use Rattle.words.specs.Sources.{BandedNumbers, Walkable, Sources}
use Rattle.words.proofs.Steps.{sources-weaken}
use Rattle.words.proofs.Banded.{banded-walkable}
use Rattle.words.proofs.Chosen.{count-all, among-all}
use Rattle.words.specs.Effort.{steps_made, minor_foretold, result_steps, walked_rows}
use Rattle.words.proofs.Effort.{walk_steps_lem}
use Rattle.words.proofs.Sums.{sums_same, quotient-steps}
use Rattle.words.proofs.FirstRows.{length-first, first-none}
use Rattle.words.proofs.Formulas.{divisible-equal, new_factor-equal}
use Rattle.walk.specs.declared.Joined.{Joined}
use Rattle.walk.specs.Lent.{steps_of, step_at, numbered, AllSpelled}
use Rattle.table.specs.Table.{table_of}
use Rattle.walk.proofs.Minors.{steps-length}
use Rattle.rule.specs.declared.Refactored.{Refactored}
use Rattle.rule.specs.Chosen.{chosen_of, chosen_minor, chosen_factors, chosen_steps, turned_by, Workable}
use Rattle.rule.specs.Result.{work_of}
use Rattle.table.proofs.Table.{table_same}
use Rattle.operations.specs.Proposed.{Made}
use Rattle.operations.proofs.Results.{Ready, ready-demand, ready-foretold, result_of}

-- the masks p and q, k of each clamped, give the rows and the columns of an operation on sources of n rows
pub record Sets (n : ℕ) (o : Operation Number) (p q k : ℕ) : Type 0 where
  pub rows-below : p < 2 ^ n
  pub columns-below : q < 2 ^ n
  pub rows-many : mask_count p ≡ k + size n o
  pub columns-many : mask_count q ≡ k + size n o
  pub rows_are : (I : RowSet) → length I ≡ size n o → among (of_mask n p) (with_first k I) ≡ rows_of o I
  pub columns-are : (J : RowSet) → length J ≡ size n o → among (of_mask n q) (with_first k J) ≡ columns_of o J
  pub walked : (r : ℕ) → k + r ≡ walked_rows o r

-- the mask of all rows
module _ (n p : ℕ) (few : n ≤ 8) (e : p ≡ mask_run 1 n) where
  all-below : p < 2 ^ n
  all-below = subst (λ (s : ℕ). s < 2 ^ n) (sym e) (run-below n 1 n (omega arith))

  all : of_mask n p ≡ rows n 1 n
  all = ap (of_mask n) e ∙ mask-run n 1 n few (omega arith) few

  all-many : mask_count p ≡ n
  all-many = sym (mask-count n p few all-below) ∙ ap count all ∙ count-all n

  all_are : (I : RowSet) → length I ≡ n → among (of_mask n p) I ≡ I
  all_are I i = ap (λ (P : RowSet). among P I) all ∙ among-all n I i

-- all of them
pub all-sets : (n p : ℕ) (L : List (Step Number)) → n ≤ 8 → p ≡ mask_run 1 n → Sets n (joined L) p p 0
all-sets n p L few e = record {
  rows-below = all-below n p few e;
  columns-below = all-below n p few e;
  rows-many = omega (arith, all-many n p few e);
  columns-many = omega (arith, all-many n p few e);
  rows_are = are;
  columns-are = are;
  walked = λ r. omega arith;
}
  where
    are : (I : RowSet) → length I ≡ n → among (of_mask n p) (with_first 0 I) ≡ I
    are I i = ap (among (of_mask n p)) (first-none I) ∙ all_are n p few e I i

-- all of them, and the first k clamped
pub schur-sets : (n p k : ℕ) (b : Factors Number) → n ≤ 8 → k < n → p ≡ mask_run 1 n → Sets n (schur b k) p p k
schur-sets n p k b few l e = record {
  rows-below = all-below n p few e;
  columns-below = all-below n p few e;
  rows-many = omega (arith, all-many n p few e);
  columns-many = omega (arith, all-many n p few e);
  rows_are = are;
  columns-are = are;
  walked = λ r. omega arith;
}
  where
    are : (I : RowSet) → length I ≡ n - k → among (of_mask n p) (with_first k I) ≡ with_first k I
    are I i = all_are n p few e (with_first k I) (omega (arith, length-first k I, i))

-- the chosen ones
pub chosen-sets : (n p q : ℕ) (b : Factors Number) → n ≤ 8 → p < 2 ^ n → q < 2 ^ n → mask_count p ≡ mask_count q
    → Sets n (submatrix b (of_mask n p) (of_mask n q)) p q 0
chosen-sets n p q b few r c e = record {
  rows-below = r;
  columns-below = c;
  rows-many = omega (arith, mask-count n p few r);
  columns-many = omega (arith, e, mask-count n p few r);
  rows_are = λ I i. ap (among (of_mask n p)) (first-none I);
  columns-are = λ J j. ap (among (of_mask n q)) (first-none J);
  walked = λ r. omega arith;
}

-- THE WORD w with the factors s
module _ (t : ℕ) (o : Operation Number) (w : Joined) (s : List ℕ) (p q k : ℕ) (six : w.count ≤ 6) (same : steps_of w s ≡ steps o)
    (sets : Sets w.n o p q k) (ready : Ready t w.n o) where
  abbrev n : ℕ
  n = w.n

  -- the rows that are not clamped
  left : mask_count p - k ≡ size n o
  left = omega (arith, sets.rows-many)

  asked : (I J : RowSet) → length I ≡ size n o → length J ≡ size n o → chosen_minor (chosen_of w p q k) s I J ≡ asked_minor rounded n o I J
  unfolding chosen_minor
  asked I J i j =
      ap (λ (L : List (Step Number)). minor rounded (joined_word n L) (among (of_mask n p) (with_first k I)) (among (of_mask n q) (with_first k J))) same
      ∙ ap₂ (minor rounded (joined_word n (steps o))) (sets.rows_are I i) (sets.columns-are J j)

  own-proper : Workable (chosen_of w p q k) s
  own-proper = record {
    some = ready.some;
    few = ready.few;
    six = six;
    rows = sets.rows-below;
    columns = sets.columns-below;
    equal = sets.rows-many ∙ sym sets.columns-many;
    held = omega (arith, sets.rows-many);
    walkable = subst (Sources (Walkable n)) (sym same)
        (sources-weaken (BandedNumbers n) (Walkable n) (banded-walkable n) (steps o) ready.proper.sources);
    divisible = λ turned. subst (λ (m : ℕ). Divisible rounded m (turned_by turned (chosen_minor (chosen_of w p q k) s))) (sym left) (by turned);
  }
    where
      by : (turned : Bool) → Divisible rounded (size n o) (turned_by turned (chosen_minor (chosen_of w p q k) s))
      by true =
          divisible-equal rounded (size n o) (λ I J. chosen_minor (chosen_of w p q k) s J I) (λ I J. asked_minor rounded n o J I) (λ I J i j. asked J I j i)
          (ready-demand ready).divisors-above
      by false =
          divisible-equal rounded (size n o) (chosen_minor (chosen_of w p q k) s) (asked_minor rounded n o) asked (ready-demand ready).divisors-below

  own-factors : table_of (mask_count p - k) (chosen_factors (chosen_of w p q k) s) ≡ table_of (size n o) (result rounded n o)
  unfolding result
  own-factors =
      ap (λ (m : ℕ). table_of m (new_factor rounded m (chosen_minor (chosen_of w p q k) s))) left
      ∙ table_same (size n o) _ _ (new_factor-equal rounded (size n o) (chosen_minor (chosen_of w p q k) s) (asked_minor rounded n o) asked
      (ready-demand ready).divisors-below (ready-demand ready).divisors-above)

  own-count : w.count ≡ length (steps o)
  own-count = sym (steps-length (step_at w s) numbered w.count six) ∙ ap length same

  -- the walks' steps are the operation's: both are those foretold
  own-steps : result_steps (chosen_steps (chosen_of w p q k) s) (mask_count p - k) ≡ steps_made rounded n o
  unfolding chosen_steps
  own-steps =
      sums_same (mask_count p - k) _ _ (λ i j x y. quotient-steps _ _ (λ r. walk_steps_lem n (k + r) (steps_of w s) ready.some
      ∙ ap₂ (λ (L : List (Step Number)) (m : ℕ). minor_foretold (length L) n m) same (sets.walked r)) i j)
      ∙ ap (result_steps (λ r. minor_foretold (length (steps o)) n (walked_rows o r))) left ∙ sym (ready-foretold ready)

  own-result : work_of (chosen_of w p q k) s ≡ result_of n o
  own-result =
      let d : ℕ = result_steps (chosen_steps (chosen_of w p q k) s) (mask_count p - k) in
      ap₂ (λ (f : List Number) (k : ℕ). let r : Refactored = record { factors = f; rows = k; bound = bound_of w.count n; steps = d } in r) own-factors left
      ∙ ap₂
      (λ (m e : ℕ). let r : Refactored = record { factors = table_of (size n o) (result rounded n o); rows = size n o; bound = bound_of m n; steps = e } in r)
      own-count own-steps

-- A WORD MADE of the operation's steps, with its letters l
module _ (t n : ℕ) (o : Operation Number) {w : Joined} {l s : List ℕ} {p q k : ℕ} (made : Made n (steps o) w l s) (sets : Sets n o p q k)
    (ready : Ready t n o) where
  six : w.count ≤ 6
  six = omega (arith, made.many, ready.six)

  there : Sets w.n o p q k
  there = subst (λ (m : ℕ). Sets m o p q k) (sym made.rows_are) sets

  ready-there : Ready t w.n o
  ready-there = subst (λ (m : ℕ). Ready t m o) (sym made.rows_are) ready

  pub run-proper : Workable (chosen_of w p q k) s × AllSpelled w l
  run-proper = (own-proper t o w s p q k six made.steps-are there ready-there, made.prepared.spelled)

  pub run-result : work_of (chosen_of w p q k) s ≡ result_of n o
  run-result = own-result t o w s p q k six made.steps-are there ready-there ∙ ap (λ (m : ℕ). result_of m o) made.rows_are
