-- STEPS (document 02, (k)). One is a row set updated by a letter E or Et: those of a letter and of a walk (letter_steps, walk_steps). What an operation makes:
-- the steps of every minor of every new factor's quotient (steps_made). And what its sizes foretell (steps_foretold), for whole sources in one formula
-- (whole_steps).
use Rattle.std.specs.Prelude.{Bool, true, false, cond, ◌&&◌, [], ◌∷◌, ℕ, zero, suc, ◌+◌, ◌-◌, ◌*◌, ◌^◌, min, eqb, length}
use Rattle.fraction.specs.Arithmetic.{Arithmetic}
use Rattle.words.specs.RowSet.{RowSet, count}
use Rattle.words.specs.Word.{Factors, Letter, E, Et, D, Dinv, Word, total}
use Rattle.words.specs.Walk.{moves}
use Rattle.words.specs.Formula.{latest_before, below_diagonal, factors_by}
use Rattle.words.specs.Operation.{joined_word, Operation, joined, submatrix, schur, steps, rows_of, size, asked_minor}

-- how many sets of n rows pass a test
unfoldable pub sets_with : ℕ → (RowSet → Bool) → ℕ
sets_with zero t = cond (t []) 1 0
sets_with (suc n) t = sets_with n (λ S. t (true ∷ S)) + sets_with n (λ S. t (false ∷ S))

-- the sets of k out of n rows that a letter updates (`moved`), whatever their numbers
unfoldable pub updated : (n k a o : ℕ) → ℕ
updated n k a o = sets_with n (λ S. eqb (count S) k && moves a o S)

module _ {A : Type 0} (n k : ℕ) where
  -- A STEP is one row set, here of k out of n rows, updated by one letter E or Et
  abbrev pub letter_steps : Letter A → ℕ
  letter_steps (E j w) = updated n k j (j - 1)
  letter_steps (Et j w) = updated n k (j - 1) j
  letter_steps (D e) = 0
  letter_steps (Dinv e) = 0

  -- the steps of a word's letters; an empty minor, k = 0, takes none (`empty-steps`)
  abbrev pub walk_steps : Word A → ℕ
  walk_steps W = total letter_steps W

-- f 1 + .. + f k
unfoldable pub sum_over : ℕ → (ℕ → ℕ) → ℕ
sum_over zero f = 0
sum_over (suc k) f = sum_over k f + f (suc k)

-- over the rows and columns 1 .. k
abbrev pub over_all : ℕ → Factors ℕ → ℕ
over_all k f = sum_over k (λ i. sum_over k (f i))

-- A NUMBER WITH THE STEPS THAT IT TOOK: a sum, product or quotient took those of both its numbers, also where the two are the same
abbrev pub counted : Arithmetic → Arithmetic
counted K = record {
  Num = K.Num × ℕ;
  zero = (K.zero, 0);
  one = (K.one, 0);
  add = λ x y. (K.add x.0 y.0, x.1 + y.1);
  mul = λ x y. (K.mul x.0 y.0, x.1 + y.1);
  div = λ x y. (K.div x.0 y.0, x.1 + y.1);
  is_zero = λ x. K.is_zero x.0;
}

module _ (K : Arithmetic) where
  open K use {Num}

  -- the minor that the formulas ask for, with its steps: its walk is over the sets of as many rows
  abbrev pub asked_with_steps : ℕ → Operation Num → RowSet → RowSet → Num × ℕ
  asked_with_steps n o I J = (asked_minor K n o I J, walk_steps n (count (rows_of o I)) (joined_word n (steps o)))

  -- the steps of a new factor: of its quotient, whether or not the factor is zero, by the sets R of these very minors
  unfoldable pub factor_steps : ℕ → Operation Num → Factors ℕ
  factor_steps n o i j =
      (factors_by (counted K) (size n o) (below_diagonal (counted K) (size n o) (latest_before (counted K) (size n o))) (asked_with_steps n o) i j).1

  -- THE STEPS THAT AN OPERATION MAKES
  unfoldable pub steps_made : ℕ → Operation Num → ℕ
  steps_made n o = over_all (size n o) (factor_steps n o)

-- THE STEPS OF A RESULT by those of its minors, a minor of p rows taking w p. A quotient has two minors on the diagonal, else four, of the formula for the
-- lesser of its row and column
abbrev pub four_steps : (ℕ → ℕ) → ℕ → ℕ
four_steps w j = w j + w (j - 1) + (w (j - 1) + w j)

unfoldable pub quotient_steps : (ℕ → ℕ) → Factors ℕ
quotient_steps w i j = cond (eqb i j) (w i + w (i - 1)) (four_steps w (min i j))

-- of its k rows
abbrev pub result_steps : (ℕ → ℕ) → ℕ → ℕ
result_steps w k = over_all k (quotient_steps w)

-- THE STEPS FORETOLD, by sizes alone
-- the sets of k out of n rows
unfoldable pub choose : (n k : ℕ) → ℕ
choose n zero = 1
choose zero (suc k) = 0
choose (suc n) (suc k) = choose n k + choose n (suc k)

-- of a minor of p rows, the words of m sources of n rows being joined: none of an empty one; each of their m (n² - n) letters E and Et updates as many sets as
-- there are of p - 1 out of n - 2 rows
abbrev pub minor_foretold : (m n p : ℕ) → ℕ
minor_foretold m n zero = 0
minor_foretold m n (suc p) = m * (choose (n - 2) p * (n * n - n))

-- how many rows are walked for a minor of p rows: to those of what remains the clamped ones are joined, so M(1..k) is no empty minor
abbrev pub walked_rows : {A : Type 0} → Operation A → ℕ → ℕ
walked_rows (joined L) p = p
walked_rows (submatrix b P Q) p = p
walked_rows (schur b k) p = k + p

abbrev pub steps_foretold : {A : Type 0} → ℕ → Operation A → ℕ
steps_foretold n o = result_steps (λ p. minor_foretold (length (steps o)) n (walked_rows o p)) (size n o)

-- of all n rows of m joined sources, in one formula (`whole-total`): m n (n - 1) (2n - 1) 2^(n - 1)
abbrev pub whole_steps : (m n : ℕ) → ℕ
whole_steps m n = m * (n * (n - 1)) * ((2 * n - 1) * 2 ^ (n - 1))
