-- THE TOTAL IN CLOSED FORM. The steps foretold, by the lesser index of the factors (result-by-rows); of m joined sources of n rows a weighted sum of the
-- numbers choose (n - 1) p, by Pascal (pair-foretold, total-by-rows, none-clamped), and for all n rows m n (n - 1) (2n - 1) 2^(n - 1) (whole-total,
-- joined-whole): a row of Pascal's triangle is the row above it and that row moved by one (pascal), and the weights fall by 4 from each to the next (weighted).
use mathlib.Core.Path.{◌≡◌, refl, sym, ap, ap₂, ◌∙◌}
use mathlib.Core.Bool.{cond}
use mathlib.Core.List.{List}
use Prim.Native.Nat.{ℕ, zero, suc, ◌+◌, ◌-◌, ◌*◌, ◌^◌, ◌≤◌, min}
use native.Mathlib.Nat.{min-eq_left, min-eq_right, sub_self, suc-sub-suc, two-pow-succ}
use native.Mathlib.Omega.{arith}
use borrow.Author.Tests.{eq-eqb, ne_eqb}
use lib.ListN.{length}
use Rattle.words.specs.RowSet.{In}
use Rattle.words.specs.Operation.{Step, joined}
use Rattle.words.specs.Effort.{sum_over, choose, minor_foretold, four_steps, quotient_steps, result_steps, steps_foretold, whole_steps}
use Rattle.words.proofs.Sums.{sum_same, sums_same, sum-add, sum-times, quotient-steps}

back : (i : ℕ) → suc i - 1 ≡ i
back i = omega arith

-- BY ROWS
abbrev weight : (k p : ℕ) → ℕ
weight k p = 4 * (k - p) + 1

module _ (w : ℕ → ℕ) where
  abbrev F : ℕ → ℕ → ℕ
  F = quotient_steps w

  abbrev pair : ℕ → ℕ
  pair p = w p + w (p - 1)

  on : (i : ℕ) → F i i ≡ pair i
  unfolding quotient_steps
  on i = ap (λ b. cond b (pair i) (four_steps w (min i i))) (eq-eqb i i refl)

  off : (i j p : ℕ) → (i ≡ j → ⊥) → min i j ≡ p → F i j ≡ 2 * pair p
  unfolding quotient_steps
  off i j p d e = ap₂ (λ b q. cond b (pair i) (four_steps w q)) (ne_eqb i j d) e ∙ omega arith

  -- a row and a column more
  more : (k p : ℕ) → p ≤ k → weight (suc k) p * pair p ≡ weight k p * pair p + (F p (suc k) + F (suc k) p)
  more k p l =
      let e : suc k - p ≡ suc (k - p) = omega arith in
      let a = off p (suc k) p (λ z. omega arith) (min-eq_left (omega arith)) in
      let b = off (suc k) p p (λ z. omega arith) (min-eq_right (omega arith)) in
      ap (λ d. (4 * d + 1) * pair p) e ∙ omega arith

  -- the factors whose lesser index is p: one on the diagonal of two minors, and 2 (k - p) off it of four
  result-by-rows : (k : ℕ) → result_steps w k ≡ sum_over k (λ p. (4 * (k - p) + 1) * (w p + w (p - 1)))
  unfolding sum_over
  result-by-rows zero = refl
  result-by-rows (suc k) =
      let a = sum-add k (λ i. sum_over k (F i)) (λ i. F i (suc k)) in
      let b = sum-add k (λ p. weight k p * pair p) (λ p. F p (suc k) + F (suc k) p) in
      let c = sum-add k (λ p. F p (suc k)) (F (suc k)) in
      let d = ap (λ x. (4 * x + 1) * pair (suc k)) (sub_self (suc k)) in
      omega (arith, result-by-rows k, on (suc k), sum_same k _ _ (λ p h. more k p h.1))

-- Pascal: the two minors on the diagonal together
pair-foretold : (m n p : ℕ) → minor_foretold m n (suc p) + minor_foretold m n p ≡ m * (choose (n - 1) p * (n * n - n))
unfolding choose
pair-foretold m n zero = omega arith
pair-foretold m zero (suc p) = omega arith
pair-foretold m (suc zero) (suc p) = omega arith
pair-foretold m (suc (suc n)) (suc p) = let e : suc (suc n) - 2 ≡ n = omega arith in rw (e, back (suc n)) (omega arith)

-- of k rows of m joined sources of n rows, c more being clamped
pub total-by-rows : (m n c k : ℕ)
    → result_steps (λ p. minor_foretold m n (c + p)) k ≡ m * (n * n - n) * sum_over k (λ p. (4 * (k - p) + 1) * choose (n - 1) (c + (p - 1)))
total-by-rows m n c k = result-by-rows _ k ∙ sum_same k _ _ by ∙ sum-times k (m * (n * n - n)) _
  where
    by : (p : ℕ) → In k p
        → weight k p * (minor_foretold m n (c + p) + minor_foretold m n (c + (p - 1))) ≡ m * (n * n - n) * (weight k p * choose (n - 1) (c + (p - 1)))
    by zero h = absurd (omega (arith, h.0))
    by (suc p) h = let e : c + suc p ≡ suc (c + p) = omega arith in rw (back p, e, pair-foretold m n (c + p)) (omega arith)

-- none clamped
pub none-clamped : (m n k : ℕ) → result_steps (λ p. minor_foretold m n (0 + p)) k ≡ result_steps (minor_foretold m n) k
none-clamped m n k = sums_same k _ _ (λ i j x y. quotient-steps _ _ (λ p. let e : 0 + p ≡ p = omega arith in ap (minor_foretold m n) e) i j)

-- A ROW OF PASCAL'S TRIANGLE, weighted
abbrev row : (k n : ℕ) → (ℕ → ℕ) → ℕ
row k n f = sum_over k (λ p. f p * choose n (p - 1))

first : (k : ℕ) (f : ℕ → ℕ) → row (suc k) 0 f ≡ f 1
unfolding sum_over choose
first zero f = omega arith
first (suc k) f = rw (back (suc k)) (omega (arith, first k f))

pascal : (k n : ℕ) (f : ℕ → ℕ) → row (suc k) (suc n) f ≡ row (suc k) n f + row k n (λ p. f (suc p))
unfolding sum_over choose
pascal zero n f = omega arith
pascal (suc k) n f = rw (back (suc k)) (omega (arith, pascal k n f, ap (λ i. f (suc (suc k)) * choose n i) (back k)))

weighted : (k n : ℕ) → n ≤ k → row (suc k) n (weight (suc k)) + 2 ^ n * (2 * n) ≡ 2 ^ n * (4 * k + 1)
weighted k zero l = omega (arith, first k (weight (suc k)))
weighted zero (suc n) l = absurd (omega arith)
weighted (suc k) (suc n) l =
    let e : row (suc k) n (λ p. weight (suc (suc k)) (suc p)) ≡ row (suc k) n (weight (suc k)) = simp suc-sub-suc in
    rw (two-pow-succ n) (omega (arith, pascal (suc k) n (weight (suc (suc k))), weighted (suc k) n (omega arith), weighted k n (omega arith)))

-- THE TOTAL for all rows: m n (n - 1) (2n - 1) 2^(n - 1)
pub whole-total : (m n : ℕ) → result_steps (minor_foretold m n) n ≡ whole_steps m n
whole-total m zero = sym (none-clamped m 0 0) ∙ total-by-rows m 0 0 0 ∙ omega arith
whole-total m (suc k) =
    let s : suc k * suc k - suc k ≡ suc k * k = omega arith in
    let d : 2 * suc k - 1 ≡ 2 * k + 1 = omega arith in
    let r : row (suc k) k (weight (suc k)) ≡ (2 * k + 1) * 2 ^ k = omega (arith, weighted k k (omega arith)) in
    let z : (p : ℕ) → In (suc k) p → weight (suc k) p * choose k (0 + (p - 1)) ≡ weight (suc k) p * choose k (p - 1)
    = λ p h. let e : 0 + (p - 1) ≡ p - 1 = omega arith in ap (λ i. weight (suc k) p * choose k i) e in
    sym (none-clamped m (suc k) (suc k)) ∙ total-by-rows m (suc k) 0 (suc k) ∙ rw (s, d, back k, sum_same (suc k) _ _ z, r)

-- of an operation that joins them
pub joined-whole : {A : Type 0} (n : ℕ) (L : List (Step A)) → steps_foretold n (joined L) ≡ whole_steps (length L) n
joined-whole n L = whole-total (length L) n
