-- Factors row by row: where each stands (`row-by-row-at`, `row-by-row-get`), a list of them given by each of its elements (`row-by-row-list`), so that
-- the same factors are the same list (`row-by-row-same`); and of numbers of rows (`row_below`, `square-below`).
use Prim.Native.Nat.{ℕ, zero, suc, ◌+◌, ◌-◌, ◌*◌, ◌/◌, ◌%◌, ◌<◌}
use native.Mathlib.Nat.{div-add-mod', div-lt_iff_lt-mul, mod-lt, mul-le-mul_right}
use native.Mathlib.Omega.{arith}
use mathlib.Core.Path.{◌≡◌, refl, sym, ap, ◌∙◌}
use mathlib.Core.List.{List, [], ◌∷◌}
use lib.ListN.{length, get_or, get_or-append}
use lib.Seq.{get_or-append-add, ext_get_or}
use Rattle.words.specs.Word.{Factors, ascending}
use Rattle.words.specs.Operation.{row_by_row}
use Rattle.words.specs.RowSet.{In}
use Rattle.words.proofs.RowByRow.{row_by_row-length}

-- NUMBERS OF ROWS
-- 1 .. n, counted from 0
pub index : (n i : ℕ) → In n i → (suc (i - 1) ≡ i) × (i - 1 < n)
index n i h = (omega arith, omega arith)

pub some-rows : (n x : ℕ) → x < n * n → 0 < n
some-rows zero x h = absurd (omega arith)
some-rows (suc n) x h = omega arith

pub square-below : (n i j : ℕ) → i < n → j < n → i * n + j < n * n
square-below n i j h g = omega (arith, mul-le-mul_right n h)

pub row_below : (k x : ℕ) → x < k * k → x / k < k
row_below k x few = (div-lt_iff_lt-mul {k = k} {x = x} {y = k} (some-rows k x few)).1 few

-- FACTORS ROW BY ROW
module _ {A : Type 0} (z : A) where
  ascending-at : (m c a q r : ℕ) (f : ℕ → List A) → ((i : ℕ) → length (f i) ≡ m) → q < c → r < m
      → get_or (ascending a c f) (q * m + r) z ≡ get_or (f (a + q)) r z
  unfolding ascending
  ascending-at m zero a q r f l h g = absurd (omega arith)
  ascending-at m (suc c) a zero r f l h g =
      let i : zero * m + r ≡ r = omega arith in
      let j : a + 0 ≡ a = omega arith in
      rw (i, j) (get_or-append (f a) (ascending (suc a) c f) z r (omega (arith, l a)))
  ascending-at m (suc c) a (suc q) r f l h g =
      let i : suc q * m + r ≡ length (f a) + (q * m + r) = omega (arith, l a) in
      let j : a + suc q ≡ suc a + q = omega arith in
      rw (i, j) (get_or-append-add (f a) (ascending (suc a) c f) (q * m + r) z ∙ ascending-at m c (suc a) q r f l (omega arith) g)

  length-singles : (c a : ℕ) (f : ℕ → A) → length (ascending a c (λ i. f i ∷ [])) ≡ c
  unfolding ascending
  length-singles zero a f = refl
  length-singles (suc c) a f = ap suc (length-singles c (suc a) f)

  single-at : (c a j : ℕ) (f : ℕ → A) → j < c → get_or (ascending a c (λ i. f i ∷ [])) j z ≡ f (a + j)
  unfolding ascending
  single-at zero a j f h = absurd (omega arith)
  single-at (suc c) a zero f h = let e : a + 0 ≡ a = omega arith in rw e
  single-at (suc c) a (suc j) f h = let e : a + suc j ≡ suc a + j = omega arith in rw e (single-at c (suc a) j f (omega arith))

  -- row i + 1 and column j + 1
  pub row-by-row-at : (k : ℕ) (b : Factors A) (i j : ℕ) → i < k → j < k → get_or (row_by_row k b) (i * k + j) z ≡ b (suc i) (suc j)
  unfolding row_by_row
  row-by-row-at k b i j h g =
      let n : suc k - 1 ≡ k = omega arith in
      let r : 1 + i ≡ suc i = omega arith in
      let c : 1 + j ≡ suc j = omega arith in
      rw n
      (ascending-at k k 1 i j (λ r. ascending 1 k (λ c. b r c ∷ [])) (λ r. length-singles k 1 (b r)) h g
      ∙ single-at k 1 j (b (1 + i)) g
      ∙ rw (r, c))

  -- the element at x
  pub row-by-row-get : (k x : ℕ) → x < k * k → (b : Factors A) → get_or (row_by_row k b) x z ≡ b (suc (x / k)) (suc (x % k))
  row-by-row-get k x few b =
      ap (λ (i : ℕ). get_or (row_by_row k b) i z) (sym (div-add-mod' x k))
      ∙ row-by-row-at k b (x / k) (x % k) (row_below k x few) (mod-lt x (some-rows k x few))

  -- a list is the factors row by row if each element is
  pub row-by-row-list : (k : ℕ) (b : Factors A) (l : List A) → length l ≡ k * k
      → ((i j : ℕ) → i < k → j < k → get_or l (i * k + j) z ≡ b (suc i) (suc j)) → l ≡ row_by_row k b
  row-by-row-list k b l e h =
      ext_get_or z l (row_by_row k b) (e ∙ sym (row_by_row-length k b))
      (λ x q.
      let few : x < k * k = omega arith in
      ap (λ (i : ℕ). get_or l i z) (sym (div-add-mod' x k))
      ∙ h (x / k) (x % k) (row_below k x few) (mod-lt x (some-rows k x few))
      ∙ sym (row-by-row-get k x few b))

  -- the same factors
  pub row-by-row-same : (k : ℕ) (b c : Factors A) → ((i j : ℕ) → In k i → In k j → b i j ≡ c i j) → row_by_row k b ≡ row_by_row k c
  row-by-row-same k b c same =
      row-by-row-list k c (row_by_row k b) (row_by_row-length k b)
      (λ i j h g. row-by-row-at k b i j h g ∙ same (suc i) (suc j) (omega arith, omega arith) (omega arith, omega arith))
