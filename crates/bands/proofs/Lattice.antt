-- WHAT THE LATTICE SAYS OF THE SETS R of document 02 (e): leading minors are not zero (leading); the latest set is the highest one, row by row
-- (latest-highest); it grows with the column (grows); where v (i, j) is not zero, v (i - 1, j) is not (pattern), and R (i, j + 1) holds R (i - 1, j) with
-- row i - 1 (takes); on the diagonal it is all rows before (latest-diagonal).
use mathlib.Core.Path.{◌≡◌, refl, sym, ap, ◌∙◌, subst₂, fun_ext}
use mathlib.Core.Bool.{Bool, true, false, cond}
use mathlib.Core.List.{[], ◌∷◌}
use Prim.Native.Nat.{ℕ, zero, suc, ◌+◌, ◌-◌, ◌≤◌, ◌<◌, min, max}
use native.Mathlib.Decide.{dec_le}
use native.Mathlib.Omega.{arith}
use lib.ListN.{length}
use Rattle.words.specs.RowSet.{In, RowSet, has, put, count, rows}
use Rattle.words.proofs.RowSets.{length-put, length-rows}
use Rattle.words.proofs.Latest.{NotAfter}
use Rattle.bands.proofs.Heights.{stands, above, above-le, above_step, above-inj, count-above, above_rows, one, has_above}
use Rattle.bands.proofs.Heights.{above-put, above-heights, of_heights, length-of_heights, above-of_heights}
use Rattle.bands.proofs.Reach.{Topical, topical-min, topical-max, topical-add, topical-sub, heights-topical}

-- between two rows a set has no more rows than there are
pub above-between : (S : RowSet) (x c : ℕ) → (above S (x + c) ≤ above S x) × (above S x ≤ above S (x + c) + c)
above-between S x zero = let e : above S (x + 0) ≡ above S x = ap (above S) (omega arith) in (omega arith, omega arith)
above-between S x (suc c) =
    let e : above S (x + suc c) ≡ above S (suc (x + c)) = ap (above S) (omega arith) in
    let h = above-between S x c in
    let g = above_step S (x + c) in
    (omega arith, omega arith)

-- above any row it has no more rows than in all
pub above-count : (S : RowSet) (x : ℕ) → above S x ≤ count S
above-count S x = let e : above S (0 + x) ≡ above S x = ap (above S) (omega arith) in omega (arith, e, above-between S 0 x, count-above S)

-- ALL ROWS OF S BEFORE ROW i: none above row i - 1
abbrev pub Before : ℕ → RowSet → Type 0
Before i S = above S (i - 1) ≡ 0

pub before-le : (S : RowSet) (i x : ℕ) → Before i S → above S x ≤ i - 1 - x
before-le S i x b = elim (dec_le x (i - 1)) [
  | yes l ↦
      let e : above S (x + (i - 1 - x)) ≡ above S (i - 1) = ap (above S) (omega arith) in
      omega (arith, above-between S x (i - 1 - x))
  | no l ↦
      let e : above S (i - 1 + (x - (i - 1))) ≡ above S x = ap (above S) (omega arith) in
      omega (arith, above-between S (i - 1) (x - (i - 1)))
]

pub before-has : (S : RowSet) (i : ℕ) → In (length S) i → Before i S → has i S ≡ false
before-has S i h b = by (has i S) (has_above S i h)
  where
    by : (t : Bool) → above S (i - 1) ≡ above S i + one t → t ≡ false
    by true e = absurd (omega arith)
    by false e = refl

-- row i put to it
pub above-joined : (S : RowSet) (i x : ℕ) → In (length S) i → Before i S → above (put i true S) x ≡ above S x + stands i x
above-joined S i x h b =
    let e : cond (has i S) (stands i x) 0 ≡ 0 = ap (λ t. cond t (stands i x) 0) (before-has S i h b) in
    omega (arith, e, above-put S i true x h)

-- a set that is at least as high at every row, and does not come after it, is the same set
pub not-after-equal : (S T : RowSet) → length S ≡ length T → ((x : ℕ) → above S x ≤ above T x) → NotAfter T S → T ≡ S
not-after-equal [] [] e h g = refl
not-after-equal [] (y ∷ T) e h g = absurd (omega arith)
not-after-equal (x ∷ S) [] e h g = absurd (omega arith)
not-after-equal (true ∷ S) (true ∷ T) e h g =
    let f : length S ≡ length T = omega arith in
    ap (λ U. true ∷ U) (not-after-equal S T f (λ x. omega (arith, h x, ap (λ n. stands (suc n) x) f)) g)
not-after-equal (false ∷ S) (false ∷ T) e h g = ap (λ U. false ∷ U) (not-after-equal S T (omega arith) h g)
not-after-equal (true ∷ S) (false ∷ T) e h g = absurd (omega (arith, h (length S), above-le T (length S)))
not-after-equal (false ∷ S) (true ∷ T) e h g = absurd g

-- the least of three numbers
least : (p q r : ℕ) → p ≤ q → p ≤ r → min p (min q r) ≡ p
least p q r h g = omega arith

least_above : (a b m s t : ℕ) → m ≡ 0 → t ≡ 0 → b ≡ 0 → min (a + s) (min (b + 1) m) ≡ b + t
least_above a b m s t e f g = omega arith

least_under : (a b m s t : ℕ) → s ≡ 1 → t ≡ 1 → b + 1 ≤ m → b ≤ a → min (a + s) (min (b + 1) m) ≡ b + t
least_under a b m s t e f h g = omega arith

first-columns : (i j x : ℕ) → j ≤ i - 1 → 1 ≤ j → min (j - x) (min (j - 1 - x + 1) (i - 1 - x)) ≡ j - x
first-columns i j x h g = least _ _ _ (omega arith) (omega arith)

joined-rows : (i x a b : ℕ) → 2 ≤ i → b ≤ a → b ≤ i - 1 - 1 - x → min (a + stands i x) (min (b + 1) (i - 1 - x)) ≡ b + stands (i - 1) x
joined-rows i x a b l h g = elim (dec_le (i - 1) x) [
  | yes m ↦ least_above a b _ _ _ (omega arith) (omega arith) (omega arith)
  | no m ↦ least_under a b _ _ _ (omega arith) (omega arith) (omega arith) h
]

-- Rel f g: the minor with columns of heights f and rows of heights g is not zero; of n rows, and not zero as a whole
module _ (n : ℕ) (Rel : (ℕ → ℕ) → (ℕ → ℕ) → Type 0)
    (closed : (φ : ℕ → ℕ → ℕ) → Topical φ → (f g f' g' : ℕ → ℕ) → Rel f g → Rel f' g' → Rel (λ x. φ (f x) (f' x)) (λ x. φ (g x) (g' x)))
    (whole : Rel (λ x. n - x) (λ x. n - x)) where
  rel-equal : {f g f' g' : ℕ → ℕ} → ((x : ℕ) → f x ≡ f' x) → ((x : ℕ) → g x ≡ g' x) → Rel f g → Rel f' g'
  rel-equal h k r = subst₂ Rel (fun_ext h) (fun_ext k) r

  -- LEADING MINORS are not zero
  pub leading : (c : ℕ) → c ≤ n → Rel (λ x. c - x) (λ x. c - x)
  leading c h = rel-equal (λ x. omega arith) (λ x. omega arith) (closed (λ a b. a - (n - c)) (topical-sub (n - c)) _ _ _ _ whole whole)

  -- the minor of the rows S and the columns 1 .. j is not zero
  abbrev pub Stands : ℕ → RowSet → Type 0
  Stands j S = Rel (λ x. j - x) (above S)

  -- THE SET R of row i and column j: j - 1 rows before row i, the highest of those that stand
  pub record Highest (i j : ℕ) (S : RowSet) : Type 0 where
    pub size : length S ≡ n
    pub before : Before i S
    pub stands : Stands (j - 1) S
    pub highest : (T : RowSet) → length T ≡ n → Before i T → Stands (j - 1) T → (x : ℕ) → above T x ≤ above S x

  -- the higher of two sets, row by row
  abbrev join : RowSet → RowSet → RowSet
  join S T = of_heights n (λ x. max (above S x) (above T x))

  above_join : (S T : RowSet) → length S ≡ n → length T ≡ n → (x : ℕ) → above (join S T) x ≡ max (above S x) (above T x)
  above_join S T s t x =
      above-of_heights n (λ x. max (above S x) (above T x)) (heights-topical max topical-max n (above S) (above T) (above-heights S n s) (above-heights T n t))
      (omega (arith, above-le S n, above-le T n)) x

  -- THE LATEST IS THE HIGHEST
  pub latest-highest : (i j : ℕ) (S : RowSet) → length S ≡ n → Before i S → Stands (j - 1) S
      → ((T : RowSet) → length T ≡ n → Before i T → Stands (j - 1) T → NotAfter T S) → Highest i j S
  latest-highest i j S s b r last = record {
    size = s;
    before = b;
    stands = r;
    highest = λ T t c q x.
        let U : RowSet = join S T in
        let u : length U ≡ n = length-of_heights n _ in
        let e : U ≡ S = not-after-equal S U (s ∙ sym u) (λ x. omega (arith, above_join S T s t x))
        (last U u (omega (arith, above_join S T s t (i - 1)))
        (rel-equal (λ x. omega arith) (λ x. sym (above_join S T s t x)) (closed max topical-max _ _ _ _ r q))) in
        omega (arith, above_join S T s t x, ap (λ Z. above Z x) e);
  }

  -- THE PATTERN: v (i, j) is not zero, and so v (i - 1, j) is not
  pub pattern : (i j : ℕ) (S S' : RowSet) → 1 ≤ j → j < i → i ≤ n → Highest i j S → Highest (i - 1) j S' → Stands j (put i true S)
      → Stands j (put (i - 1) true S')
  pattern i j S S' low order high h h' v =
      let b : above S' (i - 1) ≡ 0 = omega (arith, before-le S' (i - 1) (i - 1) h'.before) in
      rel-equal (λ x. first-columns i j x (omega arith) low)
      (λ x. ap (λ a. min a (min (above S' x + 1) (i - 1 - x))) (above-joined S i x (omega arith, omega (arith, h.size)) h.before)
      ∙ joined-rows i x (above S x) (above S' x) (omega arith) (h.highest S' h'.size b h'.stands x) (before-le S' (i - 1) x h'.before)
      ∙ sym (above-joined S' (i - 1) x (omega arith, omega (arith, h'.size)) h'.before))
      (closed min topical-min _ _ _ _ v
      (closed min topical-min _ _ _ _ (closed (λ a b. a + 1) (topical-add 1) _ _ _ _ h'.stands h'.stands) (leading (i - 1) (omega arith))))

  -- R GROWS with the column
  pub grows : (i j : ℕ) (S T : RowSet) → 1 ≤ j → j < i → i ≤ n → Highest i j S → Highest i (suc j) T → (x : ℕ) → above S x ≤ above T x
  grows i j S T low order high h g x =
      let U : RowSet = join S (rows n 1 j) in
      let e : (y : ℕ) → above U y ≡ max (above S y) (j - y) =
      λ y. above_join S (rows n 1 j) h.size (length-rows n 1 j) y ∙ ap (max (above S y)) (above_rows n j y (omega arith)) in
      omega (
        arith,
        e x,
        g.highest U (length-of_heights n _) (omega (arith, e (i - 1), h.before))
            (rel-equal (λ y. omega arith) (λ y. sym (e y)) (closed max topical-max _ _ _ _ h.stands (leading j (omega arith)))) x,
      )

  -- and takes in R of the row before with that row, where v of that row is not zero
  pub takes : (i j : ℕ) (S' T : RowSet) → 1 ≤ j → j < i → i ≤ n → Highest (i - 1) j S' → Highest i (suc j) T → Stands j (put (i - 1) true S')
      → (x : ℕ) → above S' x + stands (i - 1) x ≤ above T x
  takes i j S' T low order high h g v x =
      let e : (y : ℕ) → above (put (i - 1) true S') y ≡ above S' y + stands (i - 1) y =
      λ y. above-joined S' (i - 1) y (omega arith, omega (arith, h.size)) h.before in
      let z : above S' (i - 1) ≤ i - 1 - 1 - (i - 1) = before-le S' (i - 1) (i - 1) h.before in
      omega (
        arith,
        e x,
        g.highest (put (i - 1) true S') (length-put (i - 1) true S' ∙ h.size) (omega (arith, e (i - 1)))
            (rel-equal (λ y. omega arith) (λ y. refl) v) x,
      )

  -- ON THE DIAGONAL it is all the rows before
  pub latest-diagonal : (i : ℕ) (S : RowSet) → In n i → Highest i i S → S ≡ rows n 1 (i - 1)
  latest-diagonal i S p h =
      let e : (x : ℕ) → above (rows n 1 (i - 1)) x ≡ i - 1 - x = λ x. above_rows n (i - 1) x (omega (arith, p.1)) in
      above-inj S (rows n 1 (i - 1)) (h.size ∙ sym (length-rows n 1 (i - 1)))
      (λ x. omega (
        arith,
        e x,
        before-le S i x h.before,
        h.highest (rows n 1 (i - 1)) (length-rows n 1 (i - 1)) (omega (arith, e (i - 1)))
            (rel-equal (λ y. refl) (λ y. sym (e y)) (leading (i - 1) (omega (arith, p.1)))) x,
      ))
