-- Row sets by their heights: how many rows of a set stand above row x (above). Heights fall by 0 or 1 from row to row (above_step), know the set (above-inj),
-- and change by one row where one is put or replaced (above-put, above-replaced). Every such function is a set's (of_heights, above-of_heights).
use mathlib.Core.Path.{◌≡◌, refl, sym, ap, ◌∙◌}
use mathlib.Core.Bool.{Bool, true, false, cond}
use mathlib.Core.List.{[], ◌∷◌}
use Prim.Native.Nat.{ℕ, zero, suc, ◌+◌, ◌-◌, ◌≤◌, ◌<◌, min}
use native.Mathlib.Decide.{ℕ_discrete, dec_le}
use native.Mathlib.Omega.{arith}
use lib.Dec.{ltb}
use lib.ListN.{length}
use borrow.Author.Tests.{ltb-true, ltb-false}
use Rattle.words.specs.RowSet.{In, RowSet, has, put, replaced, count, rows}
use Rattle.words.proofs.RowSets.{has-top, has-under, put-top, put_under, length-put, length-rows}
use Rattle.words.proofs.Runs.{rows_last, rows_out}

-- 1 where row i stands above row x, else 0
abbrev pub stands : ℕ → ℕ → ℕ
stands i x = min 1 (i - x)

-- how many rows of S stand above row x
abbrev pub above : RowSet → ℕ → ℕ
above [] x = 0
above (true ∷ S) x = above S x + stands (suc (length S)) x
above (false ∷ S) x = above S x

pub above-le : (S : RowSet) (x : ℕ) → above S x ≤ length S - x
above-le [] x = omega arith
above-le (true ∷ S) x = omega (arith, above-le S x)
above-le (false ∷ S) x = omega (arith, above-le S x)

pub above_step : (S : RowSet) (x : ℕ) → (above S (suc x) ≤ above S x) × (above S x ≤ above S (suc x) + 1)
above_step [] x = (omega arith, omega arith)
above_step (true ∷ S) x = (omega (arith, above_step S x), omega (arith, above_step S x, above-le S x))
above_step (false ∷ S) x = above_step S x

pub above-inj : (S T : RowSet) → length S ≡ length T → ((x : ℕ) → above S x ≡ above T x) → S ≡ T
above-inj [] [] e h = refl
above-inj [] (y ∷ T) e h = absurd (omega arith)
above-inj (x ∷ S) [] e h = absurd (omega arith)
above-inj (true ∷ S) (true ∷ T) e h =
    let f : length S ≡ length T = omega arith in
    ap (λ U. true ∷ U) (above-inj S T f (λ x. omega (arith, h x, ap (λ n. stands (suc n) x) f)))
above-inj (false ∷ S) (false ∷ T) e h = ap (λ U. false ∷ U) (above-inj S T (omega arith) h)
above-inj (true ∷ S) (false ∷ T) e h = absurd (omega (arith, h (length S), above-le T (length S)))
above-inj (false ∷ S) (true ∷ T) e h = absurd (omega (arith, h (length S), above-le S (length S)))

pub count-above : (S : RowSet) → count S ≡ above S 0
unfolding count
count-above [] = refl
count-above (true ∷ S) = omega (arith, count-above S)
count-above (false ∷ S) = count-above S

-- the first c rows
pub above_rows : (n c x : ℕ) → c ≤ n → above (rows n 1 c) x ≡ c - x
unfolding rows
above_rows zero c x h = omega arith
above_rows (suc n) c x h = elim (ℕ_discrete c (suc n)) [
  | yes e ↦
      let f : length (rows n 1 n) ≡ n = length-rows n 1 n in
      let g : stands (suc (length (rows n 1 n))) x ≡ stands (suc n) x = ap (λ m. stands (suc m) x) f in
      ap (λ m. above (rows (suc n) 1 m) x) e ∙ ap (λ U. above U x) (rows_last n 1 (omega arith)) ∙ omega (arith, g, above_rows n n x (omega arith))
  | no e ↦ ap (λ U. above U x) (rows_out n 1 c (λ p q. e (omega arith))) ∙ above_rows n c x (omega arith)
]

-- ONE ROW: whether it is in
abbrev pub one : Bool → ℕ
one true = 1
one false = 0

pub has_above : (S : RowSet) (i : ℕ) → In (length S) i → above S (i - 1) ≡ above S i + one (has i S)
has_above [] i h = absurd (omega (arith, h.0, h.1))
has_above (x ∷ S) i h = elim (ℕ_discrete i (suc (length S))) [
  | yes e ↦
      let z : i - 1 ≡ length S = omega arith in
      ap (above (x ∷ S)) z ∙ top x ∙ ap (λ b. above (x ∷ S) (suc (length S)) + one b) (sym (has-top x S))
      ∙ ap (λ k. above (x ∷ S) k + one (has k (x ∷ S))) (sym e)
  | no e ↦
      let l : i ≤ length S = omega (arith, h.1) in
      under x l (has_above S i (h.0, l)) ∙ ap (λ b. above (x ∷ S) i + one b) (sym (has-under i x S l))
]
  where
    top : (x : Bool) → above (x ∷ S) (length S) ≡ above (x ∷ S) (suc (length S)) + one x
    top true = omega (arith, above-le S (length S), above-le S (suc (length S)))
    top false = omega (arith, above-le S (length S), above-le S (suc (length S)))

    under : (x : Bool) → i ≤ length S → above S (i - 1) ≡ above S i + one (has i S) → above (x ∷ S) (i - 1) ≡ above (x ∷ S) i + one (has i S)
    under true l e = omega (arith, h.0)
    under false l e = e

-- row i put into S, or out of it
pub above-put : (S : RowSet) (i : ℕ) (y : Bool) (x : ℕ) → In (length S) i
    → above (put i y S) x + cond (has i S) (stands i x) 0 ≡ above S x + cond y (stands i x) 0
above-put [] i y x h = absurd (omega (arith, h.0, h.1))
above-put (z ∷ S) i y x h = elim (ℕ_discrete i (suc (length S))) [
  | yes e ↦
      ap (λ k. above (put k y (z ∷ S)) x + cond (has k (z ∷ S)) (stands k x) 0) e
      ∙ ap (λ U. above U x + cond (has (suc (length S)) (z ∷ S)) (stands (suc (length S)) x) 0) (put-top y z S)
      ∙ ap (λ b. above (y ∷ S) x + cond b (stands (suc (length S)) x) 0) (has-top z S) ∙ top y z ∙ ap (λ k. above (z ∷ S) x + cond y (stands k x) 0) (sym e)
  | no e ↦
      let l : i ≤ length S = omega (arith, h.1) in
      ap (λ U. above U x + cond (has i (z ∷ S)) (stands i x) 0) (put_under i y z S l)
      ∙ ap (λ b. above (z ∷ put i y S) x + cond b (stands i x) 0) (has-under i z S l) ∙ under z (above-put S i y x (h.0, l))
]
  where
    top : (y z : Bool) → above (y ∷ S) x + cond z (stands (suc (length S)) x) 0 ≡ above (z ∷ S) x + cond y (stands (suc (length S)) x) 0
    top true true = refl
    top true false = omega arith
    top false true = omega arith
    top false false = refl

    under : (z : Bool) → above (put i y S) x + cond (has i S) (stands i x) 0 ≡ above S x + cond y (stands i x) 0
        → above (z ∷ put i y S) x + cond (has i S) (stands i x) 0 ≡ above (z ∷ S) x + cond y (stands i x) 0
    under true e =
        let f : stands (suc (length (put i y S))) x ≡ stands (suc (length S)) x = ap (λ n. stands (suc n) x) (length-put i y S) in
        omega (arith, f, e)
    under false e = e

one-inj : (a b : Bool) → one a ≡ one b → a ≡ b
one-inj true true e = refl
one-inj true false e = absurd (omega arith)
one-inj false true e = absurd (omega arith)
one-inj false false e = refl

stands_same : (k i : ℕ) → 1 ≤ i → (i ≡ k → ⊥) → stands k (i - 1) ≡ stands k i
stands_same k i l e = elim (dec_le k (i - 1)) [ yes h ↦ omega arith | no h ↦ let g : i < k = omega arith in omega arith ]

-- another row stays
pub has-put-other : (S : RowSet) (i k : ℕ) (y : Bool) → (i ≡ k → ⊥) → In (length S) i → In (length S) k → has i (put k y S) ≡ has i S
has-put-other S i k y e h g =
    one-inj _ _ (differ _ _ _ _ _ _ (has k S) y (above-put S k y (i - 1) g) (above-put S k y i g)
    (has_above (put k y S) i (h.0, omega (arith, h.1, length-put k y S))) (has_above S i h))
  where
    same : stands k (i - 1) ≡ stands k i
    same = stands_same k i h.0 e

    differ : (a b c d p q : ℕ) (s t : Bool) → a + cond s (stands k (i - 1)) 0 ≡ c + cond t (stands k (i - 1)) 0
        → b + cond s (stands k i) 0 ≡ d + cond t (stands k i) 0
        → a ≡ b + p → c ≡ d + q → p ≡ q
    differ a b c d p q true true f f' u v = omega (arith, same)
    differ a b c d p q true false f f' u v = omega (arith, same)
    differ a b c d p q false true f f' u v = omega (arith, same)
    differ a b c d p q false false f f' u v = omega (arith, same)

-- row o in place of row a
pub above-replaced : (S : RowSet) (a o x : ℕ) → (a ≡ o → ⊥) → In (length S) a → In (length S) o → has a S ≡ true → has o S ≡ false
    → above (replaced a o S) x + stands a x ≡ above S x + stands o x
above-replaced S a o x e h g p q =
    let f : above (put a false S) x + cond (has a S) (stands a x) 0 ≡ above S x + 0 = above-put S a false x h in
    let f' : above (replaced a o S) x + cond (has o (put a false S)) (stands o x) 0 ≡ above (put a false S) x + stands o x =
    above-put (put a false S) o true x (g.0, omega (arith, g.1, length-put a false S)) in
    let u : cond (has a S) (stands a x) 0 ≡ stands a x = ap (λ b. cond b (stands a x) 0) p in
    let v : cond (has o (put a false S)) (stands o x) 0 ≡ 0 = ap (λ b. cond b (stands o x) 0) (has-put-other S o a false (λ z. e (sym z)) g h ∙ q) in
    omega (arith, f, f', u, v)

-- HEIGHTS of a set of n rows: they fall by 0 or 1 from row to row, and stay as they are from row n on
abbrev pub Heights : ℕ → (ℕ → ℕ) → Type 0
Heights n f = ((x : ℕ) → (f (suc x) ≤ f x) × (f x ≤ f (suc x) + 1)) × ((x : ℕ) → n ≤ x → f x ≡ f n)

pub above-heights : (S : RowSet) (n : ℕ) → length S ≡ n → Heights n (above S)
above-heights S n e = (above_step S, λ x h. omega (arith, above-le S x, above-le S n))

-- the set of the heights f
abbrev pub of_heights : ℕ → (ℕ → ℕ) → RowSet
of_heights zero f = []
of_heights (suc n) f = ltb (f (suc n)) (f n) ∷ of_heights n f

pub length-of_heights : (n : ℕ) (f : ℕ → ℕ) → length (of_heights n f) ≡ n
length-of_heights zero f = refl
length-of_heights (suc n) f = ap suc (length-of_heights n f)

of_heights-below : (n : ℕ) (f : ℕ → ℕ) → ((x : ℕ) → (f (suc x) ≤ f x) × (f x ≤ f (suc x) + 1)) → (x : ℕ) → x ≤ n → above (of_heights n f) x + f n ≡ f x
of_heights-below zero f h x l = let e : f x ≡ f 0 = ap f (omega arith) in omega (arith, e)
of_heights-below (suc n) f h x l = by (ltb (f (suc n)) (f n)) refl (dec_le x n) (of_heights-below n f h x)
  where
    last : x ≡ suc n → f x ≡ f (suc n)
    last e = ap f e

    by : (t : Bool) → ltb (f (suc n)) (f n) ≡ t → Dec (x ≤ n) → (x ≤ n → above (of_heights n f) x + f n ≡ f x) → above (t ∷ of_heights n f) x + f (suc n) ≡ f x
    by true e (yes g) r = omega (arith, r g, ltb-true (f (suc n)) (f n) e, h n, length-of_heights n f)
    by false e (yes g) r = omega (arith, r g, ltb-false (f (suc n)) (f n) e, h n)
    by true e (no g) r = omega (arith, last (omega arith), above-le (of_heights n f) x, length-of_heights n f)
    by false e (no g) r = omega (arith, last (omega arith), above-le (of_heights n f) x, length-of_heights n f)

pub above-of_heights : (n : ℕ) (f : ℕ → ℕ) → Heights n f → f n ≡ 0 → (x : ℕ) → above (of_heights n f) x ≡ f x
above-of_heights n f h z x = elim (dec_le x n) [
  | yes l ↦ omega (arith, of_heights-below n f h.0 x l)
  | no l ↦ omega (arith, h.1 x (omega arith), above-le (of_heights n f) x, length-of_heights n f)
]
