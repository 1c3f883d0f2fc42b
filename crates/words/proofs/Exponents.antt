-- HOW FAR THE EXPONENTS OF A RUN REACH, where the sources' factors off the diagonal have exponents from -1000 to 1000 or are zero, and those on it are stored
-- (Walkable): every number at hand while the letters of a joined word are applied (walk-ranged), and while the entries of D are (multiplied-ranged,
-- divided-ranged), the products of two minors (product-ranged) and the new factors (quotient-ranged, ratio-ranged). Six sources of eight rows stay within what
-- the operations of numbers take (run-reach).
use mathlib.Core.Path.{◌≡◌, refl, sym, ap, ◌∙◌, subst}
use mathlib.Core.Bool.{Bool, true, false, cond}
use mathlib.Core.List.{List, ◌++◌}
use Prim.Native.Nat.{ℕ, ◌+◌, ◌*◌, ◌≤◌, ◌<◌}
use native.Mathlib.Nat.{mul-le-mul}
use native.Mathlib.Omega.{arith}
use lib.ListN.{length}
use Rattle.number.specs.declared.Direction.TheVariants.{Nearest}
use Rattle.number.specs.declared.Number.{Number}
use Rattle.number.specs.Number.{bias, reach, zero_number, one_number, product_of, quotient_of, rounded, Ranged, Stored}
use Rattle.number.proofs.Reach.{ranged-more, ranged-zero, ranged-one, ranged-stored, ranged-sum, ranged-product, ranged-quotient}
use Rattle.words.specs.RowSet.{In, RowSet, equal}
use Rattle.words.specs.Word.{Word, total}
use Rattle.words.specs.Walk.{State, one_at, scaled, walk}
use Rattle.words.specs.Operation.{Step, joined_word}
use Rattle.words.proofs.Walks.{All, all-behind}
use Rattle.words.specs.Sources.{Sources, Walkable, run_reach}
use Rattle.words.proofs.Steps.{Weights, joined-weights}
use Rattle.words.proofs.Related.{Related, repeated, letter_cost, scaled-related, after, repeated-measure, after-measure, walk-related}
use Rattle.words.proofs.Alike.{letters-self}
use Rattle.words.proofs.Counts.{total-append, joined-square}

-- a weight times a number, before the sum
pub weighed-ranged : {r : ℕ} {w x : Number} → r + 1064 ≤ bias → Ranged 1000 w → Ranged r x → Ranged (r + 1033) (product_of w x)
weighed-ranged room s h = ranged-more (omega arith) (ranged-product Nearest s h (omega arith))

-- THE GRADES are exponents from -r to r, where there is room; the second number is not looked at. A letter, or an entry of D, adds 1035 at most:
-- a product with a stored number 1033, or a quotient by one 1032, and the sum 2.
abbrev RangedBy : ℕ → Number → Number → Type 0
RangedBy r x y = r + 64 ≤ bias → Ranged r x

abbrev ranged-related : Related rounded rounded ℕ RangedBy
ranged-related = record {
  Weight = λ w v. Ranged 1000 w;
  Entry = λ e f. Stored e;
  after_move = λ r. r + 1035;
  rel-stays = λ r x y h room. ranged-more (omega arith) (h (omega arith));
  rel-moves = λ r x x' w y y' v h s g room. ranged-more (omega arith)
      (ranged-sum Nearest {r = r + 1033} (ranged-more (omega arith) (h (omega arith))) (weighed-ranged (omega arith) s (g (omega arith))) (omega arith));
  after_entry = λ r. r + 1035;
  rel-skips = λ r x y h room. ranged-more (omega arith) (h (omega arith));
  rel-times = λ r x e y f h s room. ranged-more (omega arith) (ranged-product Nearest (h (omega arith)) (ranged-stored s) (omega arith));
  rel-over = λ r x e y f h s room. ranged-more (omega arith) (ranged-quotient Nearest (h (omega arith)) (ranged-stored s) (omega (arith, s.low)));
}

-- ANY WORD of such weights and entries, from any state
pub state-ranged : (n : ℕ) (W : Word Number) → All (Weights (Ranged 1000) Stored n) W → (r : ℕ) (ω : State rounded)
    → ((S : RowSet) → length S ≡ n → Ranged r (ω S))
    → r + total (letter_cost 1035 (n * 1035)) W + 64 ≤ bias → (S : RowSet) → length S ≡ n
    → Ranged (r + total (letter_cost 1035 (n * 1035)) W) (walk rounded W ω S)
state-ranged n W h r ω start room S s =
    let e : after rounded rounded ℕ RangedBy ranged-related n W r ≡ r + total (letter_cost 1035 (n * 1035)) W =
    after-measure rounded rounded ℕ RangedBy ranged-related n (λ g. g) 1035 1035 (λ g. refl) (λ g. refl) W r in
    subst (λ k. Ranged k (walk rounded W ω S)) e
    (walk-related rounded rounded ℕ RangedBy ranged-related n W W (letters-self (Ranged 1000) Stored n W h) r ω ω (λ T t room. start T t) S s (omega arith))

-- WHILE D IS APPLIED: x multiplied, or divided, by the entries of some rows
module _ (e : ℕ → Number) (S : RowSet) (stored : (i : ℕ) → In (length S) i → Stored (e i)) (r : ℕ) (x : Number) (h : Ranged r x)
    (room : r + length S * 1035 + 64 ≤ bias) where
  scaled-ranged : (op : Number → Number → Number) → ((r : ℕ) (x e y f : Number) → RangedBy r x y → Stored e → RangedBy (r + 1035) (op x e) (op y f))
      → Ranged (r + length S * 1035) (scaled rounded op e S x)
  scaled-ranged op step =
      let d : repeated (length S) (λ r. r + 1035) r ≡ r + length S * 1035 =
      repeated-measure rounded rounded ℕ RangedBy ranged-related (length S) (λ g. g) 1035 1035 (λ g. refl) (λ g. refl) (length S) r in
      subst (λ k. Ranged k (scaled rounded op e S x)) d
      (scaled-related rounded rounded ℕ RangedBy ranged-related (length S) op op step e e (λ i p q. stored i (p, q)) S (omega arith) r x x (λ room. h)
      (omega arith))

  pub multiplied-ranged : Ranged (r + length S * 1035) (scaled rounded product_of e S x)
  multiplied-ranged = scaled-ranged product_of ranged-related.rel-times

  pub divided-ranged : Ranged (r + length S * 1035) (scaled rounded quotient_of e S x)
  divided-ranged = scaled-ranged quotient_of ranged-related.rel-over

-- A RUN of m sources of n rows: how far its minors reach, and each number on the way to one
one-ranged : (J S : RowSet) → Ranged 31 (one_at rounded J S)
unfolding one_at
one-ranged J S = by (equal J S)
  where
    by : (t : Bool) → Ranged 31 (cond t one_number zero_number)
    by true = ranged-one
    by false = ranged-zero 31

module _ (n : ℕ) (L : List (Step Number)) (walkable : Sources (Walkable n) L) (some : 1 ≤ n) where
  -- the letters W of the joined word applied so far, U not yet
  pub walk-ranged : (U W : Word Number) → U ++ W ≡ joined_word n L → run_reach (length L) n + 64 ≤ bias → (J S : RowSet) → length S ≡ n
      → Ranged (run_reach (length L) n) (walk rounded W (one_at rounded J) S)
  walk-ranged U W e room J S s =
      let c : ℕ = total (letter_cost 1035 (n * 1035)) W in
      let d : total (letter_cost 1035 (n * 1035)) U + c ≡ 1035 * (length L * (n * n)) =
      sym (total-append (letter_cost 1035 (n * 1035)) U W) ∙ ap (total (letter_cost 1035 (n * 1035))) e ∙ joined-square 1035 n L some in
      ranged-more (omega arith)
      (state-ranged n W (all-behind (Weights (Ranged 1000) Stored n) U W
      (subst (All (Weights (Ranged 1000) Stored n)) (sym e) (joined-weights (Ranged 1000) Stored n L walkable)))
      31 (one_at rounded J) (λ T t. one-ranged J T) (omega arith) S s)

-- THE FORMULAS: products of two minors, and the quotient of two products or of two minors
module _ (r : ℕ) (room : 4 * r + 194 ≤ bias) where
  pub product-ranged : {a b : Number} → Ranged r a → Ranged r b → Ranged (2 * r + 33) (product_of a b)
  product-ranged h g = ranged-more (omega arith) (ranged-product Nearest h g (omega arith))

  pub quotient-ranged : {p q : Number} → Ranged (2 * r + 33) p → Ranged (2 * r + 33) q → 0 < q.m → Ranged (4 * r + 98) (quotient_of p q)
  quotient-ranged h g q = ranged-more (omega arith) (ranged-quotient Nearest h g q)

  pub ratio-ranged : {a b : Number} → Ranged r a → Ranged r b → 0 < b.m → Ranged (4 * r + 98) (quotient_of a b)
  ratio-ranged h g q = quotient-ranged (ranged-more (omega arith) h) (ranged-more (omega arith) g) q

-- SIX SOURCES OF EIGHT ROWS at most: every number of a run is one that the operations take
pub run-reach : (m n : ℕ) → m ≤ 6 → n ≤ 8 → 4 * run_reach m n + 98 ≤ reach
run-reach m n p q = let h : m * (n * n) ≤ 6 * (8 * 8) = mul-le-mul p (mul-le-mul q q) in omega arith

pub walk-reach : (n : ℕ) (L : List (Step Number)) → Sources (Walkable n) L → 1 ≤ n → n ≤ 8 → length L ≤ 6 → (U W : Word Number) → U ++ W ≡ joined_word n L
    → (J S : RowSet) → length S ≡ n
    → Ranged reach (walk rounded W (one_at rounded J) S)
walk-reach n L h some few six U W e J S s =
    let k : 4 * run_reach (length L) n + 98 ≤ reach = run-reach (length L) n six few in
    ranged-more (omega arith) (walk-ranged n L h some U W e (omega arith) J S s)
