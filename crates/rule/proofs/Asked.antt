-- The minors that the formulas ask for: at masks that the walk takes (asked-ready), as the definition has them and fit to be multiplied and divided by
-- (asked-answer, chosen-ranged), with as many rows (asked-rows), in the order asked for (in-order); of consecutive rows (run-ready, run-answer, run-rows).
use mathlib.Core.Path.{◌≡◌, refl, sym, ap, ap₂, ◌∙◌, subst}
use mathlib.Core.Bool.{Bool, true, false, cond}
use mathlib.Core.List.{List, []}
use Prim.Native.Nat.{ℕ, suc, ◌+◌, ◌-◌, ◌*◌, ◌^◌, ◌≤◌, ◌<◌}
use native.Mathlib.Nat.{mul-le-mul, min-le_left}
use native.Mathlib.Omega.{arith}
use lib.ListN.{length, take, length-map, length-take}
use lib.Pow.{pow_mono}
use Rattle.number.specs.Number.{rounded, Ranged}
use Rattle.number.specs.declared.Number.{Number}
use Rattle.number.proofs.Reach.{ranged-more}
use Rattle.rowset.specs.Mask.{mask_count, mask_among, mask_run, mask_with_first}
use Rattle.rowset.proofs.Masks.{of_mask-length}
use Rattle.rowset.proofs.Counts.{mask-count, mask-among, among_below, among-count, mask-run, run-count, run-below}
use Rattle.words.specs.RowSet.{RowSet, count, among, rows, of_mask, with_first}
use Rattle.rowset.proofs.First.{mask_first, first_below, first-mask-count}
use Rattle.words.specs.Walk.{minor}
use Rattle.words.specs.Operation.{joined_word}
use Rattle.words.proofs.Chosen.{length-among}
use Rattle.words.proofs.FirstRows.{long-first}
use Rattle.words.specs.Sources.{run_reach}
use Rattle.words.proofs.Exponents.{walk-ranged}
use Rattle.walk.specs.Lent.{numbered, step_at, steps_of}
use Rattle.walk.proofs.Minors.{rows_few}
use Rattle.rule.specs.declared.Chosen.{Chosen}
use Rattle.rule.specs.Chosen.{size_of, chosen_rows, chosen_columns, chosen_minor, turned_by, Workable}

-- TWO SETS IN THE ORDER ASKED FOR, s and t
pub record InOrder (turned : Bool) (m : ℕ) (M : RowSet → RowSet → Number) (i j s t : ℕ) : Type 0 where
  pub row-set : s < 2 ^ m
  pub column-set : t < 2 ^ m
  pub equal : mask_count s ≡ mask_count t
  pub rows : mask_count s ≡ mask_count i
  pub same : M (of_mask m s) (of_mask m t) ≡ turned_by turned M (of_mask m i) (of_mask m j)

pub in-order : (turned : Bool) (m : ℕ) (M : RowSet → RowSet → Number) (i j : ℕ) → i < 2 ^ m → j < 2 ^ m → mask_count i ≡ mask_count j
    → (p : ℕ × ℕ) → p ≡ cond turned (j, i) (i, j) → InOrder turned m M i j p.0 p.1
in-order true m M i j bi bj e p q =
    subst (λ (x : ℕ × ℕ). InOrder true m M i j x.0 x.1) (sym q) (record { row-set = bj; column-set = bi; equal = sym e; rows = sym e; same = refl })
in-order false m M i j bi bj e p q =
    subst (λ (x : ℕ × ℕ). InOrder false m M i j x.0 x.1) (sym q) (record { row-set = bi; column-set = bj; equal = e; rows = refl; same = refl })

module _ (c : Chosen) {f : List ℕ} (P : Workable c f) where
  few-masks : 2 ^ c.word.n ≤ 2 ^ 8
  few-masks = pow_mono P.few

  -- sets that count among the chosen rows, among the chosen columns
  asked-below : (s : ℕ) → (mask_among c.rows s < 2 ^ c.word.n) × (mask_among c.columns s < 2 ^ c.word.n)
  asked-below s = (among_below c.word.n c.rows s P.few P.rows, among_below c.word.n c.columns s P.few P.columns)

  -- the clamped rows and the others
  abbrev k : ℕ
  k = c.clamped

  parted : k + size_of c ≡ mask_count c.rows
  parted = omega (arith, P.held)

  rows_all : mask_count c.rows ≤ 8
  rows_all = omega (arith, P.few, rows_few c.word.n c.rows P.few P.rows)

  pub size_few : size_of c ≤ 8
  size_few = omega (arith, rows_all)

  pub clamped-few : c.clamped ≤ 8
  clamped-few = omega (arith, rows_all, P.held)

  with-below : (s : ℕ) → s < 2 ^ size_of c → mask_with_first k s < 2 ^ mask_count c.rows
  with-below s b = subst (λ (m : ℕ). mask_with_first k s < 2 ^ m) parted (first_below (size_of c) k s clamped-few b)

  with-count : (s : ℕ) → s < 2 ^ size_of c → mask_count (mask_with_first k s) ≡ k + mask_count s
  with-count s b = first-mask-count (size_of c) k s clamped-few b (omega (arith, parted, rows_all))

  with-set : (s : ℕ) → s < 2 ^ size_of c → of_mask (mask_count c.rows) (mask_with_first k s) ≡ with_first k (of_mask (size_of c) s)
  with-set s b = ap (λ (m : ℕ). of_mask m (mask_with_first k s)) (sym parted) ∙ mask_first (size_of c) k s clamped-few b

  -- as many rows, and the clamped ones
  pub asked-rows : (i i' : ℕ) → i < 2 ^ size_of c → i' ≡ mask_among c.rows (mask_with_first c.clamped i) → mask_count i' ≡ c.clamped + mask_count i
  asked-rows i i' b e = ap mask_count e ∙ among-count c.rows (mask_with_first k i) (omega (arith, P.rows, few-masks)) (with-below i b) ∙ with-count i b

  asked-count : (i j : ℕ) → i < 2 ^ size_of c → j < 2 ^ size_of c → mask_count i ≡ mask_count j
      → mask_count (mask_among c.rows (mask_with_first k i)) ≡ mask_count (mask_among c.columns (mask_with_first k j))
  asked-count i j bi bj e =
      among-count c.rows (mask_with_first k i) (omega (arith, P.rows, few-masks)) (with-below i bi) ∙ with-count i bi ∙ ap (λ (m : ℕ). k + m) e
      ∙ sym (among-count c.columns (mask_with_first k j) (omega (arith, P.columns, few-masks))
      (subst (λ (m : ℕ). mask_with_first k j < 2 ^ m) P.equal (with-below j bj)) ∙ with-count j bj)

  chosen-minor : (i j i' j' : ℕ) → i < 2 ^ size_of c → j < 2 ^ size_of c → i' ≡ mask_among c.rows (mask_with_first k i)
      → j' ≡ mask_among c.columns (mask_with_first k j)
      → minor rounded (joined_word c.word.n (steps_of c.word f)) (of_mask c.word.n i') (of_mask c.word.n j')
      ≡ chosen_minor c f (of_mask (size_of c) i) (of_mask (size_of c) j)
  unfolding chosen_minor
  chosen-minor i j i' j' bi bj ei ej =
      ap₂ (minor rounded (joined_word c.word.n (steps_of c.word f)))
      (ap (of_mask c.word.n) ei ∙ mask-among c.word.n c.rows (mask_with_first k i) P.few P.rows ∙ ap (among (chosen_rows c)) (with-set i bi))
      (ap (of_mask c.word.n) ej ∙ mask-among c.word.n c.columns (mask_with_first k j) P.few P.columns
      ∙ ap (λ (m : ℕ). among (chosen_columns c) (of_mask m (mask_with_first k j))) (sym P.equal) ∙ ap (among (chosen_columns c)) (with-set j bj))

  steps-few : length (steps_of c.word f) ≤ 6
  steps-few =
      let k = c.word.count in
      omega (arith, P.six, length-map (take k numbered) (step_at c.word f), length-take k numbered, min-le_left k 6)

  chosen-count : count (chosen_rows c) ≡ mask_count c.rows
  chosen-count = mask-count c.word.n c.rows P.few P.rows

  pub chosen-ranged : (I J : RowSet) → length I ≡ size_of c → Ranged (run_reach 6 8) (chosen_minor c f I J)
  unfolding chosen_minor minor
  chosen-ranged I J li =
      let s : length (steps_of c.word f) * (c.word.n * c.word.n) ≤ 6 * (8 * 8) = mul-le-mul steps-few (mul-le-mul P.few P.few) in
      ranged-more (omega arith)
      (walk-ranged c.word.n (steps_of c.word f) P.walkable P.some [] (joined_word c.word.n (steps_of c.word f)) refl (omega arith)
      (among (chosen_columns c) (with_first k J)) (among (chosen_rows c) (with_first k I))
      (length-among (chosen_rows c) (with_first k I) (long-first k I li ∙ parted ∙ sym chosen-count)
      ∙ of_mask-length c.word.n c.rows))

  -- THE MINOR AT MASKS i AND j that count among the chosen ones behind the clamped; i' and j' are these with the clamped, among all rows
  module _ (i j i' j' : ℕ) (bi : i < 2 ^ size_of c) (bj : j < 2 ^ size_of c) (e : mask_count i ≡ mask_count j)
      (ei : i' ≡ mask_among c.rows (mask_with_first c.clamped i)) (ej : j' ≡ mask_among c.columns (mask_with_first c.clamped j)) where
    pub asked-ready : (i' < 2 ^ c.word.n) × (j' < 2 ^ c.word.n) × (mask_count i' ≡ mask_count j')
    asked-ready = (
      omega (arith, ei, (asked-below (mask_with_first k i)).0),
      omega (arith, ej, (asked-below (mask_with_first k j)).1),
      ap mask_count ei ∙ asked-count i j bi bj e ∙ ap mask_count (sym ej),
    )

    pub asked-answer : (r : Number) → r ≡ minor rounded (joined_word c.word.n (steps_of c.word f)) (of_mask c.word.n i') (of_mask c.word.n j')
        → (r ≡ chosen_minor c f (of_mask (size_of c) i) (of_mask (size_of c) j)) × Ranged (run_reach 6 8) r
    asked-answer r q =
        let g : r ≡ chosen_minor c f (of_mask (size_of c) i) (of_mask (size_of c) j) = q ∙ chosen-minor i j i' j' bi bj ei ej in
        (g, subst (Ranged (run_reach 6 8)) (sym g) (chosen-ranged (of_mask (size_of c) i) (of_mask (size_of c) j) (of_mask-length (size_of c) i)))

  -- CONSECUTIVE ROWS a .. b and columns 1 .. m, s and t their masks
  module _ (a b m s t : ℕ) (ha : 1 ≤ a) (lb : b ≤ size_of c) (e : b + 1 ≡ a + m) (es : s ≡ mask_run a b) (et : t ≡ mask_run 1 m) where
    pub run-rows : mask_count s ≡ m
    run-rows =
        let k = size_few in
        let p : suc b - a ≡ m = omega arith in
        ap mask_count es ∙ run-count a b ha (omega arith) (omega arith) ∙ p

    pub run-ready : (s < 2 ^ size_of c) × (t < 2 ^ size_of c) × (mask_count s ≡ mask_count t)
    run-ready =
        let k = size_few in
        let q : suc m - 1 ≡ m = omega arith in (
          subst (λ (x : ℕ). x < 2 ^ size_of c) (sym es) (run-below (size_of c) a b lb),
          subst (λ (x : ℕ). x < 2 ^ size_of c) (sym et) (run-below (size_of c) 1 m (omega arith)),
          run-rows ∙ sym (ap mask_count et ∙ run-count 1 m (omega arith) (omega arith) (omega arith) ∙ q),
        )

    pub run-answer : {r : Number} (M : RowSet → RowSet → Number) → r ≡ M (of_mask (size_of c) s) (of_mask (size_of c) t)
        → r ≡ M (rows (size_of c) a b) (rows (size_of c) 1 m)
    run-answer M q =
        let k = size_few in
        q ∙ ap₂ M (ap (of_mask (size_of c)) es ∙ mask-run (size_of c) a b k (omega arith) (omega arith))
        (ap (of_mask (size_of c)) et ∙ mask-run (size_of c) 1 m k (omega arith) (omega arith))
