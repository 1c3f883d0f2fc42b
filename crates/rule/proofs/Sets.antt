-- R by masks: what the search finds is the formula's set, of j - 1 rows (latest-mask, latest-mask-turned); the minors with R alone (alone-ready, alone-answer)
-- and with row i put in (with-ready, with-answer, with_rows).
use mathlib.Core.Path.{◌≡◌, sym, ap, ap₂, ◌∙◌, subst}
use mathlib.Core.Bool.{Bool, true, false}
use mathlib.Core.List.{List}
use Prim.Native.Nat.{ℕ, suc, ◌+◌, ◌-◌, ◌*◌, ◌^◌, ◌≤◌, ◌<◌}
use native.Mathlib.Omega.{arith}
use borrow.Author.Tests.{lt-ltb}
use lib.Pow.{pow_mono}
use Rattle.number.specs.declared.Number.{Number}
use Rattle.number.specs.Number.{rounded}
use Rattle.rowset.specs.Mask.{digit, mask_count, mask_run, mask_has, mask_put, mask_replaced}
use Rattle.rowset.proofs.Bit.{has-beyond}
use Rattle.rowset.proofs.Masks.{mask-put, put-below, of_mask-length}
use Rattle.rowset.proofs.Counts.{mask-count, mask-run, run-below, run-count}
use Rattle.words.specs.RowSet.{RowSet, count, put, all_before, rows, of_mask}
use Rattle.words.specs.Walk.{minor}
use Rattle.words.specs.Formula.{latest_before, Divisible}
use Rattle.words.specs.Operation.{joined_word}
use Rattle.words.proofs.RowSets.{length-rows}
use Rattle.words.proofs.Runs.{count-rows}
use Rattle.words.proofs.Foretold.{rows_before, count-put}
use Rattle.words.proofs.Formulas.{latest-candidate}
use Rattle.walk.specs.Lent.{steps_of}
use Rattle.presence.specs.Held.{latest_held}
use Rattle.presence.proofs.Search.{before-mask}
use Rattle.presence.proofs.Found.{found}
use Rattle.rule.specs.declared.Chosen.{Chosen}
use Rattle.rule.specs.Chosen.{size_of, chosen_minor, turned_by, Workable}
use Rattle.rule.specs.Latest.{alone_of, with_row, Sides, LatestMask}
use Rattle.rule.proofs.Asked.{size_few}

-- R has j - 1 rows: it is sought among the rows 1 .. j - 1 too
module _ (k : ℕ) (few : k ≤ 8) (M : RowSet → RowSet → Number) (d : Divisible rounded k M) (i j : ℕ) (low : 1 ≤ j) (order : j ≤ i) (high : i ≤ k) where
  pub latest-rows : count (latest_before rounded k M i j) ≡ j - 1
  latest-rows =
      (latest-candidate rounded k M i j (rows k 1 (j - 1)) (length-rows k 1 (j - 1))
      (record {
        before = rows_before k 1 (j - 1) i (omega arith);
        many = count-rows k 1 (j - 1) (omega arith) (omega arith) ∙ omega arith;
        nonzero = d.leading (j - 1) (omega arith);
      })).many

suc-pred : (i : ℕ) → 1 ≤ i → suc (i - 1) ≡ i
suc-pred i l = omega arith

-- WHAT THE SEARCH FINDS
module _ (c : Chosen) {f : List ℕ} (P : Workable c f) (v : List Bool) (i j s : ℕ) (low : 1 ≤ j) (order : j ≤ i) (high : i ≤ size_of c) where
  mask-of : (M : RowSet → RowSet → Number) → Divisible rounded (size_of c) M → of_mask (size_of c) s ≡ latest_before rounded (size_of c) M i j → s < 2 ^ (i - 1)
      → LatestMask (size_of c) M i j s
  mask-of M d e l =
      let g : i - 1 ≤ size_of c = omega arith in
      let h : 2 ^ (i - 1) ≤ 2 ^ size_of c = pow_mono g in
      record {
        set = e;
        below = l;
        rows = sym (mask-count (size_of c) s (size_few c P) (omega arith)) ∙ ap count e
            ∙ latest-rows (size_of c) (size_few c P) M d i j low order high;
      }

  pub latest-mask : Sides c f false v → of_mask (mask_count c.rows - c.clamped) s ≡ latest_held v c.rows c.clamped i (j - 1) → s < 2 ^ (i - 1)
      → LatestMask (size_of c) (turned_by false (chosen_minor c f)) i j s
  unfolding chosen_minor
  latest-mask t e l =
      mask-of (turned_by false (chosen_minor c f)) (P.divisible false)
      (e ∙ found c.word.n c.rows c.columns c.clamped P.few P.rows P.columns P.equal P.held
      (minor rounded (joined_word c.word.n (steps_of c.word f))) v t i j (omega arith)) l

  pub latest-mask-turned : Sides c f true v → of_mask (mask_count c.columns - c.clamped) s ≡ latest_held v c.columns c.clamped i (j - 1)
      → s < 2 ^ (i - 1) → LatestMask (size_of c) (turned_by true (chosen_minor c f)) i j s
  unfolding chosen_minor
  latest-mask-turned t e l =
      mask-of (turned_by true (chosen_minor c f)) (P.divisible true)
      (ap (λ (k : ℕ). of_mask (k - c.clamped) s) P.equal ∙ e
      ∙ found c.word.n c.columns c.rows c.clamped P.few P.columns P.rows (sym P.equal) (omega (arith, P.held, P.equal))
      (λ I J. minor rounded (joined_word c.word.n (steps_of c.word f)) J I) v t i j (omega (arith, P.equal))
      ∙ ap (λ (k : ℕ). latest_before rounded (k - c.clamped) (turned_by true (chosen_minor c f)) i j) (sym P.equal)) l

-- WITH ROW i
-- row i put in by replacing it by itself
module _ (c : Chosen) {f : List ℕ} (P : Workable c f) (M : RowSet → RowSet → Number) (i j s : ℕ) (m : LatestMask (size_of c) M i j s) (low : 1 ≤ j)
    (order : j ≤ i) (high : i ≤ size_of c) where
  pub latest-below : s < 2 ^ size_of c
  latest-below = let g : i - 1 ≤ size_of c = omega arith in let h : 2 ^ (i - 1) ≤ 2 ^ size_of c = pow_mono g in omega (arith, m.below)

  pub latest-256 : s < 256
  latest-256 = let h : 2 ^ size_of c ≤ 2 ^ 8 = pow_mono (size_few c P) in omega (arith, latest-below)

  pub alone-ready : (t : ℕ) → t ≡ mask_run 1 (j - 1) → (s < 2 ^ size_of c) × (t < 2 ^ size_of c) × (mask_count s ≡ mask_count t)
  alone-ready t e = (
    latest-below,
    subst (λ (x : ℕ). x < 2 ^ size_of c) (sym e) (run-below (size_of c) 1 (j - 1) (omega arith)),
    m.rows ∙ sym (ap mask_count e ∙ run-count 1 (j - 1) (omega arith) (omega arith) (omega (arith, size_few c P)) ∙ omega arith),
  )

  pub alone-answer : (t : ℕ) → t ≡ mask_run 1 (j - 1) → M (of_mask (size_of c) s) (of_mask (size_of c) t) ≡ alone_of (size_of c) M i j
  alone-answer t e = ap₂ M m.set (ap (of_mask (size_of c)) e ∙ mask-run (size_of c) 1 (j - 1) (size_few c P) (omega arith) (omega (arith, size_few c P)))

  before : all_before i (of_mask (size_of c) s) ≡ true
  before = before-mask (size_of c) i s (size_few c P) (omega (arith, size_few c P)) latest-below ∙ lt-ltb s (2 ^ (i - 1)) m.below

  free : mask_has i s ≡ false
  free = subst (λ (x : ℕ). mask_has x s ≡ false) (suc-pred i (omega arith)) (has-beyond (i - 1) (i - 1) s m.below (omega arith))

  same : mask_put i false s ≡ s
  unfolding mask_put
  same = ap (λ (b : Bool). s - digit b * 2 ^ (i - 1) + 0 * 2 ^ (i - 1)) free ∙ omega arith

  module _ (u t : ℕ) (eu : u ≡ mask_replaced i i s) (e : t ≡ mask_run 1 j) where
    put_is : u ≡ mask_put i true s
    unfolding mask_replaced
    put_is = eu ∙ ap (mask_put i true) same

    put-set : of_mask (size_of c) u ≡ put i true (of_mask (size_of c) s)
    put-set = ap (of_mask (size_of c)) put_is ∙ mask-put (size_of c) s latest-below i true (omega arith) high

    put-lt : u < 2 ^ size_of c
    put-lt = subst (λ (x : ℕ). x < 2 ^ size_of c) (sym put_is) (put-below (size_of c) s latest-below i true (omega arith) high)

    pub with_rows : mask_count u ≡ j
    with_rows =
        sym (mask-count (size_of c) u (size_few c P) put-lt) ∙ ap count put-set
        ∙ count-put i (of_mask (size_of c) s) (omega arith) (omega (arith, of_mask-length (size_of c) s)) before
        ∙ ap suc (mask-count (size_of c) s (size_few c P) latest-below ∙ m.rows) ∙ omega arith

    pub with-ready : (u < 2 ^ size_of c) × (t < 2 ^ size_of c) × (mask_count u ≡ mask_count t)
    with-ready = (
      put-lt,
      subst (λ (x : ℕ). x < 2 ^ size_of c) (sym e) (run-below (size_of c) 1 j (omega arith)),
      with_rows ∙ sym (ap mask_count e ∙ run-count 1 j (omega arith) (omega arith) (omega (arith, size_few c P)) ∙ omega arith),
    )

    pub with-answer : M (of_mask (size_of c) u) (of_mask (size_of c) t) ≡ with_row (size_of c) M i j
    with-answer =
        ap₂ M (put-set ∙ ap (put i true) m.set) (ap (of_mask (size_of c)) e ∙ mask-run (size_of c) 1 j (size_few c P) (omega arith)
        (omega (arith, size_few c P)))
