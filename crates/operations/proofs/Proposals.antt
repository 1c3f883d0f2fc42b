-- RESULTS before and after they are kept, by their verdict: what was accepted can be kept (`result-answered`), leaves a good shelf (`result-good`) and stands
-- at its place (`result-held`); a kept result is what the call's definition says, and what is promised of an accepted one holds (`result-kept`,
-- `result-done`). Then the transpose (`transpose-..`).
use Prim.Native.Nat.{ℕ, ◌<◌}
use mathlib.Core.Path.{◌≡◌, refl, sym, ap, ap₂, ◌∙◌}
use mathlib.Core.List.{List}
use lib.IntN.{ℤ}
use Rattle.number.specs.declared.Number.{Number}
use Rattle.words.specs.Word.{Factors, exchanged}
use Rattle.places.specs.declared.Shelf.{Shelf}
use Rattle.verdict.specs.declared.Refusal.{Refusal}
use Rattle.std.specs.Prelude.{Ok, Err}
use Rattle.rule.specs.declared.Refactored.{Refactored}
use Rattle.operations.specs.declared.Operated.{Operated}
use Rattle.table.specs.Table.{factors_of, table_of}
use Rattle.places.specs.Shelf.{rows_at, table_at, factors_at, holding, Fits, Good}
use Rattle.verdict.specs.Verdict.{Verdict, first_of}
use Rattle.places.specs.Tests.{one_source}
use Rattle.operations.specs.Operations.{resulting, done, transpose_call}
use Rattle.operations.specs.Reports.{operated_outcome}
use Rattle.operations.specs.Proposed.{Proposal, behind, proposal, transpose_proposal, kept, Keepable}
use Rattle.operations.specs.Promise.{Holds, PromisedBy}
use Rattle.words.proofs.Banded.{banded-exchanged}
use Rattle.table.proofs.Table.{table-exchanged}
use Rattle.places.proofs.Holding.{fits-table, rows-held, factors-held, good-put}
use Rattle.places.proofs.Verdicts.{after-good, one-accepted}

-- what was accepted can be kept where it fits
proposal-keepable : (t k e x : ℕ) (b : Factors Number) (v : Verdict) → (v ≡ Ok tt → (t < 8) × Fits k (table_of k b)) → Keepable t (proposal v k e x b)
proposal-keepable t k e x b (Ok tt) h = h refl
proposal-keepable t k e x b (Err w) h = tt

-- a result by its verdict, kept: the outcome of the definition
kept-outcome : (s : Shelf) (t k e d : ℕ) (b : Factors Number) (v : Verdict) → operated_outcome (kept s t (proposal v k e d b)) ≡ resulting s t v k (done e d) b
kept-outcome s t k e d b (Ok tt) = refl
kept-outcome s t k e d b (Err w) = refl

pub result-kept : (s : Shelf) (t k e d : ℕ) (b : Factors Number) (v : Verdict) (x : Proposal) (y : Operated) → x ≡ proposal v k e d b
    → (y ≡ kept s t x) × Good y.shelf → (operated_outcome y ≡ resulting s t v k (done e d) b) × Good y.shelf
result-kept s t k e d b v x y f g = (ap operated_outcome (g.0 ∙ ap (kept s t) f) ∙ kept-outcome s t k e d b v, g.1)

-- k rows with the factors b, the bound e and d steps, which fit place t where the call was accepted
module _ (t k e d : ℕ) (b : Factors Number) (v : Verdict) (fits : v ≡ Ok tt → (t < 8) × Fits k (table_of k b)) where
  pub result-answered : (x : Proposal) → x ≡ proposal v k e d b → (x ≡ proposal v k e d b) × Keepable t x
  result-answered x f = (f, rw f (proposal-keepable t k e d b v fits))

-- at its place
module _ (t k : ℕ) (b : Factors Number) (v : Verdict) (fits : v ≡ Ok tt → (t < 8) × Fits k (table_of k b)) where
  module _ (s : Shelf) (good : Good s) where
    pub result-good : (values : List ℤ) → Good (resulting s t v k values b).shelf
    result-good values = after-good s (holding s t k b) good v (λ f. let h = fits f in good-put s good t k (table_of k b) h.0 h.1)

    -- what was accepted stands at its place
    pub result-held : v ≡ Ok tt → Holds (holding s t k b) t k b
    result-held f =
        let h = fits f in
        record { rows = rows-held s good t k (table_of k b) h.0 h.1; factors = factors-held s good t k b h.0 h.1 }

-- kept, with a promise P of the shelf, the bound and the steps that holds where the call was accepted
module _ (P : Shelf → ℕ → ℕ → Type 0) (s : Shelf) (t k e d : ℕ) (b : Factors Number) where
  promised-by : (v : Verdict) → (v ≡ Ok tt → P (holding s t k b) e d) → (let x = kept s t (proposal v k e d b) in PromisedBy P x.shelf x.answer)
  promised-by (Ok tt) h = h refl
  promised-by (Err w) h = tt

  pub result-done : (v : Verdict) → (v ≡ Ok tt → P (holding s t k b) e d) → (x : Proposal) (y : Operated) → x ≡ proposal v k e d b
      → (y ≡ kept s t x) × Good y.shelf → (operated_outcome y ≡ resulting s t v k (done e d) b) × (Good y.shelf × PromisedBy P y.shelf y.answer)
  result-done v h x y f g =
      let r = result-kept s t k e d b v x y f g in
      (r.0, (r.1, rw (g.0 ∙ ap (kept s t) f) (promised-by v h)))

-- THE TRANSPOSE
module _ (s : Shelf) (p t : ℕ) where
  abbrev n : ℕ
  n = rows_at s p

  abbrev turned : Factors Number
  turned = exchanged (factors_at s p)

  abbrev verdict : Verdict
  verdict = first_of (one_source s p t)

  pub transpose-turned : (w : Refusal) → first_of (one_source s p t) ≡ Err w → Err w ≡ transpose_proposal s p t
  transpose-turned w e = ap (λ (v : Verdict). proposal v n 0 0 turned) (sym e)

  module _ (good : Good s) where
    transpose-fits : verdict ≡ Ok tt → (t < 8) × Fits n (table_of n turned)
    transpose-fits e =
        let a = one-accepted s p t e in
        let f = good.held p a.0.small in
        (a.1.small, fits-table n turned f.few (banded-exchanged _ _ n (factors_at s p) f.banded))

    pub transpose-done : (m : ℕ) (u v : List Number) → first_of (one_source s p t) ≡ Ok tt → m ≡ rows_at s p → u ≡ table_at s p
        → v ≡ table_of 8 (exchanged (factors_of u))
        → ◌≡◌ {A = Proposal} (Ok (record { factors = v; rows = m; bound = 0; steps = 0 })) (transpose_proposal s p t)
    transpose-done m u v e f g h =
        let a = one-accepted s p t e in
        let x : v ≡ table_of n turned =
        h ∙ ap (λ (l : List Number). table_of 8 (exchanged (factors_of l))) (g ∙ (good.held p a.0.small).rest) ∙ table-exchanged n (factors_at s p) in
        ap₂ (λ (m : ℕ) (l : List Number). let r : Refactored = record { factors = l; rows = m; bound = 0; steps = 0 } in behind (Ok tt) r) f x
        ∙ ap (λ (w : Verdict). proposal w n 0 0 turned) (sym e)

    pub transpose-answered : (x : Proposal) → x ≡ transpose_proposal s p t → (x ≡ transpose_proposal s p t) × Keepable t x
    transpose-answered = result-answered t n 0 0 turned verdict transpose-fits

    pub transpose-good : Good (transpose_call s p t).shelf
    unfolding transpose_call
    transpose-good = result-good t n turned verdict transpose-fits s good (done 0 0)

  pub transpose-kept : (x : Proposal) (y : Operated) → x ≡ transpose_proposal s p t → (y ≡ kept s t x) × Good y.shelf
      → (operated_outcome y ≡ transpose_call s p t) × Good y.shelf
  unfolding transpose_call
  transpose-kept = result-kept s t n 0 0 turned verdict
