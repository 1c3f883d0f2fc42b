-- A PLACE FILLED FROM TIME STAMPS. Where the tests passed, the factors fit the place (`build-fits`), and so the shelf stays good (`build-good`) and what is
-- promised of the stamps holds (`build-done`). No exponent is out of range: with 14 tested behind 15 the verdict would be the same (`build-ranged`).
use Prim.Native.Nat.{ℕ, ◌<◌}
use mathlib.Core.Path.{◌≡◌, refl, sym, ap, ap₂, ◌∙◌, subst}
use mathlib.Core.Bool.{Bool, false}
use mathlib.Core.List.{List, [], ◌∷◌, ◌++◌}
use lib.IntN.{pos}
use lib.ListN.{length}
use Rattle.number.specs.declared.Number.{Number}
use Rattle.words.specs.Word.{Factors}
use Rattle.words.specs.Operation.{row_by_row}
use Rattle.words.proofs.Banded.{stored-banded}
use Rattle.table.specs.Table.{table_of, outside}
use Rattle.stamps.specs.Stamps.{mistimed, built_factors, stamp_bound}
use Rattle.stamps.proofs.Timed.{timed}
use Rattle.stamps.proofs.Rounded.{stamped, stamps-ranged}
use Rattle.verdict.specs.declared.Refusal.{Refusal}
use Rattle.std.specs.Prelude.{Ok, Err}
use Rattle.verdict.specs.declared.Reason.TheVariants.{ExponentOutOfRange, WrongStamps}
use Rattle.verdict.specs.Verdict.{Verdict, first_of, or_else, when}
use Rattle.verdict.proofs.Verdicts.{first-last, first-passed, when-passed}
use Rattle.places.specs.declared.Shelf.{Shelf}
use Rattle.places.specs.Shelf.{rows_at, holding, Fits, Good}
use Rattle.places.specs.Tests.{target_tests}
use Rattle.places.proofs.Holding.{fits-table}
use Rattle.conditions.proofs.Passed.{target-accepted}
use Rattle.operations.specs.declared.Operated.{Operated}
use Rattle.operations.specs.declared.Filled.{Filled}
use Rattle.operations.specs.Operations.{resulting, build_tests, build_call}
use Rattle.operations.specs.Reports.{filled_outcome}
use Rattle.operations.specs.Proposed.{Proposal, behind, proposal, build_proposal, kept, filled_by, Keepable}
use Rattle.rule.specs.declared.Refactored.{Refactored}
use Rattle.operations.specs.Promise.{Built, BuildPromised}
use Rattle.operations.proofs.Proposals.{result-answered, result-good, result-held}

module _ (s : Shelf) (t : ℕ) (stamps : List ℕ) where
  abbrev n : ℕ
  n = length stamps

  abbrev b : Factors Number
  b = built_factors stamps

  abbrev verdict : Verdict
  verdict = first_of (build_tests s t stamps)

  -- the tests one by one
  pub build-tested : {v w : Verdict} → first_of (target_tests s t) ≡ v → when (mistimed stamps) WrongStamps ≡ w
      → first_of (build_tests s t stamps) ≡ or_else v w
  build-tested e f = first-last (target_tests s t) (when (mistimed stamps) WrongStamps) ∙ ap₂ or_else e f

  pub build-accepted : first_of (build_tests s t stamps) ≡ Ok tt → (t < 8) × (mistimed stamps ≡ false)
  build-accepted e =
      let a = first-passed (target_tests s t) (when (mistimed stamps) WrongStamps) e in
      ((target-accepted (rows_at s) t a.0).small, when-passed (mistimed stamps) WrongStamps a.1)

  build-fits : verdict ≡ Ok tt → (t < 8) × Fits n (table_of n b)
  build-fits e =
      let a = build-accepted e in
      (a.0, fits-table n b (timed stamps a.1).few (stored-banded n b (stamped stamps a.1).stored))

  -- 14 CANNOT OCCUR
  pub build-ranged : first_of (build_tests s t stamps ++ (when (outside (row_by_row (length stamps) (built_factors stamps))) ExponentOutOfRange ∷ []))
      ≡ first_of (build_tests s t stamps)
  build-ranged = first-last (build_tests s t stamps) _ ∙ by verdict refl
    where
      by : (v : Verdict) → verdict ≡ v → or_else v (when (outside (row_by_row n b)) ExponentOutOfRange) ≡ v
      by (Ok tt) e = ap (λ (c : Bool). when c ExponentOutOfRange) (stamps-ranged stamps (build-accepted e).1)
      by (Err w) e = refl

  answered : (x : Proposal) → x ≡ build_proposal s t stamps → (x ≡ build_proposal s t stamps) × Keepable t x
  answered = result-answered t n stamp_bound 0 b verdict build-fits

  -- a build is answered
  pub build-turned : (w : Refusal) → first_of (build_tests s t stamps) ≡ Err w → Err w ≡ build_proposal s t stamps
  build-turned w e = ap (λ (v : Verdict). proposal v n stamp_bound 0 b) (sym e)

  pub build-worked : (l : List Number) → first_of (build_tests s t stamps) ≡ Ok tt → l ≡ table_of (length stamps) (built_factors stamps)
      → (let x : Proposal = Ok (record { factors = l; rows = length stamps; bound = stamp_bound; steps = 0 }) in
      (x ≡ build_proposal s t stamps) × Keepable t x)
  build-worked l e f =
      answered _
      (ap (λ (l : List Number). let r : Refactored = record { factors = l; rows = n; bound = stamp_bound; steps = 0 } in behind (Ok tt) r) f
      ∙ ap (λ (v : Verdict). proposal v n stamp_bound 0 b) (sym e))

  module _ (good : Good s) where
    pub build-good : Good (build_call s t stamps).shelf
    unfolding build_call
    build-good = result-good t n b verdict build-fits s good (pos stamp_bound ∷ [])

    pub build-met : first_of (build_tests s t stamps) ≡ Ok tt
        → Built (holding s t (length stamps) (built_factors stamps)) t stamps stamp_bound
    build-met e =
        record { bound-is = refl; held = result-held t n b verdict build-fits s good e; stamped = stamped stamps (build-accepted e).1 }

    -- without steps
    filled-by : (v : Verdict) → (v ≡ Ok tt → Built (holding s t n b) t stamps stamp_bound)
        → (let y = filled_by (kept s t (proposal v n stamp_bound 0 b)) in
        (filled_outcome y ≡ resulting s t v n (pos stamp_bound ∷ []) b) × BuildPromised y.shelf t stamps y.answer)
    filled-by (Ok tt) h = (refl, h refl)
    filled-by (Err w) h = (refl, tt)

    pub build-done : (x : Proposal) (y : Operated) (z : Filled) → x ≡ build_proposal s t stamps → (y ≡ kept s t x) × Good y.shelf → z ≡ filled_by y
        → (filled_outcome z ≡ build_call s t stamps) × (Good z.shelf × BuildPromised z.shelf t stamps z.answer)
    unfolding build_call
    build-done x y z f g e =
        let r = filled-by verdict build-met in
        let h : z ≡ filled_by (kept s t (build_proposal s t stamps)) = e ∙ ap filled_by (g.0 ∙ ap (kept s t) f) in
        let shelf : z.shelf ≡ y.shelf = ap (λ (x : Filled). x.shelf) e in (
          ap filled_outcome h ∙ r.0,
          (
            subst Good (sym shelf) g.1,
            subst (λ (x : Filled). BuildPromised x.shelf t stamps x.answer) (sym h) r.1,
          ),
        )
