-- A minor of a place: what the tests of its place and sets have shown (`sets-passed`), and the answer by what was found (`minor-turned`, `minor-outside`,
-- `minor-done`).
use Prim.Native.Nat.{ℕ, ◌+◌, ◌^◌, ◌≤◌, ◌<◌}
use native.Mathlib.Omega.{arith}
use mathlib.Core.Path.{◌≡◌, refl, sym, ap, ap₂, ◌∙◌}
use mathlib.Core.Bool.{Bool, true, not}
use mathlib.Core.List.{List, [], ◌∷◌}
use lib.Dec.{leb}
use lib.IntN.{pos}
use borrow.Author.Tests.{leb-true}
use Rattle.number.specs.declared.Number.{Number}
use Rattle.number.specs.Number.{bias, rounded, in_range, exponent_of}
use Rattle.number.proofs.Tests.{both}
use Rattle.rowset.specs.Mask.{mask_count}
use Rattle.words.specs.Sources.{Walkable}
use Rattle.words.proofs.Banded.{banded-walkable}
use Rattle.words.specs.RowSet.{of_mask}
use Rattle.words.specs.Word.{word}
use Rattle.words.specs.Walk.{minor}
use Rattle.table.specs.Table.{factors_of}
use Rattle.verdict.specs.declared.Refusal.{Refusal}
use Rattle.std.specs.Prelude.{Ok, Err}
use Rattle.verdict.specs.declared.Reason.TheVariants.{WrongChoice, ExponentOutOfRange}
use Rattle.verdict.specs.Verdict.{Verdict, first_of, or_else, when}
use Rattle.verdict.specs.Report.{report_of}
use Rattle.verdict.proofs.Verdicts.{first-last, first-passed}
use Rattle.places.specs.declared.Shelf.{Shelf}
use Rattle.places.specs.Shelf.{rows_at, table_at, Good}
use Rattle.places.specs.Tests.{unfit, source_tests}
use Rattle.conditions.proofs.Passed.{Source}
use Rattle.places.proofs.Verdicts.{Fit, source-accepted, sets-accepted}
use Rattle.operations.specs.Operations.{minor_at, set_tests, minor_call}
use Rattle.operations.specs.Reports.{valued_report}

module _ (s : Shelf) (p I J : ℕ) where
  abbrev fit : Verdict
  fit = when (unfit (rows_at s p) I J) WrongChoice

  abbrev pub range : Verdict
  range = when (not (in_range (minor_at s p I J))) ExponentOutOfRange

  -- what the tests of the place and the sets have shown
  pub sets-passed : first_of (set_tests s p I J) ≡ Ok tt → Source (rows_at s) p × Fit (rows_at s p) I J
  sets-passed e =
      let a = first-passed (source_tests s p) fit e in
      (source-accepted s p a.0, sets-accepted (rows_at s p) I J a.1)

  by : (v w : Verdict) → first_of (set_tests s p I J) ≡ v → range ≡ w
      → report_of (or_else v w) (pos (minor_at s p I J).m ∷ exponent_of (minor_at s p I J) ∷ []) ≡ minor_call s p I J
  unfolding minor_call
  by v w e f =
      ap (λ (u : Verdict). report_of u (pos (minor_at s p I J).m ∷ exponent_of (minor_at s p I J) ∷ []))
      (sym (first-last (set_tests s p I J) range ∙ ap₂ or_else e f))

  pub minor-turned : (w : Refusal) → first_of (set_tests s p I J) ≡ Err w → valued_report (Err w) ≡ minor_call s p I J
  minor-turned w e = by (Err w) range e refl

  -- the test of its exponent, as it is worked
  pub minor-ranged : (a : Number) (ranged : Bool) (v : Verdict) → a ≡ minor_at s p I J → ranged ≡ in_range a
      → v ≡ when (not ranged) ExponentOutOfRange → range ≡ v
  minor-ranged a ranged v e f g = rw (g, f, e) refl

  module _ (e : first_of (set_tests s p I J) ≡ Ok tt) where
    pub minor-outside : (w : Refusal) → range ≡ Err w → valued_report (Err w) ≡ minor_call s p I J
    minor-outside w g = by (Ok tt) (Err w) e g

    pub minor-done : range ≡ Ok tt
        → valued_report (Ok (record { mantissa = (minor_at s p I J).m; exponent = exponent_of (minor_at s p I J) })) ≡ minor_call s p I J
    minor-done g = by (Ok tt) (Ok tt) e g

  pub minor-is : (n i j : ℕ) (t : List Number) (a : Number) → n ≡ rows_at s p → t ≡ table_at s p → i ≡ I → j ≡ J
      → a ≡ minor rounded (word n (factors_of t)) (of_mask n i) (of_mask n j) → a ≡ minor_at s p I J
  unfolding minor_at
  minor-is n i j t a e f g h k = k ∙ rw (e, f, g, h)

  -- what the minor of a place asks
  pub minor-workable : (n i j : ℕ) (t : List Number) → n ≡ rows_at s p → i ≡ I → j ≡ J → t ≡ table_at s p → Good s → Source (rows_at s) p
      → Fit (rows_at s p) I J
      → ((1 ≤ n) × (n ≤ 8) × Walkable n (factors_of t)) × ((i < 2 ^ n) × (j < 2 ^ n) × (mask_count i ≡ mask_count j))
  minor-workable n i j t e f g h good o w =
      rw (e, f, g, h) ((o.some, (good.held p o.small).few, banded-walkable _ _ (good.held p o.small).banded), (w.rows, w.columns, w.counts))

pub in-range-small : (a : Number) → in_range a ≡ true → a.x < 2 ^ 32
unfolding in_range
in-range-small a e = omega (arith, leb-true a.x (bias + 1000) (both (leb bias (a.x + 1000)) (leb a.x (bias + 1000)) e).1)
