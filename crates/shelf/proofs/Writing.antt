-- A place written to bytes: what is answered and left, by what was found (`write-turned`, `write_done`), and how many bytes it takes (`length-turned`,
-- `length-done`), which tells what a write will do (`length-tells`). The test of the room stands behind those of the place.
use Prim.Native.Nat.{ℕ, ◌≤◌}
use mathlib.Core.Path.{◌≡◌, refl, sym, ap, ◌∙◌, subst}
use mathlib.Core.Bool.{Bool, true, false}
use mathlib.Core.List.{List, [], ◌∷◌}
use lib.IntN.{pos}
use lib.Dec.{ltb}
use lib.ListN.{length}
use borrow.Author.Tests.{ltb-true, ltb-false}
use Rattle.number.specs.declared.Number.{Number}
use Rattle.writer.specs.Encoding.{encoding, square_factors, writing_report, bytes_after_writing, written_report}
use Rattle.table.specs.Table.{packed_of}
use Rattle.table.proofs.Square.{packed-front}
use Rattle.verdict.specs.declared.Refusal.{Refusal}
use Rattle.std.specs.Prelude.{Result, Ok, Err}
use Rattle.verdict.specs.declared.Reason.TheVariants.{OutputTooShort}
use Rattle.verdict.specs.Verdict.{Verdict, number_of, first_of, or_else, when}
use Rattle.verdict.specs.Report.{Report, accepted, report_of}
use Rattle.verdict.proofs.Verdicts.{first-last}
use Rattle.places.specs.declared.Shelf.{Shelf}
use Rattle.places.specs.Shelf.{rows_at, table_at}
use Rattle.places.specs.Tests.{source_tests}
use Rattle.shelf.specs.Calls.{bytes_at, writing, write_call, length_call, Measures, Measuring}
use Rattle.shelf.specs.Calls as calls

-- the bytes of a place's factors, one behind the other
pub bytes_packed : (s : Shelf) (p n : ℕ) (t numbers : List Number) → n ≤ 8 → n ≡ rows_at s p → t ≡ table_at s p → numbers ≡ packed_of n t →
    encoding n (square_factors n numbers) ≡ bytes_at s p
unfolding bytes_at
bytes_packed s p n t numbers few e f g = rw (g, packed-front n t few, f, e)

-- how many they are, by what was found
module _ (s : Shelf) (p : ℕ) where
  length-by : (v : Verdict) → first_of (source_tests s p) ≡ v → report_of v (pos (length (bytes_at s p)) ∷ []) ≡ length_call s p
  unfolding length_call
  length-by v e = ap (λ (u : Verdict). report_of u (pos (length (bytes_at s p)) ∷ [])) (sym e)

  pub length-turned : (w : Refusal) → first_of (source_tests s p) ≡ Err w → written_report (Err w) ≡ length_call s p
  length-turned w e = length-by (Err w) e

  pub length-done : first_of (source_tests s p) ≡ Ok tt → (enc : List ℕ) → enc ≡ bytes_at s p → (k : ℕ) → k ≡ length enc
      → written_report (Ok k) ≡ length_call s p
  length-done e enc same k is = ap (λ (x : ℕ). accepted (pos x ∷ [])) (is ∙ ap length same) ∙ length-by (Ok tt) e

module _ (s : Shelf) (p : ℕ) (out : List ℕ) where
  abbrev room : Verdict
  room = when (ltb (length out) (length (bytes_at s p))) OutputTooShort

  by : (u : Verdict) → first_of (source_tests s p) ≡ u → writing s p out (or_else u room) ≡ write_call s p out
  unfolding write_call
  by u e = ap (writing s p out) (sym (first-last (source_tests s p) room ∙ ap (λ (v : Verdict). or_else v room) e))

  pub write-turned : (w : Refusal) → first_of (source_tests s p) ≡ Err w
      → ((writing s p out (Err w)).report ≡ (write_call s p out).report) × (out ≡ (write_call s p out).bytes)
  write-turned w e = let h = by (Err w) e in (ap (λ o. o.report) h, ap (λ o. o.bytes) h)

  -- what the writer of matrices answered, and what it left
  pub write_done : first_of (source_tests s p) ≡ Ok tt → (enc last : List ℕ) → enc ≡ bytes_at s p → (r : Result ℕ Refusal)
      → written_report r ≡ writing_report out enc
      → last ≡ bytes_after_writing out enc → (written_report r ≡ (write_call s p out).report) × (last ≡ (write_call s p out).bytes)
  unfolding writing_report bytes_after_writing
  write_done e enc last same r is left =
      let h = by (Ok tt) e in
      (is ∙ ap (writing_report out) same ∙ ap (λ o. o.report) h, left ∙ ap (bytes_after_writing out) same ∙ ap (λ o. o.bytes) h)

-- WHAT A LENGTH TELLS: behind the tests of the place a write has the one of its room
pub length-tells : (s : Shelf) (p : ℕ) (f : Report) → f ≡ length_call s p → Measuring s p f
unfolding length_call write_call
length-tells s p f e out =
    let k = length (bytes_at s p) in
    let v = first_of (source_tests s p) in
    let q = first-last (source_tests s p) (when (ltb (length out) k) OutputTooShort) in
    subst (λ (g : Report). Measures (length out) g (write_call s p out).report) (sym e)
    (subst (λ (u : Verdict). Measures (length out) (report_of v (pos k ∷ [])) (report_of u (pos k ∷ []))) (sym q) (by v (ltb (length out) k) refl))
  where
    by : (v : Verdict) (b : Bool) → ltb (length out) (length (bytes_at s p)) ≡ b
        → Measures (length out) (report_of v (pos (length (bytes_at s p)) ∷ []))
        (report_of (or_else v (when b OutputTooShort)) (pos (length (bytes_at s p)) ∷ []))
    by (Err w) b h = calls.turned_down (number_of w.reason) w.offset refl refl
    by (Ok tt) true h = calls.no_room _ refl (ltb-true (length out) (length (bytes_at s p)) h) refl
    by (Ok tt) false h = calls.done-in _ refl (ltb-false (length out) (length (bytes_at s p)) h) refl
