-- What is printed, by the loads and the product one after the other (`program`): the text put for the three outcomes is the definition's, and it has room
-- (`program-short`), since a line has at most 138 bytes.
use Prim.Native.Nat.{ℕ, suc, ◌-◌, ◌≤◌}
use native.Mathlib.Omega.{arith}
use mathlib.Core.Path.{◌≡◌}
use mathlib.Core.List.{List, []}
use lib.ListN.{length, take, length-append}
use Rattle.lines.specs.Text.{Puts}
use Rattle.lines.proofs.Decimals.{decimal-within}
use Rattle.lines.proofs.Text.{puts-room}
use Rattle.notices.proofs.Room.{refusal-short}
use Rattle.verdict.specs.Report.{Report, accepted, refused}
use Rattle.places.specs.declared.Shelf.{Shelf}
use Rattle.places.specs.Shelf.{rows_at, empty_shelf, Good}
use Rattle.places.specs.Outcome.{Outcome}
use Rattle.operations.specs.Operations.{product_call}
use Rattle.shelf.specs.Calls.{load_call, factor_call}
use Rattle.shelf.specs.Run.{run}
use Rattle.answers.proofs.Lengths.{report-short, turns-short}
use Rattle.tnb_product.specs.Printed.{factor_line, row_lines, factor_lines, result_text, refusal_line, printed, unless_refused, longest_text, program_text}

module _ (s : Shelf) where
  line-short : (i j : ℕ) → length (factor_line i j (factor_call s 2 i j)) ≤ 138
  unfolding factor_line factor_call
  line-short i j = simp length-append (omega (arith, decimal-within 20 i, decimal-within 20 j, report-short [] (factor_call s 2 i j)))

  lines-short : (n : ℕ) → n ≤ 8 → length (factor_lines s n) ≤ 8832
  unfolding factor_lines row_lines
  lines-short n few =
      let row : (i : ℕ) → length (row_lines s n i) ≤ 1104 =
      λ i. omega (arith, turns-short (λ j. factor_line i j (factor_call s 2 i j)) 138 (line-short i) 1 (suc n - 1)) in
      omega (arith, turns-short (λ i. row_lines s n i) 1104 row 1 (suc n - 1))

  result-short : Good s → length (result_text s) ≤ longest_text
  unfolding result_text
  result-short g =
      let few = (g.held 2 (omega arith)).few in
      simp length-append (omega (arith, decimal-within 20 (rows_at s 2), lines-short (rows_at s 2) few))

unless-short : (r : Report) (text : List ℕ) → length text ≤ longest_text → length (unless_refused r text) ≤ longest_text
unfolding refusal_line
unless-short (accepted values) text h = h
unless-short (refused number offset) text h = simp length-append (omega (arith, refusal-short number offset))

program-short : (a b : Report) (o : Outcome) → Good o.shelf → length (unless_refused a (unless_refused b (printed o))) ≤ longest_text
unfolding printed
program-short a b o g = unless-short a _ (unless-short b _ (unless-short o.report _ (result-short o.shelf g)))

module _ (left right : List ℕ) (s : Shelf) (a b o : Outcome) {out out' : List ℕ} {to : ℕ} where
  pub program : s ≡ empty_shelf → a ≡ load_call s 0 left → b ≡ load_call a.shelf 1 right → o ≡ product_call b.shelf 0 1 2 → Good o.shelf
      → longest_text ≤ length out → Puts out 0 (unless_refused a.report (unless_refused b.report (printed o))) out' to
      → take to out' ≡ program_text left right
  unfolding program_text run
  program es ea eb eo g room p =
      let put = puts-room p (omega (arith, program-short a.report b.report o g)) in
      rw (eo, eb, ea, es) at put.1
