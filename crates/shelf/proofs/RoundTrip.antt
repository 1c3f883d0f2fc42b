-- DEMAND 2 of the shelf: bytes written for a matrix read back as that matrix (`write-load`), at most 449 of them (`write-short`), and accepted bytes are the
-- ones that the writer makes (`load-write`).
-- A matrix that is loaded and dropped leaves the shelf as it was (`load-drop`).
use Prim.Native.Nat.{ℕ, ◌≤◌, ◌<◌}
use native.Mathlib.Omega.{arith}
use mathlib.Core.Path.{◌≡◌, refl, sym, ap, ◌∙◌}
use mathlib.Core.Bool.{Bool, true, false, cond}
use mathlib.Core.List.{List, [], append-nil}
use lib.Dec.{ltb}
use lib.ListN.{length}
use lib.Seq.{take_all}
use borrow.Author.Tests.{ltb-false}
use Rattle.number.specs.declared.Number.{Number}
use Rattle.number.specs.Number.{zero_number}
use Rattle.group.specs.Group.{Bytes}
use Rattle.words.specs.Word.{Factors}
use Rattle.words.specs.Operation.{row_by_row}
use Rattle.table.specs.Table.{table_of, square_of}
use Rattle.writer.specs.Encoding.{encoding, Storable}
use Rattle.writer.proofs.Length.{encoding-short}
use Rattle.reader.specs.Matrix.{Reading, matrix, fault, matrix_of}
use Rattle.reader.proofs.RoundTrip.{matrix-written, matrix-read}
use Rattle.places.specs.declared.Shelf.{Shelf}
use Rattle.std.specs.Prelude.{Ok}
use Rattle.table.specs.Table.{square_of}
use Rattle.places.specs.Shelf.{rows_at, factors_at, with_table, holding, without, Good}
use Rattle.verdict.specs.declared.Reason.TheVariants.{BytesBehind}
use Rattle.verdict.specs.Verdict.{first_of, refused_at}
use Rattle.places.specs.Tests.{target_tests}
use Rattle.table.proofs.RowByRow.{row-by-row-same}
use Rattle.table.proofs.Table.{table-length, table_same}
use Rattle.table.proofs.Square.{square-list, square-factors}
use Rattle.places.proofs.Holding.{rows-held, factors-held, put-put, put-held}
use Rattle.verdict.specs.Report.{accepted}
use Rattle.verdict.proofs.Verdicts.{first-passed, report-accepted}
use Rattle.conditions.proofs.Passed.{Source, target-accepted}
use Rattle.shelf.specs.Calls.{changing, of_reading, load_tests, load_call, bytes_at}
use Rattle.shelf.proofs.Loading.{banded-rows, read_fits, load-done}

-- WRITTEN BYTES READ BACK
module _ (s : Shelf) (good : Good s) (q : ℕ) (held : Source (rows_at s) q) where
  storable : Storable (rows_at s q) (row_by_row (rows_at s q) (factors_at s q))
  storable = banded-rows (rows_at s q) (factors_at s q) held.some (good.held q held.small).few (good.held q held.small).banded

  read_back : matrix_of (bytes_at s q) ≡ matrix (rows_at s q) (row_by_row (rows_at s q) (factors_at s q)) (length (bytes_at s q))
  unfolding bytes_at
  read_back = ap matrix_of (sym (append-nil _)) ∙ matrix-written (rows_at s q) (row_by_row (rows_at s q) (factors_at s q)) [] storable

  pub write-short : length (bytes_at s q) ≤ 449
  unfolding bytes_at
  write-short = encoding-short (rows_at s q) (row_by_row (rows_at s q) (factors_at s q)) storable

  pub write-load : (t : Shelf) (p : ℕ) → first_of (target_tests t p) ≡ Ok tt
      → changing (Ok tt) t (holding t p (rows_at s q) (factors_at s q)) ≡ load_call t p (bytes_at s q)
  write-load t p e =
      let n = rows_at s q in
      ap (λ (u : List Number). changing (Ok tt) t (with_table t p n u))
      (sym (table_same n (square_of n (row_by_row n (factors_at s q))) (factors_at s q) (square-factors n (factors_at s q))))
      ∙ load-done t p (bytes_at s q) e n (row_by_row n (factors_at s q)) (length (bytes_at s q)) read_back (omega arith)

-- ACCEPTED BYTES ARE THE ONES THAT THE WRITER MAKES
module _ (s : Shelf) (good : Good s) (p : ℕ) (bytes : List ℕ) (bs : Bytes bytes) (done : (load_call s p bytes).report ≡ accepted []) where
  passed : (first_of (target_tests s p) ≡ Ok tt) × (of_reading bytes (matrix_of bytes) ≡ Ok tt)
  unfolding load_call
  passed = first-passed (target_tests s p) (of_reading bytes (matrix_of bytes)) (report-accepted (first_of (load_tests s p bytes)) [] done)

  whole : (t : Bool) (q k : ℕ) → ltb q k ≡ t → cond t (refused_at BytesBehind q) (Ok tt) ≡ Ok tt → k ≤ q
  whole true q k e f = absurd (let z : ◌≡◌ {A = ℕ} 0 1 = cc in omega arith)
  whole false q k e f = ltb-false q k e

  written-by : (w : Reading) → matrix_of bytes ≡ w → of_reading bytes w ≡ Ok tt → bytes_at (load_call s p bytes).shelf p ≡ bytes
  unfolding bytes_at
  written-by (matrix n L q) e f =
      let m = matrix-read bytes bs n L q e in
      let l : length bytes ≤ q = whole (ltb q (length bytes)) q (length bytes) refl f in
      let small : p < 8 = (target-accepted (rows_at s) p passed.0).small in
      let fits = read_fits bytes bs n L q e in
      let new : load_call s p bytes ≡ changing (Ok tt) s (holding s p n (square_of n L)) = sym (load-done s p bytes passed.0 n L q e l) in
      let r : rows_at (holding s p n (square_of n L)) p ≡ n = rows-held s good p n (table_of n (square_of n L)) small fits in
      rw (new, r)
      (ap (encoding n)
      (row-by-row-same zero_number n _ (square_of n L) (factors-held s good p n (square_of n L) small fits) ∙ square-list n L m.storable.square)
      ∙ sym m.taken ∙ take_all q bytes l)
  written-by (fault k o) e f = absurd (let z : ◌≡◌ {A = ℕ} 0 1 = cc in omega arith)

  pub load-write : bytes_at (load_call s p bytes).shelf p ≡ bytes
  load-write = written-by (matrix_of bytes) refl passed.1

-- LOADED AND DROPPED
pub load-drop : (s : Shelf) → Good s → (p n : ℕ) (b : Factors Number) → p < 8 → rows_at s p ≡ 0 → without (holding s p n b) p ≡ s
load-drop s good p n b small none =
    put-put s p 0 (table_of 0 (λ i j. zero_number)) small good.places good.numbers (table-length 0 (λ i j. zero_number)) n (table_of n b) (table-length n b)
    ∙ ap (with_table s p 0) (table_same 0 (λ i j. zero_number) (factors_at s p) (λ i j x y. absurd (omega arith)))
    ∙ ap (λ (m : ℕ). holding s p m (factors_at s p)) (sym none)
    ∙ put-held s good p small
