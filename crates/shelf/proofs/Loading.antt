-- A load: the shelf that it makes by what was found (`loaded-turned`, `loaded-fault`, `loaded-behind`, `loaded-done`), and its result by that
-- (`load-answered`); the shelf stays good (`load-good`); what was read fits a place (`read_fits`); accepted factors as a list (`banded-rows`).
use Prim.Native.Nat.{ℕ, ◌+◌, ◌-◌, ◌*◌, ◌<◌, ◌≤◌}
use native.Mathlib.Omega.{arith}
use mathlib.Core.Path.{◌≡◌, refl, sym, ap, ap₂, subst, ◌∙◌}
use mathlib.Core.Bool.{Bool, true, false, cond}
use mathlib.Core.List.{List, ◌++◌}
use lib.ListN.{length, drop, take-append-drop}
use lib.Seq.{get_or-take}
use lib.Dec.{ltb}
use borrow.Author.Tests.{lt-ltb, le-ltb}
use Rattle.group.specs.Group.{Bytes}
use Rattle.number.specs.declared.Number.{Number}
use Rattle.number.specs.Number.{zero_number, Stored}
use Rattle.words.specs.Word.{Factors}
use Rattle.words.specs.Operation.{row_by_row}
use Rattle.words.specs.Sources.{BandedNumbers}
use Rattle.words.proofs.Banded.{banded-same}
use Rattle.words.proofs.RowByRow.{row_by_row-length}
use Rattle.reader.specs.declared.Parsed.{Parsed}
use Rattle.writer.specs.Encoding.{encoding, square_factors, Storable}
use Rattle.reader.specs.Matrix.{Reading, matrix, fault, matrix_of, parsed}
use Rattle.reader.proofs.RoundTrip.{matrix-written, matrix-read, accepted}
use Rattle.places.specs.declared.Shelf.{Shelf}
use Rattle.verdict.specs.declared.Refusal.{Refusal}
use Rattle.std.specs.Prelude.{Result, Ok, Err}
use Rattle.shelf.specs.declared.Changed.{Changed}
use Rattle.table.specs.Table.{table_of, square_of}
use Rattle.places.specs.Shelf.{rows_at, holding, Fits, Good}
use Rattle.verdict.specs.declared.Reason.TheVariants.{BytesBehind}
use Rattle.verdict.specs.Verdict.{Verdict, first_of, or_else, refused_at}
use Rattle.places.specs.Outcome.{Outcome}
use Rattle.places.specs.Tests.{target_tests}
use Rattle.shelf.specs.Reports.{changed_outcome}
use Rattle.shelf.specs.Calls.{changing, of_reading, load_tests, read_to, load_call}
use Rattle.shelf.specs.Changed.{behind, loaded, changed_by}
use Rattle.table.proofs.RowByRow.{square-below}
use Rattle.table.proofs.Table.{table_same}
use Rattle.table.proofs.Square.{square-factors}
use Rattle.places.proofs.Holding.{fits-table, good-put}
use Rattle.verdict.proofs.Verdicts.{first-last, first-passed}
use Rattle.conditions.proofs.Passed.{target-accepted}
use Rattle.places.proofs.Verdicts.{after-good}

-- accepted factors, one behind the other, can be stored
pub banded-rows : (n : ℕ) (b : Factors Number) → 0 < n → n ≤ 8 → BandedNumbers n b → Storable n (row_by_row n b)
banded-rows n b some few h =
    record {
      some = some;
      few = few;
      square = row_by_row-length n b;
      banded = banded-same Stored (λ a. a ≡ zero_number) n (λ i j x y. sym (square-factors n b i j x y)) h;
    }

-- WHAT THE READER ANSWERS: a fault, which turns the load down as it is; a matrix, whose factors stand at the start of 64 numbers
pub parsed-fault : (bytes : List ℕ) (r : Reading) (w : Refusal) → parsed r ≡ Err w → of_reading bytes r ≡ Err w
parsed-fault bytes (matrix n L q) w e = absurd (cc)
parsed-fault bytes (fault k o) w e = cc

pub parsed-matrix : (s : List ℕ) → Bytes s → (r : Parsed) → parsed (matrix_of s) ≡ Ok r → matrix_of s ≡ matrix r.rows (square_factors r.rows r.numbers) r.next
parsed-matrix s bs r e =
    let m = accepted s bs r (sym e) in
    let L = square_factors r.rows r.numbers in
    let split : s ≡ encoding r.rows L ++ drop r.next s = sym (take-append-drop r.next s) ∙ ap (λ (l : List ℕ). l ++ drop r.next s) m.taken in
    ap matrix_of split ∙ matrix-written r.rows L (drop r.next s) m.storable ∙ ap (matrix r.rows L) (sym m.next)

pub square-taken : (n : ℕ) (numbers : List Number) → table_of n (square_of n numbers) ≡ table_of n (square_of n (square_factors n numbers))
unfolding square_of
square-taken n numbers =
    table_same n (square_of n numbers) (square_of n (square_factors n numbers))
    (λ i j x y. sym (get_or-take (n * n) numbers ((i - 1) * n + (j - 1)) zero_number (square-below n (i - 1) (j - 1) (omega arith) (omega arith))))

-- what was read fits a place
pub read_fits : (s : List ℕ) → Bytes s → (n : ℕ) (L : List Number) (q : ℕ) → matrix_of s ≡ matrix n L q → Fits n (table_of n (square_of n L))
read_fits s bs n L q e =
    let w = (matrix-read s bs n L q e).storable in
    fits-table n (square_of n L) w.few w.banded

-- a change by its verdict is the outcome of the definition
pub changed-behind : (s new : Shelf) (v : Verdict) → changed_outcome (changed_by s (behind v new)) ≡ changing v s new
changed-behind s new (Ok tt) = refl
changed-behind s new (Err w) = refl

-- THE RESULT, by what was found
module _ (s : Shelf) (p : ℕ) (bytes : List ℕ) where
  load-verdict : first_of (load_tests s p bytes) ≡ or_else (first_of (target_tests s p)) (of_reading bytes (matrix_of bytes))
  load-verdict = first-last (target_tests s p) (of_reading bytes (matrix_of bytes))

  by : {v w : Verdict} → first_of (target_tests s p) ≡ v → of_reading bytes (matrix_of bytes) ≡ w
      → behind (or_else v w) (read_to s p (matrix_of bytes)) ≡ loaded s p bytes
  by e f = ap (λ (u : Verdict). behind u (read_to s p (matrix_of bytes))) (sym (load-verdict ∙ ap₂ or_else e f))

  pub loaded-turned : (w : Refusal) → first_of (target_tests s p) ≡ Err w → Err w ≡ loaded s p bytes
  loaded-turned w e = by e refl

  module _ (e : first_of (target_tests s p) ≡ Ok tt) where
    pub loaded-fault : (w : Refusal) → parsed (matrix_of bytes) ≡ Err w → Err w ≡ loaded s p bytes
    loaded-fault w f = by e (parsed-fault bytes (matrix_of bytes) w f)

    module _ (n : ℕ) (L : List Number) (q : ℕ) (f : matrix_of bytes ≡ matrix n L q) where
      passed : (t : Bool) → ltb q (length bytes) ≡ t → of_reading bytes (matrix_of bytes) ≡ cond t (refused_at BytesBehind q) (Ok tt)
      passed t g = ap (of_reading bytes) f ∙ ap (λ (b : Bool). cond b (refused_at BytesBehind q) (Ok tt)) g

      pub loaded-behind : q < length bytes → Err (record { reason = BytesBehind; offset = q }) ≡ loaded s p bytes
      loaded-behind h = by e (passed true (lt-ltb q (length bytes) h))

      pub loaded-done : length bytes ≤ q → Ok (holding s p n (square_of n L)) ≡ loaded s p bytes
      loaded-done h = ap (λ (r : Reading). behind (Ok tt) (read_to s p r)) (sym f) ∙ by e (passed false (le-ltb q (length bytes) h))

      pub load-done : length bytes ≤ q → changing (Ok tt) s (holding s p n (square_of n L)) ≡ load_call s p bytes
      unfolding load_call
      load-done h = ap (λ (x : Result Shelf Refusal). changed_outcome (changed_by s x)) (loaded-done h) ∙ changed-behind s _ (first_of (load_tests s p bytes))

  pub load-turned : (w : Refusal) → first_of (target_tests s p) ≡ Err w → changing (Err w) s s ≡ load_call s p bytes
  unfolding load_call
  load-turned w e =
      ap (λ (x : Result Shelf Refusal). changed_outcome (changed_by s x)) (loaded-turned w e) ∙ changed-behind s _ (first_of (load_tests s p bytes))

  -- THE SHELF STAYS GOOD
  module _ (good : Good s) (bs : Bytes bytes) where
    read-good : p < 8 → (w : Reading) → matrix_of bytes ≡ w → Good (read_to s p w)
    read-good small (matrix n L q) e = good-put s good p n _ small (read_fits bytes bs n L q e)
    read-good small (fault k o) e = good

    pub load-good : Good (load_call s p bytes).shelf
    unfolding load_call
    load-good =
        after-good s (read_to s p (matrix_of bytes)) good (first_of (load_tests s p bytes))
        (λ e.
        let t = target-accepted (rows_at s) p (first-passed (target_tests s p) (of_reading bytes (matrix_of bytes)) e).0 in
        read-good t.small (matrix_of bytes) refl)

    pub load-answered : (x : Changed) → x ≡ changed_by s (loaded s p bytes) → (changed_outcome x ≡ load_call s p bytes) × Good x.shelf
    unfolding load_call
    load-answered x e =
        let f : changed_outcome x ≡ load_call s p bytes = ap changed_outcome e ∙ changed-behind s _ (first_of (load_tests s p bytes)) in
        (f, subst Good (sym (ap (λ (o : Outcome). o.shelf) f)) load-good)
