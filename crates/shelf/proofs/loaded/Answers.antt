-- The shelf that a load makes: its place judged, the bytes read, and what was read put there (laws in Loading).
use native.Mathlib.Omega.{arith}
use mathlib.Core.Path.{◌≡◌, sym, ap, ◌∙◌}
use borrow.Author.Rules.{rules}
use Rattle.std.specs.Prelude.{Ok, Err}
use Rattle.verdict.specs.Verdict.{first_of}
use Rattle.group.specs.Group.{Bytes}
use Rattle.writer.specs.Encoding.{square_factors}
use Rattle.reader.specs.Matrix.{matrix, matrix_of}
use Rattle.places.specs.declared.Shelf.{Shelf}
use Rattle.places.specs.Shelf.{rows_at, with_table}
use Rattle.places.specs.Tests.{target_tests}
use Rattle.conditions.proofs.Passed.{target-accepted}
use Rattle.shelf.specs.Changed.{behind}
use Rattle.shelf.proofs.Loading.{parsed-matrix, square-taken, read_fits, loaded-turned, loaded-fault, loaded-behind, loaded-done}
use Rattle.shelf.proofs.loaded.Goals as goal
use Rattle.shelf.proofs.loaded.Goals.{In_ok-target, In_ok-read}

-- no test of the place turned the load down
accepted : (c : In_ok-target) → first_of (target_tests c.args.shelf c.args.place) ≡ Ok tt
accepted c = sym c.target.ensures ∙ c.in_ok-target.was

bytes-in : (c : In_ok-read) → Bytes c.args.bytes.now
bytes-in c = λ i. omega (arith, c.type_inv.bytes i)

-- the matrix that was read
found : (c : In_ok-read)
    → (let r = c.in_ok-read.read in matrix_of c.args.bytes.now ≡ matrix r.rows (square_factors r.rows r.numbers) r.next)
found c = parsed-matrix _ (bytes-in c) _ (sym c.read_matrix.ensures.value ∙ c.in_ok-read.was)

pub returns-in_err-target : goal.returns-in_err-target
returns-in_err-target c =
    let a = c.args in
    let e : c.from_residual.result ≡ Err c.in_err-target.field-0.0 = search rules in
    e ∙ loaded-turned a.shelf a.place a.bytes.now _ (sym c.target.ensures ∙ c.in_err-target.was)

pub returns-in_err-read : goal.returns-in_err-read
returns-in_err-read c =
    let a = c.args in
    let e : c.from_residual-in_err-read.result ≡ Err c.in_err-read.field-0.0 = search rules in
    e
    ∙ loaded-fault a.shelf a.place a.bytes.now (accepted (goal.at.returns-in_err-read c).In_ok-target) _
    (sym c.read_matrix.ensures.value ∙ c.in_err-read.was)

pub returns-then-bytes_behind : goal.returns-then-bytes_behind
returns-then-bytes_behind c =
    let a = c.args in
    let at = goal.at.returns-then-bytes_behind c in
    loaded-behind a.shelf a.place a.bytes.now (accepted at.In_ok-target) _ _ _ (found at.In_ok-read) c.if-bytes_behind.true

pub with_table-requires : goal.with_table-requires
with_table-requires c =
    let at = goal.at.with_table-requires c in
    let fits = read_fits _ (bytes-in at.In_ok-read) _ _ _ (found at.In_ok-read) in
    (c.requires, (target-accepted (rows_at c.args.shelf) _ (accepted at.In_ok-target)).small, rw (c.spread-factors.ensures ∙ square-taken _ _) fits)

pub returns : goal.returns
returns c =
    let a = c.args in
    let at = goal.at.returns c in
    ap (λ (s : Shelf). behind (Ok tt) s)
    (c.with_table.ensures.value ∙ ap (with_table a.shelf a.place _) (c.spread-factors.ensures ∙ square-taken _ _))
    ∙ loaded-done a.shelf a.place a.bytes.now (accepted at.In_ok-target) _ _ _ (found at.In_ok-read) c.if-bytes_behind.false
