-- Steps of the code and of its proofs: the shelf that a call makes, or why it makes none (`loaded`, of a function of that name; `dropped`, of the proof of
-- `drop_place`), and the call's answer by that (`changed_by`). Nothing that a caller sees.
use Rattle.std.specs.Prelude.{ℕ, List, Result, Ok, Err}
use Rattle.verdict.specs.declared.Refusal.{Refusal}
use Rattle.verdict.specs.Verdict.{Verdict, first_of}
use Rattle.reader.specs.Matrix.{matrix_of}
use Rattle.places.specs.declared.Shelf.{Shelf}
use Rattle.places.specs.Shelf.{without}
use Rattle.places.specs.Tests.{source_tests}
use Rattle.shelf.specs.declared.Changed.{Changed}
use Rattle.shelf.specs.Calls.{load_tests, read_to}

-- a shelf behind a verdict
abbrev pub behind : Verdict → Shelf → Result Shelf Refusal
behind (Ok u) new = Ok new
behind (Err w) new = Err w

abbrev pub loaded : Shelf → ℕ → List ℕ → Result Shelf Refusal
loaded s p bytes = behind (first_of (load_tests s p bytes)) (read_to s p (matrix_of bytes))

abbrev pub dropped : Shelf → ℕ → Result Shelf Refusal
dropped s p = behind (first_of (source_tests s p)) (without s p)

-- the new shelf, or the old one and why
abbrev pub changed_by : Shelf → Result Shelf Refusal → Changed
changed_by s (Ok new) = record { shelf = new; verdict = Ok tt }
changed_by s (Err w) = record { shelf = s; verdict = Err w }
