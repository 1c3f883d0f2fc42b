-- ONE LIST OF CALLS (document 01, "Shelf calls"): a call as data (`Call`), what it leaves and returns (`run`), and the shelf after a list of calls
-- (`after_calls`). Sequences, the C interface and the
-- console cite this list.
use Rattle.std.specs.Prelude.{ℕ, ◌≡◌, List, [], ◌∷◌, ℤ, length}
use Rattle.group.specs.Group.{Bytes}
use Rattle.reader.specs.Matrix.{behind_of}
use Rattle.lists.specs.Lists.{reversals_call}
use Rattle.rests.specs.declared.Operator.{Operator}
use Rattle.arithmetic.specs.Arithmetic.{arithmetic_call}
use Rattle.verdict.specs.Report.{accepted}
use Rattle.notices.specs.Sentence.{Notice, sentence_report, bytes_after_sentence}
use Rattle.recipes.specs.declared.Recipe.{Recipe}
use Rattle.places.specs.declared.Shelf.{Shelf}
use Rattle.places.specs.Outcome.{Outcome, outcome}
use Rattle.operations.specs.declared.Task.{Task}
use Rattle.operations.specs.declared.Task.TheVariants.{Product, Inverse, Converse, Transpose, Submatrix, Schur}
use Rattle.operations.specs.Operations.{build_call, recipe_call, minor_call}
use Rattle.operations.specs.Forecast.{task_call, forecast_call, recipe_forecast}
use Rattle.shelf.specs.Calls.{load_call, drop_call, write_call, length_call, carry_call, rows_call, factor_call}

-- a call with what it is given: places, an operation with its places and masks, a recipe, bytes, time stamps, an operator, items, what a sentence tells, and
-- last the bytes or items that it is lent to write to. An operation and a recipe have their target behind them; a forecast has none
pub data Call : Type 0 where
  load : ℕ → List ℕ → Call
  write : ℕ → List ℕ → Call
  byte_length : ℕ → Call
  drop : ℕ → Call
  operate : Task → ℕ → Call
  forecast : Task → Call
  recipe : Recipe → ℕ → Call
  forecast_recipe : Recipe → Call
  build : ℕ → List ℕ → Call
  minor : ℕ → ℕ → ℕ → Call
  carry : ℕ → List ℤ → List ℤ → Call
  reversals : List ℤ → Call
  arithmetic : Operator → List ℤ → Call
  rest : List ℕ → Call
  sentence : Notice → List ℕ → Call
  rows : ℕ → Call
  factor : ℕ → ℕ → ℕ → Call

-- the operations, each to a target
abbrev pub product : (l r t : ℕ) → Call
product l r t = operate (Product l r) t

abbrev pub inverse : (p t : ℕ) → Call
inverse p t = operate (Inverse p) t

abbrev pub converse : (p t : ℕ) → Call
converse p t = operate (Converse p) t

abbrev pub transpose : (p t : ℕ) → Call
transpose p t = operate (Transpose p) t

abbrev pub submatrix : (p I J t : ℕ) → Call
submatrix p I J t = operate (Submatrix p I J) t

abbrev pub schur : (p k t : ℕ) → Call
schur p k t = operate (Schur p k) t

-- WHAT A CALL DOES; `rest` returns bytes: the part of those it is given behind the first matrix. The shelf has no part in a sentence
unfoldable pub run : Shelf → Call → Outcome
run s (load p bytes) = load_call s p bytes
run s (write p out) = write_call s p out
run s (byte_length p) = outcome s (length_call s p)
run s (drop p) = drop_call s p
run s (operate o t) = task_call s o t
run s (forecast o) = outcome s (forecast_call s o)
run s (recipe r t) = recipe_call s r t
run s (forecast_recipe r) = outcome s (recipe_forecast s r)
run s (build t stamps) = build_call s t stamps
run s (minor p I J) = outcome s (minor_call s p I J)
run s (carry p items out) = carry_call s p items out
run s (reversals items) = outcome s (reversals_call items)
run s (arithmetic o items) = outcome s (arithmetic_call o items)
run s (rest bytes) = record { shelf = s; report = accepted []; bytes = behind_of bytes; items = [] }
run s (sentence a out) = record { shelf = s; report = sentence_report a out; bytes = bytes_after_sentence a out; items = [] }
run s (rows p) = outcome s (rows_call s p)
run s (factor p i j) = outcome s (factor_call s p i j)

-- the bytes of a load are bytes, and a recipe has six slots
abbrev pub Given : Call → Type 0
Given (load p bytes) = Bytes bytes
Given (write p out) = Unit {0}
Given (byte_length p) = Unit {0}
Given (drop p) = Unit {0}
Given (operate o t) = Unit {0}
Given (forecast o) = Unit {0}
Given (recipe r t) = length r.steps ≡ 6
Given (forecast_recipe r) = Unit {0}
Given (build t stamps) = Unit {0}
Given (minor p I J) = Unit {0}
Given (carry p items out) = Unit {0}
Given (reversals items) = Unit {0}
Given (arithmetic o items) = Unit {0}
Given (rest bytes) = Unit {0}
Given (sentence a out) = Unit {0}
Given (rows p) = Unit {0}
Given (factor p i j) = Unit {0}

-- the shelf after a list of calls, where f gives that after one
unfoldable pub after_each : (Shelf → Call → Outcome) → Shelf → List Call → Shelf
after_each f s [] = s
after_each f s (c ∷ L) = after_each f (f s c).shelf L

abbrev pub after_calls : Shelf → List Call → Shelf
after_calls = after_each run

abbrev pub AllGiven : List Call → Type 0
AllGiven [] = Unit {0}
AllGiven (c ∷ L) = Given c × AllGiven L
