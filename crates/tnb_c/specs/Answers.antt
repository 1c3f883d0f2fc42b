-- What the calls for C and Rust answer. Nothing vouches for the shelf that such a caller hands over, so it is tested first (`checked`): on a good shelf the
-- call is run (`run`, the one list of calls), any other is turned away with 255 (`foreign`). What a call does as a struct that C can hold: `answer_of`,
-- `length_of`, `value_of`, `worked_of`, `status_of`. Demand 3 of an answer: `Answered`; the promise of a build: `BuiltAnswer`; of a carry: `SteadyStatus`; of a
-- worked number: `LoggedAnswer`; of a sentence: `SentenceAnswer`. Any sequence of calls: `after_answers`.
use Rattle.std.specs.Prelude.{ℕ, ◌≤◌, ◌<◌, ◌≡◌, cond, List, [], ℤ, pos, nat_abs, length, take, get_or}
use Rattle.number.specs.declared.Number.{Number}
use Rattle.words.specs.Operation.{Operation}
use Rattle.verdict.specs.Report.{Report, accepted, refused}
use Rattle.rests.specs.Balance.{dyadic, Balanced}
use Rattle.rests.specs.declared.Operator.{Operator}
use Rattle.arithmetic.specs.Promise.{item_value}
use Rattle.places.specs.declared.Shelf.{Shelf}
use Rattle.places.specs.Check.{is_good}
use Rattle.places.specs.Outcome.{Outcome}
use Rattle.notices.specs.Sentence.{Notice, is_unsayable}
use Rattle.notices.specs.Promise.{TellsOnly, sentence_room}
use Rattle.lists.specs.Promise.{NoMoreReversals}
use Rattle.walk.specs.declared.Way.{Way}
use Rattle.recipes.specs.Recipe.{taken}
use Rattle.recipes.specs.Codes.{step_code, step_by}
use Rattle.operations.specs.Promise.{Met, Built}
use Rattle.shelf.specs.Run.{Call, load, write, byte_length, drop, operate, forecast, recipe, forecast_recipe, build, minor, run, after_each}
use Rattle.shelf.specs.Run.{carry, reversals, arithmetic, rest, sentence, rows, factor}
use Rattle.tnb_c.specs.declared.Answer.{Answer}
use Rattle.tnb_c.specs.declared.Length.{Length}
use Rattle.tnb_c.specs.declared.Status.{Status}
use Rattle.tnb_c.specs.declared.Steps.{Steps}
use Rattle.tnb_c.specs.declared.recipe.Step.{Step}
use Rattle.tnb_c.specs.declared.Value.{Value}
use Rattle.tnb_c.specs.declared.Worked.{Worked}

-- A SHELF THAT IS NOT GOOD is handed back with 255, and with what the call was lent
abbrev pub turned_away : Shelf → List ℕ → List ℤ → Outcome
turned_away s bytes items = record { shelf = s; report = refused 255 0; bytes = bytes; items = items }

abbrev pub foreign : Shelf → Call → Outcome
foreign s (load p bytes) = turned_away s [] []
foreign s (write p out) = turned_away s out []
foreign s (byte_length p) = turned_away s [] []
foreign s (drop p) = turned_away s [] []
foreign s (operate o t) = turned_away s [] []
foreign s (forecast o) = turned_away s [] []
foreign s (recipe r t) = turned_away s [] []
foreign s (forecast_recipe r) = turned_away s [] []
foreign s (build t stamps) = turned_away s [] []
foreign s (minor p I J) = turned_away s [] []
foreign s (carry p items out) = turned_away s [] out
foreign s (reversals items) = turned_away s [] []
foreign s (arithmetic o items) = turned_away s [] []
foreign s (rest bytes) = turned_away s [] []
foreign s (sentence a out) = turned_away s out []
foreign s (rows p) = turned_away s [] []
foreign s (factor p i j) = turned_away s [] []

-- A CALL on a shelf that nothing vouches for
unfoldable pub checked : Shelf → Call → Outcome
checked s c = cond (is_good s) (run s c) (foreign s c)

-- the shelf after a list of such calls
abbrev pub after_answers : Shelf → List Call → Shelf
after_answers = after_each checked

-- A REPORT in numbers: 0 for accepted, else the refusal's number; its offset; the value at k, 0 where there is none
abbrev pub number_of : Report → ℕ
number_of (accepted values) = 0
number_of (refused number offset) = number

abbrev pub offset_of : Report → ℕ
offset_of (accepted values) = 0
offset_of (refused number offset) = offset

abbrev pub value_at : ℕ → Report → ℤ
value_at k (accepted values) = get_or values k (pos 0)
value_at k (refused number offset) = pos 0

-- THE STRUCTS
abbrev pub answer_of : Outcome → Answer
answer_of x = record {
  number = number_of x.report;
  bound = nat_abs (value_at 0 x.report);
  offset = offset_of x.report;
  steps = nat_abs (value_at 1 x.report);
  shelf = x.shelf;
}

abbrev pub length_of : Report → Length
length_of r = record { number = number_of r; offset = offset_of r; length = nat_abs (value_at 0 r) }

abbrev pub value_of : Report → Value
value_of r = record { number = number_of r; offset = offset_of r; mantissa = nat_abs (value_at 0 r); exponent = value_at 1 r }

abbrev pub worked_of : Report → Worked
worked_of r = record {
  number = number_of r;
  offset = offset_of r;
  mantissa = nat_abs (value_at 0 r);
  exponent = value_at 1 r;
  rest = value_at 2 r;
  rest_exponent = value_at 3 r;
}

abbrev pub status_of : Report → Status
status_of r = record { number = number_of r; offset = offset_of r }

-- a step of a recipe, as C holds it
abbrev pub step_of : Way → ℕ → Step
step_of w p = record { code = step_code w p }

abbrev pub steps_of : Report → Steps
steps_of r = record { number = number_of r; offset = offset_of r; steps = nat_abs (value_at 0 r) }

-- WHAT AN ANSWER PROMISES: where its number is 0, P of the shelf that is handed back and of the bound and the steps that are answered
abbrev pub Promising : (Shelf → ℕ → ℕ → Type 0) → Answer → Type 0
Promising P a = a.number ≡ 0 → P a.shelf a.bound a.steps

-- demand 3 of an operation o on sources of n rows: place t holds the result, within the bound; and its steps are those made and those foretold
abbrev pub Answered : Answer → (t n : ℕ) → Operation Number → Type 0
Answered a t n o = Promising (λ s k e. Met s t n o k e) a

-- a build (document 02, request (a)): place t holds the factors of the stamps, within the bound
abbrev pub BuiltAnswer : Answer → (t : ℕ) → (stamps : List ℕ) → Type 0
BuiltAnswer a t stamps = Promising (λ s k e. Built s t stamps k) a

-- THE PROMISE OF A FORECAST (document 02, request (k)): to whatever place, an operation or recipe that is answered 0 was foretold, and made just those steps
abbrev pub ForetoldAnswer : Shelf → (ℕ → Call) → Steps → Type 0
ForetoldAnswer s call f = (t : ℕ) → (let a = answer_of (checked s (call t)) in a.number ≡ 0 → (f.number ≡ 0) × (f.steps ≡ a.steps))

-- and of a length: whatever is lent, a write that is answered 0 took just so many bytes
abbrev pub MeasuredAnswer : Shelf → ℕ → Length → Type 0
MeasuredAnswer s p f = (out : List ℕ) → (let w = length_of (checked s (write p out)).report in w.number ≡ 0 → (f.number ≡ 0) × (f.length ≡ w.length))

-- THE PROMISE OF A STEP (document 02, request (f)): a recipe takes it for this place in this way; a place above 7 is told by 8, which is no place either
pub record StepAnswer (w : Way) (p : ℕ) (x : Step) : Type 0 where
  pub there : p < 8 → step_by x.code ≡ taken w p
  pub above : 8 ≤ p → step_by x.code ≡ taken w 8

-- THE PROMISE OF A CARRY (document 02, request (b)): where its number is 0, the list that was written has no more reversals than the list that was given
abbrev pub SteadyStatus : Status → (given out : List ℤ) → Type 0
SteadyStatus a given out = a.number ≡ 0 → NoMoreReversals given (take (length given) out)

-- THE PROMISE OF A WORKED NUMBER (document 02, request (c)): where its number is 0, the log balances to the last bit, in the numbers that go in and come out
abbrev pub LoggedAnswer : Operator → Worked → (given : List ℤ) → Type 0
LoggedAnswer o a given =
    a.number ≡ 0 → Balanced o (item_value given 0) (item_value given 1) (dyadic (pos a.mantissa) a.exponent) a.rest a.rest_exponent

-- THE PROMISE OF A SENTENCE (document 02, request (n)): where its number is 0, what was written is the sentence of this notice and of no other; and with 220
-- lent bytes it is 9 where there is none to write, else 0
pub record SentenceAnswer (a : Notice) (out left : List ℕ) (r : Length) : Type 0 where
  pub recovered : r.number ≡ 0 → TellsOnly a (take r.length left)
  pub roomy : sentence_room ≤ length out → r.number ≡ cond (is_unsayable a) 9 0
