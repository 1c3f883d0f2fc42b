-- Turning a call down (document 01, "Turned down for the input", "Turned down for the state"). A call has a list of tests, each a condition with its reason, in
-- document 01's order;
-- the first condition that holds turns it down (`first_of`), and what the call would change then stays as it was (`after`).
use Rattle.std.specs.Prelude.{ℕ, Bool, true, false, List, [], ◌∷◌, Result, Ok, Err, ⊤}
use Rattle.verdict.specs.declared.Reason.{Reason}
use Rattle.verdict.specs.declared.Reason.TheVariants as reason
use Rattle.verdict.specs.declared.Refusal.{Refusal}

-- the papers' numbers of the reasons
abbrev pub number_of : Reason → ℕ
number_of reason.NoSuchPlace = 1
number_of reason.BytesEndEarly = 2
number_of reason.MalformedGroup = 3
number_of reason.SizeOutOfRange = 4
number_of reason.FactorOutOfRange = 5
number_of reason.FactorZero = 6
number_of reason.BytesBehind = 7
number_of reason.WrongChoice = 8
number_of reason.WrongList = 9
number_of reason.OutputTooShort = 10
number_of reason.SourceEmpty = 11
number_of reason.TargetFull = 12
number_of reason.SizesDiffer = 13
number_of reason.ExponentOutOfRange = 14
number_of reason.WrongStamps = 15
number_of reason.PatternBroken = 16
number_of reason.Singular = 17
number_of reason.WrongStepCount = 18
number_of reason.WrongBounds = 19
number_of reason.CountTooLarge = 20
number_of reason.NothingPending = 21
number_of reason.ToleranceTooLarge = 22

-- accepted, or turned down
abbrev pub Verdict : Type 0
Verdict = Result ⊤ Refusal

-- a reason at offset o
abbrev pub refused_at : Reason → ℕ → Verdict
refused_at r o = Err (record { reason = r; offset = o })

-- a test: a reason where a condition holds
abbrev pub when : Bool → Reason → Verdict
when true r = refused_at r 0
when false r = Ok tt

-- the verdict of what comes first, else of what comes behind it
abbrev pub or_else : Verdict → Verdict → Verdict
or_else (Ok u) v = v
or_else (Err w) v = Err w

-- the tests of a list behind a verdict
unfoldable pub first_behind : Verdict → List Verdict → Verdict
first_behind v [] = v
first_behind v (w ∷ L) = first_behind (or_else v w) L

-- THE FIRST that turns a call down
abbrev pub first_of : List Verdict → Verdict
first_of L = first_behind (Ok tt) L

-- what a call leaves: the new where nothing turned it down, else the old
abbrev pub after : {A : Type 0} → Verdict → A → A → A
after (Ok u) old new = new
after (Err w) old new = old
