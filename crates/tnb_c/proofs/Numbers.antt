-- A refusal never has the number 0, which says accepted: every reason's number is above 0 (`numbered`). So a number 0 is that of an accepted call
-- (`numbered-accepted`).
use Prim.Native.Nat.{ℕ, ◌<◌}
use native.Mathlib.Omega.{arith}
use mathlib.Core.Path.{◌≡◌, refl}
use mathlib.Core.List.{List}
use lib.IntN.{ℤ}
use Rattle.std.specs.Prelude.{Ok, Err}
use Rattle.verdict.specs.declared.Reason.{Reason}
use Rattle.verdict.specs.declared.Reason.TheVariants as reason
use Rattle.verdict.specs.Verdict as verdict
use Rattle.verdict.specs.Verdict.{Verdict}
use Rattle.verdict.specs.Report.{report_of}
use Rattle.tnb_c.specs.Answers.{number_of}

pub numbered : (r : Reason) → 0 < verdict.number_of r
numbered reason.NoSuchPlace = omega arith
numbered reason.BytesEndEarly = omega arith
numbered reason.MalformedGroup = omega arith
numbered reason.SizeOutOfRange = omega arith
numbered reason.FactorOutOfRange = omega arith
numbered reason.FactorZero = omega arith
numbered reason.BytesBehind = omega arith
numbered reason.WrongChoice = omega arith
numbered reason.WrongList = omega arith
numbered reason.OutputTooShort = omega arith
numbered reason.SourceEmpty = omega arith
numbered reason.TargetFull = omega arith
numbered reason.SizesDiffer = omega arith
numbered reason.ExponentOutOfRange = omega arith
numbered reason.WrongStamps = omega arith
numbered reason.PatternBroken = omega arith
numbered reason.Singular = omega arith
numbered reason.WrongStepCount = omega arith
numbered reason.WrongBounds = omega arith
numbered reason.CountTooLarge = omega arith
numbered reason.NothingPending = omega arith
numbered reason.ToleranceTooLarge = omega arith

pub numbered-accepted : (v : Verdict) (values : List ℤ) → number_of (report_of v values) ≡ 0 → v ≡ Ok tt
numbered-accepted (Ok u) values z = refl
numbered-accepted (Err w) values z = absurd (let h = numbered w.reason in omega (arith, h, z))
