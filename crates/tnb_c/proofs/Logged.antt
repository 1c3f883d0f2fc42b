-- THE PROMISE OF A WORKED NUMBER in C (`logged-answer`): an answer with number 0 is that of an accepted call, since every reason has a
-- number above 0; and the log of an accepted call balances (`Logged`).
use Prim.Native.Nat.{ℕ}
use native.Mathlib.Omega.{arith}
use mathlib.Core.Path.{◌≡◌, sym, ap, ◌∙◌}
use mathlib.Core.Bool.{not}
use mathlib.Core.List.{List}
use lib.IntN.{ℤ}
use Rattle.std.specs.Prelude.{Result, Ok, Err}
use Rattle.verdict.specs.declared.Refusal.{Refusal}
use Rattle.verdict.specs.Verdict.{first_of}
use Rattle.rests.specs.declared.Operator.{Operator}
use Rattle.items.specs.Items.{list_of, proper}
use Rattle.arithmetic.specs.Arithmetic.{is_positive, first_item, second_item, arithmetic_tests, arithmetic_call, worked_report}
use Rattle.arithmetic.specs.Promise.{Logged}
use Rattle.arithmetic.specs.declared.Worked as arithmetic
use Rattle.arithmetic.proofs.Outcomes.{answered}
use Rattle.tnb_c.specs.declared.Worked.{Worked}
use Rattle.tnb_c.specs.Answers.{number_of, worked_of, LoggedAnswer}
use Rattle.tnb_c.proofs.Numbers.{numbered-accepted}

module _ (o : Operator) (z : List ℤ) where
  accepted-call : number_of (arithmetic_call o z) ≡ 0 → first_of (arithmetic_tests z) ≡ Ok tt
  unfolding arithmetic_call
  accepted-call = numbered-accepted (first_of (arithmetic_tests z)) _

  by-answer : (x : Result arithmetic.Worked Refusal) → worked_report x ≡ arithmetic_call o z → Logged o z x → LoggedAnswer o (worked_of (worked_report x)) z
  by-answer (Ok m) told log n = log
  by-answer (Err w) told log n =
      let accepted = answered o z (accepted-call (ap number_of (sym told) ∙ n)) in
      let never : ◌≡◌ {A = ℕ} 0 1 = cc in
      absurd (omega arith)

  -- WHAT A CALL ANSWERED a is known to equal: the contract's two clauses
  pub logged-answer : (a : Worked) (x : Result arithmetic.Worked Refusal) → worked_report x ≡ arithmetic_call o z → Logged o z x
      → a ≡ worked_of (worked_report x)
      → (a ≡ worked_of (arithmetic_call o z)) × LoggedAnswer o a z
  logged-answer a x told log e = (e ∙ ap worked_of told, rw e (by-answer x told log))
