-- `lines::read_whole` meets its contract. The loop's invariant: the numerals passed spell a number, and what is left is read behind it.
use Prim.Native.Nat.{◌+◌, ◌-◌, ◌*◌}
use native.Mathlib.Omega.{arith}
use mathlib.Core.Path.{◌≡◌, sym, ◌∙◌}
use lib.ListN.{get_or}
use Rattle.std.proofs.Common.{rules}
use Rattle.std.proofs.lemmas.Bool.Decides.{nat_tests}
use Rattle.lines.proofs.Numerals.{spelled_none, spelled-end, spelled-other, spelled-large, spelled-more}
use Rattle.lines.proofs.reading.read_whole.Goals as goal

pub loop-b-init : goal.loop-b-init
loop-b-init c = spelled_none _ _ (λ e. grind (arith, nat_tests))

pub returns-then-not-is_ascii_digit-clause-value : goal.returns-then-not-is_ascii_digit-clause-value
returns-then-not-is_ascii_digit-clause-value c =
    spelled-other c.loop-b.invariant c.loop-b-test.true (sym c.is_ascii_digit.ensures.value ∙ c.if-not-is_ascii_digit.true)

pub returns-in_err-checked_mul-clause-value : goal.returns-in_err-checked_mul-clause-value
returns-in_err-checked_mul-clause-value c = c.from_residual.ensures ∙ spelled-large c.loop-b.invariant c.loop-b-test.true (omega arith)

pub returns-in_err-value-clause-value : goal.returns-in_err-value-clause-value
returns-in_err-value-clause-value c = c.from_residual-in_err-value.ensures ∙ spelled-large c.loop-b.invariant c.loop-b-test.true (omega arith)

pub returns-then-above-clause-value : goal.returns-then-above-clause-value
returns-then-above-clause-value c =
    let e : c.in_ok-value.value ≡ c.loop-b.value * 10 + (get_or c.args.s.now c.loop-b.b-index 0 - 48) = search rules in
    spelled-large c.loop-b.invariant c.loop-b-test.true (omega arith)

pub loop-b-preserved : goal.loop-b-preserved
loop-b-preserved c =
    let e : c.in_ok-value.value ≡ c.loop-b.value * 10 + (get_or c.args.s.now c.loop-b.b-index 0 - 48) = search rules in
    rw e (spelled-more c.loop-b.invariant c.loop-b-test.true (sym c.is_ascii_digit.ensures.value ∙ c.if-not-is_ascii_digit.false) (omega arith))

pub returns-clause-value : goal.returns-clause-value
returns-clause-value c = spelled-end c.loop-b.invariant (omega arith)

pub returns-clause-whole_up_to : goal.returns-clause-whole_up_to
returns-clause-whole_up_to c = c.loop-b.invariant.small
