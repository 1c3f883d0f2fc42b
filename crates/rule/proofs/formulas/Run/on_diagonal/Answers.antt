-- `Run::on_diagonal` meets its contract: leading minors are not zero.
use mathlib.Core.Path.{ap₂, ◌∙◌}
use mathlib.Core.Bool.{false}
use Prim.Native.Nat.{◌-◌}
use native.Mathlib.Omega.{arith}
use Rattle.number.specs.Number.{quotient_of}
use Rattle.words.specs.Formula.{on_diagonal}
use Rattle.rule.proofs.Quotients.{minor-reach, minor-nonzero}
use Rattle.rule.proofs.formulas.Run.on_diagonal.Goals as goal

pub div-requires : goal.div-requires
div-requires c = (
  minor-reach c.run_minor-upper.ensures.ranged,
  minor-reach c.run_minor-lower.ensures.ranged,
  minor-nonzero c.run_minor-lower.ensures.number_value ((c.args.self.now.workable.divisible false).leading (c.args.i - 1) (omega arith)),
)

pub returns-clause-number_value : goal.returns-clause-number_value
unfolding on_diagonal
returns-clause-number_value c =
    c.div.ensures.value ∙ ap₂ quotient_of c.run_minor-upper.ensures.number_value c.run_minor-lower.ensures.number_value
