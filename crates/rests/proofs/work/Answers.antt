-- `work` meets its contract: what each operation returns is small (`rounded-small`).
use Rattle.rests.specs.declared.Operator.TheVariants.{Add, Multiply, Divide}
use Rattle.rests.proofs.Balance.{rounded-small}
use Rattle.rests.proofs.work.Goals as goal

pub returns-in-Add-clause-small : goal.returns-in-Add-clause-small
returns-in-Add-clause-small c = rw c.add.ensures (rounded-small Add c.args.a c.args.b c.requires)

pub returns-in-Multiply-clause-small : goal.returns-in-Multiply-clause-small
returns-in-Multiply-clause-small c = rw c.multiply.ensures (rounded-small Multiply c.args.a c.args.b c.requires)

pub returns-in-Divide-clause-small : goal.returns-in-Divide-clause-small
returns-in-Divide-clause-small c = rw c.divide.ensures (rounded-small Divide c.args.a c.args.b c.requires)
