-- `worked` meets its contract, by the operation.
use mathlib.Core.Path.{sym, ap, ◌∙◌}
use native.Mathlib.Omega.{arith}
use Rattle.directed.specs.Directed.{number_of}
use Rattle.directed.proofs.Workable.{workable-ranged, added, multiplied, divided, not-divided}
use Rattle.directed.proofs.worked.Goals as goal

pub add-requires : goal.add-requires
add-requires c = (workable-ranged _ c.requires.0, workable-ranged _ c.requires.1)

pub returns-in-Add : goal.returns-in-Add
returns-in-Add c = c.add.ensures.value ∙ sym (added _ _ _ _ (ap number_of c.in-Add.is))

pub mul-requires : goal.mul-requires
mul-requires c = (workable-ranged _ c.requires.0, workable-ranged _ c.requires.1)

pub returns-in-Multiply : goal.returns-in-Multiply
returns-in-Multiply c = c.mul.ensures.value ∙ sym (multiplied _ _ _ _ (ap number_of c.in-Multiply.is))

pub returns-in-Divide : goal.returns-in-Divide
returns-in-Divide c = sym (not-divided _ _ _ _ (ap number_of c.in-Divide.is) c.if-b-eq0.true)

pub div-requires : goal.div-requires
div-requires c = (workable-ranged _ c.requires.0, workable-ranged _ c.requires.1, omega arith)

pub returns-in-Divide-2 : goal.returns-in-Divide-2
returns-in-Divide-2 c = c.div.ensures.value ∙ sym (divided _ _ _ _ (ap number_of c.in-Divide.is) (omega arith))
