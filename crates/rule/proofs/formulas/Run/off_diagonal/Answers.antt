-- `Run::off_diagonal` meets its contract: the four minors are the formula's, and nothing is divided before the first one is known not to be zero.
use mathlib.Core.Path.{sym, subst}
use Prim.Native.Nat.{◌<◌}
use Rattle.number.specs.Number.{Ranged, reach}
use Rattle.number.specs.declared.Number.{Number}
use Rattle.rule.specs.Run.{run_size, run_minors}
use Rattle.rule.proofs.Quotients.{minor-reach, minor-nonzero, product-reach, product-nonzero, banded-zero, corner-nonzero, banded-quotient}
use Rattle.rule.proofs.formulas.Run.off_diagonal.Goals as goal

pub returns-then-vanishes-clause-number_value : goal.returns-then-vanishes-clause-number_value
returns-then-vanishes-clause-number_value c =
    let a = c.args in
    let r = a.self.now in
    banded-zero (run_size r) (run_minors r a.turned) a.i a.j c.with_row-corner.ensures.number_value c.if-vanishes.true c.zero.ensures

pub mul-requires : goal.mul-requires
mul-requires c = (minor-reach c.with_row-corner.ensures.ranged, minor-reach c.alone-before.ensures.ranged)

pub mul-requires-2 : goal.mul-requires-2
mul-requires-2 c = (minor-reach c.alone-run.ensures.ranged, minor-reach c.with_row-above.ensures.ranged)

pub div-requires : goal.div-requires
div-requires c =
    let a = c.args in
    let r = a.self.now in
    let p = c.requires in
    let d = r.workable.divisible a.turned in
    let z = corner-nonzero (run_size r) (run_minors r a.turned) a.i a.j c.with_row-corner.ensures.number_value c.if-vanishes.false in (
      subst (Ranged reach) (sym c.mul.ensures.value) (product-reach c.with_row-corner.ensures.ranged c.alone-before.ensures.ranged),
      subst (Ranged reach) (sym c.mul-2.ensures.value) (product-reach c.alone-run.ensures.ranged c.with_row-above.ensures.ranged),
      subst (λ (x : Number). 0 < x.m) (sym c.mul-2.ensures.value)
          (product-nonzero _ _ (minor-nonzero c.alone-run.ensures.number_value (d.run a.i a.j p.0 p.1 p.2))
          (minor-nonzero c.with_row-above.ensures.number_value (d.before a.i a.j p.0 p.1 p.2 z))),
    )

pub returns-clause-number_value : goal.returns-clause-number_value
returns-clause-number_value c =
    let a = c.args in
    let r = a.self.now in
    banded-quotient (run_size r) (run_minors r a.turned) a.i a.j c.with_row-corner.ensures.number_value c.if-vanishes.false
    c.alone-before.ensures.number_value c.alone-run.ensures.number_value c.with_row-above.ensures.number_value
    c.mul.ensures.value c.mul-2.ensures.value c.div.ensures.value
