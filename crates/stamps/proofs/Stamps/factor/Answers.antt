-- `Stamps::factor` meets its contract: above the diagonal a stamp, on it a product, below it a quotient of two (`built-above`, `built-on`, `built-below`).
use native.Mathlib.Omega.{arith}
use Prim.Native.Nat.{◌+◌, ◌-◌}
use mathlib.Core.Path.{ap₂, ◌∙◌}
use Rattle.number.specs.Number.{quotient_of}
use Rattle.stamps.proofs.Rounded.{product-ranged, product-above, built-above, built-on, built-below}
use Rattle.stamps.proofs.Stamps.factor.Goals as goal

pub returns-then-i-j : goal.returns-then-i-j
returns-then-i-j c = let a = c.args in
    c.natural.ensures ∙ built-above a.self.now.stamps.now a.i a.j c.if-i-j.true

pub returns-then-i-j-2 : goal.returns-then-i-j-2
returns-then-i-j-2 c = let a = c.args in
    c.product.ensures ∙ built-on a.self.now.stamps.now a.i a.j c.requires.0 c.if-i-j-2.true

pub div-requires : goal.div-requires
div-requires c = let a = c.args in
    let h = c.requires in
    let t = a.self.now.timed in
    let upper = product-ranged _ t a.i (a.i - a.j + 1) (a.j - 1) (omega arith) (omega arith) h.1 in
    let lower = product-ranged _ t (a.i - 1) (a.i - a.j) (a.j - 1) (omega arith) (omega arith) (omega arith) in
    let nonzero = product-above _ t (a.i - 1) (a.i - a.j) (a.j - 1) (omega arith) (omega arith) (omega arith) in
    (rw c.product-above.ensures upper, rw c.product-below.ensures lower, rw c.product-below.ensures nonzero)

pub returns : goal.returns
returns c = let a = c.args in
    c.div.ensures.value ∙ ap₂ quotient_of c.product-above.ensures c.product-below.ensures
    ∙ built-below a.self.now.stamps.now a.i a.j c.requires.2 (omega arith)
