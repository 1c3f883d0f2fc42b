-- `Number::add_product` meets its contract: the rounded product is added.
use mathlib.Core.Path.{ap, ◌∙◌}
use Rattle.number.specs.Number.{sum_of}
use Rattle.number.proofs.Number.add_product.Goals as goal

pub returns : goal.returns
returns c = c.add.ensures.value ∙ ap (sum_of c.args.self) c.mul.ensures.value
