-- `tnb_product::text` meets its contract: the two loads and the product are those of the definition.
use Rattle.operations.specs.Reports.{operated_outcome}
use Rattle.shelf.specs.Reports.{changed_outcome}
use Rattle.tnb_product.proofs.Program.{program}
use borrow.Author.Rules.{rules}
use Rattle.tnb_product.proofs.text.Goals as goal

pub returns : goal.returns
returns c = program _ _ _ (changed_outcome c.load-first.result) (changed_outcome c.load-second.result) (operated_outcome c.product-product.result)
    c.new.ensures.value c.load-first.ensures.result_value c.load-second.ensures.result_value c.product-product.ensures.result_value
    c.product-product.ensures.good (search rules) c.put_text.ensures
