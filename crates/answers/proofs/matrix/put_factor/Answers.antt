-- `answers::put_factor` meets its contract: a factor's report is its mantissa and its exponent.
use mir.Syntax.{w64}
use mir.Val.{SFits}
use mir.Facts.{to_z-of_z}
use borrow.Author.Rules.{rules}
use Rattle.answers.proofs.matrix.put_factor.Goals as goal

pub returns : goal.returns
returns c = let fits : SFits w64 c.args.factor.exponent = search rules in
    rw (to_z-of_z fits) at c.put_number.ensures
