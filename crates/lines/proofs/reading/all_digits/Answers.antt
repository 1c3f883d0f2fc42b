-- `lines::all_digits` meets its contract: what `all` answers is what the definition says.
use mathlib.Core.Bool.{◌||◌}
use mathlib.Core.Path.{◌∙◌}
use native.Mathlib.Omega.{arith}
use Rattle.std.proofs.lemmas.Bool.Decides.{nat_tests}
use Rattle.std.proofs.lemmas.Iterator.{YieldsList-from_slice}
use Rattle.std.proofs.lemmas.Iterator.Search.{all_from_yields_List}
use Rattle.lines.specs.Decimal.{is_numeral}
use Rattle.lines.specs.Hexadecimal.{is_letter}
use Rattle.lines.proofs.Pairs.{digits-all}
use Rattle.lines.proofs.reading.all_digits.Goals as goal

pub returns : goal.returns
returns c =
    all_from_yields_List (λ b. is_numeral b || is_letter b) _ _ _ c.all.ensures.ran (YieldsList-from_slice c.args.s.now cc)
    (λ x b q k. grind (arith, nat_tests))
    ∙ digits-all c.args.s.now
