-- `outside` meets its contract: `any` asks each number in turn, as the definition does.
use mathlib.Core.Path.{refl, ◌∙◌}
use mathlib.Core.Bool.{not, ◌||◌}
use mathlib.Core.Path.{◌≡◌}
use mathlib.Core.List.{List}
use borrow.Author.Rules.{rules}
use Rattle.std.proofs.Common.{tests}
use Rattle.std.specs.List.{list_any}
use Rattle.std.proofs.lemmas.Iterator.{YieldsList-from_slice}
use Rattle.std.proofs.lemmas.Iterator.Search.{any_from_yields_List}
use Rattle.std.proofs.lemmas.List.Recursion.{same_from_clauses}
use Rattle.number.specs.Number.{in_range}
use Rattle.number.specs.declared.Number.{Number}
use Rattle.table.specs.Table.{outside}
use Rattle.table.proofs.outside.Goals as goal

asked : (L : List Number) → list_any (λ a. not (in_range a)) L ≡ outside L
unfolding outside
asked = same_from_clauses (list_any (λ a. not (in_range a))) outside (λ a t. not (in_range a) || t) refl (λ a L. refl) (λ a L. refl)

pub returns : goal.returns
returns c =
    any_from_yields_List (λ a. not (in_range a)) _ _ _ c.any.ensures.ran (YieldsList-from_slice c.args.t cc) (λ x b q k. search (rules, tests))
    ∙ asked c.args.t
