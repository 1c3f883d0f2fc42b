-- `requests::items::spelled_item` meets its contract: each number fits the width that it is held at.
use mir.Syntax.{w64}
use mir.Val.{SFits}
use mathlib.Core.Path.{refl, sym, ◌∙◌}
use Rattle.std.proofs.lemmas.Int.{to_z-of_z}
use borrow.Author.Rules.{rules}
use Rattle.requests.proofs.Triples.{item-is}
use Rattle.requests.proofs.items.spelled_item.Goals as goal

pub returns-in_err-sign : goal.returns-in_err-sign
returns-in_err-sign c = c.from_residual.ensures
    ∙ item-is c.args.word.now _ _ _ _ _ _ _ c.before-a.ensures.value c.behind-rest.ensures c.before-b.ensures.value refl
    (sym c.in_err-sign.was ∙ c.spelled_number.ensures) refl refl

pub returns-in_err-mantissa : goal.returns-in_err-mantissa
returns-in_err-mantissa c = c.from_residual-in_err-mantissa.ensures
    ∙ item-is c.args.word.now _ _ _ _ _ _ _ c.before-a.ensures.value c.behind-rest.ensures c.before-b.ensures.value refl
    (sym c.in_ok-sign.was ∙ c.spelled_number.ensures) (sym c.in_err-mantissa.was ∙ c.spelled_number-2.ensures) refl

pub returns-in_err-exponent : goal.returns-in_err-exponent
returns-in_err-exponent c = c.from_residual-in_err-exponent.ensures
    ∙ item-is c.args.word.now _ _ _ _ _ _ _ c.before-a.ensures.value c.behind-rest.ensures c.before-b.ensures.value c.behind.ensures
    (sym c.in_ok-sign.was ∙ c.spelled_number.ensures) (sym c.in_ok-mantissa.was ∙ c.spelled_number-2.ensures)
    (sym c.in_err-exponent.was ∙ c.spelled_number-3.ensures)

pub returns : goal.returns
returns c =
    let x : SFits w64 c.in_ok-sign.sign = search rules in
    let y : SFits w64 c.in_ok-mantissa.mantissa = search rules in
    let z : SFits w64 c.in_ok-exponent.exponent = search rules in
    rw (to_z-of_z w64 c.in_ok-sign.sign x, to_z-of_z w64 c.in_ok-mantissa.mantissa y, to_z-of_z w64 c.in_ok-exponent.exponent z)
    (item-is c.args.word.now _ _ _ _ _ _ _ c.before-a.ensures.value c.behind-rest.ensures c.before-b.ensures.value c.behind.ensures
    (sym c.in_ok-sign.was ∙ c.spelled_number.ensures) (sym c.in_ok-mantissa.was ∙ c.spelled_number-2.ensures)
    (sym c.in_ok-exponent.was ∙ c.spelled_number-3.ensures))
