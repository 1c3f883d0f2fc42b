-- `carry` meets its contract: its tests come to those of the definition, and where all pass, what is written is the list carried, which has no more reversals
-- than the list given.
use borrow.Author.Rules.{rules}
use mathlib.Core.Path.{◌≡◌, sym, ap, ap₂, ◌∙◌, subst}
use mathlib.Core.Bool.{Bool}
use mathlib.Core.List.{List}
use Prim.Native.Nat.{◌*◌}
use lib.Dec.{ltb}
use lib.IntN.{ℤ}
use lib.ListN.{length, take}
use Rattle.std.specs.Prelude.{Err}
use Rattle.verdict.specs.declared.Reason.TheVariants.{ExponentOutOfRange, OutputTooShort}
use Rattle.verdict.specs.Verdict.{Verdict, when, or_else, first_of}
use Rattle.table.specs.Table.{factors_of}
use Rattle.items.specs.Items.{list_of}
use Rattle.items.proofs.ListRead.{Read, read_is, not-read, read-ranged}
use Rattle.lists.specs.Lists.{carry_tests}
use Rattle.lists.specs.Promise.{NoMoreReversals}
use Rattle.lists.proofs.Outcomes.{carry-improper, carry-judged, carry-written, carry-kept}
use Rattle.lists.proofs.Steady.{carry-steady}
use Rattle.lists.proofs.carry.Goals as goal
use Rattle.lists.proofs.carry.Goals.{In-Some, After-refuse_if, In_ok-refuse_if-2}

pub returns-in_default : goal.returns-in_default
returns-in_default c =
    let e = carry-improper _ (factors_of c.args.factors) _ c.args.out.now (not-read _ _ _ (sym c.in_default.is ∙ c.read.ensures)) in
    record { value = ap Err c.into.ensures ∙ sym e; out_after = carry-kept _ _ _ _ _ e; steady = tt }

-- the list as it was read
list : (c : In-Some) → Read c.args.n c.args.n (list_of c.args.items.now) c.in-Some.list
list c = read_is _ _ _ _ c.requires.1 (sym c.in-Some.is ∙ c.read.ensures)

pub through-u-requires : goal.through-u-requires
through-u-requires c = (c.requires.0, c.requires.1, read-ranged _ (list (goal.at.through-u-requires c).In-Some), c.requires.2)

-- the tests, as the code makes them
judged : (c : After-refuse_if) → first_of (carry_tests c.args.n (factors_of c.args.factors) c.args.items.now c.args.out.now)
    ≡ or_else c.refuse_if.result (when (ltb (length c.args.out.now) (3 * c.args.n)) OutputTooShort)
judged c =
    carry-judged _ _ _ _ _ (read_is _ _ _ c.in-Some.list c.requires.1 (sym c.in-Some.is ∙ c.read.ensures)) _ c.through-u.ensures.result_value
    ∙ ap (λ (u : Verdict). or_else u (when (ltb (length c.args.out.now) (3 * c.args.n)) OutputTooShort))
    (sym (c.refuse_if.ensures ∙ ap (λ (t : Bool). when t ExponentOutOfRange) c.any_outside.ensures))

pub returns-in_err-refuse_if : goal.returns-in_err-refuse_if
returns-in_err-refuse_if c =
    let h : c.from_residual.result ≡ Err c.in_err-refuse_if.field-0.0 = search rules in
    let e = judged (goal.at.returns-in_err-refuse_if c).After-refuse_if
    ∙ ap (λ (u : Verdict). or_else u (when (ltb (length c.args.out.now) (3 * c.args.n)) OutputTooShort)) c.in_err-refuse_if.was in
    record { value = h ∙ sym e; out_after = carry-kept _ _ _ _ _ e; steady = rw h tt }

pub returns-in_err-refuse_if-2 : goal.returns-in_err-refuse_if-2
returns-in_err-refuse_if-2 c =
    let h : c.from_residual-in_err-refuse_if-2.result ≡ Err c.in_err-refuse_if-2.field-0.0 = search rules in
    let e = judged (goal.at.returns-in_err-refuse_if-2 c).After-refuse_if
    ∙ ap₂ or_else c.in_ok-refuse_if.was (sym c.refuse_if-2.ensures ∙ c.in_err-refuse_if-2.was) in
    record { value = h ∙ sym e; out_after = carry-kept _ _ _ _ _ e; steady = rw h tt }

pub returns : goal.returns
returns c =
    let items : List ℤ = c.args.items.now in
    let passed = judged (goal.at.returns c).After-refuse_if ∙ ap₂ or_else c.in_ok-refuse_if.was (sym c.refuse_if-2.ensures ∙ c.in_ok-refuse_if-2.was) in
    let wrote = c.write.ensures ∙ carry-written _ _ _ _ _ (list (goal.at.returns c).In-Some) _ c.through-u.ensures.result_value passed in
    let steady = carry-steady _ _ c.requires.0 c.requires.1 c.requires.2 items _ passed in
    record {
      value = sym passed;
      out_after = wrote;
      steady = subst (λ (out : List ℤ). NoMoreReversals items (take (length items) out)) (sym wrote) steady;
    }
