-- A call that tests the shelf first, as f sees its outcome: the call's own where the test passed (`answered`), 255 where it did not (`turned-away`).
-- By the value of the test.
use mathlib.Core.Path.{◌≡◌, sym, ap, ◌∙◌}
use mathlib.Core.Bool.{Bool, true, false, cond}
use Rattle.places.specs.declared.Shelf.{Shelf}
use Rattle.places.specs.Check.{is_good}
use Rattle.places.specs.Outcome.{Outcome}
use Rattle.shelf.specs.Run.{Call, run}
use Rattle.tnb_c.specs.Answers.{foreign, checked}

module _ (s : Shelf) (c : Call) where
  pub run-checked : is_good s ≡ true → run s c ≡ checked s c
  unfolding checked
  run-checked h = sym (ap (λ (t : Bool). cond t (run s c) (foreign s c)) h)

  pub foreign-checked : is_good s ≡ false → foreign s c ≡ checked s c
  unfolding checked
  foreign-checked h = sym (ap (λ (t : Bool). cond t (run s c) (foreign s c)) h)

  module _ {A : Type 0} (f : Outcome → A) {b : Bool} (tested : b ≡ is_good s) {r : A} where
    pub answered : b ≡ true → r ≡ f (run s c) → r ≡ f (checked s c)
    answered h e = e ∙ ap f (run-checked (sym tested ∙ h))

    pub turned-away : b ≡ false → r ≡ f (foreign s c) → r ≡ f (checked s c)
    turned-away h e = e ∙ ap f (foreign-checked (sym tested ∙ h))
