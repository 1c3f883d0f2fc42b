-- THE PROMISE OF A CARRY in C (`carry-answered`; `carry-away` of a shelf that is turned away): a status with number 0 is that of an accepted carry, since 255
-- is not 0 and every reason has a number above 0; and an accepted carry adds no reversal (`call-steady`).
use Prim.Native.Nat.{ℕ, ◌*◌}
use native.Mathlib.Omega.{arith}
use mathlib.Core.Path.{◌≡◌, subst}
use mathlib.Core.Bool.{false, not}
use mathlib.Core.List.{List, []}
use lib.Dec.{ltb}
use lib.IntN.{ℤ}
use lib.ListN.{length}
use Rattle.std.specs.Prelude.{Ok, Err}
use Rattle.verdict.specs.Verdict.{first_of}
use Rattle.items.specs.Items.{list_of, items_of, proper}
use Rattle.lists.specs.Lists.{carried_list, any_outside, carry_tests}
use Rattle.places.specs.declared.Shelf.{Shelf}
use Rattle.places.specs.Shelf.{rows_at, factors_at, Good}
use Rattle.places.specs.Check.{is_good}
use Rattle.places.specs.Outcome.{Outcome}
use Rattle.conditions.specs.Conditions.{above, empty}
use Rattle.places.proofs.Checking.{good-tested}
use Rattle.shelf.specs.Calls.{place_carry_tests, carry_call}
use Rattle.shelf.specs.Run.{carry, run}
use Rattle.shelf.proofs.Carrying.{call-steady}
use Rattle.tnb_c.specs.declared.Status.{Status}
use Rattle.tnb_c.specs.Answers.{status_of, checked, SteadyStatus}
use Rattle.tnb_c.proofs.Checked.{run-checked, foreign-checked}
use Rattle.tnb_c.proofs.Numbers.{numbered-accepted}

module _ (s : Shelf) (p : ℕ) (given out : List ℤ) where
  -- what an outcome promises of the list that it leaves
  abbrev SteadyOutcome : Outcome → Type 0
  SteadyOutcome x = SteadyStatus (status_of x.report) given x.items

  own : Good s → SteadyOutcome (carry_call s p given out)
  unfolding carry_call
  own good z =
      let v = first_of (place_carry_tests s p given out) in
      call-steady s p given out good (numbered-accepted v [] z)

  pub carry-answered : Good s → SteadyOutcome (checked s (carry p given out))
  unfolding run
  carry-answered good = subst SteadyOutcome (run-checked s (carry p given out) (good-tested s good)) (own good)

  -- 255 is not 0
  pub carry-away : is_good s ≡ false → SteadyOutcome (checked s (carry p given out))
  carry-away e = subst SteadyOutcome (foreign-checked s (carry p given out) e) (λ z. absurd (omega arith))

  -- what a call answered and left is known to equal: the contract's three clauses
  pub with-steady : (a : Status) (last : List ℤ) → SteadyOutcome (checked s (carry p given out)) → a ≡ status_of (checked s (carry p given out)).report
      → last ≡ (checked s (carry p given out)).items
      → (a ≡ status_of (checked s (carry p given out)).report) × ((last ≡ (checked s (carry p given out)).items) × SteadyStatus a given last)
  with-steady a last k e f = (e, (f, rw (e, f) k))
