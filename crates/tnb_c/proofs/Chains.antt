-- A program in C that hands on what it was handed back is never answered with 255: after any calls from the empty shelf the test passes (`answers-good`), and
-- the shelf is the one that the shelf's own calls leave (`answers-calls`). Both from one law, that a good shelf passes the test and so its call is run (`own`).
use mathlib.Core.Path.{◌≡◌, refl, sym, ap, ◌∙◌, subst}
use mathlib.Core.Bool.{true}
use mathlib.Core.List.{List, [], ◌∷◌}
use Rattle.places.specs.declared.Shelf.{Shelf}
use Rattle.places.specs.Check.{is_good}
use Rattle.places.specs.Outcome.{Outcome}
use Rattle.places.specs.Shelf.{empty_shelf, Good}
use Rattle.places.proofs.Checking.{good-tested}
use Rattle.places.proofs.Holding.{good-empty}
use Rattle.shelf.specs.Run.{Call, Given, AllGiven, run, after_each, after_calls}
use Rattle.shelf.proofs.Sequences.{run-good, each-good}
use Rattle.tnb_c.specs.Answers.{checked, after_answers}
use Rattle.tnb_c.proofs.Checked.{run-checked}

own : (s : Shelf) → Good s → (c : Call) → run s c ≡ checked s c
own s g c = run-checked s c (good-tested s g)

checked-good : (s : Shelf) → Good s → (c : Call) → Given c → Good (checked s c).shelf
checked-good s g c h = subst (λ (x : Outcome). Good x.shelf) (own s g c) (run-good s g c h)

after-answers : (L : List Call) → AllGiven L → (s : Shelf) → Good s → after_answers s L ≡ after_calls s L
unfolding after_each
after-answers [] h s g = refl
after-answers (c ∷ L) h s g =
    ap (λ (x : Outcome). after_answers x.shelf L) (sym (own s g c)) ∙ after-answers L h.1 (run s c).shelf (run-good s g c h.0)

-- ANY CALLS FROM THE EMPTY SHELF
pub answers-calls : (L : List Call) → AllGiven L → after_answers empty_shelf L ≡ after_calls empty_shelf L
answers-calls L h = after-answers L h empty_shelf good-empty

pub answers-good : (L : List Call) → AllGiven L → is_good (after_answers empty_shelf L) ≡ true
answers-good L h = good-tested (after_answers empty_shelf L) (each-good checked checked-good L h empty_shelf good-empty)
