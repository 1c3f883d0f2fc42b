-- The invariant in `sentences::put_places`: the places so far are put, each behind a space.
use mathlib.Core.List.{◌++◌}
use Rattle.lines.specs.Ascii.{ascii}
use Rattle.lines.specs.Text.{decimal}
use Rattle.lines.proofs.Text.{Spelt}
use Rattle.sentences.proofs.put_places.Given as goal

abbrev pub invariant-loop-place : goal.invariant-loop-place
invariant-loop-place l = Spelt (λ p. ascii " " ++ decimal p) l.initial.out l.at l.places l.out l.to l.place-index
