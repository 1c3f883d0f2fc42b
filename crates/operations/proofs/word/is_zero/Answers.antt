-- `word::is_zero` meets its contract: the word of one plain step is that of the matrix, and the walk in Bools tells of its minor.
use mathlib.Core.Path.{◌≡◌, refl, ap, ◌∙◌}
use mathlib.Core.Bool.{Bool, true, false, not}
use Rattle.words.specs.Operation.{joined_word}
use Rattle.presence.specs.Presence.{nonzero}
use Rattle.presence.specs.Held.{held_at}
use Rattle.presence.proofs.Found.{told-whole}
use Rattle.operations.proofs.Made.{made-minor}
use Rattle.operations.proofs.word.is_zero.Goals as goal

twice : (t : Bool) → not (not t) ≡ t
twice true = refl
twice false = refl

pub returns : goal.returns
unfolding held_at joined_word
returns c =
    let a = c.args in
    let made = c.of_source-plain.ensures in
    let n = made.rows_are in
    let held = rw c.from.ensures at c.present-held.ensures in
    let told =
    told-whole c.of_source-plain.result.n a.rows a.columns _ c.present-held.result (rw n c.requires.le_n.1) (rw n c.requires.sets.0) (rw n c.requires.sets.1)
    c.requires.sets.2 held in
    rw c.from-2.ensures (ap not (told ∙ ap nonzero (made-minor made a.rows a.columns)) ∙ twice _)
