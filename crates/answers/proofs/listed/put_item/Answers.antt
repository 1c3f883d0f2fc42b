-- `answers::put_item` meets its contract: each number of the item fits the width that it is held at.
use mir.Syntax.{w64}
use mir.Val.{SFits}
use lib.IntN.{pos}
use lib.ListN.{get_or}
use Rattle.std.proofs.lemmas.Int.{to_z-of_z}
use borrow.Author.Rules.{rules}
use Rattle.lines.specs.Ascii.{ascii}
use Rattle.lines.proofs.Text.{puts-behind}
use Rattle.answers.specs.Items.{item_text}
use Rattle.answers.proofs.listed.put_item.Goals as goal

pub returns : goal.returns
unfolding item_text
returns c =
    let item = c.args.item.now in
    let s : SFits w64 (get_or item 0 (pos 0)) = search rules in
    let m : SFits w64 (get_or item 1 (pos 0)) = search rules in
    let e : SFits w64 (get_or item 2 (pos 0)) = search rules in
    puts-behind (rw (to_z-of_z w64 _ s) at c.put_integer-comma.ensures) (puts-behind {a = ascii ","} c.put-second.ensures
    (puts-behind (rw (to_z-of_z w64 _ m) at c.put_integer-end.ensures) (puts-behind {a = ascii ","} c.put-third.ensures
    (rw (to_z-of_z w64 _ e) at c.put_integer.ensures))))
