-- `tnb_console::move_up` meets its contract: what was moved stands in front.
use Prim.Native.Nat.{◌-◌}
use native.Mathlib.Omega.{arith}
use mathlib.Core.Path.{◌≡◌, ◌∙◌}
use lib.ListN.{length, take, drop, length-drop}
use lib.Seq.{length-take-le, take_at}
use Rattle.tnb_console.proofs.Moves.{take-drop}
use Rattle.tnb_console.proofs.move_up.Goals as goal

pub returns-clause-input_after : goal.returns-clause-input_after
returns-clause-input_after c =
    let old = c.args.input.now in
    let moved = take (c.args.n - c.args.start) (drop c.args.start old) in
    let l : length moved ≡ c.args.n - c.args.start =
    length-take-le (c.args.n - c.args.start) (drop c.args.start old) (omega (arith, length-drop c.args.start old, c.requires.n_in_bounds)) in
    rw c.copy_within.ensures.after (take_at moved _ (c.args.n - c.args.start) l ∙ take-drop c.args.start c.args.n old)
