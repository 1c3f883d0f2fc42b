-- `tnb_console::respond` meets its contract: the answer is put whole behind those that wait (`line-answered`).
use mathlib.Core.Path.{refl}
use mathlib.Core.Bool.{false}
use Rattle.tnb_console.specs.declared.State.{State}
use Rattle.tnb_console.proofs.Answers.{line-answered, line-ready}
use Rattle.tnb_console.proofs.respond.Goals as goal

pub returns : goal.returns
returns c =
    let replied = rw c.room-at.ensures at c.to_line-answered.ensures.replied in
    let done = c.to_line-answered.result in
    let now : State = record { shelf = done.shelf; start = c.args.next; waiting = done.at; long = false; written = c.args.was.written } in
    record {
      orderly = line-ready c.requires c.args.line.now replied _ c.to_line-answered.ensures.good refl;
      output_after = (line-answered c.requires c.args.line.now replied now refl refl refl, refl);
    }
