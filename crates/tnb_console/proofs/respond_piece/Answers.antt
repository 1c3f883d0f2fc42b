-- `tnb_console::respond_piece` meets its contract: the text is answered, and what goes on moved to the front (`piece-answered`).
use native.Mathlib.Omega.{arith}
use lib.ListN.{length-take}
use Rattle.tnb_console.proofs.Going.{piece-answered}
use Rattle.tnb_console.proofs.respond_piece.Goals as goal

pub hold-held-requires : goal.hold-held-requires
hold-held-requires c =
    record { start_le_n = omega (arith, simp length-take at c.respond_text-state.ensures.text_answered.within); n_in_bounds = c.requires.start_value.1 }

pub returns : goal.returns
returns c =
    record {
      orderly_2 = c.respond_text-state.ensures.orderly_2;
      piece_answered = piece-answered c.respond_text-state.ensures.text_answered c.hold-held.result _ c.hold-held.ensures.input_after c.hold-held.ensures.upper_bound;
    }
