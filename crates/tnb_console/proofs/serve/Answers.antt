-- `tnb_console::serve` is safe: what is kept stays in order, and no more is held than a line may have.
use native.Mathlib.Omega.{arith}
use mathlib.Core.Path.{refl, sym, ap, ◌∙◌}
use mathlib.Core.List.{[]}
use Rattle.tnb_console.specs.Session.{Session}
use Rattle.tnb_console.proofs.Going.{kept-orderly}
use borrow.Author.Rules.{rules}
use Rattle.tnb_console.proofs.serve.Goals as goal

pub loop-init : goal.loop-init
loop-init c = (refl, refl, c.requires.0, c.requires.1, kept-orderly c.new.ensures.good refl c.requires.1, refl, omega arith)

pub finish-requires : goal.finish-requires
finish-requires c = c.loop.invariant.4

pub respond_piece-piece-requires : goal.respond_piece-piece-requires
respond_piece-piece-requires c = record { orderly = c.loop.invariant.4; start_value = (c.loop.invariant.5, c.read_more-n.ensures.upper_bound) }

pub deliver-requires-in-loop : goal.deliver-requires-in-loop
deliver-requires-in-loop c = c.respond_piece-piece.ensures.orderly_2.within

pub loop-preserved : goal.loop-preserved
loop-preserved c = (
  search rules,
  c.respond_piece-piece.ensures.orderly_2.whole ∙ sym c.loop.invariant.3,
  c.loop.invariant.2,
  c.loop.invariant.3,
  kept-orderly (rw (ap (λ (d : Session). d.shelf) (c.delivered-now.ensures.by_index [])) c.respond_piece-piece.ensures.orderly_2.good)
      c.delivered-now.ensures.start_value.1 c.respond_piece-piece.ensures.orderly_2.whole,
  c.delivered-now.ensures.start_value.0,
  c.respond_piece-piece.ensures.piece_answered.few,
)
