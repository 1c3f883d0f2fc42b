-- `lines::word` meets its contract.
use native.Mathlib.Omega.{arith}
use mathlib.Core.Path.{◌≡◌, sym, ◌∙◌}
use lib.ListN.{drop}
use Rattle.arrays.proofs.Runs.{part-is}
use Rattle.lines.proofs.Words.{word-past, take-before}
use Rattle.lines.proofs.reading.word.Goals as goal

pub returns-in_default : goal.returns-in_default
returns-in_default c = sym (word-past c.args.s.now c.args.at (grind arith))

pub returns : goal.returns
returns c =
    let rest : c.in-Some.rest.now ≡ drop c.args.at c.args.s.now = c.in-Some.ensures.lookup.0.2 ∙ part-is c.args.s.now c.args.at in
    rw (c.before-2.ensures.value, rest) (take-before 32 (drop c.args.at c.args.s.now))
