-- `spell` meets its contract. The invariant: the letters below t are spelled.
use mathlib.Core.Path.{◌≡◌, refl, ap, ◌∙◌}
use Prim.Native.Nat.{◌+◌, ◌*◌, ◌<◌}
use native.Mathlib.Omega.{arith}
use Rattle.walk.specs.Letters.{middle}
use Rattle.walk.specs.Lent.{code_of}
use Rattle.walk.proofs.Lent.{spelled_none, spelled-passed, spelled-next, within-few}
use Rattle.walk.proofs.Spelling.{middle-few}
use Rattle.walk.proofs.source.spell.Goals as goal
use Rattle.walk.proofs.source.spell.Goals.{After-code}

pub loop-t-init : goal.loop-t-init
loop-t-init c = (omega arith, spelled_none c.requires.3)

pub loop-t-preserved-then-t-d : goal.loop-t-preserved-then-t-d
loop-t-preserved-then-t-d c = (omega arith, spelled-passed c.loop-t.invariant.1 (c.if-t-d.true ∙ c.middle-d.ensures.value))

pub code-requires : goal.code-requires
code-requires c = within-few c.requires.1 c.move_at.ensures.move_within

-- a place for the letter
bounded : (c : After-code) → let a = c.args in
    a.c * 57 + c.loop-t.t < 342
bounded c = omega (arith, middle-few c.args.n c.requires.1, c.middle-d.ensures.value)

pub bounds-l-c : goal.bounds-l-c
bounds-l-c c = omega (arith, bounded (goal.at.bounds-l-c c).After-code)

pub loop-t-preserved : goal.loop-t-preserved
loop-t-preserved c = (
  omega arith,
  spelled-next c.loop-t.invariant.1 (bounded (goal.at.loop-t-preserved c).After-code) _ _ _ refl
      (c.code.ensures ∙ ap code_of c.move_at.ensures.value) refl,
)

pub returns : goal.returns
returns c =
    let e : c.loop-t.t ≡ 2 * middle c.args.n + 1 = omega (arith, c.middle-d.ensures.value) in
    let S = rw e at c.loop-t.invariant.1 in
    record { spelled = record { letter = S.letter }; kept = record { same = S.before }; l_len = S.size }
