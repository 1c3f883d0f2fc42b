-- `Lent::act` meets its contract: D and letters with factor zero change nothing, the others are moves.
use mathlib.Core.Path.{sym, ◌∙◌, subst}
use mathlib.Core.Bool.{true, false}
use Rattle.walk.specs.Lent.{table_in}
use Rattle.walk.proofs.Lent.{factor-at}
use Rattle.presence.specs.Held.{state_of, Agree}
use Rattle.presence.proofs.Spelled.{present-still, present-moved, present-skipped, factor-no, factor-yes}
use Rattle.presence.proofs.Lent.act.Goals as goal

pub returns-then-t-middle : goal.returns-then-t-middle
returns-then-t-middle c =
    let a = c.args in
    let s = a.self.now in
    present-still s.n s.way (table_in s.factors.now s.c) s.walkable s.some s.few a.t c.requires a.turned (state_of a.v.now)
    (c.if-t-middle.true ∙ c.middle.ensures.value)

pub returns-then-vanishes : goal.returns-then-vanishes
returns-then-vanishes c =
    let a = c.args in
    let s = a.self.now in
    let m = c.letter_in-l in
    let f = c.factor_in-w.ensures ∙ sym (factor-at s.factors.now s.c m.result.at m.ensures.move_within.place) in
    present-skipped s.n s.way (table_in s.factors.now s.c) s.walkable s.some s.few a.t c.requires a.turned (state_of a.v.now)
    (λ e. c.if-t-middle.false (e ∙ sym c.middle.ensures.value)) m.result m.ensures.value
    (factor-no (table_in s.factors.now s.c) m.result.at _ f c.if-vanishes.true)

pub returns-then-turned : goal.returns-then-turned
returns-then-turned c =
    let a = c.args in
    let s = a.self.now in
    let m = c.letter_in-l in
    let f = c.factor_in-w.ensures ∙ sym (factor-at s.factors.now s.c m.result.at m.ensures.move_within.place) in
    rw c.if-turned.true (subst (Agree s.n (state_of c.moved.new.v))
    (sym (present-moved s.n s.way (table_in s.factors.now s.c) s.walkable s.some s.few a.t c.requires true (state_of a.v.now)
    (λ e. c.if-t-middle.false (e ∙ sym c.middle.ensures.value)) m.result m.ensures.value true
    (factor-yes (table_in s.factors.now s.c) m.result.at _ f c.if-vanishes.false))) c.moved.ensures)

pub returns-else-turned : goal.returns-else-turned
returns-else-turned c =
    let a = c.args in
    let s = a.self.now in
    let m = c.letter_in-l in
    let f = c.factor_in-w.ensures ∙ sym (factor-at s.factors.now s.c m.result.at m.ensures.move_within.place) in
    rw c.if-turned.false (subst (Agree s.n (state_of c.moved-else-turned.new.v))
    (sym (present-moved s.n s.way (table_in s.factors.now s.c) s.walkable s.some s.few a.t c.requires false (state_of a.v.now)
    (λ e. c.if-t-middle.false (e ∙ sym c.middle.ensures.value)) m.result m.ensures.value true
    (factor-yes (table_in s.factors.now s.c) m.result.at _ f c.if-vanishes.false))) c.moved-else-turned.ensures)
