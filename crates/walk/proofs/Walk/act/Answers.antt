-- `act` meets its contract: D in the middle of the word, else a move.
use borrow.Author.Rules.{rules}
use mathlib.Core.Path.{◌≡◌, sym, ◌∙◌, subst}
use native.Mathlib.Omega.{arith}
use mathlib.Core.List.{List}
use lib.ListN.{get_or}
use Rattle.number.specs.Number.{rounded, zero_number}
use Rattle.number.specs.declared.Number.{Number}
use Rattle.words.specs.Walk.{State}
use Rattle.walk.specs.Letters.{middle}
use Rattle.walk.specs.Lent.{table_in}
use Rattle.walk.specs.Held.{state_of, Agree}
use Rattle.walk.specs.Packed.{numbers_of}
use Rattle.walk.proofs.Held.{agree_trans}
use Rattle.walk.proofs.Lent.{factor-at}
use Rattle.walk.proofs.Acts.{letter-moved, letter-ranged, letter-scaled, entries-stored}
use Rattle.walk.proofs.Counting.{move-counted, diagonal-counted}
use Rattle.walk.proofs.Walk.act.Goals as goal
use Rattle.walk.proofs.Walk.act.Goals.{After-factor_in-w, Else-t-middle, Start}

-- the factors of the step
abbrev table : (c : Start) → List Number
table c = table_in c.args.self.now.factors.now c.args.c

abbrev table_at_After_factor_in_w : (c : After-factor_in-w) → List Number
table_at_After_factor_in_w c = table_in c.args.self.now.factors.now c.args.c

abbrev state : (c : Start) → State rounded
state c = state_of (numbers_of c.args.u.now)

pub diagonal-requires : goal.diagonal-requires
diagonal-requires c = record {
  working = c.requires.working;
  stored = (c.requires.letter.0, entries-stored c.args.self.now.n c.args.way (table (goal.at.diagonal-requires c).Start) c.requires.source.0);
}

pub returns-then-t-middle : goal.returns-then-t-middle
returns-then-t-middle c =
    let a = c.args in
    let s = a.self.now in
    let e : a.t ≡ middle s.n = c.if-t-middle.true ∙ c.middle.ensures.value in
    record {
      agree = agree_trans c.diagonal.ensures
          (letter-scaled s.n a.way (table (goal.at.returns-then-t-middle c).Start) c.requires.source.0 (search rules) s.rows.2 a.t
          c.requires.letter.1 s.k e (state (goal.at.returns-then-t-middle c).Start));
      value = (
        diagonal-counted s.n s.k a.way (table (goal.at.returns-then-t-middle c).Start) c.requires.source.0 (search rules) s.rows.2 a.t
            c.requires.letter.1 e,
        omega arith,
      );
    }

-- not the letter in the middle
apart : (c : Else-t-middle) → c.args.t ≡ middle c.args.self.now.n → ⊥
apart c e = c.if-t-middle.false (e ∙ sym c.middle.ensures.value)

pub letter_in-l-requires : goal.letter_in-l-requires
letter_in-l-requires c = record {
  le_n = (omega arith, c.args.self.now.rows.2, c.requires.letter.0, c.requires.letter.1, apart c);
  spelled = c.requires.source.1;
}

-- the letter's factor
factor : (c : After-factor_in-w) → c.factor_in-w.result ≡ get_or (table_at_After_factor_in_w c) c.letter_in-l.result.at zero_number
factor c =
    let a = c.args in
    let s = a.self.now in
    let m = c.letter_in-l in
    c.factor_in-w.ensures ∙ sym (factor-at s.factors.now a.c m.result.at m.ensures.move_within.place)

pub moved-requires : goal.moved-requires
moved-requires c =
    let a = c.args in
    let s = a.self.now in
    let m = c.letter_in-l in
    let ranged = letter-ranged s.n a.way (table (goal.at.moved-requires c).Start) c.requires.source.0 (search rules) s.rows.2 a.t c.requires.letter.1
    (apart (goal.at.moved-requires c).Else-t-middle) m.result m.ensures.value _ (factor (goal.at.moved-requires c).After-factor_in-w) in record {
      rows = m.ensures.move_within.rows;
      working = (c.requires.working, ranged);
    }

pub returns : goal.returns
returns c =
    let a = c.args in
    let s = a.self.now in
    let m = c.letter_in-l in
    let e = letter-moved s.n a.way (table (goal.at.returns c).Start) c.requires.source.0 (search rules) s.rows.2 a.t c.requires.letter.1
    (apart (goal.at.returns c).Else-t-middle) m.result m.ensures.value _ (factor (goal.at.returns c).After-factor_in-w) (state (goal.at.returns c).Start) in
    record {
      agree = subst (Agree s.n s.k _) (sym e) c.moved.ensures;
      value = (
        move-counted s.n s.k a.way (table (goal.at.returns c).Start) c.requires.source.0 (search rules) s.rows.2 a.t c.requires.letter.1
            s.rows.0
            s.rows.1 (apart (goal.at.returns c).Else-t-middle) s.many s.counted.0,
        s.counted.1,
      );
    }
