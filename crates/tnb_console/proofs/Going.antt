-- The loop over the lines of a text (`Going`): what is left to be answered, on the shelf so far, leads to what the whole text leads to. A text answered
-- (`text-answered`), of which no more is held than a line may have (`held-short`).
use Prim.Native.Nat.{ℕ, ◌+◌, ◌-◌, ◌≤◌, ◌<◌}
use native.Mathlib.Omega.{arith}
use mathlib.Core.Path.{◌≡◌, refl, sym, ap, ap₂, ◌∙◌}
use mathlib.Core.Bool.{Bool, true, false, cond, ◌||◌, false≢true}
use mathlib.Core.List.{List, []}
use lib.Dec.{ltb}
use lib.ListN.{length, take, drop, length-drop}
use lib.Seq.{length-take-le}
use borrow.Author.Tests.{ltb-false}
use Rattle.lines.specs.Words.{before}
use Rattle.lines.proofs.Words.{take-before}
use Rattle.places.specs.Shelf.{Good}
use Rattle.tnb_console.specs.declared.State.{State}
use Rattle.tnb_console.specs.Session.{Session, after_line, after_lines, lines_of, unended, after_text, held}
use Rattle.tnb_console.specs.Kept.{session_of, Orderly, Responded, TextAnswered, PieceAnswered}
use Rattle.tnb_console.proofs.Lines.{lines_next, unended-next, lines_none, unended-none}

-- the line that starts at an index, and where it ends
abbrev pub EndsAt : List ℕ → (start end : ℕ) → Type 0
EndsAt text start end = end ≡ start + length (before 10 (drop start text))

pub line-lent : (text : List ℕ) (start end : ℕ) → EndsAt text start end → take (end - start) (drop start text) ≡ before 10 (drop start text)
line-lent text start end e =
    let n : end - start ≡ length (before 10 (drop start text)) = omega arith in
    rw n (take-before 10 (drop start text))

pub record Going (was : State) (text out : List ℕ) (now : State) (after : List ℕ) (start end : ℕ) : Type 0 where
  pub ready : Orderly now after
  pub same : now.start ≡ start
  pub within : start ≤ length text
  pub session : after_lines (session_of now after) (lines_of (drop start text)) ≡ after_lines (session_of was out) (lines_of (drop was.start text))
  pub rest : unended (drop start text) ≡ unended (drop was.start text)
  pub ends : EndsAt text start end

pub going-first : {was : State} {text out : List ℕ} {end : ℕ} → Orderly was out → was.start ≤ length text → EndsAt text was.start end
    → Going was text out was out was.start end
going-first ready within ends = record { ready = ready; same = refl; within = within; session = refl; rest = refl; ends = ends }

module _ {was : State} {text out : List ℕ} {now : State} {after : List ℕ} {start end : ℕ} (g : Going was text out now after start end) where
  pub going_next : {now' : State} {after' : List ℕ} {end' : ℕ} → end < length text → Orderly now' after'
      → session_of now' after' ≡ after_line (session_of now after) (take (end - start) (drop start text)) → now'.start ≡ end + 1 → EndsAt text (end + 1) end'
      → Going was text out now' after' (end + 1) end'
  going_next {now'} {after'} h ready e s ends =
      let l : start + length (before 10 (drop start text)) < length text = omega (arith, g.ends) in
      let n : start + length (before 10 (drop start text)) + 1 ≡ end + 1 = omega (arith, g.ends) in
      let answered : session_of now' after' ≡ after_line (session_of now after) (before 10 (drop start text)) =
      e ∙ ap (after_line (session_of now after)) (line-lent text start end g.ends) in
      record {
        ready = ready;
        same = s;
        within = omega arith;
        session =
            ap (λ (c : Session). after_lines c (lines_of (drop (end + 1) text))) answered
            ∙ sym (rw n at (lines_next text start g.within l (session_of now after))) ∙ g.session;
        rest = sym (rw n at (unended-next text start g.within l)) ∙ g.rest;
        ends = ends;
      }

  pub going-last : length text ≤ end → Responded was text out now after
  going-last h =
      let l : length text ≤ start + length (before 10 (drop start text)) = omega (arith, g.ends) in
      record {
        session = sym (lines_none text start g.within l (session_of now after)) ∙ g.session;
        rest = rw g.same (sym (unended-none text start g.within l) ∙ g.rest);
        within = rw g.same g.within;
      }

-- all of a text answered
pub text-answered : {was : State} {text out : List ℕ} {now : State} {after : List ℕ} → Responded was text out now after → was.start ≡ 0 → (st : State)
    → st.shelf ≡ now.shelf → st.long ≡ now.long || ltb 4096 (length text - now.start) → st.waiting ≡ now.waiting → st.start ≡ now.start
    → TextAnswered was text out st after
unfolding after_text
text-answered {was} {text} {out} {now} {after} r z st s l w n =
    let session : session_of now after ≡ after_lines (session_of was out) (lines_of text) = rw z at r.session in
    let rest : drop now.start text ≡ unended text = rw z at r.rest in
    let long : length text - now.start ≡ length (unended text) = sym (length-drop now.start text) ∙ ap length rest in
    record {
      session =
          rw (s, w, l, long)
          (ap (λ (c : Session). record { shelf = c.shelf; long = c.long || ltb 4096 (length (unended text)); waiting = c.waiting }) session);
      rest = rw n rest;
      within = rw n r.within;
    }

pub orderly-as : {now st : State} {out : List ℕ} → Orderly now out → st.shelf ≡ now.shelf → st.waiting ≡ now.waiting → Orderly st out
orderly-as o s w = record { good = rw s o.good; whole = o.whole; within = rw w o.within }

-- where no answer waits
pub kept-orderly : {st : State} {out : List ℕ} → Good st.shelf → st.waiting ≡ 0 → length out ≡ 65536 → Orderly st out
kept-orderly g w l = record { good = g; whole = l; within = omega arith }

-- what is held of a line is never longer than a line may be
pub held-short : (c : Session) (text input : List ℕ) (n : ℕ) → take n input ≡ held c text → n ≤ length input → n ≤ 4096
unfolding after_text
held-short c text input n e h = by (after_text c text).long refl (sym (length-take-le n input h) ∙ ap length e)
  where
    short : (b : Bool) → b || ltb 4096 (length (unended text)) ≡ false → length (unended text) ≤ 4096
    short true f = absurd (false≢true (sym f))
    short false f = ltb-false 4096 (length (unended text)) f

    by : (b : Bool) → (after_text c text).long ≡ b → n ≡ length (cond b [] (unended text)) → n ≤ 4096
    by true f g = omega arith
    by false f g = omega (arith, short (after_lines c (lines_of text)).long f)

-- a piece of the input answered: the rest of the text moved to the front
pub piece-answered : {was : State} {text out : List ℕ} {st : State} {after : List ℕ} → TextAnswered was text out st after → (n : ℕ) (input : List ℕ)
    → take n input ≡ cond st.long [] (drop st.start text) → n ≤ length input → PieceAnswered was text out (record { state = st; held = n }) input after
piece-answered {was} {text} {out} t n input e h =
    let front : take n input ≡ held (session_of was out) text =
    e ∙ ap₂ (λ (b : Bool) (l : List ℕ). cond b [] l) (ap (λ (c : Session). c.long) t.session) t.rest in
    record { session = t.session; front = front; few = held-short (session_of was out) text input n front h }
