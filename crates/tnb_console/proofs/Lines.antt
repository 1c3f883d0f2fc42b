-- The lines of a text from an index on, as a loop meets them: one that ends is answered first, then those behind its end (`lines_next`, `unended-next`); where
-- none ends, nothing is answered and the text goes on (`lines_none`, `unended-none`).
use Prim.Native.Nat.{ℕ, suc, ◌+◌, ◌≤◌, ◌<◌}
use native.Mathlib.Omega.{arith}
use mathlib.Core.Path.{◌≡◌, sym, ap, ◌∙◌}
use mathlib.Core.List.{List, [], ◌∷◌}
use lib.ListN.{length, drop, length-drop}
use lib.Seq.{take_all}
use borrow.Author.Tests.{lt-ltb, le-ltb}
use Rattle.lines.specs.Words.{before, parted, parts_at}
use Rattle.lines.proofs.Words.{take-before}
use Rattle.lines.proofs.Parts.{parts_from, parts_first}
use Rattle.tnb_console.specs.Session.{Session, after_line, after_lines, all_but_last, last_of, lines_of, unended}

-- a text has a last part
all-but-more : (w t : List ℕ) → all_but_last (w ∷ parted 10 t) ≡ w ∷ all_but_last (parted 10 t)
unfolding all_but_last
all-but-more w t = rw (parts_first 10 t)

last_more : (w t : List ℕ) → last_of (w ∷ parted 10 t) ≡ last_of (parted 10 t)
unfolding last_of
last_more w t = rw (parts_first 10 t)

module _ (text : List ℕ) (start : ℕ) (h : start ≤ length text) where
  -- the line that starts there, and where it ends
  abbrev line : List ℕ
  line = before 10 (drop start text)

  abbrev end : ℕ
  end = start + length line

  behind : parted 10 (drop start text) ≡ line ∷ parts_at 10 text (end + 1)
  behind =
      let e : end + 1 ≡ start + suc (length line) = omega arith in
      parts_first 10 (drop start text) ∙ rw e (ap (λ ws. line ∷ ws) (parts_from 10 text start (suc (length line)) h))

  ended : end < length text → parted 10 (drop start text) ≡ line ∷ parted 10 (drop (end + 1) text)
  ended l = behind ∙ rw (le-ltb (length text) (end + 1) (omega arith))

  goes_on : length text ≤ end → parted 10 (drop start text) ≡ drop start text ∷ []
  goes_on l =
      let e : line ≡ drop start text =
      sym (take-before 10 (drop start text)) ∙ take_all (length line) (drop start text) (omega (arith, length-drop start text)) in
      behind ∙ rw (lt-ltb (length text) (end + 1) (omega arith), e)

  pub lines_next : end < length text → (c : Session) → after_lines c (lines_of (drop start text)) ≡ after_lines (after_line c line) (lines_of (drop (end + 1) text))
  unfolding after_lines
  lines_next l c = rw (ended l, all-but-more line (drop (end + 1) text))

  pub unended-next : end < length text → unended (drop start text) ≡ unended (drop (end + 1) text)
  unended-next l = rw (ended l) (last_more line (drop (end + 1) text))

  pub lines_none : length text ≤ end → (c : Session) → after_lines c (lines_of (drop start text)) ≡ c
  unfolding after_lines all_but_last
  lines_none l c = rw (goes_on l)

  pub unended-none : length text ≤ end → unended (drop start text) ≡ drop start text
  unfolding last_of
  unended-none l = rw (goes_on l)
