-- THE INPUT AS A WHOLE: however it arrives in pieces, the shelf is that after the lines of the whole (`any-pieces`). Shelves do not depend on the answers that
-- wait, and what is held has no line's end in it.
use Prim.Native.Nat.{ℕ}
use mathlib.Core.Path.{◌≡◌, refl, ap, ap₂, ◌∙◌}
use mathlib.Core.Bool.{Bool, true, false, cond}
use mathlib.Core.List.{List, [], ◌∷◌, ◌++◌, append-nil, append_assoc, flatten}
use Rattle.lines.specs.Words.{parted}
use Rattle.places.specs.declared.Shelf.{Shelf}
use Rattle.replies.specs.Replies.{reply_to_line}
use Rattle.tnb_console.specs.Session.{Session, after_line, after_lines, all_but_last, lines_of, unended, after_text, held, emptied, after_pieces}
use Rattle.tnb_console.proofs.Pieces.{last-whole, pieces}

-- whatever answers wait
waiting-free : (c e : Session) → c.shelf ≡ e.shelf → c.long ≡ e.long → (L : List (List ℕ))
    → ((after_lines c L).shelf ≡ (after_lines e L).shelf) × ((after_lines c L).long ≡ (after_lines e L).long)
unfolding after_lines after_line
waiting-free c e s l [] = (s, l)
waiting-free c e s l (line ∷ L) =
    waiting-free (after_line c line) (after_line e line) (ap₂ (λ (x : Shelf) (long : Bool). (reply_to_line x long line).shelf) s l) refl L

text-free : (c : Session) (text : List ℕ) → (after_text (emptied c) text).shelf ≡ (after_text c text).shelf
unfolding after_text
text-free c text = (waiting-free (emptied c) c refl refl (lines_of text)).0

-- no line ends in what is held
none-held : (c : Session) (text : List ℕ) → lines_of (held c text) ≡ []
unfolding all_but_last parted
none-held c text = by (after_text c text).long
  where
    by : (t : Bool) → all_but_last (parted 10 (cond t [] (unended text))) ≡ []
    by true = refl
    by false = rw (last-whole 10 text)

pieces-from : (c : Session) (start : List ℕ) → lines_of start ≡ [] → (P : List (List ℕ)) → (after_pieces c start P).shelf ≡ (after_text c (start ++ flatten P)).shelf
unfolding after_pieces after_text after_lines flatten
pieces-from c start none [] = rw (append-nil start, none)
pieces-from c start none (p ∷ P) =
    pieces-from (emptied (after_text c (start ++ p))) (held c (start ++ p)) (none-held c (start ++ p)) P
    ∙ text-free (after_text c (start ++ p)) (held c (start ++ p) ++ flatten P) ∙ ap (λ (d : Session). d.shelf) (pieces c (start ++ p) (flatten P))
    ∙ ap (λ (t : List ℕ). (after_text c t).shelf) (append_assoc start p (flatten P))

pub any-pieces : (c : Session) (P : List (List ℕ)) → (after_pieces c [] P).shelf ≡ (after_text c (flatten P)).shelf
unfolding all_but_last parted
any-pieces c P = pieces-from c [] refl P
