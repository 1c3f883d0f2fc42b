-- THE CONSOLE FROM LINE TO LINE (`Session`). A line is answered on the shelf that the line before it left (`after_line`); so are the lines of a text, one after
-- the other (`after_lines`), and what goes on behind the last of them may be too long (`after_text`). Answers wait one behind the other until they are written.
use Rattle.std.specs.Prelude.{ℕ, Bool, false, cond, ◌||◌, List, [], ◌∷◌, ◌++◌, ltb, length}
use Rattle.lines.specs.Words.{parted}
use Rattle.places.specs.declared.Shelf.{Shelf}
use Rattle.replies.specs.Replies.{overlong, reply_to_line}

-- what is kept between two lines: the shelf, whether the start of the next line was thrown away, and the answers that wait
pub record Session : Type 0 where
  pub shelf : Shelf
  pub long : Bool
  pub waiting : List ℕ

-- before an answer is put, those that wait are written if they have so many bytes
abbrev pub enough : ℕ
enough = 16384

abbrev pub still_waiting : List ℕ → List ℕ
still_waiting waiting = cond (ltb (length waiting) enough) waiting []

-- A LINE, answered behind the answers that wait
unfoldable pub after_line : Session → List ℕ → Session
after_line c line =
    record {
      shelf = (reply_to_line c.shelf c.long line).shelf;
      long = false;
      waiting = still_waiting c.waiting ++ (reply_to_line c.shelf c.long line).text;
    }

-- lines, one after the other
unfoldable pub after_lines : Session → List (List ℕ) → Session
after_lines c [] = c
after_lines c (line ∷ lines) = after_lines (after_line c line) lines

-- the answers to lines, one behind the other, and what is written before the last of them is put
unfoldable pub answers_to : Session → List (List ℕ) → List ℕ
answers_to c [] = []
answers_to c (line ∷ lines) = (reply_to_line c.shelf c.long line).text ++ answers_to (after_line c line) lines

unfoldable pub written_of : Session → List (List ℕ) → List ℕ
written_of c [] = []
written_of c (line ∷ lines) = cond (ltb (length c.waiting) enough) [] c.waiting ++ written_of (after_line c line) lines

-- of a text's parts, all but the last have an end
unfoldable pub all_but_last : List (List ℕ) → List (List ℕ)
all_but_last [] = []
all_but_last (w ∷ []) = []
all_but_last (w ∷ v ∷ ws) = w ∷ all_but_last (v ∷ ws)

unfoldable pub last_of : List (List ℕ) → List ℕ
last_of [] = []
last_of (w ∷ []) = w
last_of (w ∷ v ∷ ws) = last_of (v ∷ ws)

-- the lines that end in a text, and what stands behind the last end
abbrev pub lines_of : List ℕ → List (List ℕ)
lines_of text = all_but_last (parted 10 text)

abbrev pub unended : List ℕ → List ℕ
unended text = last_of (parted 10 text)

-- A TEXT: its lines, and whether what goes on behind them is too long already
unfoldable pub after_text : Session → List ℕ → Session
after_text c text =
    record {
      shelf = (after_lines c (lines_of text)).shelf;
      long = overlong (after_lines c (lines_of text)).long (unended text);
      waiting = (after_lines c (lines_of text)).waiting;
    }

-- the start of a line that is held for the next text: nothing of one that is too long
abbrev pub held : Session → List ℕ → List ℕ
held c text = cond (after_text c text).long [] (unended text)

-- THE END OF THE INPUT: the last line may lack its end
abbrev pub after_end : Session → List ℕ → Session
after_end c start = cond (c.long || ltb 0 (length start)) (after_line c start) c

-- AN INPUT IN PIECES, as it is read: what is held of a line stands in front of the next piece, and answers are written behind each
abbrev pub emptied : Session → Session
emptied c = record { shelf = c.shelf; long = c.long; waiting = [] }

unfoldable pub after_pieces : Session → (start : List ℕ) → List (List ℕ) → Session
after_pieces c start [] = c
after_pieces c start (piece ∷ pieces) = after_pieces (emptied (after_text c (start ++ piece))) (held c (start ++ piece)) pieces
