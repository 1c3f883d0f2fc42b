-- What the program keeps of a session (`session_of`): the shelf, and the answers that wait at the front of its output (`Orderly`). What is left when the lines
-- of a text (`Responded`), a text (`TextAnswered`) and a piece of the input (`PieceAnswered`) were answered.
use Rattle.std.specs.Prelude.{ℕ, ◌≤◌, ◌≡◌, cond, List, ltb, length, take, drop}
use Rattle.places.specs.Shelf.{Good}
use Rattle.tnb_console.specs.declared.State.{State}
use Rattle.tnb_console.specs.declared.Piece.{Piece}
use Rattle.tnb_console.specs.Session.{Session, enough, after_lines, lines_of, unended, after_text, held}

abbrev pub session_of : State → List ℕ → Session
session_of st out = record { shelf = st.shelf; long = st.long; waiting = take st.waiting out }

-- where the next answer is put: behind those that wait, unless they were written
abbrev pub place_of : ℕ → ℕ
place_of waiting = cond (ltb waiting enough) waiting 0

-- a good shelf, and an output of the one length with the answers that wait in it
pub record Orderly (st : State) (out : List ℕ) : Type 0 where
  pub good : Good st.shelf
  pub whole : length out ≡ 65536
  pub within : st.waiting ≤ length out

-- the lines that end in the text from an index on are answered, each as a line behind the one before, and the index of what goes on behind them is told
pub record Responded (was : State) (text out : List ℕ) (now : State) (after : List ℕ) : Type 0 where
  pub session : session_of now after ≡ after_lines (session_of was out) (lines_of (drop was.start text))
  pub rest : drop now.start text ≡ unended (drop was.start text)
  pub within : now.start ≤ length text

-- a text is answered, and what goes on behind its lines stands from an index on
pub record TextAnswered (was : State) (text out : List ℕ) (now : State) (after : List ℕ) : Type 0 where
  pub session : session_of now after ≡ after_text (session_of was out) text
  pub rest : drop now.start text ≡ unended text
  pub within : now.start ≤ length text

-- a piece of the input is answered, and what is held of a line stands in front of the input
pub record PieceAnswered (was : State) (text out : List ℕ) (r : Piece) (input after : List ℕ) : Type 0 where
  pub session : session_of r.state after ≡ after_text (session_of was out) text
  pub front : take r.held input ≡ held (session_of was out) text
  pub few : r.held ≤ 4096
