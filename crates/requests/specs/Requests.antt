-- What a line asks (`request_of`): a command with its numbers, and behind them bytes, items, whole numbers or nothing.
use Rattle.std.specs.Prelude.{ℕ, ◌*◌, ◌/◌, cond, not, ◌&&◌, List, [], ◌∷◌, ltb, ℤ, length, take, Option, Some, None}
use Rattle.lines.specs.Decimal.{spelled_whole}
use Rattle.lines.specs.Hexadecimal.{hexadecimal, spelled_bytes}
use Rattle.lines.specs.Words.{word_at, next_word}
use Rattle.requests.specs.declared.commands.Command.{Command}
use Rattle.requests.specs.declared.commands.Form.{Form}
use Rattle.requests.specs.declared.commands.Letter.{Letter}
use Rattle.requests.specs.declared.commands.Letter.TheVariants as letter
use Rattle.requests.specs.declared.commands.Mode.{Mode}
use Rattle.requests.specs.declared.commands.Mode.TheVariants.{Direct, Foretold}
use Rattle.requests.specs.declared.commands.Tail.{Tail}
use Rattle.requests.specs.declared.commands.Tail.TheVariants.{Bytes, Items, Two, Wholes}
use Rattle.requests.specs.declared.commands.Tail.TheVariants as tail
use Rattle.requests.specs.declared.wholes.Member.{Member}
use Rattle.requests.specs.declared.request.Numbers.{Numbers}
use Rattle.requests.specs.declared.request.Request.{Request}
use Rattle.requests.specs.Words.{words_of, words_at, first_word, words_behind}
use Rattle.requests.specs.Commands.{mode_of, form_by}
use Rattle.requests.specs.Items.{spelled_items}
use Rattle.requests.specs.Wholes.{spelled_wholes}

-- the largest number that a letter stands for: a place or another number of 32 bits, a mask, a length to lend; 0 where it asks for none
abbrev pub most : Letter → ℕ
most letter.Place = 4294967295
most letter.Mask = 255
most letter.Length = 512
most letter.None = 0

-- the number of a letter in a word; 0 where the letter asks for none, and no word is used up
abbrev pub letter_number : Letter → List ℕ → Option ℕ
letter_number letter.Place w = spelled_whole w (most letter.Place)
letter_number letter.Mask w = spelled_whole w (most letter.Mask)
letter_number letter.Length w = spelled_whole w (most letter.Length)
letter_number letter.None w = Some 0

-- what a letter uses up of some words, or of an index: nothing where it asks for no number
abbrev pub used_up : {A : Type 0} → Letter → (behind at : A) → A
used_up letter.Place behind at = behind
used_up letter.Mask behind at = behind
used_up letter.Length behind at = behind
used_up letter.None behind at = at

abbrev pub words_left : Letter → List (List ℕ) → List (List ℕ)
words_left letter ws = used_up letter (words_behind ws) ws

-- the same by the index of a word
abbrev pub number_by : Letter → List ℕ → ℕ → Option ℕ
number_by letter line at = letter_number letter (word_at line at)

abbrev pub index_behind : Letter → List ℕ → ℕ → ℕ
index_behind letter line at = used_up letter (next_word line at) at

-- numbers, and the words behind them
pub record Values : Type 0 where
  pub values : List ℕ
  pub left : List (List ℕ)

abbrev pub one_more : Option ℕ → Option Values → Option Values
one_more (Some n) (Some v) = Some (record { values = n ∷ v.values; left = v.left })
one_more (Some n) None = None
one_more None v = None

-- the numbers that letters ask for
unfoldable pub letter_numbers : List Letter → List (List ℕ) → Option Values
letter_numbers [] ws = Some (record { values = []; left = ws })
letter_numbers (letter ∷ letters) ws = one_more (letter_number letter (first_word ws)) (letter_numbers letters (words_left letter ws))

abbrev pub numbers_read : List ℕ → Option Numbers → Option Values
numbers_read line (Some r) = Some (record { values = r.values; left = words_at line r.next })
numbers_read line None = None

-- a request with its bytes, items and whole numbers
pub record Asked : Type 0 where
  pub command : Command
  pub values : List ℕ
  pub bytes : List ℕ
  pub items : List ℤ
  pub wholes : List ℕ

-- a command with its numbers alone, and with what stands behind them
abbrev pub asked_alone : Command → List ℕ → Asked
asked_alone command values = record { command = command; values = values; bytes = []; items = []; wholes = [] }

abbrev pub asked_bytes : Command → List ℕ → List ℕ → Asked
asked_bytes command values l = record { command = command; values = values; bytes = l; items = []; wholes = [] }

abbrev pub asked_items : Command → List ℕ → List ℤ → Asked
asked_items command values l = record { command = command; values = values; bytes = []; items = l; wholes = [] }

abbrev pub asked_wholes : Command → List ℕ → List ℕ → Asked
asked_wholes command values l = record { command = command; values = values; bytes = []; items = []; wholes = l }

-- the bytes, items or whole numbers of a request stand at the start of the buffers
abbrev pub asked_of : Request → (bytes : List ℕ) (list : List ℤ) (wholes : List ℕ) → Asked
asked_of r bytes list wholes =
    record {
      command = r.command;
      values = r.values;
      bytes = take r.bytes bytes;
      items = take (r.items * 3) list;
      wholes = take r.wholes wholes;
    }

-- what a request asks, where there is one
abbrev pub asked : Option Request → (bytes : List ℕ) (list : List ℤ) (wholes : List ℕ) → Option Asked
asked (Some r) bytes list wholes = Some (asked_of r bytes list wholes)
asked None bytes list wholes = None

-- a line that is no request
abbrev pub bad : Option Asked
bad = None

abbrev pub with_nothing : Command → List ℕ → List (List ℕ) → Option Asked
with_nothing command values [] = Some (asked_alone command values)
with_nothing command values (w ∷ ws) = bad

-- what is asked with a list, where there is one
abbrev pub with_list : {A : Type 0} → (List A → Asked) → Option (List A) → Option Asked
with_list ask (Some l) = Some (ask l)
with_list ask None = bad

-- one word, of at most 2048 bytes in hexadecimal
abbrev pub last_bytes : List (List ℕ) → Option (List ℕ)
last_bytes [] = None
last_bytes (w ∷ []) = cond (hexadecimal w && not (ltb 2048 (length w / 2))) (Some (spelled_bytes w)) None
last_bytes (w ∷ v ∷ ws) = None

abbrev pub with_bytes : Command → List ℕ → List (List ℕ) → Option Asked
with_bytes command values ws = with_list (asked_bytes command values) (last_bytes ws)

-- at most 16 items
abbrev pub with_items : Command → List ℕ → List (List ℕ) → Option Asked
with_items command values ws = with_list (asked_items command values) (spelled_items 16 ws)

-- exactly two items
abbrev pub two_items : List (List ℕ) → Option (List ℤ)
two_items [] = None
two_items (w ∷ []) = None
two_items (w ∷ v ∷ []) = spelled_items 16 (w ∷ v ∷ [])
two_items (w ∷ v ∷ u ∷ ws) = None

abbrev pub with_two : Command → List ℕ → List (List ℕ) → Option Asked
with_two command values ws = with_list (asked_items command values) (two_items ws)

-- at most 16 whole numbers
abbrev pub with_wholes : Member → Command → List ℕ → List (List ℕ) → Option Asked
with_wholes member command values ws = with_list (asked_wholes command values) (spelled_wholes member 16 ws)

abbrev pub with_tail : Command → Tail → Option Values → Option Asked
with_tail command t None = bad
with_tail command tail.None (Some v) = with_nothing command v.values v.left
with_tail command Bytes (Some v) = with_bytes command v.values v.left
with_tail command Items (Some v) = with_items command v.values v.left
with_tail command Two (Some v) = with_two command v.values v.left
with_tail command (Wholes member) (Some v) = with_wholes member command v.values v.left

-- the request of a form with the words behind the first
abbrev pub form_request : Option Form → List (List ℕ) → Option Asked
form_request (Some f) ws = with_tail f.command f.tail (letter_numbers f.letters ws)
form_request None ws = bad

-- a line's words without the one in front of an operation's, and the index where they start
abbrev pub own_words : Mode → List (List ℕ) → List (List ℕ)
own_words Direct ws = ws
own_words Foretold ws = words_behind ws

abbrev pub start_of : Mode → List ℕ → ℕ
start_of Direct line = 0
start_of Foretold line = next_word line 0

abbrev pub request_by : Mode → List (List ℕ) → Option Asked
request_by mode ws = form_request (form_by mode (first_word (own_words mode ws))) (words_behind (own_words mode ws))

unfoldable pub request_of : List ℕ → Option Asked
request_of line = request_by (mode_of (first_word (words_of line))) (words_of line)
