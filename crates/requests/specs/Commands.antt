-- The console's words (`operation_forms`, `first_forms`, `second_forms`): the form of each, and the form that a word names (`form_by`). A word in front of an
-- operation's words says how it is asked for (`mode_of`).
use Rattle.std.specs.Prelude.{ℕ, Bool, true, not, ◌&&◌, cond, List, [], ◌∷◌, set, Option, Some, None, option_map}
use denote.Ref.{Bor}
use Prim.Native.String.{String}
use Rattle.lines.specs.Ascii.{ascii}
use Rattle.requests.specs.declared.commands.Command.{Command}
use Rattle.requests.specs.declared.commands.Command.TheVariants.{Load, Write, Length, Drop, Operation, Recipe, Build, Minor, Carry, Reversals}
use Rattle.requests.specs.declared.commands.Command.TheVariants.{Add, Multiply, Divide, Rest, Sentence, Show}
use Rattle.requests.specs.declared.commands.Kind.TheVariants.{Product, Inverse, Converse, Transpose, Submatrix, Schur}
use Rattle.requests.specs.declared.commands.Mode.{Mode}
use Rattle.requests.specs.declared.commands.Mode.TheVariants.{Direct, Foretold}
use Rattle.requests.specs.declared.commands.Form.{Form}
use Rattle.requests.specs.declared.commands.Letter.{Letter}
use Rattle.requests.specs.declared.commands.Letter.TheVariants as letter
use Rattle.requests.specs.declared.commands.Tail.{Tail}
use Rattle.requests.specs.declared.commands.Tail.TheVariants.{Bytes, Items, Two, Wholes}
use Rattle.requests.specs.declared.commands.Tail.TheVariants as tail
use Rattle.requests.specs.declared.wholes.Member.TheVariants.{Stamp, Place, Step}
use Rattle.lines.specs.Words.{same}

-- the letters of numbers: P a place or another number of 32 bits, M a mask, C a length to lend, O no number
abbrev P : Letter
P = letter.Place

abbrev M : Letter
M = letter.Mask

abbrev C : Letter
C = letter.Length

abbrev O : Letter
O = letter.None

-- a word, and its form: a command, the letters of its numbers, and what stands behind them
pub record Entry : Type 0 where
  pub word : List ℕ
  pub form : Form

abbrev pub entry : String → Command → List Letter → Tail → Entry
entry word command letters tail = record { word = ascii word; form = record { command = command; letters = letters; tail = tail } }

-- the operations; the last number of each is its target
abbrev pub operation_forms : Mode → List Entry
operation_forms mode =
    entry "product" (Operation mode Product) (P ∷ P ∷ O ∷ P ∷ []) tail.None
    ∷ entry "inverse" (Operation mode Inverse) (P ∷ O ∷ O ∷ P ∷ []) tail.None
    ∷ entry "converse" (Operation mode Converse) (P ∷ O ∷ O ∷ P ∷ []) tail.None
    ∷ entry "transpose" (Operation mode Transpose) (P ∷ O ∷ O ∷ P ∷ []) tail.None
    ∷ entry "submatrix" (Operation mode Submatrix) (P ∷ M ∷ M ∷ P ∷ []) tail.None
    ∷ entry "schur" (Operation mode Schur) (P ∷ P ∷ O ∷ P ∷ []) tail.None
    ∷ entry "recipe" (Recipe mode) (O ∷ O ∷ O ∷ P ∷ []) (Wholes Step)
    ∷ []

abbrev pub first_forms : List Entry
first_forms =
    entry "load" Load (P ∷ O ∷ O ∷ O ∷ []) Bytes
    ∷ entry "write" Write (P ∷ C ∷ O ∷ O ∷ []) tail.None
    ∷ entry "length" Length (P ∷ O ∷ O ∷ O ∷ []) tail.None
    ∷ entry "drop" Drop (P ∷ O ∷ O ∷ O ∷ []) tail.None
    ∷ entry "build" Build (P ∷ O ∷ O ∷ O ∷ []) (Wholes Stamp)
    ∷ []

abbrev pub second_forms : List Entry
second_forms =
    entry "minor" Minor (P ∷ M ∷ M ∷ O ∷ []) tail.None
    ∷ entry "carry" Carry (P ∷ C ∷ O ∷ O ∷ []) Items
    ∷ entry "reversals" Reversals (O ∷ O ∷ O ∷ O ∷ []) Items
    ∷ entry "add" Add (O ∷ O ∷ O ∷ O ∷ []) Two
    ∷ entry "multiply" Multiply (O ∷ O ∷ O ∷ O ∷ []) Two
    ∷ entry "divide" Divide (O ∷ O ∷ O ∷ O ∷ []) Two
    ∷ entry "rest" Rest (O ∷ O ∷ O ∷ O ∷ []) Bytes
    ∷ entry "sentence" Sentence (C ∷ P ∷ P ∷ O ∷ []) (Wholes Place)
    ∷ entry "show" Show (P ∷ O ∷ O ∷ O ∷ []) tail.None
    ∷ []

-- a word that is none of the console's
abbrev pub no_form : Option Form
no_form = None

-- one entry: its form where it has the word, else what the entries before it gave
unfoldable pub entry_form : List ℕ → Option Form → List ℕ → Form → Option Form
entry_form w before word form = cond (same w word) (Some form) before

-- the form that some entries give a word, and `before` where none has it
abbrev pub form_from : List ℕ → List Entry → Option Form → Option Form
form_from w [] before = before
form_from w (e ∷ es) before = form_from w es (entry_form w before e.word e.form)

-- the entries of a table of words, commands, letters and tails
abbrev pub entries_of : List (Bor (List ℕ) × Command × List Letter × Tail) → List Entry
entries_of [] = []
entries_of (e ∷ es) = record { word = e.0.now; form = record { command = e.1; letters = e.2; tail = e.3 } } ∷ entries_of es

-- no entry has this word
unfoldable pub lacks : List ℕ → List Entry → Bool
lacks w [] = true
lacks w (e ∷ es) = not (same w e.word) && lacks w es

-- no two entries have one word
unfoldable pub differ : List Entry → Bool
differ [] = true
differ (e ∷ es) = lacks e.word es && differ es

-- how an operation is asked for, by the first word of a line: directly, or with a word in front of its own
unfoldable pub mode_of : List ℕ → Mode
mode_of w = cond (same w (ascii "forecast")) Foretold Direct

-- a forecast names no target
abbrev pub without_target : Form → Form
without_target f = record { command = f.command; letters = set f.letters 3 O; tail = f.tail }

-- the form that a word names: any, or behind a word in front an operation's
unfoldable pub form_by : Mode → List ℕ → Option Form
form_by Direct w = form_from w second_forms (form_from w first_forms (form_from w (operation_forms Direct) no_form))
form_by Foretold w = option_map without_target (form_from w (operation_forms Foretold) no_form)
