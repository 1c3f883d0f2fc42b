-- What the console lends to a call (`lent_bytes`, `lent_items`), the operation that a word names (`task_of`), and the answer to `show` (`show_text`).
use Rattle.std.specs.Prelude.{ℕ, zero, suc, min, ◌%◌, cond, List, [], ◌∷◌, ℤ, pos, replicate, get_or}
use Rattle.requests.specs.declared.commands.Kind.{Kind}
use Rattle.requests.specs.declared.commands.Kind.TheVariants as kind
use Rattle.conditions.specs.Conditions.{above}
use Rattle.places.specs.declared.Shelf.{Shelf}
use Rattle.operations.specs.declared.Task.{Task}
use Rattle.operations.specs.declared.Task.TheVariants.{Product, Inverse, Converse, Transpose, Submatrix, Schur}
use Rattle.notices.specs.Sentence.{refusal_text}
use Rattle.answers.specs.Matrix.{place_text}

-- so many bytes or items are lent, and no more than 512
abbrev pub lent_count : ℕ → ℕ
lent_count count = min count 512

abbrev pub lent_bytes : ℕ → List ℕ
lent_bytes n = replicate n 0xa5

-- each item 1,2147483648,0
unfoldable pub lent_items : ℕ → List ℤ
lent_items zero = []
lent_items (suc n) = pos 1 ∷ pos 2147483648 ∷ pos 0 ∷ lent_items n

-- a mask has eight bits
abbrev pub mask : ℕ → ℕ
mask n = n % 256

-- an operation by its kind, with the first of its numbers
abbrev pub task_by : Kind → (a b c : ℕ) → Task
task_by kind.Product a b c = Product a b
task_by kind.Inverse a b c = Inverse a
task_by kind.Converse a b c = Converse a
task_by kind.Transpose a b c = Transpose a
task_by kind.Submatrix a b c = Submatrix a (mask b) (mask c)
task_by kind.Schur a b c = Schur a b

abbrev pub task_of : Kind → List ℕ → Task
task_of kind v = task_by kind (get_or v 0 0) (get_or v 1 0) (get_or v 2 0)

-- what a place holds
unfoldable pub show_text : Shelf → ℕ → List ℕ
show_text s p = cond (above p) (refusal_text 1 0) (place_text s p)
