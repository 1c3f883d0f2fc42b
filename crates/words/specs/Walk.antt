-- The walk of a word, and minors (document 01, "The rounded rule"), over any arithmetic.
use Rattle.std.specs.Prelude.{Bool, true, false, not, cond, ◌&&◌, [], ◌∷◌, ℕ, suc, ◌-◌, eqb, length}
use Rattle.fraction.specs.Arithmetic.{Arithmetic}
use Rattle.words.specs.RowSet.{RowSet, has, replaced, equal}
use Rattle.words.specs.Word.{Letter, E, Et, D, Dinv, Word}

-- the sets with row a and without row o: those that a letter updates
abbrev pub moves : ℕ → ℕ → RowSet → Bool
moves a o S = has a S && not (has o S)

module _ (K : Arithmetic) where
  open K use {Num, add, mul, div}

  -- a number for every row set
  abbrev pub State : Type 0
  State = RowSet → Num

  -- 1 at J, 0 elsewhere
  unfoldable pub one_at : RowSet → State
  one_at J S = cond (equal J S) K.one K.zero

  abbrev pub moved_if : Bool → ℕ → ℕ → Num → State → State
  moved_if true a o w ω S = add (ω S) (mul w (ω (replaced a o S)))
  moved_if false a o w ω S = ω S

  -- each set S with row a and without row o gets its number plus w times the number of S with o in place of a
  unfoldable pub moved : ℕ → ℕ → Num → State → State
  moved a o w ω S = moved_if (moves a o S) a o w ω S

  -- x multiplied, or divided, by the entries e i of the rows i of S, in ascending order
  unfoldable pub scaled : (Num → Num → Num) → (ℕ → Num) → RowSet → Num → Num
  scaled op e [] x = x
  scaled op e (true ∷ S) x = op (scaled op e S x) (e (suc (length S)))
  scaled op e (false ∷ S) x = scaled op e S x

  -- what a letter makes of a state
  unfoldable pub act : Letter Num → State → State
  act (E j w) ω = moved j (j - 1) w ω
  act (Et j w) ω = moved (j - 1) j w ω
  act (D e) ω = λ S. scaled mul e S (ω S)
  act (Dinv e) ω = λ S. scaled div e S (ω S)

  -- the letters of a word, from right to left
  unfoldable pub walk : Word Num → State → State
  walk [] ω = ω
  walk (l ∷ W) ω = act l (walk W ω)

  -- the minor with row set I and column set J
  unfoldable pub minor : Word Num → RowSet → RowSet → Num
  minor W I J = walk W (one_at J) I

  -- carrying a list of items v 1, v 2, .. through a word, from right to left: E j w adds w times item j - 1 to item j; Et j w adds w times item j to item j -
  -- 1; D multiplies item i by its entry
  unfoldable pub carry_letter : Letter Num → (ℕ → Num) → ℕ → Num
  carry_letter (E j w) v i = cond (eqb i j) (add (v i) (mul w (v (j - 1)))) (v i)
  carry_letter (Et j w) v i = cond (eqb i (j - 1)) (add (v i) (mul w (v j))) (v i)
  carry_letter (D e) v i = mul (v i) (e i)
  carry_letter (Dinv e) v i = div (v i) (e i)

  unfoldable pub carry : Word Num → (ℕ → Num) → ℕ → Num
  carry [] v = v
  carry (l ∷ W) v = carry_letter l (carry W v)
