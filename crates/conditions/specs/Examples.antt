-- THE ORDER in examples: places 0 and 1 hold matrices of two rows, place 2 one of three, place 4 one of a single row, the others are empty. A row has what is
-- asked, a target, the number that turns the call down, 0 for none, and the number without a target: of recipes (order_table), the count of the steps and their
-- places; of clamped rows (clamp_table), a source and how many rows.
use Rattle.std.specs.Prelude.{ℕ, List, [], ◌∷◌, get_or}
use Rattle.std.specs.Prelude.{Ok, Err}
use Rattle.verdict.specs.Verdict.{Verdict, number_of, first_of}
use Rattle.conditions.specs.Conditions.{misclamped, choice_to, choice_alone, recipe_to, recipe_alone}

abbrev pub sizes : ℕ → ℕ
sizes p = get_or (2 ∷ 2 ∷ 3 ∷ 0 ∷ 1 ∷ []) p 0

abbrev pub number_told : Verdict → ℕ
number_told (Ok u) = 0
number_told (Err w) = number_of w.reason

pub data Row : Type 0 where
  row : (count : ℕ) (places : List ℕ) (target number alone : ℕ) → Row

abbrev pub order_table : List Row
order_table =
    row 2 (0 ∷ 1 ∷ []) 3 0 0
    ∷ row 6 (0 ∷ 0 ∷ 0 ∷ 0 ∷ 0 ∷ 0 ∷ []) 7 0 0
    -- 18 first of all, whatever the places are
    ∷ row 0 [] 3 18 18
    ∷ row 1 (8 ∷ []) 8 18 18
    ∷ row 7 (8 ∷ 8 ∷ 8 ∷ 8 ∷ 8 ∷ 8 ∷ []) 8 18 18
    -- 1 of a source, and of the target, before 11
    ∷ row 3 (3 ∷ 1 ∷ 8 ∷ []) 0 1 1
    ∷ row 2 (3 ∷ 1 ∷ []) 8 1 11
    -- 11 before 12, also of the last source
    ∷ row 3 (0 ∷ 2 ∷ 3 ∷ []) 1 11 11
    -- 12 before 13
    ∷ row 2 (0 ∷ 2 ∷ []) 1 12 13
    -- 13 of every source that follows the first
    ∷ row 2 (0 ∷ 2 ∷ []) 3 13 13
    ∷ row 3 (0 ∷ 1 ∷ 2 ∷ []) 3 13 13
    ∷ row 6 (2 ∷ 2 ∷ 2 ∷ 2 ∷ 2 ∷ 1 ∷ []) 3 13 13
    ∷ []

-- what the definitions say of a row
abbrev pub judged : Row → Row
judged (row m L t a b) = row m L t (number_told (first_of (recipe_to sizes m L t))) (number_told (first_of (recipe_alone sizes m L)))

pub data Clamp : Type 0 where
  clamp : (source k target number alone : ℕ) → Clamp

abbrev pub clamp_table : List Clamp
clamp_table =
    clamp 2 1 3 0 0
    ∷ clamp 2 2 7 0 0
    -- 8: none clamped, none left, of a single row always; any number is taken
    ∷ clamp 2 0 3 8 8
    ∷ clamp 2 3 3 8 8
    ∷ clamp 0 2 3 8 8
    ∷ clamp 4 1 3 8 8
    ∷ clamp 2 18446744073709551615 3 8 8
    -- 1 of the source, and of the target, before 11, 12 and 8
    ∷ clamp 8 0 0 1 1
    ∷ clamp 3 0 8 1 11
    -- 11 before 12 and 8, 12 before 8
    ∷ clamp 3 0 0 11 11
    ∷ clamp 2 0 1 12 8
    ∷ []

abbrev pub clamp_judged : Clamp → Clamp
clamp_judged (clamp p k t a b) =
    let wrong = misclamped (sizes p) k in
    clamp p k t (number_told (first_of (choice_to sizes p wrong t))) (number_told (first_of (choice_alone sizes p wrong)))
