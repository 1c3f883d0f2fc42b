-- List items in an answer line (`items_text`): each as `sign,mantissa,exponent`, a space between two, `-` for none. A list has three numbers to an item;
-- numbers behind its last whole item are left out.
use Rattle.std.specs.Prelude.{ℕ, ◌+◌, List, [], ◌∷◌, ◌++◌, ℤ, pos, get_or}
use Rattle.lines.specs.Ascii.{ascii}
use Rattle.answers.specs.Answers.{integer_text}

unfoldable pub item_text : (sign mantissa exponent : ℤ) → List ℕ
item_text s m e = integer_text s ++ (ascii "," ++ (integer_text m ++ (ascii "," ++ integer_text e)))

-- the item whose numbers stand from index k on
abbrev pub item_text_at : List ℤ → ℕ → List ℕ
item_text_at L k = item_text (get_or L k (pos 0)) (get_or L (k + 1) (pos 0)) (get_or L (k + 2) (pos 0))

-- the items behind another one
unfoldable pub more_items : List ℤ → List ℕ
more_items [] = []
more_items (s ∷ []) = []
more_items (s ∷ m ∷ []) = []
more_items (s ∷ m ∷ e ∷ z) = ascii " " ++ (item_text s m e ++ more_items z)

unfoldable pub items_text : List ℤ → List ℕ
items_text [] = ascii "-"
items_text (s ∷ []) = ascii "-"
items_text (s ∷ m ∷ []) = ascii "-"
items_text (s ∷ m ∷ e ∷ z) = item_text s m e ++ more_items z

-- a text, and items behind it
abbrev pub with_items : List ℕ → List ℤ → List ℕ
with_items text items = text ++ (ascii " " ++ items_text items)
