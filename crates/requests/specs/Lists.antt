-- A list in the words of a line (`spelled_list`), over what a word gives, and what was read of one (`list_read`).
use Rattle.std.specs.Prelude.{ℕ, zero, suc, ◌*◌, List, [], ◌∷◌, ◌++◌, take, Option, Some, None}

module _ {A : Type 0} where
  -- some numbers and others behind them, where there are both
  abbrev pub appended : Option (List A) → Option (List A) → Option (List A)
  appended None o = None
  appended (Some l) None = None
  appended (Some l) (Some m) = Some (l ++ m)

  -- the numbers of each word, one word's behind the other's; none where a word has none, or there are more than n words
  unfoldable pub spelled_list : (List ℕ → Option (List A)) → ℕ → List (List ℕ) → Option (List A)
  spelled_list f n [] = Some []
  spelled_list f zero (w ∷ ws) = None
  spelled_list f (suc n) (w ∷ ws) = appended (f w) (spelled_list f n ws)

  -- what was read: k numbers for each of so many words, at the start of a list
  abbrev pub list_read : ℕ → List A → Option ℕ → Option (List A)
  list_read k list (Some n) = Some (take (n * k) list)
  list_read k list None = None
