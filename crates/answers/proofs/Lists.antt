-- THE ITEMS of a list, three numbers each: none where it has fewer numbers (`items-none`, `more-none`), else a first one and those behind it (`items-some`,
-- `more-some`).
use Prim.Native.Nat.{◌≤◌, ◌<◌}
use native.Mathlib.Omega.{arith}
use mathlib.Core.Path.{◌≡◌, refl}
use mathlib.Core.List.{List, [], ◌∷◌, ◌++◌}
use lib.IntN.{ℤ}
use lib.ListN.{length, take, drop}
use Rattle.lines.specs.Ascii.{ascii}
use Rattle.answers.specs.Items.{item_text_at, more_items, items_text}

pub items-none : (L : List ℤ) → length L < 3 → items_text L ≡ ascii "-"
unfolding items_text
items-none [] h = refl
items-none (s ∷ []) h = refl
items-none (s ∷ m ∷ []) h = refl
items-none (s ∷ m ∷ e ∷ z) h = absurd (omega arith)

pub items-some : (L : List ℤ) → 3 ≤ length L → items_text L ≡ item_text_at (take 3 L) 0 ++ more_items (drop 3 L)
unfolding items_text
items-some [] h = absurd (omega arith)
items-some (s ∷ []) h = absurd (omega arith)
items-some (s ∷ m ∷ []) h = absurd (omega arith)
items-some (s ∷ m ∷ e ∷ z) h = refl

pub more-none : (L : List ℤ) → length L < 3 → more_items L ≡ []
unfolding more_items
more-none [] h = refl
more-none (s ∷ []) h = refl
more-none (s ∷ m ∷ []) h = refl
more-none (s ∷ m ∷ e ∷ z) h = absurd (omega arith)

pub more-some : (item L : List ℤ) → length item ≡ 3 → more_items (item ++ L) ≡ ascii " " ++ (item_text_at item 0 ++ more_items L)
unfolding more_items
more-some [] L h = absurd (omega arith)
more-some (s ∷ []) L h = absurd (omega arith)
more-some (s ∷ m ∷ []) L h = absurd (omega arith)
more-some (s ∷ m ∷ e ∷ []) L h = refl
more-some (s ∷ m ∷ e ∷ x ∷ z) L h = absurd (omega arith)
