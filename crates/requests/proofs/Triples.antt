-- An item by the indices of its commas (`item-is`), and lists of items as lists of three numbers a word
-- (`items-counted`, `passed-item`).
use Prim.Native.Nat.{ℕ, ◌+◌, ◌*◌, ◌≤◌, ◌<◌}
use native.Mathlib.Numerals.{add-one, add-two}
use mathlib.Core.Path.{◌≡◌, refl, ap}
use mathlib.Core.List.{List, [], ◌∷◌}
use lib.IntN.{ℤ}
use Rattle.std.specs.Prelude.{Option, Some, None}
use lib.ListN.{length, take, drop, set}
use lib.Seq.{sets}
use Rattle.lines.specs.Words.{before, word_at, next_word}
use Rattle.lines.proofs.Words.{take-before}
use Rattle.requests.specs.declared.items.Item.{Item}
use Rattle.requests.specs.Items.{spelled_number, spelled_by, spelled_item, three_numbers, item_numbers, spelled_items}
use Rattle.requests.proofs.Listed.{Counted, counted, Passed, passed-more}

pub part-before : (s : List ℕ) (n : ℕ) → n ≡ length (before 44 s) → take n s ≡ before 44 s
part-before s n e = rw e (take-before 44 s)

module _ (w rest last : List ℕ) (a b : ℕ) (x y z : Option ℤ) where
  pub item-is : a ≡ length (before 44 w) → rest ≡ drop (a + 1) w → b ≡ length (before 44 rest) → last ≡ drop (b + 1) rest →
      x ≡ spelled_number (take a w) → y ≡ spelled_number (take b rest) → z ≡ spelled_number last → spelled_by x y z ≡ spelled_item w
  unfolding spelled_item
  item-is ea er eb el ex ey ez =
      let er2 : rest ≡ drop (length (before 44 w) + 1) w = rw ea at er in
      let eb2 : last ≡ drop (length (before 44 rest) + 1) rest = rw eb at el in
      rw (ex, ey, ez, part-before w a ea, part-before rest b eb, eb2, er2)

three-each : (i : Option Item) → Counted 3 1 (three_numbers i)
three-each (Some i) = refl
three-each None = tt

pub items-counted : (n : ℕ) (ws : List (List ℕ)) → Counted 3 (length ws) (spelled_items n ws)
items-counted = counted item_numbers 3 (λ w. three-each (spelled_item w))

three-put : (l : List ℤ) (i : ℕ) (a b c : ℤ) → set (set (set l i a) (i + 1) b) (i + 2) c ≡ sets l i (a ∷ b ∷ c ∷ [])
three-put l i a b c = rw (add-one i, add-two i)

-- one item more of a list
module _ {line : List ℕ} {at : ℕ} {list₀ list : List ℤ} {next count : ℕ} (p : Passed item_numbers 3 line at list₀ list next count) where
  pub passed-item : next ≤ length line → count < 16 → (i : Item) → spelled_item (word_at line next) ≡ Some i →
      Passed item_numbers 3 line at list₀ (set (set (set list (count * 3) i.sign) (count * 3 + 1) i.mantissa) (count * 3 + 2) i.exponent) (next_word line next)
      (count + 1)
  passed-item h m i e =
      passed-more p h m (i.sign ∷ i.mantissa ∷ i.exponent ∷ []) (ap three_numbers e) refl (three-put list (count * 3) i.sign i.mantissa i.exponent)
