-- List items, `sign,mantissa,exponent` each (`spelled_item`), and the numbers of a list of them (`spelled_items`).
use Rattle.std.specs.Prelude.{ℕ, ◌+◌, List, [], ◌∷◌, ℤ, pos, neg_ℤ, length, drop, Option, Some, None}
use Rattle.lines.specs.declared.reading.SignedWhole.{SignedWhole}
use Rattle.lines.specs.declared.reading.SignedWhole.TheVariants as signed
use Rattle.lines.specs.Decimal.{spelled_signed}
use Rattle.lines.specs.Words.{before}
use Rattle.requests.specs.declared.items.Item.{Item}
use Rattle.requests.specs.Lists.{spelled_list}

-- a number of 64 bits with a sign
abbrev pub signed_number : Option SignedWhole → Option ℤ
signed_number (Some (signed.Plus n)) = Some (pos n)
signed_number (Some (signed.Minus n)) = Some (neg_ℤ (pos n))
signed_number None = None

abbrev pub spelled_number : List ℕ → Option ℤ
spelled_number s = signed_number (spelled_signed s)

-- what stands behind the first comma, nothing where there is none
abbrev pub behind_comma : List ℕ → List ℕ
behind_comma s = drop (length (before 44 s) + 1) s

abbrev pub spelled_by : Option ℤ → Option ℤ → Option ℤ → Option Item
spelled_by (Some a) (Some b) (Some c) = Some (record { sign = a; mantissa = b; exponent = c })
spelled_by (Some a) (Some b) None = None
spelled_by (Some a) None z = None
spelled_by None y z = None

-- the numbers before, between and behind two commas; where a comma lacks, the last is empty and no number
unfoldable pub spelled_item : List ℕ → Option Item
spelled_item w = spelled_by (spelled_number (before 44 w)) (spelled_number (before 44 (behind_comma w))) (spelled_number (behind_comma (behind_comma w)))

abbrev pub three_numbers : Option Item → Option (List ℤ)
three_numbers (Some i) = Some (i.sign ∷ i.mantissa ∷ i.exponent ∷ [])
three_numbers None = None

-- the three numbers of an item
abbrev pub item_numbers : List ℕ → Option (List ℤ)
item_numbers w = three_numbers (spelled_item w)

-- each word is an item, and there are at most n
abbrev pub spelled_items : ℕ → List (List ℕ) → Option (List ℤ)
spelled_items n ws = spelled_list item_numbers n ws
