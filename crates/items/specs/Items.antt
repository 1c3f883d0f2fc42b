-- List items (document 01, "Shelf calls"): a sign (-1, 0, 1), a mantissa and an exponent in the stored ranges; zero is 0, 0, 0.
-- A list is lent as one row of whole numbers, three to an item: `signed_item`, `list_of` and `items_of` read it, `proper` and `listed_within` judge it,
-- `item_numbers` and `list_numbers` give the numbers back. The items as a vector (`vector_of`), and how far their exponents may be (`ItemsRanged`).
use Rattle.std.specs.Prelude.{◌≡◌, Bool, false, not, cond, ◌&&◌, ℕ, ◌+◌, ◌-◌, ◌*◌, ◌^◌, eqb, leb, ltb, ℤ, pos, negsuc, nat_abs}
use Rattle.std.specs.Prelude.{List, [], ◌∷◌, ◌++◌, length, get_or, replicate}
use Rattle.std.specs.Prelude.{Option, Some, None, unwrap_or}
use Rattle.std.proofs.lemmas.List.Edits.{sets}
use Rattle.number.specs.Integer.{is_negative, biased}
use Rattle.number.specs.Number.{exponent_of}
use Rattle.number.specs.Signed.{zero_signed, SignedRanged}
use Rattle.number.specs.declared.signed.Signed.{Signed}
use Rattle.words.specs.RowSet.{In}
use Rattle.items.specs.declared.ItemList.{ItemList}

-- an item is zero
abbrev pub is_zero_item : Signed → Bool
is_zero_item a = eqb a.size.m 0

-- ---- read
-- what three whole numbers are: an item, or none
abbrev pub ListItem : Type 0
ListItem = Option Signed

-- a sign of 1 or -1, with a mantissa from 2 ^ 31 to 2 ^ 32 - 1 and an exponent from -1000 to 1000
unfoldable pub storable : ℤ → ℤ → ℤ → Bool
storable s m e = eqb (nat_abs s) 1 && (not (is_negative m) && (leb (2 ^ 31) (nat_abs m) && (ltb (nat_abs m) (2 ^ 32) && leb (nat_abs e) 1000)))

-- the item of sign s, mantissa m and exponent e
unfoldable pub signed_item : ℤ → ℤ → ℤ → ListItem
signed_item s m e =
    cond (eqb (nat_abs s) 0 && (eqb (nat_abs m) 0 && eqb (nat_abs e) 0)) (Some zero_signed)
    (cond (storable s m e) (Some (record { negative = is_negative s; size = record { m = nat_abs m; x = biased e } })) None)

-- item k, counted from 0, of a row of numbers
abbrev pub item_in : List ℤ → ℕ → ListItem
item_in z k = signed_item (get_or z (3 * k) (pos 0)) (get_or z (3 * k + 1) (pos 0)) (get_or z (3 * k + 2) (pos 0))

-- an item before the others
abbrev pub item_before : ListItem → Option (List Signed) → Option (List Signed)
item_before (Some a) (Some L) = Some (a ∷ L)
item_before (Some a) None = None
item_before None o = None

-- the items of a row of numbers, if it is well formed
unfoldable pub list_of : List ℤ → Option (List Signed)
list_of [] = Some []
list_of (s ∷ []) = None
list_of (s ∷ m ∷ []) = None
list_of (s ∷ m ∷ e ∷ z) = item_before (signed_item s m e) (list_of z)

-- those items, none where it is not well formed
abbrev pub items_of : List ℤ → List Signed
items_of items = unwrap_or (list_of items) []

-- ---- written
abbrev pub sign_of : Signed → ℤ
sign_of a = cond (is_zero_item a) (pos 0) (cond a.negative (negsuc 0) (pos 1))

abbrev pub item_numbers : Signed → List ℤ
item_numbers a = sign_of a ∷ pos a.size.m ∷ exponent_of a.size ∷ []

unfoldable pub list_numbers : List Signed → List ℤ
list_numbers [] = []
list_numbers (a ∷ L) = item_numbers a ++ list_numbers L

-- ---- judged
-- a well-formed list of least to most items
abbrev pub proper : ℕ → ℕ → Option (List Signed) → Bool
proper least most (Some L) = leb least (length L) && leb (length L) most
proper least most None = false

-- the answer of a reader: the items stand at the start of eight, or from position k of v on
abbrev pub blank_items : List Signed
blank_items = replicate 8 zero_signed

abbrev pub listed_from : List Signed → ℕ → Option (List Signed) → Option ItemList
listed_from v k (Some L) = Some (record { count = k + length L; items = sets v k L })
listed_from v k None = None

unfoldable pub listed_within : ℕ → ℕ → Option (List Signed) → Option ItemList
listed_within least most o = listed_from blank_items 0 (cond (proper least most o) o None)

-- ---- as vectors
-- the items of a list as a vector, counted from 1
abbrev pub vector_of : List Signed → ℕ → Signed
vector_of L i = get_or L (i - 1) zero_signed

-- the exponents of the n items are within r
pub record ItemsRanged (r n : ℕ) (v : List Signed) : Type 0 where
  pub eight : length v ≡ 8
  pub ranged : (i : ℕ) → In n i → SignedRanged r (vector_of v i)
