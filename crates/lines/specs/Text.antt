-- Text put into a buffer (`Puts`), and how numbers, bytes and lists are spelled (`decimal`, `signed_text`, `bytes_text`, `spaced`).
use Rattle.std.specs.Prelude.{ℕ, zero, suc, ◌+◌, ◌-◌, ◌/◌, ◌%◌, min, ◌≡◌, Bool, true, false, cond, ltb, length}
use mathlib.Core.List.{List, [], ◌∷◌, ◌++◌, flat_map}
use Rattle.std.proofs.lemmas.List.Edits.{sets}
use Rattle.io.specs.Digits.{hex_digit_ascii}
use Rattle.lines.specs.Ascii.{ascii}

-- the index behind text that was put at an index: what has no room is left out
unfoldable pub index_after : List ℕ → ℕ → List ℕ → ℕ
index_after out at text = at + min (length text) (length out - at)

-- text was put at an index of `out`, which is `after` then, and `to` is the index behind it
pub record Puts (out : List ℕ) (at : ℕ) (text after : List ℕ) (to : ℕ) : Type 0 where
  pub index : to ≡ index_after out at text
  pub bytes : after ≡ sets out at text

-- a number below 10 ^ k in decimal
unfoldable pub decimal_in : ℕ → ℕ → List ℕ
decimal_in zero n = []
decimal_in (suc k) n = cond (ltb n 10) ((48 + n) ∷ []) (decimal_in k (n / 10) ++ ((48 + n % 10) ∷ []))

-- a number of 64 bits in decimal
abbrev pub decimal : ℕ → List ℕ
decimal n = decimal_in 20 n

-- the texts of a list's elements, a space before each
abbrev pub spaced : {A : Type 0} → (A → List ℕ) → List A → List ℕ
spaced text L = flat_map (λ x. ascii " " ++ text x) L

abbrev pub signed_text : Bool → ℕ → List ℕ
signed_text true n = ascii "-" ++ decimal n
signed_text false n = decimal n

-- a byte's two digits
abbrev pub pair_text : ℕ → List ℕ
pair_text b = hex_digit_ascii (b / 16) ∷ hex_digit_ascii (b % 16) ∷ []

abbrev pub pairs_text : List ℕ → List ℕ
pairs_text s = flat_map pair_text s

-- bytes in hexadecimal, `-` for none
abbrev pub bytes_text : List ℕ → List ℕ
bytes_text [] = ascii "-"
bytes_text (b ∷ s) = pairs_text (b ∷ s)
