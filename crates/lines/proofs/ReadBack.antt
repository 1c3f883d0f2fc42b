-- What is written reads back: a decimal number (`whole-decimal`), and bytes in hexadecimal (`bytes-pairs`, `hexadecimal-text`).
use Prim.Native.Nat.{ℕ, zero, suc, ◌+◌, ◌-◌, ◌*◌, ◌/◌, ◌%◌, ◌^◌, ◌≤◌, ◌<◌}
use native.Mathlib.Nat.{pow-succ'}
use native.Mathlib.Decide.{dec_lt}
use native.Mathlib.Omega.{arith}
use mathlib.Core.Path.{◌≡◌, refl, ap, ◌∙◌}
use mathlib.Core.Bool.{Bool, true, false, cond, ◌||◌}
use mathlib.Core.List.{List, [], ◌∷◌, ◌++◌, flat_map}
use lib.Dec.{ltb}
use lib.ListN.{length, get_or, length-append}
use borrow.Author.Tests.{lt-ltb, le-ltb, le-leb, ltb-true}
use Rattle.io.specs.Digits.{hex_digit_ascii}
use Rattle.std.specs.Prelude.{Some}
use Rattle.lines.specs.Decimal.{is_numeral, all_numerals, value_from, spelled_whole}
use Rattle.lines.specs.Hexadecimal.{is_letter, nibble_of, byte_of, all_digits, spelled_bytes, hexadecimal}
use Rattle.lines.proofs.Pairs.{hexadecimal-pairs}
use Rattle.lines.specs.Text.{decimal_in, decimal, pairs_text, bytes_text}

-- ---- decimal numbers
value-append : (s : List ℕ) (v b : ℕ) → value_from v (s ++ (b ∷ [])) ≡ value_from v s * 10 + (b - 48)
unfolding value_from
value-append [] v b = refl
value-append (x ∷ s) v b = value-append s (v * 10 + (x - 48)) b

numerals-append : (s : List ℕ) (b : ℕ) → is_numeral b ≡ true → all_numerals (s ++ (b ∷ [])) ≡ all_numerals s
unfolding all_numerals
numerals-append [] b e = rw e
numerals-append (x ∷ s) b e = rw (numerals-append s b e)

numeral : (d : ℕ) → d < 10 → is_numeral (48 + d) ≡ true
numeral d h =
    let l : 48 ≤ 48 + d = omega arith in
    let u : 48 + d < 58 = omega arith in
    rw (le-ltb (48 + d) 48 l, lt-ltb (48 + d) 58 u)

-- numerals that spell n
pub record Spells (s : List ℕ) (n : ℕ) : Type 0 where
  pub some : 0 < length s
  pub numerals : all_numerals s ≡ true
  pub value : value_from 0 s ≡ n

spells-digit : (n : ℕ) → n < 10 → Spells ((48 + n) ∷ []) n
unfolding all_numerals value_from
spells-digit n h = record { some = omega arith; numerals = rw (numeral n h); value = omega arith }

spells-more : (s : List ℕ) (n : ℕ) → Spells s (n / 10) → Spells (s ++ ((48 + n % 10) ∷ [])) n
spells-more s n p =
    record {
      some = rw (length-append s ((48 + n % 10) ∷ [])) (omega (arith, p.some));
      numerals = numerals-append s (48 + n % 10) (numeral (n % 10) (omega arith)) ∙ p.numerals;
      value = value-append s 0 (48 + n % 10) ∙ rw p.value (omega arith);
    }

spells-step : (k n : ℕ) (t : Bool) → ltb n 10 ≡ t → Spells (decimal_in k (n / 10)) (n / 10)
    → Spells (cond t ((48 + n) ∷ []) (decimal_in k (n / 10) ++ ((48 + n % 10) ∷ []))) n
spells-step k n true e p = spells-digit n (ltb-true n 10 e)
spells-step k n false e p = spells-more _ n p

spells-in : (k n : ℕ) → n < 10 ^ suc k → Spells (decimal_in (suc k) n) n
unfolding decimal_in
spells-in zero n h = rw (lt-ltb n 10 h) (spells-digit n h)
spells-in (suc k) n h =
    let u : n < 10 * 10 ^ suc k = rw pow-succ' at h in
    spells-step (suc k) n (ltb n 10) refl (spells-in k (n / 10) (omega arith))

pub spells-decimal : (n : ℕ) → n < 2 ^ 64 → Spells (decimal n) n
spells-decimal n h = spells-in 19 n (omega arith)

whole-spelt : (s : List ℕ) (n most : ℕ) → Spells s n → n ≤ most → spelled_whole s most ≡ Some n
whole-spelt [] n most p h = absurd (omega (arith, p.some))
whole-spelt (b ∷ s) n most p h = rw (p.numerals, p.value, le-leb n most h)

pub whole-decimal : (n most : ℕ) → n < 2 ^ 64 → n ≤ most → spelled_whole (decimal n) most ≡ Some n
whole-decimal n most u h = whole-spelt (decimal n) n most (spells-decimal n u) h

-- ---- bytes
-- what is read of a digit that was written
record Digit (b d : ℕ) : Type 0 where
  is : is_numeral b || is_letter b ≡ true
  value : nibble_of b ≡ d

digit : (d : ℕ) → d < 16 → Digit (hex_digit_ascii d) d
digit d h = go (dec_lt d 10)
  where
    go : Dec (d < 10) → Digit (hex_digit_ascii d) d
    go (yes l) =
        let v : 48 + d - 48 ≡ d = omega arith in
        rw (lt-ltb d 10 l) (record { is = rw (numeral d l); value = rw (numeral d l) v })
    go (no n) =
        let m : 10 ≤ d = omega arith in
        let a : 48 ≤ 87 + d = omega arith in
        let b : 58 ≤ 87 + d = omega arith in
        let e : 97 ≤ 87 + d = omega arith in
        let f : 87 + d < 103 = omega arith in
        let v : 87 + d - 87 ≡ d = omega arith in
        rw (le-ltb d 10 m)
        (record {
          is = rw (le-ltb (87 + d) 48 a, le-ltb (87 + d) 58 b, le-ltb (87 + d) 97 e, lt-ltb (87 + d) 103 f);
          value = rw (le-ltb (87 + d) 48 a, le-ltb (87 + d) 58 b, le-ltb (87 + d) 97 e, lt-ltb (87 + d) 103 f) v;
        })

-- every element is a byte
abbrev Bytes : List ℕ → Type 0
Bytes s = (i : ℕ) → get_or s i 0 < 256

byte_pair : (b : ℕ) → b < 256 → byte_of (hex_digit_ascii (b / 16)) (hex_digit_ascii (b % 16)) ≡ b
byte_pair b h =
    ap (λ (x : ℕ). x * 16 + nibble_of (hex_digit_ascii (b % 16))) (digit (b / 16) (omega arith)).value
    ∙ ap (λ (x : ℕ). b / 16 * 16 + x) (digit (b % 16) (omega arith)).value
    ∙ omega arith

pub bytes-pairs : (s : List ℕ) → Bytes s → spelled_bytes (pairs_text s) ≡ s
unfolding spelled_bytes flat_map
bytes-pairs [] h = refl
bytes-pairs (b ∷ s) h = rw (byte_pair b (h 0), bytes-pairs s (λ i. h (suc i)))

digits-pairs : (s : List ℕ) → Bytes s → all_digits (pairs_text s) ≡ true
unfolding all_digits flat_map
digits-pairs [] h = refl
digits-pairs (b ∷ s) h =
    let l : b < 256 = h 0 in
    rw ((digit (b / 16) (omega arith)).is, (digit (b % 16) (omega arith)).is) (digits-pairs s (λ i. h (suc i)))

even-pairs : (s : List ℕ) → length (pairs_text s) % 2 ≡ 0
unfolding flat_map
even-pairs [] = refl
even-pairs (b ∷ s) = omega (arith, even-pairs s)

length_pairs : (b : ℕ) (s : List ℕ) → length (pairs_text (b ∷ s)) ≡ suc (suc (length (pairs_text s)))
unfolding flat_map
length_pairs b s = refl

pub hexadecimal-text : (s : List ℕ) → Bytes s → hexadecimal (bytes_text s) ≡ true
hexadecimal-text [] h = refl
hexadecimal-text (b ∷ s) h =
    let l : length (pairs_text (b ∷ s)) ≡ suc (suc (length (pairs_text s))) = length_pairs b s in
    let e : length (pairs_text (b ∷ s)) % 2 ≡ 0 = even-pairs (b ∷ s) in
    hexadecimal-pairs (pairs_text (b ∷ s)) (λ n. omega arith) (λ n. omega arith) ∙ rw (e, digits-pairs (b ∷ s) h)
