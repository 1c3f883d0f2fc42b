-- Reading a decimal number a numeral at a time: `Spelled` is what holds when the first i are passed. Numerals of a number (`digits_decimal`).
use Prim.Native.Nat.{ℕ, zero, suc, ◌+◌, ◌-◌, ◌*◌, ◌/◌, ◌%◌, ◌^◌, ◌≤◌, ◌<◌}
use native.Mathlib.Numerals.{add-one}
use native.Mathlib.Nat.{pow-succ', pow-le-pow_right}
use native.Mathlib.Decide.{dec_le}
use native.Mathlib.Omega.{arith}
use mathlib.Core.Path.{◌≡◌, refl, sym, ◌∙◌}
use mathlib.Core.Bool.{true, false, and-false}
use mathlib.Core.List.{List, [], ◌∷◌}
use lib.ListN.{length, get_or, drop, drop_of_length-le}
use lib.Seq.{drop-cons}
use borrow.Author.Tests.{lt-ltb, le-ltb, le-leb, lt-leb}
use Rattle.std.specs.Char.{is_ascii_digit}
use Rattle.std.proofs.lemmas.Bool.Decides.{nat_tests}
use Rattle.io.specs.Digits.{hex_digit_ascii, last_digits, IsDigitCount}
use Rattle.std.specs.Prelude.{Some, None}
use Rattle.lines.specs.Decimal.{is_numeral, all_numerals, value_from, whole_from, spelled_whole}
use Rattle.lines.specs.Text.{decimal_in, decimal}

value_grows : (s : List ℕ) (v : ℕ) → v ≤ value_from v s
unfolding value_from
value_grows [] v = omega arith
value_grows (b ∷ s) v = omega (arith, value_grows s (v * 10 + (b - 48)))

-- std's test of a numeral is that of the definition
numeral-is : (b : ℕ) → is_numeral b ≡ is_ascii_digit b
numeral-is b = grind (arith, nat_tests)

module _ (b : ℕ) (s : List ℕ) (v most : ℕ) where
  judged-other : is_numeral b ≡ false → None ≡ whole_from (b ∷ s) v most
  unfolding all_numerals
  judged-other e = rw e

  judged-large : most < v * 10 + (b - 48) → None ≡ whole_from (b ∷ s) v most
  unfolding value_from
  judged-large h =
      let g : most < value_from (v * 10 + (b - 48)) s = omega (arith, value_grows s (v * 10 + (b - 48))) in
      rw (lt-leb _ _ g, and-false)

  judged-more : is_numeral b ≡ true → whole_from (b ∷ s) v most ≡ whole_from s (v * 10 + (b - 48)) most
  unfolding all_numerals value_from
  judged-more e = rw e

judged-end : (v most : ℕ) → v ≤ most → Some v ≡ whole_from [] v most
unfolding all_numerals value_from
judged-end v most h = rw (le-leb _ _ h)

whole-some : (s : List ℕ) (most : ℕ) → (length s ≡ 0 → ⊥) → spelled_whole s most ≡ whole_from s 0 most
whole-some [] most n = absurd (n refl)
whole-some (b ∷ s) most n = refl

pub record Spelled (s : List ℕ) (most value i : ℕ) : Type 0 where
  pub small : value ≤ most
  pub same : spelled_whole s most ≡ whole_from (drop i s) value most

pub spelled_none : (s : List ℕ) (most : ℕ) → (length s ≡ 0 → ⊥) → Spelled s most 0 0
spelled_none s most n = record { small = omega arith; same = whole-some s most n }

module _ {s : List ℕ} {most value i : ℕ} (p : Spelled s most value i) where
  pub spelled-end : length s ≤ i → Some value ≡ spelled_whole s most
  spelled-end h = judged-end value most p.small ∙ sym (p.same ∙ rw (drop_of_length-le s h))

  module _ (h : i < length s) where
    at_byte : spelled_whole s most ≡ whole_from (get_or s i 0 ∷ drop (i + 1) s) value most
    at_byte = p.same ∙ rw (drop-cons s i 0 h, add-one)

    pub spelled-other : is_ascii_digit (get_or s i 0) ≡ false → None ≡ spelled_whole s most
    spelled-other e = judged-other _ _ value most (numeral-is (get_or s i 0) ∙ e) ∙ sym at_byte

    pub spelled-large : most < value * 10 + (get_or s i 0 - 48) → None ≡ spelled_whole s most
    spelled-large g = judged-large _ _ value most g ∙ sym at_byte

    pub spelled-more : is_ascii_digit (get_or s i 0) ≡ true → value * 10 + (get_or s i 0 - 48) ≤ most
        → Spelled s most (value * 10 + (get_or s i 0 - 48)) (i + 1)
    spelled-more e g = record { small = g; same = at_byte ∙ judged-more _ _ value most (numeral-is (get_or s i 0) ∙ e) }

-- the digits that are written are those of the definition
power_below : (k n : ℕ) → (1 < suc (suc k) → 10 ^ (suc (suc k) - 1) ≤ n) → 10 * 10 ^ k ≤ n
power_below k n m =
    let e : suc (suc k) - 1 ≡ suc k = omega arith in
    let w : 1 < suc (suc k) = omega arith in
    rw (e, pow-succ') at (m w)

fewest-tenth : (k n : ℕ) → IsDigitCount 10 1 n (suc (suc k)) → IsDigitCount 10 1 (n / 10) (suc k)
fewest-tenth k n (l, u, m) =
    let v : n < 10 * 10 ^ suc k = rw pow-succ' at u in
    let e : suc k - 1 ≡ k = omega arith in
    let x : 10 * 10 ^ k ≤ n = power_below k n m in
    (omega arith, omega arith, λ h. rw e (omega arith))

last-digit : (n : ℕ) → hex_digit_ascii (n % 10) ≡ 48 + n % 10
last-digit n = rw (lt-ltb (n % 10) 10 (omega arith))

digits-one : (n j : ℕ) → n < 10 → last_digits 10 1 n ≡ decimal_in (suc j) n
unfolding decimal_in
digits-one n j h =
    let e : n % 10 ≡ n = omega arith in
    rw (last-digit n, e, lt-ltb n 10 h)

digits_more : (k j n : ℕ) → IsDigitCount 10 1 n (suc (suc k)) → last_digits 10 (suc k) (n / 10) ≡ decimal_in j (n / 10)
    → last_digits 10 (suc (suc k)) n ≡ decimal_in (suc j) n
unfolding decimal_in
digits_more k j n (l, u, m) e =
    let x : 10 * 10 ^ k ≤ n = power_below k n m in
    let y : 0 < 10 ^ k = pow-le-pow_right {n = 10} (omega arith) {i = 0} {j = k} (omega arith) in
    rw (last-digit n, le-ltb n 10 (omega arith), ← e)

-- 20 numerals hold a number of 64 bits
fewest-few : (k n : ℕ) → n < 2 ^ 64 → IsDigitCount 10 1 n k → k ≤ 20
fewest-few k n h (l, u, m) = go (dec_le k 20)
  where
    go : Dec (k ≤ 20) → k ≤ 20
    go (yes p) = p
    go (no q) =
        let w : 1 < k = omega arith in
        let g : 10 ^ 20 ≤ 10 ^ (k - 1) = pow-le-pow_right {n = 10} (omega arith) {i = 20} {j = k - 1} (omega arith) in
        absurd (omega (arith, m w))

digits_in : (k j n : ℕ) → IsDigitCount 10 1 n k → k ≤ j → last_digits 10 k n ≡ decimal_in j n
digits_in zero j n (l, u, m) h = absurd (omega arith)
digits_in (suc k) zero n f h = absurd (omega arith)
digits_in (suc zero) (suc j) n (l, u, m) h = digits-one n j (omega arith)
digits_in (suc (suc k)) (suc j) n f h = digits_more k j n f (digits_in (suc k) j (n / 10) (fewest-tenth k n f) (omega arith))

pub digits_decimal : (k n : ℕ) → n < 2 ^ 64 → IsDigitCount 10 1 n k → last_digits 10 k n ≡ decimal n
digits_decimal k n h f = digits_in k 20 n f (fewest-few k n h f)
