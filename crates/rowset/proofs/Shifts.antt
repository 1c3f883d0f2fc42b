-- What shifts and masks of numbers compute: a bit tested (shift-has), rows beyond n (shift-beyond), a row put in place of another (shift-replaced), rows
-- counted (ones-count),
-- consecutive rows (shift-run, run_none), one more row among chosen ones (Gathered, among_in, among-out).
use mathlib.Core.Path.{◌≡◌, refl, sym, ap, ap₂, ◌∙◌}
use mathlib.Core.Bool.{Bool, true, false, ◌&&◌, not}
use Prim.Native.Nat.{ℕ, suc, ◌+◌, ◌-◌, ◌*◌, ◌/◌, ◌%◌, ◌^◌, ◌≤◌, ◌<◌}
use native.Mathlib.Decide.{dec_lt}
use native.Mathlib.Nat.{mod-lt, div-eq_of_lt}
use native.Mathlib.Numerals.{add-one}
use native.Mathlib.Omega.{arith}
use borrow.Author.Tests.{lt-leb, le-leb, ne_eqb}
use lib.Bits.{bit_and, bit_or, bit_xor, and_mask, or_shifted_r}
use lib.Count as Count
use lib.Dec.{T, eqb, eqb→eq}
use lib.Pow.{pow_pos, pow_mono, shl_exact, split}
use Rattle.rowset.specs.Mask.{digit, mask_has, mask_beyond, mask_put, mask_replaced, count_to, mask_count, mask_run, among_to}
use Rattle.rowset.proofs.Finite.{and_left, and_right, all-at, all₂, all₂-at}
use Rattle.rowset.proofs.Bit.{has-suc, digit-suc}
use Rattle.rowset.proofs.Counts.{among_to-below}
use Rattle.rowset.proofs.Masks.{put-below}

-- MEMBERSHIP
pub shift-has : (s i : ℕ) → eqb (bit_and (s / 2 ^ (i - 1)) 1) 1 ≡ mask_has i s
unfolding mask_has
shift-has s i = ap (λ x. eqb x 1) (and_mask (s / 2 ^ (i - 1)) 1)

pub shift-beyond : (s n : ℕ) → not (eqb (s / 2 ^ n) 0) ≡ mask_beyond n s
unfolding mask_beyond
shift-beyond s n = elim (dec_lt s (2 ^ n)) [
  | yes l ↦ rw (div-eq_of_lt l, lt-leb (2 ^ n) s l)
  | no g ↦ rw (ne_eqb (s / 2 ^ n) 0 (λ e. g (over e)), le-leb (2 ^ n) s (omega arith))
]
  where
    over : s / 2 ^ n ≡ 0 → s < 2 ^ n
    over e = let z : 0 * 2 ^ n + s % 2 ^ n ≡ s = rw e at (split s n) in omega (arith, mod-lt s (pow_pos n))

-- ROWS PUT IN AND OUT
abbrev pub shifted : ℕ → ℕ
shifted b = 1 * 2 ^ b % 2 ^ 64

put_in : ℕ → ℕ → Bool
put_in s i = eqb (bit_or s (shifted (i - 1))) (mask_put i true s)

put-out : ℕ → ℕ → Bool
put-out s i = eqb (bit_xor (bit_or s (shifted (i - 1))) (shifted (i - 1))) (mask_put i false s)

put_all : T (all₂ 256 9 (λ s i. put_in s i && put-out s i))
unfolding put_in put-out mask_put mask_has
put_all = tt

module _ (s i : ℕ) (b : s < 256) (l : i ≤ 8) where
  put-at : T (put_in s i && put-out s i)
  put-at = all₂-at 256 9 (λ s i. put_in s i && put-out s i) put_all s i b (omega arith)

  or_put : bit_or s (shifted (i - 1)) ≡ mask_put i true s
  unfolding put_in
  or_put = eqb→eq _ _ (and_left (put_in s i) (put-out s i) put-at)

  xor-put : bit_xor (bit_or s (shifted (i - 1))) (shifted (i - 1)) ≡ mask_put i false s
  unfolding put-out
  xor-put = eqb→eq _ _ (and_right (put_in s i) (put-out s i) put-at)

pub shift-replaced : (s a o : ℕ) → s < 256 → 1 ≤ a → a ≤ 8 → o ≤ 8
    → bit_or (bit_xor (bit_or s (shifted (a - 1))) (shifted (a - 1))) (shifted (o - 1)) ≡ mask_replaced a o s
unfolding mask_replaced
shift-replaced s a o b ha la lo =
    ap (λ x. bit_or x (shifted (o - 1))) (xor-put s a b la) ∙ or_put (mask_put a false s) o (put-below 8 s b a false ha la) lo

-- ROWS COUNTED
ones-right : ℕ → Bool
ones-right s = eqb (Count.ones s) (mask_count s)

pub ones-count : (s : ℕ) → s < 256 → Count.ones s ≡ mask_count s
unfolding ones-right mask_count count_to mask_has Count.ones Count.ones_in
ones-count s h = eqb→eq _ _ (all-at 256 ones-right tt s h)

-- CONSECUTIVE ROWS
pub shift-exact : (b : ℕ) → b ≤ 8 → shifted b ≡ 2 ^ b
shift-exact b l = let e : 1 * 2 ^ b ≡ 2 ^ b = omega arith in shl_exact 1 b 64 (omega arith) (omega arith) ∙ e

module _ (a b : ℕ) (l : a ≤ b) (lb : b ≤ 8) where
  pub shift_le : shifted (a - 1) ≤ shifted b
  shift_le = let p : 2 ^ (a - 1) ≤ 2 ^ b = pow_mono (omega arith) in rw (shift-exact (a - 1) (omega arith), shift-exact b lb) p

  pub shift-run : shifted b - shifted (a - 1) ≡ mask_run a b
  unfolding mask_run
  shift-run = ap₂ (λ x y. x - y) (shift-exact b lb) (shift-exact (a - 1) (omega arith))

pub run_none : (a b : ℕ) → b < a → 0 ≡ mask_run a b
unfolding mask_run
run_none a b l = let p : 2 ^ b ≤ 2 ^ (a - 1) = pow_mono (omega arith) in omega arith

digit_lt : (x : Bool) → digit x < 2 ^ 1
digit_lt true = omega arith
digit_lt false = omega arith

-- ONE MORE ROW AMONG THE CHOSEN
bit_in : (p i : ℕ) → bit_and (p / 2 ^ i) 1 ≡ 1 → mask_has (suc i) p ≡ true
bit_in p i e = has-suc i p ∙ ap (λ x. eqb x 1) (sym (and_mask (p / 2 ^ i) 1) ∙ e)

bit-out : (p i : ℕ) → (bit_and (p / 2 ^ i) 1 ≡ 1 → ⊥) → mask_has (suc i) p ≡ false
bit-out p i e = has-suc i p ∙ ne_eqb (p / 2 ^ i % 2) 1 (λ z. e (and_mask (p / 2 ^ i) 1 ∙ z))

-- after the first i rows of p
pub record Gathered (p s i r k : ℕ) : Type 0 where
  pub set : r ≡ among_to i p s
  pub rows : k ≡ count_to i p

module _ {p s i r k : ℕ} (g : Gathered p s i r k) where
  pub among-out : (bit_and (p / 2 ^ i) 1 ≡ 1 → ⊥) → Gathered p s (i + 1) r k
  unfolding among_to count_to
  among-out t = rw add-one (record {
    set = rw (bit-out p i t) (omega (arith, g.set));
    rows = rw (bit-out p i t) (omega (arith, g.rows));
  })

  pub among_in : i ≤ 8 → bit_and (p / 2 ^ i) 1 ≡ 1 → Gathered p s (i + 1) (bit_or r (bit_and (s / 2 ^ k) 1 * 2 ^ i % 2 ^ 64)) (k + 1)
  unfolding among_to count_to
  among_in l t =
      let x : Bool = mask_has (suc k) s in
      let d : bit_and (s / 2 ^ k) 1 ≡ digit x = and_mask (s / 2 ^ k) 1 ∙ sym (digit-suc k s) in
      let e : bit_or r (bit_and (s / 2 ^ k) 1 * 2 ^ i % 2 ^ 64) ≡ digit x * 2 ^ i + r =
      ap (λ y. bit_or r (y * 2 ^ i % 2 ^ 64)) d ∙ ap (bit_or r) (shl_exact 1 i 64 (digit_lt x) (omega arith))
      ∙ or_shifted_r (digit x) i r (rw g.set (among_to-below i p s)) in
      rw (add-one i) (record {
        set = e ∙ rw (bit_in p i t, ← g.rows, ← g.set) refl;
        rows = rw (bit_in p i t) (omega (arith, g.rows));
      })
