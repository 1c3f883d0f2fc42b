-- The loops of the test of a shelf, which are tests of all numbers below one (`all-fails`, `Seen`). What they have passed: the places before one, and the first
-- numbers of that one (`Passed`). Behind the rows of a matrix
-- each number is to be zero, which is tested of all at once: the fault of a number is 0 where the number is zero (`fault-zero`), and faults or-ed together
-- are 0 where each is (`Gathered`).
use Prim.Native.Nat.{ℕ, suc, ◌+◌, ◌-◌, ◌*◌, ◌/◌, ◌<◌, ◌≤◌}
use native.Mathlib.Decide.{ℕ_discrete}
use native.Mathlib.Omega.{arith}
use mathlib.Core.Path.{◌≡◌, refl, sym, ap, ap₂, subst, ◌∙◌}
use mathlib.Core.Bool.{Bool, true, false, ◌&&◌, and-eq-true_iff, true≢false}
use lib.Bits.{bit_or, bit_xor, or_add_and, xor_add_and, and_le_l, and_le_r, or_zero_l, xor_self}
use lib.Dec.{leb, eqb}
use lib.ListN.{get_or}
use borrow.Author.Tests.{le-leb, lt-leb, eq-eqb, ne_eqb}
use Rattle.number.specs.declared.Number.{Number}
use Rattle.number.specs.Number.{bias}
use Rattle.number.proofs.Tests.{unless}
use Rattle.arrays.specs.Below.{all_below}
use Rattle.arrays.proofs.Below.{all-below, all-each}
use Rattle.table.specs.Table.{absent}
use Rattle.places.specs.declared.Shelf.{Shelf}
use Rattle.places.specs.Shelf.{rows_at}
use Rattle.places.specs.Check.{is_zero, back, sound, few_rows, sound_at, sound_numbers, is_good}
use Rattle.places.proofs.Checking.{sound-there}

-- A TEST OF ALL NUMBERS BELOW n
module _ (f : ℕ → Bool) where
  pub all-fails : (n i : ℕ) → i < n → f i ≡ false → all_below n f ≡ false
  all-fails n i h e = unless (all_below n f) (λ g. true≢false (sym (all-each f n g i h) ∙ e))

  -- what a loop has seen so far
  pub record Seen (n k : ℕ) : Type 0 where
    pub few : k ≤ n
    pub each : (i : ℕ) → i < k → f i ≡ true

  pub seen_none : (n : ℕ) → Seen n 0
  seen_none n = record { few = omega arith; each = λ i h. absurd (omega arith) }

  pub seen_more : {n k : ℕ} → Seen n k → k < n → f k ≡ true → Seen n (k + 1)
  seen_more {n} {k} w h e =
      record {
        few = omega arith;
        each = λ i g.
            elim (ℕ_discrete i k) [
              | yes q ↦ rw q e
              | no q ↦ w.each i (omega arith)
            ];
      }

  pub seen_all : {n k : ℕ} → Seen n k → n ≤ k → all_below n f ≡ true
  seen_all {n} {k} w h = all-below f n (λ i g. w.each i (omega arith))

-- FAULTS
or-none : (x y : ℕ) → bit_or x y ≡ 0 → (x ≡ 0) × (y ≡ 0)
or-none x y e =
    (omega (arith, or_add_and x y, and_le_l x y, and_le_r x y), omega (arith, or_add_and x y, and_le_l x y, and_le_r x y))

xor-none : (x y : ℕ) → bit_xor x y ≡ 0 → x ≡ y
xor-none x y e = omega (arith, xor_add_and x y, and_le_l x y, and_le_r x y)

fault-test : (m x b : ℕ) → eqb (bit_or m (bit_xor x b)) 0 ≡ eqb m 0 && eqb x b
fault-test m x b =
    elim (ℕ_discrete m 0) [
      | yes p ↦
          elim (ℕ_discrete x b) [
            | yes q ↦ eq-eqb _ 0 (ap₂ bit_or p (ap (λ (y : ℕ). bit_xor y b) q ∙ xor_self b) ∙ or_zero_l 0) ∙ simp (eq-eqb m 0 p, eq-eqb x b q)
            | no q ↦ ne_eqb _ 0 (λ e. q (xor-none x b (or-none m (bit_xor x b) e).1)) ∙ simp (eq-eqb m 0 p, ne_eqb x b q)
          ]
      | no p ↦ ne_eqb _ 0 (λ e. p (or-none m (bit_xor x b) e).0) ∙ simp (ne_eqb m 0 p)
    ]

pub fault-zero : (a : Number) → eqb (bit_or a.m (bit_xor a.x bias)) 0 ≡ is_zero a
unfolding is_zero
fault-zero a = fault-test a.m a.x bias

-- behind the n rows of a matrix
sound-behind : (n k : ℕ) (x a : Number) → n * 8 ≤ k → sound n k x a ≡ is_zero a
unfolding sound
sound-behind n k x a h =
    let out : leb (suc (k / 8)) n ≡ false = lt-leb (suc (k / 8)) n (omega arith) in
    simp out

module _ (s : Shelf) where
  -- the places before p, and k numbers of place p
  pub record Passed (p k : ℕ) : Type 0 where
    pub rows : Seen (λ i. leb (rows_at s i) 8) 8 p
    pub numbers : Seen (sound_at s) 512 (p * 64 + k)

  pub all-passed : (p : ℕ) → Passed p 0 → 8 ≤ p → is_good s ≡ true
  unfolding is_good few_rows sound_numbers
  all-passed p w h = (and-eq-true_iff (few_rows s) (sound_numbers s)).1 (seen_all _ w.rows h, seen_all _ w.numbers (omega arith))

  module _ (p : ℕ) (place : p < 8) where
    pub rows-failed : 8 < rows_at s p → is_good s ≡ false
    unfolding is_good few_rows
    rows-failed h = ap (λ t. t && sound_numbers s) (all-fails _ 8 p place (lt-leb (rows_at s p) 8 h))

    pub place-passed : Passed p 64 → rows_at s p ≤ 8 → Passed (p + 1) 0
    place-passed w h =
        record {
          rows = seen_more _ w.rows place (le-leb (rows_at s p) 8 h);
          numbers = subst (Seen (sound_at s) 512) (omega arith) w.numbers;
        }

    -- number k of the place, behind the one that stands o before it
    module _ (k : ℕ) (number : k < 64) (o : ℕ) (there : o ≡ back k) where
      abbrev pub sound-here : Bool
      sound-here = sound (rows_at s p) k (get_or s.numbers (p * 64 + k - o) absent) (get_or s.numbers (p * 64 + k) absent)

      sound-number : sound_at s (p * 64 + k) ≡ sound-here
      sound-number =
          sound-there s p k number
          ∙ ap (λ (o : ℕ). sound (rows_at s p) k (get_or s.numbers (p * 64 + k - o) absent) (get_or s.numbers (p * 64 + k) absent)) (sym there)

      pub number-failed : sound-here ≡ false → is_good s ≡ false
      unfolding is_good sound_numbers
      number-failed e =
          let f : sound_numbers s ≡ false = all-fails (sound_at s) 512 (p * 64 + k) (omega arith) (sound-number ∙ e) in
          unless (is_good s) (λ g. true≢false (sym ((and-eq-true_iff (few_rows s) (sound_numbers s)).0 g).1 ∙ f))

      pub number_passed : Passed p k → sound-here ≡ true → Passed p (k + 1)
      number_passed w e =
          record {
            rows = w.rows;
            numbers = subst (Seen (sound_at s) 512) (omega arith) (seen_more (sound_at s) w.numbers (omega arith) (sound-number ∙ e));
          }

  -- the faults of what was passed at once
  pub record Gathered (p k faults : ℕ) : Type 0 where
    pub none : faults ≡ 0 → Passed p k
    pub some : (faults ≡ 0 → ⊥) → is_good s ≡ false

  pub gathered_none : {p k : ℕ} → Passed p k → Gathered p k 0
  gathered_none w = record { none = λ e. w; some = λ h. absurd (h (omega arith)) }

  pub gathered-more : {p k faults : ℕ} → Gathered p k faults → p < 8 → rows_at s p * 8 ≤ k → k < 64 → (fault : ℕ)
      → eqb fault 0 ≡ is_zero (get_or s.numbers (p * 64 + k) absent) → Gathered p (k + 1) (bit_or faults fault)
  gathered-more {p} {k} {faults} w place behind number fault e =
      let zero-there = sound-behind (rows_at s p) k _ (get_or s.numbers (p * 64 + k) absent) behind in
      record {
        none = λ h.
            let parts = or-none faults fault h in
            number_passed p place k number (back k) refl (w.none parts.0) (zero-there ∙ sym e ∙ eq-eqb fault 0 parts.1);
        some = λ h.
            elim (ℕ_discrete faults 0) [
              | yes q ↦
                  let x : fault ≡ 0 → ⊥ = λ z. h (ap₂ bit_or q z ∙ or_zero_l 0) in
                  number-failed p place k number (back k) refl (zero-there ∙ sym e ∙ ne_eqb fault 0 x)
              | no q ↦ w.some q
            ];
      }
