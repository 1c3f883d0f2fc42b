-- Reading a group number a byte at a time: `Passed` is what holds when the bytes in front of i are passed.
use Prim.Native.Nat.{ℕ, suc, ◌+◌, ◌-◌, ◌*◌, ◌^◌, ◌<◌, ◌≤◌}
use native.Mathlib.Nat.{add_assoc, mul-add, mul_assoc, pow-suc, mul-le-mul, mul-le-mul_left, pow-le-pow_right}
use native.Mathlib.Numerals.{add-one}
use native.Mathlib.Omega.{arith}
use mathlib.Core.Path.{◌≡◌, refl, ◌∙◌}
use mathlib.Core.Logic.{◌⊎◌, inl, inr}
use mathlib.Core.Bool.{Bool, true, false, not, ◌&&◌, cond, and-false}
use mathlib.Core.List.{List}
use lib.ListN.{length, get_or, drop, drop_of_length-le}
use lib.Seq.{drop-cons}
use lib.Dec.{ltb, eqb}
use borrow.Author.Tests.{eqb-false, lt-ltb, le-ltb, eq-eqb, ne_eqb}
use Rattle.std.specs.Prelude.{Ok, Err}
use Rattle.group.specs.declared.GroupFault.TheVariants.{Ended, Faulty}
use Rattle.group.specs.Group.{Found, number, continued, group_in, group_of}

-- i bytes of the low bits a, in front of a group of the weight p
abbrev behind : ℕ → ℕ → ℕ → Found → Found
behind a p i (Ok g) = cond (eqb g.value 0 && not (eqb i 0)) (Err Faulty) (number (a + p * g.value) (i + g.bytes))
behind a p i (Err f) = Err f

behind-value : (a p i x v n : ℕ) (t : Bool) → eqb v 0 ≡ t
    → behind a p i (cond t (Err Faulty) (number (x + 128 * v) (suc n))) ≡ behind (a + p * x) (p * 128) (i + 1) (number v n)
behind-value a p i x v n true e = rw (e, ne_eqb (i + 1) 0 (λ q. omega arith))
behind-value a p i x v n false e =
    let w : v ≡ 0 → ⊥ = eqb-false v 0 e in
    let k : i + suc n ≡ i + 1 + n = omega arith in
    rw (ne_eqb (x + 128 * v) 0 (λ q. w (omega arith)), e, k) (simp (mul-add, mul_assoc, add_assoc))

-- one byte more in front
behind-continued : (a p i x : ℕ) (r : Found) → behind a p i (continued x r) ≡ behind (a + p * x) (p * 128) (i + 1) r
behind-continued a p i x (Ok g) = behind-value a p i x g.value g.bytes (eqb g.value 0) refl
behind-continued a p i x (Err f) = refl

-- past the end, past the fifth byte, and at a byte
group-past-end : (k i : ℕ) (s : List ℕ) → length s ≤ i → group_in (suc k) (drop i s) ≡ Err Ended
unfolding group_in
group-past-end k i s h = rw (drop_of_length-le s h)

group-too-long : (s : List ℕ) → group_in 0 s ≡ Err Faulty
unfolding group_in
group-too-long s = refl

group-at-byte : (k i : ℕ) (s : List ℕ) → i < length s →
    group_in (suc k) (drop i s) ≡ cond (ltb (get_or s i 0) 128) (number (get_or s i 0) 1) (continued (get_or s i 0 - 128) (group_in k (drop (i + 1) s)))
unfolding group_in
group-at-byte k i s h = rw (drop-cons s i 0 h, add-one)

pub record Passed (s : List ℕ) (value weight i : ℕ) : Type 0 where
  pub few : i ≤ 5
  pub weight_is : weight ≡ 128 ^ i
  pub small : value < weight
  pub same : group_in 5 s ≡ behind value weight i (group_in (5 - i) (drop i s))

module _ {s : List ℕ} {value weight i : ℕ} (p : Passed s value weight i) where
  pub weight-small : i < 5 → weight ≤ 2 ^ 28
  weight-small h = rw p.weight_is (pow-le-pow_right {n = 128} (omega arith) {i = i} {j = 4} (omega arith))

  pub product_small : (b : ℕ) → i < 5 → b ≤ 128 → weight * b ≤ 2 ^ 35
  product_small b h hb = mul-le-mul (weight-small h) hb

  pub passed-end : i < 5 → length s ≤ i → Err Ended ≡ group_of s
  passed-end h e =
      let k : 5 - i ≡ suc (5 - (i + 1)) = omega arith in
      rw (p.same, k, group-past-end (5 - (i + 1)) i s e)

  pub passed-five : 5 ≤ i → Err Faulty ≡ group_of s
  passed-five h =
      let k : 5 - i ≡ 0 = omega arith in
      rw (p.same, k, group-too-long (drop i s))

  module _ (b : ℕ) (h : i < 5) (has : i < length s) (is : b ≡ get_or s i 0) where
    at_byte : group_in 5 s ≡ behind value weight i (cond (ltb b 128) (number b 1) (continued (b - 128) (group_in (5 - (i + 1)) (drop (i + 1) s))))
    at_byte =
        let k : 5 - i ≡ suc (5 - (i + 1)) = omega arith in
        p.same ∙ rw (k, group-at-byte (5 - (i + 1)) i s has, is)

    pub passed-zero : b ≡ 0 → (i ≡ 0 → ⊥) → Err Faulty ≡ group_of s
    passed-zero z n = rw (at_byte, z, ne_eqb i 0 n)

    passed-all : b < 128 → (b ≡ 0 → ⊥) ⊎ (i ≡ 0) → group_in 5 s ≡ number (value + weight * b) (i + 1)
    passed-all l (inl n) = rw (at_byte, lt-ltb b 128 l, ne_eqb b 0 n)
    passed-all l (inr z) = rw (at_byte, lt-ltb b 128 l, eq-eqb i 0 z, and-false)

    pub passed-value : b < 128 → (b ≡ 0 → ⊥) ⊎ (i ≡ 0) → value + weight * b < 2 ^ 32 → number (value + weight * b) (i + 1) ≡ group_of s
    passed-value l w t = rw (passed-all l w, lt-ltb _ _ t)

    pub passed-large : b < 128 → (b ≡ 0 → ⊥) ⊎ (i ≡ 0) → 2 ^ 32 ≤ value + weight * b → Err Faulty ≡ group_of s
    passed-large l w t = rw (passed-all l w, le-ltb _ _ t)

    pub passed-more : 128 ≤ b → b < 256 → Passed s (value + weight * (b - 128)) (weight * 128) (i + 1)
    passed-more g u =
        let m : weight * (b - 128) ≤ weight * 127 = mul-le-mul_left weight (omega arith) in
        record {
          few = omega arith;
          weight_is = rw (p.weight_is, add-one, pow-suc);
          small = omega (arith, p.small);
          same = at_byte ∙ rw (le-ltb b 128 g) (behind-continued value weight i (b - 128) (group_in (5 - (i + 1)) (drop (i + 1) s)));
        }
