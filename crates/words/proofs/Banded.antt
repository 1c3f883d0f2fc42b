-- ACCEPTED FACTORS: those that are all positive (each-banded), those that keep the rule for zeros from each to the next (banded-next), the same exchanged
-- (rule-exchanged, banded-exchanged), factors positive and zero where these are (rule-like, banded-like), and equal ones (banded-same). Of numbers: all stored
-- (stored-banded); each is stored or zero (decided, banded-decided), and so within range (banded-ranged) and what a walk asks (banded-walkable); and the one
-- just before a factor in its line is zero only where that is (below-zero, above_zero).
use mathlib.Core.Path.{◌≡◌, sym, ap, ap₂, subst}
use Prim.Native.Nat.{ℕ, suc, ◌-◌, ◌≤◌, ◌<◌}
use native.Mathlib.Decide.{ℕ_discrete, le_ind}
use native.Mathlib.Omega.{arith}
use Rattle.number.specs.declared.Number.{Number}
use Rattle.number.specs.Number.{bias, zero_number, Ranged, Stored}
use Rattle.number.proofs.Reach.{ranged-zero, ranged-stored}
use Rattle.words.specs.RowSet.{In}
use Rattle.words.specs.Word.{Factors, exchanged}
use Rattle.words.specs.Sources.{Each, KeepsRule, Banded, BandedNumbers, Walkable}

-- where none is zero there is no rule to keep
pub each-banded : {A : Type 0} (Positive Zero : A → Type 0) → ((x : A) → Positive x → Zero x → ⊥) → (n : ℕ) (b : Factors A) → Each Positive n b
    → Banded Positive Zero n b
each-banded Positive Zero apart n b h = record {
  diagonal = λ i x. h i i x x;
  rule = record {
    positive = λ i j x y f. h i j x y;
    down = λ i r j lj ji ir rn z. absurd (apart (b i j) (h i j (omega arith, omega arith) (lj, omega arith)) z);
    right = λ i j c li ij jc cn z. absurd (apart (b i j) (h i j (li, omega arith) (omega arith, omega arith)) z);
  };
}

-- the rule is kept along a line where it is kept from each factor to the next
pub banded-next : {A : Type 0} (Positive Zero : A → Type 0) (n : ℕ) (b : Factors A) → ((i : ℕ) → In n i → Positive (b i i))
    → ((i j : ℕ) → In n i → In n j → (Zero (b i j) → ⊥) → Positive (b i j))
    → ((i j : ℕ) → 1 ≤ j → j < i → i < n → Zero (b i j) → Zero (b (suc i) j)) → ((i j : ℕ) → 1 ≤ i → i < j → j < n → Zero (b i j) → Zero (b i (suc j)))
    → Banded Positive Zero n b
banded-next Positive Zero n b on others below beside = record {
  diagonal = on;
  rule = record {
    positive = others;
    down = λ i r j lj ji ir rn z.
        le_ind (λ r. r ≤ n → Zero (b r j)) (λ l. z) (λ r h f l. below r j lj (omega arith) (omega arith) (f (omega arith))) r (omega arith) rn;
    right = λ i j c li ij jc cn z.
        le_ind (λ c. c ≤ n → Zero (b i c)) (λ l. z) (λ c h f l. beside i c li (omega arith) (omega arith) (f (omega arith))) c (omega arith) cn;
  };
}

pub rule-exchanged : {A : Type 0} (Positive Zero : A → Type 0) (n : ℕ) (b : Factors A) → KeepsRule Positive Zero n b → KeepsRule Positive Zero n (exchanged b)
rule-exchanged Positive Zero n b h = record {
  positive = λ i j x y. h.positive j i y x;
  down = λ i r j lj ji ir rn. h.right j i r lj ji ir rn;
  right = λ i j c li ij jc cn. h.down j c i li ij jc cn;
}

pub banded-exchanged : {A : Type 0} (Positive Zero : A → Type 0) (n : ℕ) (b : Factors A) → Banded Positive Zero n b → Banded Positive Zero n (exchanged b)
banded-exchanged Positive Zero n b h = record { diagonal = h.diagonal; rule = rule-exchanged Positive Zero n b h.rule }

-- factors that are positive where others are, and zero where they are
pub record Like {A B : Type 0} (P Z : A → Type 0) (Q Y : B → Type 0) (x : A) (y : B) : Type 0 where
  pub positive : P x → Q y
  pub zero : Z x → Y y
  pub back : Y y → Z x

module _ {A B : Type 0} (P Z : A → Type 0) (Q Y : B → Type 0) (n : ℕ) (b : Factors A) (c : Factors B)
    (like : (i j : ℕ) → In n i → In n j → Like P Z Q Y (b i j) (c i j)) where
  pub rule-like : KeepsRule P Z n b → KeepsRule Q Y n c
  rule-like h = record {
    positive = λ i j x y f. (like i j x y).positive (h.positive i j x y (λ z. f ((like i j x y).zero z)));
    down = λ i r j lj ji ir rn z. (like r j (omega arith, rn) (lj, omega arith)).zero
        (h.down i r j lj ji ir rn ((like i j (omega arith, omega arith) (lj, omega arith)).back z));
    right = λ i j c li ij jc cn z. (like i c (li, omega arith) (omega arith, cn)).zero
        (h.right i j c li ij jc cn ((like i j (li, omega arith) (omega arith, omega arith)).back z));
  }

  pub banded-like : Banded P Z n b → Banded Q Y n c
  banded-like h = record { diagonal = λ i x. (like i i x x).positive (h.diagonal i x); rule = rule-like h.rule }

pub banded-same : {A : Type 0} (Positive Zero : A → Type 0) (n : ℕ) {b c : Factors A} → ((i j : ℕ) → In n i → In n j → b i j ≡ c i j)
    → Banded Positive Zero n b → Banded Positive Zero n c
banded-same Positive Zero n {b} {c} e =
    banded-like Positive Zero Positive Zero n b c
    (λ i j x y. record { positive = subst Positive (e i j x y); zero = subst Zero (e i j x y); back = subst Zero (sym (e i j x y)) })

-- OF NUMBERS
-- no stored number is zero
pub stored-nonzero : (a : Number) → Stored a → a ≡ zero_number → ⊥
stored-nonzero a s e = omega (arith, s.low, ap (λ (b : Number). b.m) e)

pub stored-banded : (n : ℕ) (b : Factors Number) → Each Stored n b → BandedNumbers n b
stored-banded n b h = each-banded Stored (λ a. a ≡ zero_number) stored-nonzero n b h

pub data StoredOrZero (a : Number) : Type 0 where
  stored : Stored a → StoredOrZero a
  zero : a ≡ zero_number → StoredOrZero a

pub decided : (a : Number) → ((a ≡ zero_number → ⊥) → Stored a) → StoredOrZero a
decided a s =
    elim (ℕ_discrete a.m 0) [
      | yes e ↦ elim (ℕ_discrete a.x bias) [
        | yes f ↦ zero (ap₂ (λ (m x : ℕ). let r : Number = record { m = m; x = x } in r) e f)
        | no g ↦ stored (s (λ z. g (ap (λ (b : Number). b.x) z)))
      ]
      | no g ↦ stored (s (λ z. g (ap (λ (b : Number). b.m) z)))
    ]

pub banded-decided : (n : ℕ) (b : Factors Number) → BandedNumbers n b → Each StoredOrZero n b
banded-decided n b h i j x y = decided (b i j) (h.rule.positive i j x y)

ranged-decided : {a : Number} → StoredOrZero a → Ranged 1000 a
ranged-decided (stored s) = ranged-stored s
ranged-decided (zero e) = subst (Ranged 1000) (sym e) (ranged-zero 1000)

pub banded-ranged : (n : ℕ) (b : Factors Number) → BandedNumbers n b → Each (Ranged 1000) n b
banded-ranged n b h i j x y = ranged-decided (banded-decided n b h i j x y)

pub banded-walkable : (n : ℕ) (b : Factors Number) → BandedNumbers n b → Walkable n b
banded-walkable n b h = record { off = λ i j x y e. banded-ranged n b h i j x y; on = h.diagonal }

-- THE FACTOR JUST BEFORE another in its line is zero only where that is: above it, where it stands below the diagonal; left of it, where it stands above
pub below-zero : (n : ℕ) (b : Factors Number) → BandedNumbers n b → (i j : ℕ) → 1 ≤ j → j < i → i ≤ n → b (i - 1) j ≡ zero_number → b i j ≡ zero_number
below-zero n b h i j low less few z =
    elim (ℕ_discrete (i - 1) j) [
      | yes e ↦ absurd (stored-nonzero (b j j) (h.diagonal j (low, omega arith)) (subst (λ k. b k j ≡ zero_number) e z))
      | no e ↦ h.rule.down (i - 1) i j low (omega arith) (omega arith) few z
    ]

pub above_zero : (n : ℕ) (b : Factors Number) → BandedNumbers n b → (i j : ℕ) → 1 ≤ i → i < j → j ≤ n → b i (j - 1) ≡ zero_number → b i j ≡ zero_number
above_zero n b h i j = below-zero n (exchanged b) (banded-exchanged Stored (λ a. a ≡ zero_number) n b h) j i
