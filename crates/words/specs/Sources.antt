-- What is asked of sources. Of factors: each has a property (`Each`), or one off the diagonal and another on it (`Weighted`); which choices keep the rule for
-- zeros (`KeepsRule`), and which are accepted (`Banded`). Of the factors of a step and of all steps (`Source`, `Sources`); what a walk asks (`Walkable`), and
-- how far the exponents of its minors reach (`run_reach`).
use Rattle.std.specs.Prelude.{◌≡◌, List, [], ◌∷◌, ℕ, ◌+◌, ◌*◌, ◌≤◌, ◌<◌}
use Rattle.number.specs.declared.Number.{Number}
use Rattle.number.specs.Number.{zero_number, Ranged, Stored}
use Rattle.words.specs.RowSet.{In}
use Rattle.words.specs.Word.{Factors}
use Rattle.words.specs.Operation.{Step, step}

module _ {A : Type 0} where
  -- each factor of n rows in P
  abbrev pub Each : (A → Type 0) → ℕ → Factors A → Type 0
  Each P n b = (i j : ℕ) → In n i → In n j → P (b i j)

  -- those off the diagonal, which are the weights of letters E and Et, in P; those on it, which are the entries of D, in Q
  pub record Weighted (P Q : A → Type 0) (n : ℕ) (b : Factors A) : Type 0 where
    pub off : (i j : ℕ) → In n i → In n j → (i ≡ j → ⊥) → P (b i j)
    pub on : (i : ℕ) → In n i → Q (b i i)

  -- A CHOICE, POSITIVE OR ZERO, THAT KEEPS THE RULE FOR ZEROS (document 02, (e)): what is not zero is positive; every factor further down the column of a zero
  -- below the diagonal is zero too, and every factor further right in the row of a zero above it. Of the diagonal it asks nothing more
  pub record KeepsRule (Positive Zero : A → Type 0) (n : ℕ) (b : Factors A) : Type 0 where
    pub positive : (i j : ℕ) → In n i → In n j → (Zero (b i j) → ⊥) → Positive (b i j)
    pub down : (i r j : ℕ) → 1 ≤ j → j < i → i < r → r ≤ n → Zero (b i j) → Zero (b r j)
    pub right : (i j c : ℕ) → 1 ≤ i → i < j → j < c → c ≤ n → Zero (b i j) → Zero (b i c)

  -- WHICH FACTORS ARE ACCEPTED (document 02, (e)): those that keep the rule and are positive on the diagonal
  pub record Banded (Positive Zero : A → Type 0) (n : ℕ) (b : Factors A) : Type 0 where
    pub diagonal : (i : ℕ) → In n i → Positive (b i i)
    pub rule : KeepsRule Positive Zero n b

  -- a property of the factors of a step, and of those of every step
  abbrev pub Source : (Factors A → Type 0) → Step A → Type 0
  Source T (step w b) = T b

  abbrev pub Sources : (Factors A → Type 0) → List (Step A) → Type 0
  Sources T [] = Unit {0}
  Sources T (s ∷ L) = Source T s × Sources T L

-- numbers that are accepted: stored, or zero in the pattern
abbrev pub BandedNumbers : ℕ → Factors Number → Type 0
BandedNumbers = Banded Stored (λ a. a ≡ zero_number)

-- what a walk asks: stored entries of D, and weights that are stored or zero
abbrev pub Walkable : ℕ → Factors Number → Type 0
Walkable = Weighted (Ranged 1000) Stored

-- a minor of m such sources of n rows has an exponent from minus this to this: 31 for one, and at most 1035 for each factor
abbrev pub run_reach : ℕ → ℕ → ℕ
run_reach m n = 31 + 1035 * (m * (n * n))
