-- Tables of row sets have one proof at most (Tables-prop): what the struct of a walk, which keeps one, asks.
use Rattle.std.specs.Prelude.{List, ℕ}
use Rattle.std.specs.Coded.{le_prop}
use Rattle.rowset.specs.Sets.{SetAt, Listed, Placed, Paired, Tables}
use native.Mathlib.Nat.{ℕ_set}

SetAt-prop : (k p s : ℕ) → IsProp (SetAt k p s)
SetAt-prop k p s a b = λ i. record {
  below = le_prop a.below b.below i;
  rows = ℕ_set _ _ a.rows b.rows i;
  position = ℕ_set _ _ a.position b.position i;
}

Listed-prop : (t : List ℕ) → IsProp (Listed t)
Listed-prop t a b = λ i. record { entry = λ k p h g. SetAt-prop k p _ (a.entry k p h g) (b.entry k p h g) i }

Placed-prop : (t : List ℕ) → IsProp (Placed t)
Placed-prop t a b = λ i. record { entry = λ s h. ℕ_set _ _ (a.entry s h) (b.entry s h) i }

Paired-prop : (n : ℕ) (t : List ℕ) → IsProp (Paired n t)
Paired-prop n t a b = λ i. record { entry = λ x o m N h. ℕ_set _ _ (a.entry x o m N h) (b.entry x o m N h) i }

pub Tables-prop : (n : ℕ) (t : List ℕ) → IsProp (Tables n t)
Tables-prop n t a b = λ i. record {
  listed = Listed-prop t a.listed b.listed i;
  placed = Placed-prop t a.placed b.placed i;
  paired = Paired-prop n t a.paired b.paired i;
}
