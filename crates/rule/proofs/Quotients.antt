-- The products and the quotient of the formulas: within what numbers take (minor-reach, product-reach), by no zero (minor-nonzero, product-nonzero); and the
-- formula from its four minors, zero where the first one is (banded-zero), else the quotient (banded-quotient).
use mathlib.Core.Path.{◌≡◌, sym, ap, ap₂, ◌∙◌}
use mathlib.Core.Bool.{Bool, false, cond}
use Prim.Native.Nat.{ℕ, ◌-◌, ◌<◌}
use native.Mathlib.Omega.{arith}
use borrow.Author.Tests.{eq-eqb, ne_eqb, eqb-false}
use lib.Dec.{eqb}
use Rattle.number.specs.Number.{rounded, zero_number, reach, product_of, quotient_of, Ranged}
use Rattle.number.specs.declared.Direction.TheVariants.{Nearest}
use Rattle.number.specs.declared.Number.{Number}
use Rattle.number.proofs.Reach.{ranged-more}
use Rattle.number.proofs.Zero.{product-positive}
use Rattle.words.specs.RowSet.{RowSet}
use Rattle.words.specs.Formula.{latest_before, banded_below, below_diagonal}
use Rattle.words.specs.Sources.{run_reach}
use Rattle.words.proofs.Exponents.{product-ranged}
use Rattle.rule.specs.Latest.{alone_of, with_row}

pub minor-reach : {a : Number} → Ranged (run_reach 6 8) a → Ranged reach a
minor-reach u = ranged-more (omega arith) u

pub product-reach : {a b : Number} → Ranged (run_reach 6 8) a → Ranged (run_reach 6 8) b → Ranged reach (product_of a b)
product-reach u v = ranged-more (omega arith) (product-ranged (run_reach 6 8) (omega arith) u v)

-- a minor that is not judged to be zero
pub minor-nonzero : {a b : Number} → a ≡ b → eqb b.m 0 ≡ false → 0 < a.m
minor-nonzero {a} {b} e f = let g : a.m ≡ 0 → ⊥ = eqb-false a.m 0 (ap (λ (x : Number). eqb x.m 0) e ∙ f) in omega arith

pub product-nonzero : (a b : Number) → 0 < a.m → 0 < b.m → 0 < (product_of a b).m
product-nonzero a b u v = product-positive Nearest a b u v

-- THE FORMULA from its minors
module _ (k : ℕ) (M : RowSet → RowSet → Number) (i j : ℕ) {corner : Number} (ec : corner ≡ with_row k M i j) where
  abbrev by-corner : Bool → Number
  by-corner b = cond b zero_number (below_diagonal rounded k (latest_before rounded k) M i j)

  pub banded-zero : corner.m ≡ 0 → {r : Number} → r ≡ zero_number → r ≡ banded_below rounded k M i j
  unfolding banded_below
  banded-zero z e = e ∙ sym (ap by-corner (sym (ap (λ (x : Number). eqb x.m 0) ec) ∙ eq-eqb corner.m 0 z))

  pub corner-nonzero : (corner.m ≡ 0 → ⊥) → eqb (with_row k M i j).m 0 ≡ false
  corner-nonzero z = sym (ap (λ (x : Number). eqb x.m 0) ec) ∙ ne_eqb corner.m 0 z

  pub banded-quotient : (corner.m ≡ 0 → ⊥) → {before run above p q r : Number}
      → before ≡ alone_of k M (i - 1) j → run ≡ alone_of k M i j → above ≡ with_row k M (i - 1) j
      → p ≡ product_of corner before → q ≡ product_of run above → r ≡ quotient_of p q → r ≡ banded_below rounded k M i j
  unfolding banded_below below_diagonal
  banded-quotient z eb er ea ep eq e =
      e ∙ ap₂ quotient_of (ep ∙ ap₂ product_of ec eb) (eq ∙ ap₂ product_of er ea) ∙ sym (ap by-corner (corner-nonzero z))
