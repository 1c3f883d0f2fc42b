-- Weights from time stamps (document 02, request (a)): the matrix of powers, the factors that the paper gives for it over any arithmetic, and what is promised
-- of the exact ones. Stamps count from 1.
use Rattle.std.specs.Prelude.{Bool, true, false, List, ℕ, zero, suc, ◌+◌, ◌-◌, ◌^◌, ◌≤◌, ◌<◌, eqb, ltb, length, get_or}
use Rattle.fraction.specs.Arithmetic.{Arithmetic}
use Rattle.fraction.specs.Fraction.{Fraction, Same, natural, exact}
use Rattle.fraction.specs.Rational.{rationals, rational}
use Rattle.words.specs.Word.{Factors}
use Rattle.words.specs.Sources.{Each}
use Rattle.minors.specs.Matrix.{In, Matrix, Equal}
use Rattle.factors.specs.Demand.{AboveZero, FractionsKeepRule, multiplied_out}

-- s(i), the stamp i of a list
abbrev pub stamp_at : List ℕ → ℕ → ℕ
stamp_at L i = get_or L (i - 1) 0

-- THE MATRIX OF POWERS: row i holds the powers 0, 1, 2, .. of stamp i
abbrev pub powers_of : List ℕ → Matrix rationals
powers_of L i j = rational (natural (stamp_at L i ^ (j - 1)))

-- stamps that are positive and strictly increasing
pub record Rising (L : List ℕ) : Type 0 where
  pub positive : (i : ℕ) → In (length L) i → 0 < stamp_at L i
  pub increasing : (i k : ℕ) → 1 ≤ k → k < i → i ≤ length L → stamp_at L k < stamp_at L i

-- THE FACTORS
module _ (K : Arithmetic) where
  open K use {Num, one, mul, div}

  -- f a, f (a + 1), .. multiplied in this order, c of them; an empty product is 1
  unfoldable pub product_from : ℕ → ℕ → (ℕ → Num) → Num
  product_from a zero f = one
  product_from a (suc c) f = mul (product_from a c f) (f (a + c))

  -- the product over k from a to b
  abbrev pub product_over : ℕ → ℕ → (ℕ → Num) → Num
  product_over a b f = product_from a (suc b - a) f

  module _ (stamp : ℕ → Num) (less : ℕ → ℕ → Num) where
    -- `stamp i` is s(i) and `less i k` is s(i) - s(k). On the diagonal: the product over k from 1 to i - 1 of s(i) - s(k). Below it: the product over k from
    -- i - j to i - 2 of s(i) - s(k + 1), divided by the product over the same k of s(i - 1) - s(k). Above it: s(i)
    abbrev pub stamp_factor_by : (on_it below : Bool) → Factors Num
    stamp_factor_by true below i j = product_over 1 (i - 1) (λ k. less i k)
    stamp_factor_by false true i j = div (product_over (i - j) (i - 2) (λ k. less i (k + 1))) (product_over (i - j) (i - 2) (λ k. less (i - 1) k))
    stamp_factor_by false false i j = stamp i

    unfoldable pub stamp_factor : Factors Num
    stamp_factor i j = stamp_factor_by (eqb i j) (ltb j i) i j

  -- of a list of stamps, where `whole` gives a whole number: each stamp, and the exact difference of two
  abbrev pub factors_of_stamps : (ℕ → Num) → List ℕ → Factors Num
  factors_of_stamps whole L = stamp_factor (λ i. whole (stamp_at L i)) (λ i k. whole (stamp_at L i - stamp_at L k))

-- the exact factors
abbrev pub exact_factors : List ℕ → Factors Fraction
exact_factors L = factors_of_stamps exact natural L

-- THE EXACT FACTORS are positive and multiply out to the matrix of powers, entry for entry, and no other choice of fractions, positive or zero, that keeps the
-- rule for zeros does, whatever its diagonal.
pub record StampsFactored (L : List ℕ) : Type 0 where
  pub positive : Each AboveZero (length L) (exact_factors L)
  pub powers : Equal rationals (length L) (multiplied_out (length L) (exact_factors L)) (powers_of L)
  pub only : (c : Factors Fraction) → FractionsKeepRule (length L) c → Equal rationals (length L) (multiplied_out (length L) c) (powers_of L)
      → (i j : ℕ) → In (length L) i → In (length L) j → Same (c i j) (exact_factors L i j)
