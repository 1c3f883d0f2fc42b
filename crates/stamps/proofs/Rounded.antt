-- THE ROUNDED FACTORS OF STAMPS beside the exact ones. A difference is exact; of c differences c - 1 products are rounded, since one times a number is that
-- number (Run, product-run); a quotient of two products of at most six differences each is rounded once more: eleven in all (stamped). Exponents stay within
-- 1000, so that each factor can be stored (stamps-ranged).
use mathlib.Core.Path.{◌≡◌, refl, sym, ap, ◌∙◌, subst}
use mathlib.Core.Bool.{false}
use mathlib.Core.List.{List}
use Prim.Native.Nat.{ℕ, zero, suc, ◌+◌, ◌-◌, ◌*◌, ◌^◌, ◌≤◌, ◌<◌}
use native.Mathlib.Omega.{arith}
use lib.ListN.{length}
use Rattle.fraction.specs.Fraction.{Fraction, natural, fraction_product, exact}
use Rattle.fraction.proofs.Fraction.{product-positive}
use Rattle.fraction.proofs.Within.{within_same, within-congruence}
use Rattle.number.specs.declared.Direction.TheVariants.{Nearest}
use Rattle.number.specs.declared.Number.{Number}
use Rattle.number.specs.Number.{one_number, natural_number, product_of, quotient_of, rounded, value, Ranged, Stored, reach}
use Rattle.number.proofs.Reach.{ranged-more, stored-in-range}
use Rattle.number.proofs.Naturals.{natural-ranged, natural-value, product-one}
use Rattle.words.specs.RowSet.{In}
use Rattle.words.specs.Operation.{row_by_row}
use Rattle.table.specs.Table.{outside}
use Rattle.table.proofs.Ranges.{ranged-rows}
use Rattle.factors.proofs.Near.{Near, near-more, near-positive, near-one, near-product, near-quotient}
use Rattle.powers.specs.Stamps.{stamp_at, product_from, exact_factors}
use Rattle.powers.proofs.Factors.{factor-above, factor-on, factor-below}
use Rattle.powers.proofs.Related.{product-related, stamps-related}
use Rattle.powers.proofs.Exact.{stamps-factored}
use Rattle.stamps.specs.Stamps.{mistimed, Timed, built_factors, less_number, Stamped}
use Rattle.stamps.proofs.Timed.{timed}

-- exact, and above zero
abbrev Whole : Number → Fraction → Type 0
Whole x y = Near 0 31 x y × (0 < y.top)

natural-whole : (v : ℕ) → 0 < v → v < 2 ^ 32 → Whole (natural_number v) (natural v)
natural-whole v p h = (record { ranged = natural-ranged v p h; within = within_same _ (natural v) (natural-value v p h) }, p)

-- A PRODUCT of c whole numbers, at most eight
pub record Run (c : ℕ) (x : Number) (y : Fraction) : Type 0 where
  pub near : Near (c - 1) (64 * c + 31) x y
  pub above : 0 < y.top
  pub none : c ≡ 0 → (x ≡ one_number) × (y ≡ natural 1)

abbrev RunOf : ℕ → Number → Fraction → Type 0
RunOf c x y = c ≤ 8 → Run c x y

run_none : RunOf 0 one_number (natural 1)
run_none h = record { near = near-one; above = omega arith; none = λ e. (refl, refl) }

first-near : {x : Number} {y : Fraction} → Whole x y → Near 0 95 (product_of one_number x) (fraction_product (natural 1) y)
first-near {x} {y} q =
    subst (λ (z : Number). Near 0 95 z (fraction_product (natural 1) y))
    (sym (product-one Nearest x q.0.ranged (omega (arith, q.0.ranged.start))))
    (record {
      ranged = ranged-more (omega arith) q.0.ranged;
      within = within-congruence (value x) (fraction_product (natural 1) y) q.0.within refl (omega arith);
    })

run_more : (c : ℕ) (x x' : Number) (y y' : Fraction) → RunOf c x y → Whole x' y' → RunOf (suc c) (product_of x x') (fraction_product y y')
run_more zero x x' y y' p q h =
    let r = p (omega arith) in
    record { near = rw ((r.none refl).0, (r.none refl).1) (first-near q); above = product-positive y y' r.above q.1; none = λ e. absurd (omega arith) }
run_more (suc c) x x' y y' p q h =
    let r = p (omega arith) in
    record {
      near = near-more (omega arith) (omega arith) (near-product r.near q.0 (omega arith));
      above = product-positive y y' r.above q.1;
      none = λ e. absurd (omega arith);
    }

-- A FACTOR of at most eight stamps
module _ (n : ℕ) (few : n ≤ 8) where
  factor-product : (c : ℕ) (x : Number) (y : Fraction) → c < n → RunOf c x y → Near 11 1000 x y
  factor-product c x y h p = near-more (omega arith) (omega arith) (p (omega arith)).near

  factor-quotient : (c : ℕ) (x x' : Number) (y y' : Fraction) → suc c < n → RunOf c x y → RunOf c x' y' → Near 11 1000 (quotient_of x x') (exact.div y y')
  factor-quotient c x x' y y' h p q =
      let l = p (omega arith) in
      let r = q (omega arith) in
      near-more (omega arith) (omega arith) (near-quotient l.near r.near r.above (omega arith))

module _ (L : List ℕ) (t : Timed L) where
  difference-whole : (i k : ℕ) → 1 ≤ k → k < i → i ≤ length L → Whole (less_number L i k) (natural (stamp_at L i - stamp_at L k))
  difference-whole i k l h u =
      let o = t.rising.increasing i k l h u in
      let b = t.below i (omega arith, u) in
      natural-whole (stamp_at L i - stamp_at L k) (omega arith) (omega arith)

  stamp-whole : (i : ℕ) → In (length L) i → Whole (natural_number (stamp_at L i)) (natural (stamp_at L i))
  stamp-whole i u = natural-whole (stamp_at L i) (t.rising.positive i u) (t.below i u)

  -- the products of the code
  module _ (i from c : ℕ) (l : 1 ≤ from) (h : from + c ≤ i) (u : i ≤ length L) where
    product-run : Run c (product_from rounded from c (less_number L i)) (product_from exact from c (λ k. natural (stamp_at L i - stamp_at L k)))
    product-run =
        product-related rounded exact RunOf Whole run_none run_more from c _ _
        (λ k a b. difference-whole i k (omega arith) (omega arith) u) (omega (arith, t.few))

    pub product-ranged : Ranged reach (product_from rounded from c (less_number L i))
    product-ranged = let f = t.few in ranged-more (omega arith) product-run.near.ranged

    pub product-above : 0 < (product_from rounded from c (less_number L i)).m
    product-above = near-positive product-run.near product-run.above

  pub difference-ranged : (i k : ℕ) → 1 ≤ k → k < i → i ≤ length L → Ranged reach (less_number L i k)
  difference-ranged i k l h u = ranged-more (omega arith) (difference-whole i k l h u).0.ranged

  -- THE FACTORS
  factors-near : (i j : ℕ) → In (length L) i → In (length L) j → Near 11 1000 (built_factors L i j) (exact_factors L i j)
  factors-near =
      stamps-related rounded exact RunOf Whole run_none run_more (length L) (Near 11 1000) (factor-product (length L) t.few)
      (factor-quotient (length L) t.few) _ _ _ _ (λ i u. near-more (omega arith) (omega arith) (stamp-whole i u).0) difference-whole

  factors-stored : (i j : ℕ) → In (length L) i → In (length L) j → Stored (built_factors L i j)
  factors-stored i j u v =
      let n = factors-near i j u v in
      let p = near-positive n ((stamps-factored L t.rising).positive i j u v) in
      record { low = n.ranged.low p; high = n.ranged.high; start = n.ranged.start; stop = n.ranged.stop }

-- THE FACTORS as the code works them
module _ (L : List ℕ) (i j : ℕ) where
  pub built-above : i < j → natural_number (stamp_at L i) ≡ built_factors L i j
  built-above h = sym (factor-above rounded _ (less_number L) i j h)

  pub built-on : 1 ≤ i → i ≡ j → product_from rounded 1 (i - 1) (less_number L i) ≡ built_factors L i j
  built-on l e = sym (factor-on rounded _ (less_number L) i l) ∙ ap (built_factors L i) e

  pub built-below : 1 ≤ j → j < i
      → quotient_of (product_from rounded (i - j + 1) (j - 1) (less_number L i)) (product_from rounded (i - j) (j - 1) (less_number L (i - 1)))
      ≡ built_factors L i j
  built-below l h = sym (factor-below rounded _ (less_number L) i j l h)

-- ALL OF IT, for stamps that are not turned down
pub stamped : (L : List ℕ) → mistimed L ≡ false → Stamped L
stamped L e =
    let t = timed L e in
    record { stored = factors-stored L t; within = λ i j u v. (factors-near L t i j u v).within; factored = stamps-factored L t.rising }

-- no exponent is outside -1000 to 1000
pub stamps-ranged : (L : List ℕ) → mistimed L ≡ false → outside (row_by_row (length L) (built_factors L)) ≡ false
stamps-ranged L e = ranged-rows (length L) (built_factors L) (λ i j u v. stored-in-range ((stamped L e).stored i j u v))
