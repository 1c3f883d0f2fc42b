-- SUMS over 1 .. k: a term more (sum_more); of the same terms (sum_same, sums_same), of sums and of multiples (sum-add, sum-times); past whose end there is
-- nothing (sum-padded); over the cells of a table in rows of eight (sum-cells). The steps of a quotient by those of its minors (quotient-steps).
use mathlib.Core.Path.{◌≡◌, refl, sym, ap, ap₂, ◌∙◌}
use mathlib.Core.Bool.{cond}
use Prim.Native.Nat.{ℕ, zero, suc, ◌+◌, ◌-◌, ◌*◌, ◌/◌, ◌%◌, ◌≤◌, min}
use native.Mathlib.Decide.{ℕ_discrete}
use native.Mathlib.Numerals.{add-one}
use native.Mathlib.Omega.{arith}
use borrow.Author.Tests.{le-leb, lt-leb}
use lib.Dec.{eqb, leb}
use Rattle.words.specs.RowSet.{In}
use Rattle.words.specs.Word.{Factors}
use Rattle.words.specs.Effort.{sum_over, over_all, quotient_steps}

-- as a loop adds them up
pub sum_more : (f : ℕ → ℕ) (t x y : ℕ) → x ≡ sum_over t f → y ≡ f (t + 1) → x + y ≡ sum_over (t + 1) f
unfolding sum_over
sum_more f t x y p q =
    let e : t + 1 ≡ suc t = add-one t in
    ap₂ ◌+◌ p (q ∙ ap f e) ∙ sym (ap (λ i. sum_over i f) e)

pub sum_same : (k : ℕ) (f g : ℕ → ℕ) → ((i : ℕ) → In k i → f i ≡ g i) → sum_over k f ≡ sum_over k g
unfolding sum_over
sum_same zero f g h = refl
sum_same (suc k) f g h = ap₂ ◌+◌ (sum_same k f g (λ i p. h i (p.0, omega (arith, p.1)))) (h (suc k) (omega arith, omega arith))

pub sums_same : (k : ℕ) (f g : Factors ℕ) → ((i j : ℕ) → In k i → In k j → f i j ≡ g i j) → over_all k f ≡ over_all k g
sums_same k f g h = sum_same k _ _ (λ i p. sum_same k (f i) (g i) (λ j q. h i j p q))

-- of sums, and of multiples
pub sum-add : (k : ℕ) (f g : ℕ → ℕ) → sum_over k (λ i. f i + g i) ≡ sum_over k f + sum_over k g
unfolding sum_over
sum-add zero f g = refl
sum-add (suc k) f g = omega (arith, sum-add k f g)

pub sum-times : (k c : ℕ) (f : ℕ → ℕ) → sum_over k (λ i. c * f i) ≡ c * sum_over k f
unfolding sum_over
sum-times zero c f = omega arith
sum-times (suc k) c f = omega (arith, sum-times k c f)

-- of m terms those up to k count
pub sum-padded : (m k : ℕ) (f : ℕ → ℕ) → k ≤ m → sum_over m (λ i. cond (leb i k) (f i) 0) ≡ sum_over k f
unfolding sum_over
sum-padded zero k f l = let e : 0 ≡ k = omega arith in ap (λ j. sum_over j f) e
sum-padded (suc m) k f l =
    elim (ℕ_discrete k (suc m)) [
      | yes e ↦
          sum_same (suc m) _ f (λ i p. ap (λ b. cond b (f i) 0) (le-leb i k (omega (arith, p.1)))) ∙ ap (λ j. sum_over j f) (sym e)
      | no e ↦ ap₂ ◌+◌ (sum-padded m k f (omega arith)) (ap (λ b. cond b (f (suc m)) 0) (lt-leb (suc m) k (omega arith))) ∙ omega arith
    ]

-- the terms behind the first n
sum-append : (n m s : ℕ) (f : ℕ → ℕ) → s ≡ n + m → sum_over s f ≡ sum_over n f + sum_over m (λ j. f (n + j))
unfolding sum_over
sum-append n zero s f e = let g : s ≡ n = omega arith in ap (λ i. sum_over i f) g ∙ omega arith
sum-append n (suc m) zero f e = absurd (omega arith)
sum-append n (suc m) (suc s) f e =
    let g : suc s ≡ n + suc m = e in
    omega (arith, sum-append n m s f (omega arith), ap f g)

-- THE CELLS of c rows of eight, counted from 0
pub sum-cells : (c s : ℕ) (f : Factors ℕ) → s ≡ 8 * c → sum_over s (λ t. f ((t - 1) / 8 + 1) ((t - 1) % 8 + 1)) ≡ sum_over c (λ i. sum_over 8 (f i))
unfolding sum_over
sum-cells zero s f e = let g : s ≡ 0 = omega arith in ap (λ i. sum_over i (λ t. f ((t - 1) / 8 + 1) ((t - 1) % 8 + 1))) g
sum-cells (suc c) s f e =
    sum-append (8 * c) 8 s _ (omega arith)
    ∙ ap₂ ◌+◌ (sum-cells c (8 * c) f refl)
    (sum_same 8 _ _ (λ j p.
    let g : (8 * c + j - 1) / 8 + 1 ≡ suc c = omega (arith, p.0, p.1) in
    let h : (8 * c + j - 1) % 8 + 1 ≡ j = omega (arith, p.0, p.1) in
    ap₂ f g h))

-- the steps of a factor, where those of minors are the same
pub quotient-steps : (v w : ℕ → ℕ) → ((p : ℕ) → v p ≡ w p) → (i j : ℕ) → quotient_steps v i j ≡ quotient_steps w i j
unfolding quotient_steps
quotient-steps v w h i j =
    ap₂ (λ (x y : ℕ). cond (eqb i j) x y) (ap₂ ◌+◌ (h i) (h (i - 1)))
    (ap₂ ◌+◌ (ap₂ ◌+◌ (h (min i j)) (h (min i j - 1))) (ap₂ ◌+◌ (h (min i j - 1)) (h (min i j))))
