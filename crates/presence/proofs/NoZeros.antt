-- The search for a factor zero: what its `all` tells (all-decides); where no number of a step is zero none of its factors is (none-zero), and a number that is
-- zero is a factor (zero-found). What is known of the factors of each step of a joined word is known of its sources (no-zeros), and the other way round
-- (no-zero-at).
use mathlib.Core.Path.{◌≡◌, refl, sym, ap, ◌∙◌, subst}
use mathlib.Core.Bool.{Bool, true, false, not, false≢true}
use mathlib.Core.List.{List}
use Prim.Native.Nat.{ℕ, zero, suc, ◌+◌, ◌*◌, ◌/◌, ◌%◌, ◌≤◌, ◌<◌}
use native.Mathlib.Omega.{arith}
use borrow.Author.Tests.{eq-eqb, ne_eqb}
use lib.ListN.{get_or, drop, length}
use Rattle.std.specs.Bool.{MatchBool}
use Rattle.std.specs.List.{range_with_len, AllWithin, HoldsAt}
use Rattle.std.proofs.lemmas.List.FromFn.{length-range_with_len, get_or-range_with_len}
use Rattle.number.specs.Number.{zero_number}
use Rattle.words.specs.Sources.{Sources}
use Rattle.words.proofs.Steps.{sources-at}
use Rattle.table.specs.Table.{cell_of, factors_of}
use Rattle.walk.specs.declared.Joined.{Joined}
use Rattle.walk.specs.Lent.{table_in, steps_of}
use Rattle.walk.proofs.Lent.{factor-at}
use Rattle.walk.proofs.Minors.{joined-none, joined_step}
use Rattle.presence.specs.Presence.{nonzero}
use Rattle.presence.specs.Full.{NoZero}

-- WHAT `all` OVER THE NUMBERS BELOW m ANSWERED decides A, if A is that each of them has Yes, and none of them has No
pub all-decides : {A : Type 0} (r : Bool) (Yes No : ℕ → Type 0) (m : ℕ)
    → MatchBool r (AllWithin Yes (range_with_len 0 m) 0 (length (range_with_len 0 m)))
    ((k : ℕ) × (k < length (range_with_len 0 m)) × HoldsAt No (range_with_len 0 m) k)
    → (((k : ℕ) → k < m → Yes k) → A) → ((k : ℕ) → k < m → No k → A → ⊥) → (r ≡ true → A) × (A → r ≡ true)
all-decides true Yes No m h f g = (
  λ e. f (λ k l.
      let many = length-range_with_len 0 m in
      let at : get_or (range_with_len 0 m) k 0 ≡ k = omega (arith, get_or-range_with_len 0 m k 0 l) in
      subst Yes at (h k 0 (omega arith) (omega arith))),
  λ a. refl,
)
all-decides false Yes No m h f g = (
  λ e. absurd (false≢true e),
  λ a.
      let l : h.0 < m = omega (arith, length-range_with_len 0 m, h.1) in
      let at : get_or (range_with_len 0 m) h.0 0 ≡ h.0 = omega (arith, get_or-range_with_len 0 m h.0 0 l) in
      absurd (g h.0 l (subst No at (h.2 0)) a),
)

-- of the numbers of step c none in the columns 1 .. n is zero
pub none-zero : (b : List ℕ) (n c : ℕ) → n ≤ 8 → ((t : ℕ) → t < n * 8 → t % 8 < n → get_or b (2 * (c * 64 + t)) 0 ≡ 0 → ⊥)
    → NoZero n (factors_of (table_in b c))
unfolding factors_of
none-zero b n c few p i j x y =
    ap nonzero (factor-at b c (cell_of i j) (omega arith)) ∙ ap not (ne_eqb _ 0 (p (cell_of i j) (omega arith) (omega arith)))

-- number t is the factor of row t / 8 + 1 and column t % 8 + 1
pub zero-found : (b : List ℕ) (n c t : ℕ) → t < n * 8 → n ≤ 8 → t % 8 < n → get_or b (2 * (c * 64 + t)) 0 ≡ 0 → NoZero n (factors_of (table_in b c)) → ⊥
unfolding factors_of
zero-found b n c t l few k z h =
    let e : cell_of (t / 8 + 1) (t % 8 + 1) ≡ t = omega arith in
    false≢true (sym (ap nonzero (ap (λ (p : ℕ). get_or (table_in b c) p zero_number) e ∙ factor-at b c t (omega arith)) ∙ ap not (eq-eqb _ 0 z))
    ∙ h (t / 8 + 1) (t % 8 + 1) (omega arith, omega arith) (omega arith, omega arith))

module _ (j : Joined) (b : List ℕ) (six : j.count ≤ 6) where
  module _ (h : (c : ℕ) → c < j.count → NoZero j.n (factors_of (table_in b c))) where
    -- the steps from number c on, of which there are d
    no-zeros-from : (d c : ℕ) → c + d ≡ j.count → Sources (NoZero j.n) (drop c (steps_of j b))
    no-zeros-from zero c e =
        let f : c ≡ j.count = omega arith in
        subst (Sources (NoZero j.n)) (sym (ap (λ (i : ℕ). drop i (steps_of j b)) f ∙ joined-none j b six)) tt
    no-zeros-from (suc d) c e =
        subst (Sources (NoZero j.n)) (sym (joined_step j b six c (omega arith))) (h c (omega arith), no-zeros-from d (c + 1) (omega arith))

    pub no-zeros : Sources (NoZero j.n) (steps_of j b)
    no-zeros = no-zeros-from j.count 0 (omega arith)

  pub no-zero-at : Sources (NoZero j.n) (steps_of j b) → (c : ℕ) → c < j.count → NoZero j.n (factors_of (table_in b c))
  no-zero-at h c l = sources-at (NoZero j.n) (steps_of j b) _ c _ h (joined_step j b six c l)
