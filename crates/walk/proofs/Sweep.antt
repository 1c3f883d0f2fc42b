-- 70 numbers that are gone through in place, set after set (Swept): of the sets that are touched, those of a lower rank than p have their new number, all
-- others their old one.
use mathlib.Core.Path.{◌≡◌, refl, sym, ap, ◌∙◌, subst}
use mathlib.Core.Bool.{Bool, true, false, false≢true}
use mathlib.Core.List.{List}
use Prim.Native.Nat.{ℕ, ◌+◌, ◌^◌, ◌≤◌, ◌<◌}
use native.Mathlib.Decide.{ℕ_discrete, dec_lt}
use native.Mathlib.Omega.{arith}
use lib.ListN.{set, length, length-set}
use lib.Pow.{pow_mono}
use lib.Seq.{get_or-set_same, get_or-set_other}
use Rattle.number.specs.declared.Number.{Number}
use Rattle.rowset.specs.Mask.{mask_count, position_of}
use Rattle.rowset.proofs.Positions.{position-below, position-injective}
use Rattle.table.specs.Table.{absent}
use Rattle.walk.specs.Held.{held_at}

pub record Swept (n k : ℕ) (touched : ℕ → Bool) (rank : ℕ → ℕ) (new old : ℕ → Number) (u : List Number) (p : ℕ) : Type 0 where
  pub size : length u ≡ 70
  pub done : (s : ℕ) → s < 2 ^ n → mask_count s ≡ k → touched s ≡ true → rank s < p → held_at u s ≡ new s
  pub rest : (s : ℕ) → s < 2 ^ n → mask_count s ≡ k → (touched s ≡ true → p ≤ rank s) → held_at u s ≡ old s

pub below-256 : (n s : ℕ) → n ≤ 8 → s < 2 ^ n → s < 256
below-256 n s l h = let p : 2 ^ n ≤ 2 ^ 8 = pow_mono l in omega arith

pub held_same : (u : List Number) (s : ℕ) (x : Number) → s < 256 → length u ≡ 70 → held_at (set u (position_of s) x) s ≡ x
unfolding held_at
held_same u s x h e = get_or-set_same u (position_of s) x absent (omega (arith, position-below s h))

pub held-other : (u : List Number) (s t : ℕ) (x : Number) → mask_count t ≡ mask_count s → (t ≡ s → ⊥) → held_at (set u (position_of s) x) t ≡ held_at u t
unfolding held_at
held-other u s t x c e = get_or-set_other u (position_of s) (position_of t) x absent (λ p. e (position-injective t s c p))

module _ {n k : ℕ} {touched : ℕ → Bool} {rank : ℕ → ℕ} {new old : ℕ → Number} where
  pub swept_none : (v : List Number) → length v ≡ 70 → ((s : ℕ) → held_at v s ≡ old s) → Swept n k touched rank new old v 0
  swept_none v e h = record { size = e; done = λ s b c t l. absurd (omega arith); rest = λ s b c f. h s }

  module _ {u : List Number} {p : ℕ} (S : Swept n k touched rank new old u p) where
    -- the set of rank p, and no other, gets its new number
    pub swept-next : (s : ℕ) → n ≤ 8 → s < 2 ^ n → mask_count s ≡ k → touched s ≡ true → rank s ≡ p
        → ((t : ℕ) → t < 2 ^ n → mask_count t ≡ k → touched t ≡ true → rank t ≡ p → t ≡ s)
        → (u' : List Number) (y : Number) → u' ≡ set u (position_of s) y → y ≡ new s → Swept n k touched rank new old u' (p + 1)
    swept-next s l b c t r only u' y eu ey =
        subst (λ (x : List Number). Swept n k touched rank new old x (p + 1)) (sym eu)
        (record {
          size = length-set u (position_of s) y ∙ S.size;
          done = λ i bi ci ti h. elim (ℕ_discrete i s) [
            | yes e ↦ ap (held_at (set u (position_of s) y)) e ∙ held_same u s y (below-256 n s l b) S.size ∙ ey ∙ ap new (sym e)
            | no e ↦ held-other u s i y (ci ∙ sym c) e ∙ S.done i bi ci ti (lower i h (λ q. e (only i bi ci ti q)))
          ];
          rest = λ i bi ci h. elim (ℕ_discrete i s) [
            | yes e ↦ absurd (over (h (ap touched e ∙ t)) (ap rank e ∙ r))
            | no e ↦ held-other u s i y (ci ∙ sym c) e ∙ S.rest i bi ci (λ q. more (h q))
          ];
        })
      where
        lower : (i : ℕ) → rank i < p + 1 → (rank i ≡ p → ⊥) → rank i < p
        lower i h e = elim (dec_lt (rank i) p) [ yes g ↦ g | no g ↦ absurd (e (omega arith)) ]

        over : {i : ℕ} → p + 1 ≤ i → i ≡ p → ⊥
        over h e = omega arith

        more : {i : ℕ} → p + 1 ≤ i → p ≤ i
        more h = omega arith

    pub swept_all : ((s : ℕ) → s < 2 ^ n → mask_count s ≡ k → touched s ≡ true → rank s < p)
        → ((s : ℕ) → s < 2 ^ n → mask_count s ≡ k → touched s ≡ false → new s ≡ old s)
        → (s : ℕ) → s < 2 ^ n → mask_count s ≡ k → held_at u s ≡ new s
    swept_all h g s b c = go (touched s) refl
      where
        go : (t : Bool) → touched s ≡ t → held_at u s ≡ new s
        go true e = S.done s b c e (h s b c e)
        go false e = S.rest s b c (λ f. absurd (false≢true (sym e ∙ f))) ∙ sym (g s b c e)
