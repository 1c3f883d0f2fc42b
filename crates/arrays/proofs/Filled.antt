-- An array read within its length (`read-any`), and one filled from the front (`Filled`): its first k elements are what they should be; when all are,
-- it is the list that was meant (`filled-all`).
use Prim.Native.Nat.{ℕ, zero, suc, ◌+◌, ◌<◌, ◌≤◌}
use native.Mathlib.Decide.{ℕ_discrete}
use native.Mathlib.Omega.{arith}
use mathlib.Core.Path.{◌≡◌, refl, sym, ◌∙◌}
use mathlib.Core.List.{List, [], ◌∷◌}
use lib.ListN.{length, get_or, set, length-set}
use lib.Seq.{ext_get_or, get_or-set_same, get_or-set_other}

module _ {A : Type 0} where
  -- within a list it does not matter what a read past its end would give
  pub read-any : (l : List A) (i : ℕ) (y z : A) → i < length l → get_or l i y ≡ get_or l i z
  read-any [] i y z h = absurd (omega arith)
  read-any (x ∷ l) zero y z h = refl
  read-any (x ∷ l) (suc i) y z h = read-any l i y z (omega arith)

  module _ (z : A) (f : ℕ → A) (n : ℕ) where
    pub record Filled (k : ℕ) (t : List A) : Type 0 where
      pub few : k ≤ n
      pub long : length t ≡ n
      pub each : (i : ℕ) → i < k → get_or t i z ≡ f i

    pub filled_none : (t : List A) → length t ≡ n → Filled 0 t
    filled_none t l = record { few = omega arith; long = l; each = λ i h. absurd (omega arith) }

    pub filled_more : {k : ℕ} {t : List A} → Filled k t → k < n → (v : A) → v ≡ f k → Filled (k + 1) (set t k v)
    filled_more {k} {t} w h v e =
        record {
          few = omega arith;
          long = length-set t k v ∙ w.long;
          each = λ i g.
              elim (ℕ_discrete i k) [
                | yes q ↦ rw q (get_or-set_same t k v z (omega (arith, w.long)) ∙ e)
                | no q ↦ get_or-set_other t k i v z q ∙ w.each i (omega arith)
              ];
        }

    pub filled-all : {k : ℕ} {t : List A} → Filled k t → n ≤ k → (l : List A) → length l ≡ n → ((i : ℕ) → i < n → get_or l i z ≡ f i) → t ≡ l
    filled-all {k} {t} w h l e g =
        ext_get_or z t l (w.long ∙ sym e) (λ i q. w.each i (omega (arith, w.long)) ∙ sym (g i (omega (arith, w.long))))
