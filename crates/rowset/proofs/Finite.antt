-- Tests that antt computes at every number below a bound, and what they prove at each: all, all₂, all₃ and their lookup laws.
use mathlib.Core.Path.{◌≡◌, refl, subst, sym}
use mathlib.Core.Bool.{Bool, true, false, ◌&&◌, beq, false≢true}
use Prim.Native.Nat.{ℕ, zero, suc, ◌<◌}
use native.Mathlib.Nat.{not-suc-le-zero}
use native.Mathlib.Decide.{ℕ_discrete}
use native.Mathlib.Omega.{arith}
use lib.Dec.{T}

pub and_left : (a b : Bool) → T (a && b) → T a
and_left true b t = tt
and_left false b t = t

pub and_right : (a b : Bool) → T (a && b) → T b
and_right true b t = t
and_right false b t = absurd t

-- a test under a condition
abbrev pub implies : Bool → Bool → Bool
implies true b = b
implies false b = true

pub implies-at : (a b : Bool) → T (implies a b) → a ≡ true → T b
implies-at true b t e = t
implies-at false b t e = absurd (false≢true e)

pub T_true : (a : Bool) → T a → a ≡ true
T_true true t = refl
T_true false t = absurd t

pub beq-eq : (a b : Bool) → T (beq a b) → a ≡ b
beq-eq true true t = refl
beq-eq true false t = absurd t
beq-eq false true t = absurd t
beq-eq false false t = refl

-- the test passes at 0 .. n − 1
abbrev pub all : ℕ → (ℕ → Bool) → Bool
all zero p = true
all (suc n) p = p n && all n p

pub all-at : (n : ℕ) (p : ℕ → Bool) → T (all n p) → (k : ℕ) → k < n → T (p k)
all-at zero p t k h = absurd (not-suc-le-zero h)
all-at (suc n) p t k h = elim (ℕ_discrete k n) [
  | yes e ↦ subst (λ m. T (p m)) (sym e) (and_left (p n) (all n p) t)
  | no e ↦ all-at n p (and_right (p n) (all n p) t) k (omega arith)
]

-- over pairs, over triples
abbrev pub all₂ : ℕ → ℕ → (ℕ → ℕ → Bool) → Bool
all₂ m n p = all m (λ a. all n (p a))

pub all₂-at : (m n : ℕ) (p : ℕ → ℕ → Bool) → T (all₂ m n p) → (a b : ℕ) → a < m → b < n → T (p a b)
all₂-at m n p t a b ha hb = all-at n (p a) (all-at m (λ a. all n (p a)) t a ha) b hb

abbrev pub all₃ : ℕ → ℕ → ℕ → (ℕ → ℕ → ℕ → Bool) → Bool
all₃ l m n p = all l (λ a. all₂ m n (p a))

pub all₃-at : (l m n : ℕ) (p : ℕ → ℕ → ℕ → Bool) → T (all₃ l m n p) → (a b c : ℕ) → a < l → b < m → c < n → T (p a b c)
all₃-at l m n p t a b c ha hb hc = all₂-at m n (p a) (all-at l (λ a. all₂ m n (p a)) t a ha) b c hb hc
