-- The whole number nearest to n / d, a tie to the even one, as the kit's `closest` gives it: which one it is by the remainder
-- (`nearest-up`, `nearest-down`, `nearest-by`; `side`), that no whole number is nearer (`closest-best`), none other as near unless it is even
-- (`closest-tie`).
use mathlib.Core.Path.{◌≡◌, refl, ap, ◌∙◌, subst}
use mathlib.Core.Bool.{Bool, cond, not}
use mathlib.Core.Logic.{◌⊎◌, ⊎_elim, inl, inr, ◌≢◌}
use Prim.Native.Nat.{ℕ, zero, suc, ◌+◌, ◌*◌, ◌/◌, ◌%◌, ◌≤◌, ◌<◌, compare, Ordering}
use native.Mathlib.Nat.{mul-le-mul_right, le_antisymm, lt_of_not-le, div-add-mod', mod-lt}
use native.Mathlib.Decide.{dec_le}
use native.Mathlib.Omega.{arith}
use borrow.Author.Tests.{lt-ltb, le-ltb}
use lib.Dec.{T, ltb, is_le, compare_is_eq, eqb, leb→le, nleb→lt, eqb→eq, eqb_refl}
use lib.Ieee.{nearest}
use lib.Ieee.Nearest.{closest}
use Rattle.number.specs.Digits.{whole_of}
use Rattle.number.specs.Nearest.{gap}

-- ---- what `compare` says, and with it `nearest`
abbrev pub Cmp : Ordering → ℕ → ℕ → Type 0
Cmp Ordering.lt a b = a < b
Cmp Ordering.eq a b = a ≡ b
Cmp Ordering.gt a b = b < a

pub cmp : (a b : ℕ) → Cmp (compare a b) a b
cmp a b = go (compare a b) (leb→le a b) (nleb→lt a b) (eqb→eq a b) (λ (e : a ≡ b). subst (λ (x : ℕ). T (eqb a x)) e (eqb_refl a))
  where
    go : (o : Ordering) → (T (is_le o) → a ≤ b) → (T (not (is_le o)) → b < a) → (T (compare_is_eq o) → a ≡ b) → (a ≡ b → T (compare_is_eq o)) → Cmp o a b
    go Ordering.lt h k e n = lt_of_not-le (λ (g : b ≤ a). n (le_antisymm (h tt) g))
    go Ordering.eq h k e n = e tt
    go Ordering.gt h k e n = k tt

-- two pairs that compare alike
pub compare_alike : (a b c e : ℕ) → (a < b → c < e) → (a ≡ b → c ≡ e) → (b < a → e < c) → compare a b ≡ compare c e
compare_alike a b c e less same more = go (compare a b) (compare c e) (cmp a b) (cmp c e)
  where
    go : (o p : Ordering) → Cmp o a b → Cmp p c e → o ≡ p
    go Ordering.lt Ordering.lt h k = refl
    go Ordering.lt Ordering.eq h k = absurd (omega (arith, less h))
    go Ordering.lt Ordering.gt h k = absurd (omega (arith, less h))
    go Ordering.eq Ordering.lt h k = absurd (omega (arith, same h))
    go Ordering.eq Ordering.eq h k = refl
    go Ordering.eq Ordering.gt h k = absurd (omega (arith, same h))
    go Ordering.gt Ordering.lt h k = absurd (omega (arith, more h))
    go Ordering.gt Ordering.eq h k = absurd (omega (arith, more h))
    go Ordering.gt Ordering.gt h k = refl

pub nearest-up : (q a b : ℕ) → b < a → nearest q (compare a b) ≡ q + 1
nearest-up q a b h = go (compare a b) (cmp a b)
  where
    go : (o : Ordering) → Cmp o a b → nearest q o ≡ q + 1
    go Ordering.lt c = absurd (omega arith)
    go Ordering.eq c = absurd (omega arith)
    go Ordering.gt c = omega arith

pub nearest-down : (q a b : ℕ) → a < b → nearest q (compare a b) ≡ q
nearest-down q a b h = go (compare a b) (cmp a b)
  where
    go : (o : Ordering) → Cmp o a b → nearest q o ≡ q
    go Ordering.lt c = refl
    go Ordering.eq c = absurd (omega arith)
    go Ordering.gt c = absurd (omega arith)

-- by one comparison: an odd q goes up at a tie too
pub stays : (q a b : ℕ) → b ≤ a → cond (ltb a b) (q + 1) q ≡ q
stays q a b h = ap (λ (t : Bool). cond t (q + 1) q) (le-ltb a b h)

pub rises : (q a b : ℕ) → a < b → cond (ltb a b) (q + 1) q ≡ q + 1
rises q a b h = ap (λ (t : Bool). cond t (q + 1) q) (lt-ltb a b h)

pub nearest-by : (q r d : ℕ) → whole_of q r d 2 ≡ nearest q (compare (r * 2) d)
nearest-by q r d = go (compare (r * 2) d) (cmp (r * 2) d)
  where
    tie : (k : ℕ) → q % 2 ≡ k → r * 2 ≡ d → whole_of q r d 2 ≡ q + q % 2
    tie zero e c = stays q d (r * 2 + q % 2) (omega arith) ∙ omega arith
    tie (suc k) e c = rises q d (r * 2 + q % 2) (omega arith) ∙ omega arith

    go : (o : Ordering) → Cmp o (r * 2) d → whole_of q r d 2 ≡ nearest q o
    go Ordering.lt c = stays q d (r * 2 + q % 2) (omega arith)
    go Ordering.eq c = tie (q % 2) refl c
    go Ordering.gt c = rises q d (r * 2 + q % 2) (omega arith) ∙ omega arith

-- ---- on which side of n / d it lies
-- m is the whole part q, with a half or less left over, or one more, with a half or more; where it is a half, m is even
abbrev pub Below : ℕ → ℕ → ℕ → ℕ → Type 0
Below m q r d = (m ≡ q) × (r * 2 ≤ d) × (r * 2 ≡ d → m % 2 ≡ 0)

abbrev pub Above : ℕ → ℕ → ℕ → ℕ → Type 0
Above m q r d = (m ≡ q + 1) × (d ≤ r * 2) × (r * 2 ≡ d → m % 2 ≡ 0)

pub side : (q r d : ℕ) → Below (nearest q (compare (r * 2) d)) q r d ⊎ Above (nearest q (compare (r * 2) d)) q r d
side q r d = go (compare (r * 2) d) (cmp (r * 2) d)
  where
    tie : (k : ℕ) → q % 2 ≡ k → r * 2 ≡ d → Below (q + q % 2) q r d ⊎ Above (q + q % 2) q r d
    tie zero e c = inl (omega arith, omega arith, λ f. omega arith)
    tie (suc k) e c = inr (omega arith, omega arith, λ f. omega arith)

    go : (o : Ordering) → Cmp o (r * 2) d → Below (nearest q o) q r d ⊎ Above (nearest q o) q r d
    go Ordering.lt c = inl (refl, omega arith, λ f. absurd (omega arith))
    go Ordering.eq c = tie (q % 2) refl c
    go Ordering.gt c = inr (omega arith, omega arith, λ f. absurd (omega arith))

module _ (n d : ℕ) (p : 0 < d) where
  abbrev m : ℕ
  m = closest n d

  abbrev q : ℕ
  q = n / d

  abbrev r : ℕ
  r = n % d

  -- the two cases, with the division's equation and the result's multiple of d handed over
  cases : {A : Type 0} → (q * d + r ≡ n → r < d → m ≡ q → m * d ≡ q * d → r * 2 ≤ d → (r * 2 ≡ d → m % 2 ≡ 0) → A)
      → (q * d + r ≡ n → r < d → m ≡ q + 1 → m * d ≡ (q + 1) * d → d ≤ r * 2 → (r * 2 ≡ d → m % 2 ≡ 0) → A) → A
  cases down up =
      ⊎_elim
      (λ (w : Below m q r d). down (div-add-mod' n d) (mod-lt n p) w.0 (ap (λ (z : ℕ). z * d) w.0) w.1 w.2)
      (λ (w : Above m q r d). up (div-add-mod' n d) (mod-lt n p) w.0 (ap (λ (z : ℕ). z * d) w.0) w.1 w.2)
      (side q r d)

  -- no whole number c is nearer
  pub closest-best : (c : ℕ) → gap (m * d) n ≤ gap (c * d) n
  closest-best c = go (dec_le c q)
    where
      go : Dec (c ≤ q) → gap (m * d) n ≤ gap (c * d) n
      go (yes h) = let k = mul-le-mul_right d h in cases (λ e l f g s t. omega arith) (λ e l f g s t. omega arith)
      go (no h) =
          let h' : q + 1 ≤ c = omega arith in
          let k = mul-le-mul_right d h' in
          cases (λ e l f g s t. omega arith) (λ e l f g s t. omega arith)

  -- and where another is as near, it is even
  pub closest-tie : (c : ℕ) → c ≢ m → gap (m * d) n ≡ gap (c * d) n → m % 2 ≡ 0
  closest-tie c ne same = go (dec_le c q) (dec_le q c)
    where
      go : Dec (c ≤ q) → Dec (q ≤ c) → m % 2 ≡ 0
      go (yes h) (yes i) =
          let s : c ≡ q = omega arith in
          let k = ap (λ (z : ℕ). z * d) s in
          cases (λ e l f g o t. absurd (ne (omega arith))) (λ e l f g o t. t (omega arith))
      go (yes h) (no i) =
          let h' : c + 1 ≤ q = omega arith in
          let k = mul-le-mul_right d h' in
          cases (λ e l f g o t. t (omega arith)) (λ e l f g o t. absurd (omega arith))
      go (no h) j =
          let h' : q + 1 ≤ c = omega arith in
          let k = mul-le-mul_right d h' in
          cases (λ e l f g o t. t (omega arith)) (λ e l f g o t. above e l f g o t)
        where
          above : q * d + r ≡ n → r < d → m ≡ q + 1 → m * d ≡ (q + 1) * d → d ≤ r * 2 → (r * 2 ≡ d → m % 2 ≡ 0) → m % 2 ≡ 0
          above e l f g o t =
              let h'' : q + 2 ≤ c = omega arith in
              let k = mul-le-mul_right d h'' in
              absurd (omega arith)
