-- Reversals by signs alone. A list of signs has no more turns where a sign is left out (`fewer`), where one beside a neighbour takes that neighbour's sign or
-- none (`pair-fewer`), or where signs become none (`thinned`); and the reversals of items are the turns of their signs (`reversals-turns`).
use mathlib.Core.Path.{◌≡◌, refl, sym, ap, ap₂, ◌∙◌, subst}
use mathlib.Core.Bool.{Bool, true, false, cond, xor}
use mathlib.Core.List.{List, [], ◌∷◌}
use Prim.Native.Nat.{ℕ, zero, suc, ◌+◌, ◌≤◌, ◌<◌}
use native.Mathlib.Nat.{le_refl}
use native.Mathlib.Decide.{ℕ_discrete}
use native.Mathlib.Omega.{arith}
use Rattle.number.specs.declared.signed.Signed.{Signed}
use Rattle.words.specs.Word.{ascending}
use Rattle.items.specs.Items.{is_zero_item}
use Rattle.reversals.specs.Reversals.{opposite, turn, latest, reversals_behind}

pub data Sign : Type 0 where
  minus none plus : Sign

-- zero has none, whatever it is marked with
abbrev pub sign_by : Bool → Bool → Sign
sign_by true negative = none
sign_by false true = minus
sign_by false false = plus

unfoldable pub sign : Signed → Sign
sign a = sign_by (is_zero_item a) a.negative

-- ---- turns of a list of signs
abbrev turning : Sign → Sign → ℕ
turning minus plus = 1
turning plus minus = 1
turning minus minus = 0
turning plus plus = 0
turning none b = 0
turning minus none = 0
turning plus none = 0

-- the later of two signs, unless it is none
abbrev later : Sign → Sign → Sign
later a none = a
later a minus = minus
later a plus = plus

unfoldable pub turns : Sign → List Sign → ℕ
turns a [] = 0
turns a (b ∷ L) = turning a b + turns (later a b) L

triangle : (a b c : Sign) → turning a c ≤ turning a b + turning (later a b) c
triangle minus minus plus = omega arith
triangle minus none plus = omega arith
triangle minus plus plus = omega arith
triangle plus minus minus = omega arith
triangle plus none minus = omega arith
triangle plus plus minus = omega arith
triangle none b c = omega arith
triangle minus b minus = omega arith
triangle minus b none = omega arith
triangle plus b plus = omega arith
triangle plus b none = omega arith

to_none : (a : Sign) → turning a none ≡ 0
to_none minus = refl
to_none none = refl
to_none plus = refl

-- one sign less: no more turns
fewer : (a b : Sign) (L : List Sign) → turns a L ≤ turning a b + turns (later a b) L
unfolding turns
fewer a b [] = omega arith
fewer a b (none ∷ L) = omega (arith, fewer a b L, to_none a)
fewer a b (minus ∷ L) = omega (arith, triangle a b minus)
fewer a b (plus ∷ L) = omega (arith, triangle a b plus)

-- a sign twice in a row counts once
again : (a p : Sign) (L : List Sign) → turns a (p ∷ p ∷ L) ≡ turns a (p ∷ L)
unfolding turns
again a none L = omega (arith, to_none a)
again a minus L = omega arith
again a plus L = omega arith

-- ---- one sign beside another
-- a sign q beside a sign p becomes q, p or none; beside none it becomes q or none
pub data Between (p q : Sign) : Sign → Type 0 where
  own : Between p q q
  other : Between p q p
  neither : Between p q none

pub by-none : {q x : Sign} (p : Sign) → Between none q x → Between p q x
by-none p own = own
by-none p other = neither
by-none p neither = neither

-- p before q, and p behind it
pair_left : (p q x a : Sign) (L : List Sign) → Between p q x → turns a (p ∷ x ∷ L) ≤ turns a (p ∷ q ∷ L)
unfolding turns
pair_left p q x a L own = le_refl _
pair_left p q x a L other = omega (arith, again a p L, fewer (later a p) q L)
pair_left p q x a L neither = omega (arith, to_none (later a p), fewer (later a p) q L)

pair-right : (p q x a : Sign) (L : List Sign) → Between p q x → turns a (x ∷ p ∷ L) ≤ turns a (q ∷ p ∷ L)
unfolding turns
pair-right p q x a L own = le_refl _
pair-right p q x a L other = omega (arith, again a p L, fewer a q (p ∷ L))
pair-right p q x a L neither = omega (arith, to_none a, fewer a q (p ∷ L))

-- ---- the signs of a vector, c of them from i on
unfoldable pub signs : (ℕ → Sign) → ℕ → ℕ → List Sign
signs s i zero = []
signs s i (suc c) = s i ∷ signs s (suc i) c

signs-agree : (s t : ℕ → Sign) (i c : ℕ) → ((k : ℕ) → i ≤ k → s k ≡ t k) → signs s i c ≡ signs t i c
unfolding signs
signs-agree s t i zero h = refl
signs-agree s t i (suc c) h = ap₂ ◌∷◌ (h i (omega arith)) (signs-agree s t (suc i) c (λ k l. h k (omega arith)))

-- the same sign in front
front : (a x : Sign) (L M : List Sign) → turns (later a x) L ≤ turns (later a x) M → turns a (x ∷ L) ≤ turns a (x ∷ M)
unfolding turns
front a x L M h = omega arith

-- a sign in front that stays or becomes none
thinned-front : (a q x : Sign) (L M : List Sign) → Between none q x → ((b : Sign) → turns b M ≤ turns b L) → turns a (x ∷ M) ≤ turns a (q ∷ L)
unfolding turns
thinned-front a q x L M own h = front a q M L (h (later a q))
thinned-front a q x L M other h = omega (arith, to_none a, h a, fewer a q L)
thinned-front a q x L M neither h = omega (arith, to_none a, h a, fewer a q L)

module _ (s t : ℕ → Sign) where
  -- of the signs k and k + 1 one becomes what the other allows
  pub data Pair (k : ℕ) : Type 0 where
    second : s k ≡ t k → Between (s k) (s (suc k)) (t (suc k)) → Pair k
    first : s (suc k) ≡ t (suc k) → Between (s (suc k)) (s k) (t k) → Pair k

  -- and no other changes
  pub pair-fewer : (k i c : ℕ) (a : Sign) → i ≤ k → suc k < i + c → Pair k → ((m : ℕ) → m < k → s m ≡ t m) → ((m : ℕ) → suc k < m → s m ≡ t m)
      → turns a (signs t i c) ≤ turns a (signs s i c)
  unfolding signs
  pair-fewer k i zero a l h P under above = absurd (omega arith)
  pair-fewer k i (suc zero) a l h P under above = absurd (omega arith)
  pair-fewer k i (suc (suc c)) a l h P under above = elim (ℕ_discrete i k) [
    | yes e ↦ subst (λ i. turns a (t i ∷ t (suc i) ∷ signs t (suc (suc i)) c) ≤ turns a (s i ∷ s (suc i) ∷ signs s (suc (suc i)) c)) (sym e) (here P)
    | no e ↦ rw (sym (under i (omega arith))) (front a (s i) (signs t (suc i) (suc c)) (signs s (suc i) (suc c))
        (pair-fewer k (suc i) (suc c) (later a (s i)) (omega arith) (omega arith) P under above))
  ]
    where
      behind : signs s (suc (suc k)) c ≡ signs t (suc (suc k)) c
      behind = signs-agree s t (suc (suc k)) c (λ m l. above m (omega arith))

      here : Pair k → turns a (t k ∷ t (suc k) ∷ signs t (suc (suc k)) c) ≤ turns a (s k ∷ s (suc k) ∷ signs s (suc (suc k)) c)
      here (second e b) = rw (sym e, sym behind) (pair_left (s k) (s (suc k)) (t (suc k)) a _ b)
      here (first e b) = rw (sym e, sym behind) (pair-right (s (suc k)) (s k) (t k) a _ b)

  -- each sign stays or becomes none
  pub thinned : ((k : ℕ) → Between none (s k) (t k)) → (i c : ℕ) (a : Sign) → turns a (signs t i c) ≤ turns a (signs s i c)
  unfolding signs
  thinned h i zero a = le_refl _
  thinned h i (suc c) a = thinned-front a (s i) (t i) (signs s (suc i) c) (signs t (suc i) c) (h i) (thinned h (suc i) c)

-- ---- reversals are turns
turn-signs : (a b : Signed) → turn a b ≡ turning (sign a) (sign b)
unfolding opposite sign xor
turn-signs a b = by (is_zero_item a) (is_zero_item b) a.negative b.negative refl refl refl refl
  where
    by : (y z s t : Bool) → is_zero_item a ≡ y → is_zero_item b ≡ z → a.negative ≡ s → b.negative ≡ t → turn a b ≡ turning (sign a) (sign b)
    by true z s t e f g h = simp e
    by false true true t e f g h = simp (e, f, g)
    by false true false t e f g h = simp (e, f, g)
    by false false true true e f g h = simp (e, f, g, h)
    by false false true false e f g h = simp (e, f, g, h)
    by false false false true e f g h = simp (e, f, g, h)
    by false false false false e f g h = simp (e, f, g, h)

latest-sign : (a b : Signed) → sign (latest a b) ≡ later (sign a) (sign b)
unfolding sign
latest-sign a b = by (is_zero_item b) refl b.negative refl
  where
    by : (z : Bool) → is_zero_item b ≡ z → (t : Bool) → b.negative ≡ t
        → sign_by (is_zero_item (cond z a b)) (cond z a b).negative ≡ later (sign_by (is_zero_item a) a.negative) (sign_by z t)
    by true e t f = refl
    by false e true f = ap₂ sign_by e f
    by false e false f = ap₂ sign_by e f

pub reversals-turns : (v : ℕ → Signed) (i c : ℕ) (a : Signed)
    → reversals_behind a (ascending i c (λ k. v k ∷ [])) ≡ turns (sign a) (signs (λ k. sign (v k)) i c)
unfolding reversals_behind ascending turns signs
reversals-turns v i zero a = refl
reversals-turns v i (suc c) a =
    ap₂ ◌+◌ (turn-signs a (v i))
    (reversals-turns v (suc i) c (latest a (v i)) ∙ ap (λ s. turns s (signs (λ k. sign (v k)) (suc i) c)) (latest-sign a (v i)))
