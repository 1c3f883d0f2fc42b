-- The laws of a commutative ring, and the set `ring` of rules by which `simp ring` sorts both sides of an identity. Larger identities: Solver.
use mathlib.Core.Path.{◌≡◌, sym, ◌∙◌, ap, ap₂}
use Rattle.fraction.specs.Ring.{CRing}

module _ (K : CRing) where
  open K use {R, 𝟘, 𝟙, add as ◌+◌, mul as ◌*◌, neg}

  infixl 65 ◌+◌
  infixl 70 ◌*◌
  pub +_assoc : (a b c : R) → (a + b) + c ≡ a + (b + c)
  +_assoc = K.add_assoc

  pub +_comm : (a b : R) → a + b ≡ b + a
  +_comm = K.add_comm

  pub +-left : (a b c : R) → a + (b + c) ≡ b + (a + c)
  +-left a b c = sym (+_assoc a b c) ∙ ap (λ x. x + c) (+_comm a b) ∙ +_assoc b a c

  pub +-zero : (a : R) → a + 𝟘 ≡ a
  +-zero = K.add-zero

  pub zero-+ : (a : R) → 𝟘 + a ≡ a
  zero-+ a = +_comm 𝟘 a ∙ +-zero a

  pub +-neg : (a : R) → a + neg a ≡ 𝟘
  +-neg = K.add-neg

  pub +-cancel-neg : (a b : R) → a + (neg a + b) ≡ b
  +-cancel-neg a b = simp (← +_assoc, +-neg, zero-+)

  pub neg-cancel-+ : (a b : R) → neg a + (a + b) ≡ b
  neg-cancel-+ a b = +-left (neg a) a b ∙ +-cancel-neg a b

  pub +-cancel : (a b c : R) → a + b ≡ a + c → b ≡ c
  +-cancel a b c h = sym (neg-cancel-+ a b) ∙ ap (λ x. neg a + x) h ∙ neg-cancel-+ a c

  -- the negative of a is what adds to it to zero
  pub neg_unique : (a b : R) → a + b ≡ 𝟘 → neg a ≡ b
  neg_unique a b h = +-cancel a (neg a) b (+-neg a ∙ sym h)

  pub neg-neg : (a : R) → neg (neg a) ≡ a
  neg-neg a = neg_unique (neg a) a (+_comm _ _ ∙ +-neg a)

  pub neg-zero : neg 𝟘 ≡ 𝟘
  neg-zero = neg_unique 𝟘 𝟘 (+-zero 𝟘)

  pub difference-zero : (a b : R) → a + neg b ≡ 𝟘 → a ≡ b
  difference-zero a b h = sym (neg-neg a) ∙ ap neg (neg_unique a (neg b) h) ∙ neg-neg b

  -- An element and its negative with one to six terms between them, at the end of a sum or, by the rules -t, before a term t:
  -- `simp` sorts a sum, and that parts the two.
  pub cancel1 : (a b : R) → a + (b + (neg a)) ≡ b
  cancel1 a b = +-left a b _ ∙ ap (λ x. b + x) (+-neg a) ∙ +-zero b

  pub cancel1-t : (a b t : R) → a + (b + (neg a + t)) ≡ b + t
  cancel1-t a b t = +-left a b _ ∙ ap (λ x. b + x) (+-cancel-neg a t)

  pub cancel2 : (a b c : R) → a + (b + (c + (neg a))) ≡ b + c
  cancel2 a b c = +-left a b _ ∙ ap (λ x. b + x) (cancel1 a c)

  pub cancel2-t : (a b c t : R) → a + (b + (c + (neg a + t))) ≡ b + (c + t)
  cancel2-t a b c t = +-left a b _ ∙ ap (λ x. b + x) (cancel1-t a c t)

  pub cancel3 : (a b c d : R) → a + (b + (c + (d + (neg a)))) ≡ b + (c + d)
  cancel3 a b c d = +-left a b _ ∙ ap (λ x. b + x) (cancel2 a c d)

  pub cancel3-t : (a b c d t : R) → a + (b + (c + (d + (neg a + t)))) ≡ b + (c + (d + t))
  cancel3-t a b c d t = +-left a b _ ∙ ap (λ x. b + x) (cancel2-t a c d t)

  pub cancel4 : (a b c d e : R) → a + (b + (c + (d + (e + (neg a))))) ≡ b + (c + (d + e))
  cancel4 a b c d e = +-left a b _ ∙ ap (λ x. b + x) (cancel3 a c d e)

  pub cancel4-t : (a b c d e t : R) → a + (b + (c + (d + (e + (neg a + t))))) ≡ b + (c + (d + (e + t)))
  cancel4-t a b c d e t = +-left a b _ ∙ ap (λ x. b + x) (cancel3-t a c d e t)

  pub cancel5 : (a b c d e f : R) → a + (b + (c + (d + (e + (f + (neg a)))))) ≡ b + (c + (d + (e + f)))
  cancel5 a b c d e f = +-left a b _ ∙ ap (λ x. b + x) (cancel4 a c d e f)

  pub cancel5-t : (a b c d e f t : R) → a + (b + (c + (d + (e + (f + (neg a + t)))))) ≡ b + (c + (d + (e + (f + t))))
  cancel5-t a b c d e f t = +-left a b _ ∙ ap (λ x. b + x) (cancel4-t a c d e f t)

  pub cancel6 : (a b c d e f g : R) → a + (b + (c + (d + (e + (f + (g + (neg a))))))) ≡ b + (c + (d + (e + (f + g))))
  cancel6 a b c d e f g = +-left a b _ ∙ ap (λ x. b + x) (cancel5 a c d e f g)

  pub cancel6-t : (a b c d e f g t : R) → a + (b + (c + (d + (e + (f + (g + (neg a + t))))))) ≡ b + (c + (d + (e + (f + (g + t)))))
  cancel6-t a b c d e f g t = +-left a b _ ∙ ap (λ x. b + x) (cancel5-t a c d e f g t)

  pub neg-+ : (a b : R) → neg (a + b) ≡ neg a + neg b
  neg-+ a b = neg_unique (a + b) (neg a + neg b) (simp (+_assoc, cancel1-t, +-neg))

  pub *-assoc : (a b c : R) → (a * b) * c ≡ a * (b * c)
  *-assoc = K.mul_assoc

  pub *-comm : (a b : R) → a * b ≡ b * a
  *-comm = K.mul_comm

  pub *-left : (a b c : R) → a * (b * c) ≡ b * (a * c)
  *-left a b c = sym (*-assoc a b c) ∙ ap (λ x. x * c) (*-comm a b) ∙ *-assoc b a c

  pub *-one : (a : R) → a * 𝟙 ≡ a
  *-one = K.mul-one

  pub one-* : (a : R) → 𝟙 * a ≡ a
  one-* a = *-comm 𝟙 a ∙ *-one a

  pub *-+ : (a b c : R) → a * (b + c) ≡ a * b + a * c
  *-+ = K.mul-add

  pub +-* : (a b c : R) → (a + b) * c ≡ a * c + b * c
  +-* a b c = *-comm _ c ∙ *-+ c a b ∙ ap₂ ◌+◌ (*-comm c a) (*-comm c b)

  pub *-zero : (a : R) → a * 𝟘 ≡ 𝟘
  *-zero a = +-cancel (a * 𝟘) (a * 𝟘) 𝟘 (sym (*-+ a 𝟘 𝟘) ∙ simp +-zero)

  pub zero-* : (a : R) → 𝟘 * a ≡ 𝟘
  zero-* a = *-comm 𝟘 a ∙ *-zero a

  pub *-neg : (a b : R) → a * neg b ≡ neg (a * b)
  *-neg a b = sym (neg_unique (a * b) (a * neg b) (sym (*-+ a b (neg b)) ∙ simp (+-neg, *-zero)))

  pub neg-* : (a b : R) → neg a * b ≡ neg (a * b)
  neg-* a b = *-comm _ b ∙ *-neg b a ∙ ap neg (*-comm b a)

  pub ruleset cancels =
      (+-neg, +-cancel-neg, cancel1, cancel1-t, cancel2, cancel2-t, cancel3, cancel3-t, cancel4, cancel4-t, cancel5, cancel5-t, cancel6, cancel6-t)

  pub ruleset sums = (+_assoc, +_comm, +-left, +-zero, zero-+, cancels, neg-neg, neg-zero, neg-+)

  pub ruleset ring = (sums, *-assoc, *-comm, *-left, *-one, one-*, *-zero, zero-*, *-neg, neg-*, *-+, +-*)
