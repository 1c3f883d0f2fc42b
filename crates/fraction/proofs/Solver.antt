-- A solver for the identities of commutative rings. Both sides are worked out to sorted sums of signed monomials, and these are compared.
-- `solve K n (λ x y .. . left ≐ right) refl` proves left ≡ right for any n elements of K, and `refl` is the comparison. Identities has examples.
use mathlib.Core.Path.{◌≡◌, refl, sym, ◌∙◌, ap, ap₂}
use mathlib.Core.List.{List, [], ◌∷◌}
use Prim.Native.Nat.{ℕ, zero, suc, compare, Ordering}
use lib.Dec.{T, compare_is_eq, eqb→eq}
use Rattle.fraction.specs.Ring.{CRing}
use Rattle.fraction.proofs.Ring.{+_assoc, +-left, +-zero, zero-+, +-cancel-neg, neg-cancel-+, neg-neg, neg-zero, neg-+, *-assoc, *-left, *-one, one-*}
use Rattle.fraction.proofs.Ring.{zero-*, *-zero, *-neg, neg-*, *-+, +-*}

infixl 65 ◌⊕◌ ◌⊝◌
infixl 70 ◌⊗◌
infix 20 ◌≐◌
pub data Expression : Type 0 where
  var : ℕ → Expression
  ◌⊕◌ : Expression → Expression → Expression
  ◌⊗◌ : Expression → Expression → Expression
  ⊖ : Expression → Expression
  none : Expression
  unity : Expression

abbrev pub ◌⊝◌ : Expression → Expression → Expression
x ⊝ y = x ⊕ ⊖ y

pub data Equation : Type 0 where
  ◌≐◌ : Expression → Expression → Equation

-- SORTED SUMS
pub data Sign : Type 0 where
  plus : Sign
  minus : Sign

abbrev opposite : Sign → Sign
opposite plus = minus
opposite minus = plus

abbrev times : Sign → Sign → Sign
times plus s = s
times minus s = opposite s

-- the variables of a product, sorted
abbrev pub Monomial : Type 0
Monomial = List ℕ

-- terms sorted by their monomials; one that is taken twice stands twice, and none stands beside its opposite
pub data Polynomial : Type 0 where
  nil : Polynomial
  term : Sign → Monomial → Polynomial → Polynomial

abbrev and_then : Ordering → Ordering → Ordering
and_then Ordering.lt p = Ordering.lt
and_then Ordering.eq p = p
and_then Ordering.gt p = Ordering.gt

abbrev order : Monomial → Monomial → Ordering
order [] [] = Ordering.eq
order [] (y ∷ n) = Ordering.lt
order (x ∷ m) [] = Ordering.gt
order (x ∷ m) (y ∷ n) = and_then (compare x y) (order m n)

-- below, equal, or above, which is worked only where it is taken
module _ {A : Type 0} where
  abbrev choose : Ordering → A → A → (Unit {0} → A) → A
  choose Ordering.lt x y z = x
  choose Ordering.eq x y z = y
  choose Ordering.gt x y z = z tt

abbrev insert_var : ℕ → Monomial → Monomial
insert_var v [] = v ∷ []
insert_var v (u ∷ m) = choose (compare v u) (v ∷ u ∷ m) (v ∷ u ∷ m) (λ _. u ∷ insert_var v m)

abbrev merge : Monomial → Monomial → Monomial
merge [] n = n
merge (v ∷ m) n = insert_var v (merge m n)

-- two terms of one monomial
abbrev join : Sign → Sign → Monomial → Monomial → Polynomial → Polynomial
join plus plus m n p = term plus m (term plus n p)
join plus minus m n p = p
join minus plus m n p = p
join minus minus m n p = term minus m (term minus n p)

abbrev insert : Sign → Monomial → Polynomial → Polynomial
insert s m nil = term s m nil
insert s m (term r n p) = choose (order m n) (term s m (term r n p)) (join s r m n p) (λ _. term r n (insert s m p))

abbrev add : Polynomial → Polynomial → Polynomial
add nil q = q
add (term s m p) q = insert s m (add p q)

abbrev negate : Polynomial → Polynomial
negate nil = nil
negate (term s m p) = term (opposite s) m (negate p)

abbrev scale : Sign → Monomial → Polynomial → Polynomial
scale s m nil = nil
scale s m (term r n p) = insert (times s r) (merge m n) (scale s m p)

abbrev mul : Polynomial → Polynomial → Polynomial
mul nil q = nil
mul (term s m p) q = add (scale s m q) (mul p q)

abbrev pub normal : Expression → Polynomial
normal (var v) = term plus (v ∷ []) nil
normal (x ⊕ y) = add (normal x) (normal y)
normal (x ⊗ y) = mul (normal x) (normal y)
normal (⊖ x) = negate (normal x)
normal none = nil
normal unity = term plus [] nil

-- EQUAL MONOMIALS
and_then-eq : (o p : Ordering) → T (compare_is_eq (and_then o p)) → T (compare_is_eq o) × T (compare_is_eq p)
and_then-eq Ordering.lt p t = absurd t
and_then-eq Ordering.eq p t = (tt, t)
and_then-eq Ordering.gt p t = absurd t

order-eq : (m n : Monomial) → T (compare_is_eq (order m n)) → m ≡ n
order-eq [] [] t = refl
order-eq [] (y ∷ n) t = absurd t
order-eq (x ∷ m) [] t = absurd t
order-eq (x ∷ m) (y ∷ n) t = let h = and_then-eq (compare x y) (order m n) t in ap₂ (λ a l. a ∷ l) (eqb→eq x y h.0) (order-eq m n h.1)

-- AN EQUATION OF n VARIABLES; the last one bound has the number 0
abbrev pub Curried : ℕ → Type 0 → Type 0 → Type 0
Curried zero A B = B
Curried (suc n) A B = A → Curried n A B

abbrev pub equation : (n : ℕ) → Curried n Expression Equation → Equation
equation zero q = q
equation (suc n) f = equation n (f (var n))

abbrev pub Balanced : Equation → Type 0
Balanced (e ≐ f) = normal e ≡ normal f

module _ (K : CRing) where
  open K use {R, 𝟘, 𝟙, add as ◌+◌, mul as ◌*◌, neg}

  infixl 65 ◌+◌
  infixl 70 ◌*◌
  abbrev pub element_at : List R → ℕ → R
  element_at [] i = 𝟘
  element_at (a ∷ ρ) zero = a
  element_at (a ∷ ρ) (suc i) = element_at ρ i

  abbrev pub value : List R → Expression → R
  value ρ (var v) = element_at ρ v
  value ρ (x ⊕ y) = value ρ x + value ρ y
  value ρ (x ⊗ y) = value ρ x * value ρ y
  value ρ (⊖ x) = neg (value ρ x)
  value ρ none = 𝟘
  value ρ unity = 𝟙

  -- an equation with its last n variables taken over all elements
  abbrev pub Holds : ℕ → List R → Equation → Type 0
  Holds zero ρ (e ≐ f) = value ρ e ≡ value ρ f
  Holds (suc n) ρ q = (a : R) → Holds n (a ∷ ρ) q

  abbrev signed : Sign → R → R
  signed plus x = x
  signed minus x = neg x

  opposite-signed : (s : Sign) (x : R) → signed (opposite s) x ≡ neg (signed s x)
  opposite-signed plus x = refl
  opposite-signed minus x = sym (neg-neg K x)

  times-signed : (s r : Sign) (x y : R) → signed (times s r) (x * y) ≡ signed s x * signed r y
  times-signed plus plus x y = refl
  times-signed plus minus x y = sym (*-neg K x y)
  times-signed minus plus x y = sym (neg-* K x y)
  times-signed minus minus x y = sym (*-neg K (neg x) y ∙ ap neg (neg-* K x y) ∙ neg-neg K (x * y))

  -- each step of `normal` keeps the value
  module _ (ρ : List R) where
    abbrev product : Monomial → R
    product [] = 𝟙
    product (v ∷ m) = element_at ρ v * product m

    abbrev sum : Polynomial → R
    sum nil = 𝟘
    sum (term s m p) = signed s (product m) + sum p

    choose-value : {A : Type 0} (f : A → R) (o : Ordering) (x y : A) (z : Unit {0} → A) (r : R)
        → f x ≡ r → (T (compare_is_eq o) → f y ≡ r) → f (z tt) ≡ r → f (choose o x y z) ≡ r
    choose-value f Ordering.lt x y z r below equal above = below
    choose-value f Ordering.eq x y z r below equal above = equal tt
    choose-value f Ordering.gt x y z r below equal above = above

    insert_var-value : (v : ℕ) (m : Monomial) → product (insert_var v m) ≡ element_at ρ v * product m
    insert_var-value v [] = refl
    insert_var-value v (u ∷ m) = choose-value product (compare v u) (v ∷ u ∷ m) (v ∷ u ∷ m) (λ _. u ∷ insert_var v m) _
        refl (λ _. refl) (ap (λ x. element_at ρ u * x) (insert_var-value v m) ∙ *-left K _ _ _)

    merge-value : (m n : Monomial) → product (merge m n) ≡ product m * product n
    merge-value [] n = sym (one-* K _)
    merge-value (v ∷ m) n = insert_var-value v (merge m n) ∙ ap (λ x. element_at ρ v * x) (merge-value m n) ∙ sym (*-assoc K _ _ _)

    join-value : (s r : Sign) (m n : Monomial) (p : Polynomial) → m ≡ n → sum (join s r m n p) ≡ signed s (product m) + (signed r (product n) + sum p)
    join-value plus plus m n p e = refl
    join-value plus minus m n p e = sym (ap (λ l. product m + (neg (product l) + sum p)) (sym e) ∙ +-cancel-neg K _ _)
    join-value minus plus m n p e = sym (ap (λ l. neg (product m) + (product l + sum p)) (sym e) ∙ neg-cancel-+ K _ _)
    join-value minus minus m n p e = refl

    insert-value : (s : Sign) (m : Monomial) (p : Polynomial) → sum (insert s m p) ≡ signed s (product m) + sum p
    insert-value s m nil = refl
    insert-value s m (term r n p) = choose-value sum (order m n) (term s m (term r n p)) (join s r m n p) (λ _. term r n (insert s m p)) _
        refl (λ t. join-value s r m n p (order-eq m n t)) (ap (λ x. signed r (product n) + x) (insert-value s m p) ∙ +-left K _ _ _)

    add-value : (p q : Polynomial) → sum (add p q) ≡ sum p + sum q
    add-value nil q = sym (zero-+ K _)
    add-value (term s m p) q = insert-value s m (add p q) ∙ ap (λ x. signed s (product m) + x) (add-value p q) ∙ sym (+_assoc K _ _ _)

    negate-value : (p : Polynomial) → sum (negate p) ≡ neg (sum p)
    negate-value nil = sym (neg-zero K)
    negate-value (term s m p) = ap₂ ◌+◌ (opposite-signed s (product m)) (negate-value p) ∙ sym (neg-+ K _ _)

    scale-value : (s : Sign) (m : Monomial) (p : Polynomial) → sum (scale s m p) ≡ signed s (product m) * sum p
    scale-value s m nil = sym (*-zero K _)
    scale-value s m (term r n p) = insert-value (times s r) (merge m n) (scale s m p)
        ∙ ap₂ ◌+◌ (ap (signed (times s r)) (merge-value m n) ∙ times-signed s r (product m) (product n)) (scale-value s m p)
        ∙ sym (*-+ K _ _ _)

    mul-value : (p q : Polynomial) → sum (mul p q) ≡ sum p * sum q
    mul-value nil q = sym (zero-* K _)
    mul-value (term s m p) q = add-value (scale s m q) (mul p q) ∙ ap₂ ◌+◌ (scale-value s m q) (mul-value p q) ∙ sym (+-* K _ _ _)

    pub normal-value : (e : Expression) → sum (normal e) ≡ value ρ e
    normal-value (var v) = +-zero K _ ∙ *-one K _
    normal-value (x ⊕ y) = add-value (normal x) (normal y) ∙ ap₂ ◌+◌ (normal-value x) (normal-value y)
    normal-value (x ⊗ y) = mul-value (normal x) (normal y) ∙ ap₂ ◌*◌ (normal-value x) (normal-value y)
    normal-value (⊖ x) = negate-value (normal x) ∙ ap neg (normal-value x)
    normal-value none = refl
    normal-value unity = +-zero K _

  balanced-holds : (n : ℕ) (ρ : List R) (q : Equation) → Balanced q → Holds n ρ q
  balanced-holds zero ρ (e ≐ f) h = sym (normal-value ρ e) ∙ ap (sum ρ) h ∙ normal-value ρ f
  balanced-holds (suc n) ρ q h = λ a. balanced-holds n (a ∷ ρ) q h

  pub solve : (n : ℕ) (f : Curried n Expression Equation) → Balanced (equation n f) → Holds n [] (equation n f)
  solve n f h = balanced-holds n [] (equation n f) h
