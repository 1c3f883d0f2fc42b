-- Commutative rings whose equality is ≡, and what an order and inverses add to one.
use Rattle.std.specs.Prelude.{◌≡◌, Bool, true, false}
use Rattle.fraction.specs.Arithmetic.{Arithmetic}

-- a commutative ring with zero 𝟘 and one 𝟙
pub record CRing : Type 1 where
  pub R : Type 0
  pub 𝟘 : R
  pub 𝟙 : R
  pub add : R → R → R
  pub mul : R → R → R
  pub neg : R → R
  pub add_assoc : (a b c : R) → add (add a b) c ≡ add a (add b c)
  pub add_comm : (a b : R) → add a b ≡ add b a
  pub add-zero : (a : R) → add a 𝟘 ≡ a
  pub add-neg : (a : R) → add a (neg a) ≡ 𝟘
  pub mul_assoc : (a b c : R) → mul (mul a b) c ≡ mul a (mul b c)
  pub mul_comm : (a b : R) → mul a b ≡ mul b a
  pub mul-one : (a : R) → mul a 𝟙 ≡ a
  pub mul-add : (a b c : R) → mul a (add b c) ≡ add (mul a b) (mul a c)

-- positive elements, among which zero is not, inverses of all elements but zero, and a test for zero
pub record Ordered (K : CRing) : Type 1 where
  pub Pos : K.R → Type 0
  pub pos-one : Pos K.𝟙
  pub pos-add : (x y : K.R) → Pos x → Pos y → Pos (K.add x y)
  pub pos-mul : (x y : K.R) → Pos x → Pos y → Pos (K.mul x y)
  pub pos-zero : Pos K.𝟘 → ⊥
  pub inv : K.R → K.R
  pub inv-mul : (x : K.R) → (x ≡ K.𝟘 → ⊥) → K.mul x (inv x) ≡ K.𝟙
  pub inv-pos : (x : K.R) → Pos x → Pos (inv x)
  pub is_zero : K.R → Bool
  pub zero-yes : (x : K.R) → is_zero x ≡ true → x ≡ K.𝟘
  pub zero-no : (x : K.R) → is_zero x ≡ false → x ≡ K.𝟘 → ⊥

-- positive or zero
pub data NonNegative (K : CRing) (O : Ordered K) (x : K.R) : Type 0 where
  positive : O.Pos x → NonNegative K O x
  zero : x ≡ K.𝟘 → NonNegative K O x

-- the mathematics' arithmetic
abbrev pub arithmetic : (K : CRing) → Ordered K → Arithmetic
arithmetic K O = record { Num = K.R; zero = K.𝟘; one = K.𝟙; add = K.add; mul = K.mul; div = λ x y. K.mul x (O.inv y); is_zero = O.is_zero }
