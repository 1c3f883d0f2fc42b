-- Laws of list items: what three numbers are by the code's tests (`Storable`, `item-zero`, `item-value`, `malformed`), that it is in range
-- (`item-ranged`) and has these numbers (`item-numbers`), and three numbers written (`put_is`).
use mathlib.Core.Path.{◌≡◌, refl, sym, ap, ◌∙◌}
use mathlib.Core.Bool.{Bool, true, false, not, cond, ◌&&◌}
use mathlib.Core.List.{List, [], ◌∷◌}
use Rattle.std.specs.Prelude.{Some, None}
use Prim.Native.Nat.{ℕ, suc, ◌+◌, ◌^◌, ◌≤◌, ◌<◌}
use native.Mathlib.Omega.{arith}
use borrow.Author.Tests.{eq-eqb, ne_eqb, le-leb, lt-ltb, eqb-true, leb-true, ltb-true, not-true}
use lib.Dec.{eqb, leb, ltb}
use lib.IntN.{ℤ, pos, negsuc, nat_abs}
use lib.ListN.{set}
use lib.Seq.{sets}
use lib.Signed.{pos-nat_abs, ◌≤ℤ◌, ◌<ℤ◌}
use Rattle.std.proofs.lemmas.Int.{ints}
use Rattle.number.specs.Signed.{zero_signed, SignedRanged}
use Rattle.number.proofs.Tests.{both, unless}
use Rattle.number.proofs.SignedReach.{signed-ranged-zero}
use Rattle.number.specs.Integer.{is_negative, biased}
use Rattle.items.specs.Items.{ListItem, storable, signed_item, item_numbers}
use Rattle.number.proofs.Integers.{not_negative, biased-near, exponent-biased}

-- three numbers
three : {a b c x y z : ℤ} → a ≡ x → b ≡ y → c ≡ z → (a ∷ b ∷ c ∷ []) ≡ (x ∷ y ∷ z ∷ [])
three p q r = rw (p, q, r) refl

module _ (s m e : ℤ) where
  -- a sign of 1 or -1, a mantissa and an exponent in the stored ranges
  pub record Storable : Type 0 where
    pub sign : nat_abs s ≡ 1
    pub plain : is_negative m ≡ false
    pub low : 2 ^ 31 ≤ nat_abs m
    pub high : nat_abs m < 2 ^ 32
    pub near : nat_abs e ≤ 1000

  storable-true : Storable → storable s m e ≡ true
  unfolding storable
  storable-true h = simp (
    eq-eqb (nat_abs s) 1 h.sign,
    h.plain,
    le-leb (2 ^ 31) (nat_abs m) h.low,
    lt-ltb (nat_abs m) (2 ^ 32) h.high,
    le-leb (nat_abs e) 1000 h.near,
  )

  storable-facts : storable s m e ≡ true → Storable
  unfolding storable
  storable-facts h =
      let a = both (eqb (nat_abs s) 1) _ h in
      let b = both (not (is_negative m)) _ a.1 in
      let c = both (leb (2 ^ 31) (nat_abs m)) _ b.1 in
      let d = both (ltb (nat_abs m) (2 ^ 32)) _ c.1 in
      record {
        sign = eqb-true _ _ a.0;
        plain = not-true _ b.0;
        low = leb-true _ _ c.0;
        high = ltb-true _ _ d.0;
        near = leb-true _ _ d.1;
      }

  all_zero : Bool
  all_zero = eqb (nat_abs s) 0 && (eqb (nat_abs m) 0 && eqb (nat_abs e) 0)

  pub item-zero : nat_abs s ≡ 0 → nat_abs m ≡ 0 → nat_abs e ≡ 0 → signed_item s m e ≡ Some zero_signed
  unfolding signed_item
  item-zero p q r = simp (eq-eqb (nat_abs s) 0 p, eq-eqb (nat_abs m) 0 q, eq-eqb (nat_abs e) 0 r)

  pub item-value : Storable → (t : Bool) (a x : ℕ) → t ≡ is_negative s → a ≡ nat_abs m → x ≡ biased e →
      signed_item s m e ≡ Some (record { negative = t; size = record { m = a; x = x } })
  unfolding signed_item
  item-value h t a x p q r = rw (p, q, r) (simp (ne_eqb (nat_abs s) 0 (λ z. omega (arith, h.sign)), storable-true h))

  item-malformed : (nat_abs s ≡ 0 → nat_abs m ≡ 0 → nat_abs e ≡ 0 → ⊥) → (Storable → ⊥) → signed_item s m e ≡ None
  unfolding signed_item all_zero
  item-malformed p q = simp (
    unless all_zero (λ h.
        let a = both (eqb (nat_abs s) 0) _ h in
        let b = both (eqb (nat_abs m) 0) _ a.1 in
        p (eqb-true _ _ a.0) (eqb-true _ _ b.0) (eqb-true _ _ b.1)),
    unless (storable s m e) (λ h. q (storable-facts h)),
  )

  -- the same by the order of whole numbers, as the code compares them
  pub malformed : (nat_abs s ≡ 0 → nat_abs m ≡ 0 → nat_abs e ≡ 0 → ⊥)
      → (nat_abs s ≡ 1 → pos (2 ^ 31) ≤ℤ m → m <ℤ pos (2 ^ 32) → nat_abs e ≤ 1000 → ⊥) → None ≡ signed_item s m e
  malformed p q = sym (item-malformed p (λ h.
      let f : pos (nat_abs m) ≡ m = pos-nat_abs m (not_negative m h.plain) in
      q h.sign (omega (arith, ints, h.low)) (omega (arith, ints, h.high)) h.near))

  pub item-stored : nat_abs s ≡ 1 → pos (2 ^ 31) ≤ℤ m → m <ℤ pos (2 ^ 32) → nat_abs e ≤ 1000 →
      signed_item s m e ≡ Some (record { negative = is_negative s; size = record { m = nat_abs m; x = biased e } })
  item-stored p l h n =
      item-value (record { sign = p; plain = plain m l; low = omega (arith, ints); high = omega (arith, ints); near = n }) _ _ _ refl refl refl
    where
      plain : (m : ℤ) → pos (2 ^ 31) ≤ℤ m → is_negative m ≡ false
      plain (pos k) l = refl
      plain (negsuc k) l = absurd (omega (arith, ints))

-- a well-formed item is in range
abbrev pub RangedItem : ListItem → Type 0
RangedItem (Some a) = SignedRanged 1000 a
RangedItem None = Unit {0}

pub item-ranged : (s m e : ℤ) → RangedItem (signed_item s m e)
unfolding signed_item
item-ranged s m e = go (eqb (nat_abs s) 0 && (eqb (nat_abs m) 0 && eqb (nat_abs e) 0)) (storable s m e) refl
  where
    go : (t y : Bool) → storable s m e ≡ y →
        RangedItem (cond t (Some zero_signed) (cond y (Some (record { negative = is_negative s; size = record { m = nat_abs m; x = biased e } })) None))
    go true y h = signed-ranged-zero 1000
    go false true h =
        let f = storable-facts s m e h in
        let n = biased-near e f.near in
        record {
          size = record { zero = λ z. absurd (omega (arith, f.low)); low = λ p. f.low; high = f.high; start = n.0; stop = n.1 };
          zero = λ z. absurd (omega (arith, f.low));
        }
    go false false h = tt

-- ---- the numbers of a well-formed item are the three that it was read from
zero-integer : (z : ℤ) → nat_abs z ≡ 0 → pos 0 ≡ z
zero-integer (pos n) h = ap pos (sym h)
zero-integer (negsuc n) h = absurd (omega arith)

unit-integer : (z : ℤ) → nat_abs z ≡ 1 → cond (is_negative z) (negsuc 0) (pos 1) ≡ z
unit-integer (pos n) h = ap pos (sym h)
unit-integer (negsuc n) h = let e : 0 ≡ n = omega arith in ap negsuc e

abbrev pub NumbersOf : (s m e : ℤ) → ListItem → Type 0
NumbersOf s m e (Some a) = item_numbers a ≡ s ∷ m ∷ e ∷ []
NumbersOf s m e None = Unit {0}

pub item-numbers : (s m e : ℤ) → NumbersOf s m e (signed_item s m e)
unfolding signed_item
item-numbers s m e = go (eqb (nat_abs s) 0 && (eqb (nat_abs m) 0 && eqb (nat_abs e) 0)) (storable s m e) refl refl
  where
    go : (t y : Bool) → (eqb (nat_abs s) 0 && (eqb (nat_abs m) 0 && eqb (nat_abs e) 0)) ≡ t → storable s m e ≡ y → NumbersOf s m e
        (cond t (Some zero_signed) (cond y (Some (record { negative = is_negative s; size = record { m = nat_abs m; x = biased e } })) None))
    go true y g h =
        let a = both (eqb (nat_abs s) 0) _ g in
        let b = both (eqb (nat_abs m) 0) _ a.1 in
        three (zero-integer s (eqb-true _ _ a.0)) (zero-integer m (eqb-true _ _ b.0)) (zero-integer e (eqb-true _ _ b.1))
    go false true g h =
        let f = storable-facts s m e h in
        let n = ne_eqb (nat_abs m) 0 (λ z. omega (arith, f.low)) in
        three (ap (λ (t : Bool). cond t (pos 0) (cond (is_negative s) (negsuc 0) (pos 1))) n ∙ unit-integer s f.sign)
        (pos-nat_abs m (not_negative m f.plain)) (exponent-biased e f.near)
    go false false g h = tt

-- three numbers put one after the other
pub put_is : (z : List ℤ) (i : ℕ) (a b c a' b' c' : ℤ) → a ≡ a' → b ≡ b' → c ≡ c' → set (set (set z i a) (i + 1) b) (i + 2) c ≡ sets z i (a' ∷ b' ∷ c' ∷ [])
put_is z i a b c a' b' c' p q r =
    let e : i + 1 ≡ suc i = omega arith in
    let f : i + 2 ≡ suc (suc i) = omega arith in
    rw (p, q, r, e, f)
