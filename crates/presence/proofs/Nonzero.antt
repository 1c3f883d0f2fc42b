-- Zeros in rounded arithmetic: a sum is zero where both are, a product where one is, a quotient by a stored number where the dividend is (`zeros-related`).
-- So the walk in Bools tells which minors of walkable steps are zero (minor-presence).
use mathlib.Core.Path.{◌≡◌, refl, sym, ap, ap₂, ◌∙◌, subst}
use mathlib.Core.Bool.{Bool, true, false, not, ◌&&◌, ◌||◌}
use mathlib.Core.List.{List, [], ◌∷◌}
use Prim.Native.Nat.{ℕ, zero, suc, ◌*◌, ◌^◌, ◌≤◌, ◌<◌}
use native.Mathlib.Omega.{arith}
use borrow.Author.Tests.{eq-eqb, ne_eqb}
use lib.ListN.{length}
use Rattle.number.specs.declared.Number.{Number}
use Rattle.number.specs.declared.Direction.TheVariants.{Nearest}
use Rattle.number.specs.Number.{round, sum_by, sum_of, product_by, product_of, quotient_by, quotient_of, rounded, Stored}
use Rattle.number.proofs.Rounding.{round-represents, round-zero}
use Rattle.number.proofs.Zero.{sum_zeros, sum-positive-left, sum-positive-right, product-positive, product-zero-left, product-zero-right}
use Rattle.number.proofs.Zero.{quotient-zero-left, round-positive}
use Rattle.words.specs.RowSet.{RowSet}
use Rattle.words.specs.Word.{Factors}
use Rattle.words.specs.Walk.{minor}
use Rattle.words.specs.Operation.{Step, step, joined_word, each_steps}
use Rattle.words.proofs.Related.{Related, minor-related}
use Rattle.words.proofs.Alike.{Alike, alike, AlikeSteps, letters-joined}
use Rattle.presence.specs.Presence.{presence, nonzero}
use Rattle.words.specs.Sources.{Walkable, Sources}

-- a mantissa of 32 bits, or zero
pub record Normal (a : Number) : Type 0 where
  pub low : 0 < a.m → 2 ^ 31 ≤ a.m
  pub high : a.m < 2 ^ 32

pub nonzero-no : (a : Number) → a.m ≡ 0 → nonzero a ≡ false
nonzero-no a e = ap not (eq-eqb a.m 0 e)

pub nonzero-yes : (a : Number) → 0 < a.m → nonzero a ≡ true
nonzero-yes a p = ap not (ne_eqb a.m 0 (λ e. omega arith))

-- the mantissa is zero, or it is not
either : {C : Type 0} (a : Number) → (a.m ≡ 0 → C) → (0 < a.m → C) → C
either {C} a f g = by a.m refl
  where
    by : (i : ℕ) → a.m ≡ i → C
    by zero e = f e
    by (suc i) e = g (omega arith)

round-normal : (n d x : ℕ) → 0 < d → (0 < n → d ≤ 2 * n) → Normal (round n d x)
round-normal zero d x p h = subst Normal (sym (round-zero Nearest d x)) (record { low = λ l. absurd (omega arith); high = omega arith })
round-normal (suc n) d x p h = let r = round-represents (suc n) d x (omega arith) p (h (omega arith)) Nearest in record { low = λ l. r.low; high = r.high }

sum-normal : (a b : Number) → Normal (sum_of a b)
unfolding sum_by
sum-normal a b = round-normal _ 1 _ (omega arith) (λ l. omega arith)

product-normal : (a b : Number) → Normal (product_of a b)
unfolding product_by
product-normal a b = round-normal _ 1 _ (omega arith) (λ l. omega arith)

quotient-normal : (a b : Number) → Normal a → Stored b → Normal (quotient_of a b)
unfolding quotient_by
quotient-normal a b u v = round-normal a.m b.m _ (omega (arith, v.low)) (λ l. omega (arith, u.low l, v.high))

sum-nonzero : (a b : Number) → nonzero (sum_of a b) ≡ nonzero a || nonzero b
sum-nonzero a b =
    either a
    (λ e. either b
    (λ f. nonzero-no (sum_of a b) (ap (λ (z : Number). z.m) (sum_zeros Nearest a b e f)) ∙ sym (ap₂ ◌||◌ (nonzero-no a e) (nonzero-no b f)))
    (λ f. nonzero-yes (sum_of a b) (sum-positive-right Nearest a b f) ∙ sym (ap₂ ◌||◌ (nonzero-no a e) (nonzero-yes b f))))
    (λ e. nonzero-yes (sum_of a b) (sum-positive-left Nearest a b e) ∙ sym (ap (λ x. x || nonzero b) (nonzero-yes a e)))

product-nonzero : (a b : Number) → nonzero (product_of a b) ≡ nonzero a && nonzero b
product-nonzero a b =
    either a
    (λ e. ap nonzero (product-zero-left Nearest a b e) ∙ sym (ap (λ x. x && nonzero b) (nonzero-no a e)))
    (λ e. either b
    (λ f. ap nonzero (product-zero-right Nearest a b f) ∙ sym (ap₂ ◌&&◌ (nonzero-yes a e) (nonzero-no b f)))
    (λ f. nonzero-yes (product_of a b) (product-positive Nearest a b e f) ∙ sym (ap₂ ◌&&◌ (nonzero-yes a e) (nonzero-yes b f))))

quotient-nonzero : (a b : Number) → Normal a → Stored b → nonzero (quotient_of a b) ≡ nonzero a && nonzero b
unfolding quotient_by
quotient-nonzero a b u v =
    either a
    (λ e. ap nonzero (quotient-zero-left Nearest a b e) ∙ sym (ap (λ x. x && nonzero b) (nonzero-no a e)))
    (λ e. nonzero-yes (quotient_of a b) (round-positive Nearest a.m b.m _ e (omega (arith, v.low)) (omega (arith, u.low e, v.high)))
    ∙ sym (ap₂ ◌&&◌ (nonzero-yes a e) (nonzero-yes b (omega (arith, v.low)))))

-- ZERO TOGETHER: a number, and whether it is not zero
pub record Zeros (g : Unit {0}) (x : Number) (y : Bool) : Type 0 where
  pub normal : Normal x
  pub tells : y ≡ nonzero x

abbrev pub WeightTold : Number → Bool → Type 0
WeightTold w y = y ≡ nonzero w

abbrev pub EntryTold : Number → Bool → Type 0
EntryTold e y = (y ≡ nonzero e) × Stored e

abbrev zeros-related : Related rounded presence (Unit {0}) Zeros
zeros-related = record {
  Weight = WeightTold;
  Entry = EntryTold;
  after_move = λ g. g;
  rel-stays = λ g x y h. h;
  rel-moves = λ g x x' w y y' v h s k. record {
    normal = sum-normal x (product_of w x');
    tells = ap₂ ◌||◌ h.tells (ap₂ ◌&&◌ s k.tells ∙ sym (product-nonzero w x')) ∙ sym (sum-nonzero x (product_of w x'));
  };
  after_entry = λ g. g;
  rel-skips = λ g x y h. h;
  rel-times = λ g x e y f h s. record { normal = product-normal x e; tells = ap₂ ◌&&◌ h.tells s.0 ∙ sym (product-nonzero x e) };
  rel-over = λ g x e y f h s.
      record { normal = quotient-normal x e h.normal s.1; tells = ap₂ ◌&&◌ h.tells s.0 ∙ sym (quotient-nonzero x e h.normal s.1) };
}

-- THE STEPS IN BOOLS
pub told-alike : (n : ℕ) (b : Factors Number) → Walkable n b → Alike WeightTold EntryTold n b (λ i j. nonzero (b i j))
told-alike n b h = record { off = λ i j p q r s e. refl; on = λ i p q. (refl, h.on i (p, q)) }

pub told-steps : (n : ℕ) (L : List (Step Number)) → Sources (Walkable n) L → AlikeSteps WeightTold EntryTold n L (each_steps nonzero L)
told-steps n [] h = tt
told-steps n (step w b ∷ L) h = (alike (told-alike n b h.0), told-steps n L h.1)

-- WHICH MINORS ARE ZERO
pub minor-presence : (n : ℕ) (L : List (Step Number)) → Sources (Walkable n) L → (I J : RowSet) → length I ≡ n
    → minor presence (joined_word n (each_steps nonzero L)) I J ≡ nonzero (minor rounded (joined_word n L) I J)
minor-presence n L h I J i =
    (minor-related rounded presence (Unit {0}) Zeros zeros-related n (joined_word n L) (joined_word n (each_steps nonzero L))
    (letters-joined WeightTold EntryTold n L (each_steps nonzero L) (told-steps n L h)) tt
    (record { normal = record { low = λ l. absurd (omega arith); high = omega arith }; tells = refl })
    (record { normal = record { low = λ l. omega arith; high = omega arith }; tells = refl }) I J i).tells
