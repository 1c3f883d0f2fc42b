-- WHERE NO FACTOR IS ZERO, EVERY MINOR IS PRESENT (all-present): of joined steps whose factors are all true, every minor at sets of equally many rows is true;
-- so every minor of steps without a factor zero is present (full-present).
-- The idea: beside the walk in Bools goes the walk of the same steps in rational numbers, every factor being one. At each set the Bool is true or the number
-- is zero (`Seen`), which every letter keeps (seen-related); and the number at the end, a minor of positive factors, is positive.
use mathlib.Core.Path.{◌≡◌, refl, ap, ap₂, ◌∙◌}
use mathlib.Core.Bool.{Bool, true, ◌&&◌, ◌||◌, or-true}
use mathlib.Core.List.{List, [], ◌∷◌}
use Prim.Native.Nat.{ℕ, ◌≤◌}
use native.Mathlib.Omega.{arith}
use lib.ListN.{length}
use Rattle.number.specs.declared.Number.{Number}
use Rattle.fraction.specs.Arithmetic.{Arithmetic}
use Rattle.fraction.specs.Ring.{arithmetic}
use Rattle.fraction.specs.Rational.{Rational, RationalPositive, rationals, rationals-ordered}
use Rattle.fraction.proofs.Ring.{+-zero, zero-*, *-zero}
use Rattle.fraction.proofs.Ordered.{pos-nonzero}
use Rattle.words.specs.RowSet.{RowSet, count}
use Rattle.words.specs.Walk.{minor}
use Rattle.words.specs.Operation.{Step, joined_word, each_steps}
use Rattle.words.specs.Sources.{Each, Weighted, Sources}
use Rattle.words.proofs.Steps.{sources-map, sources-weaken, each-weighted}
use Rattle.words.proofs.Related.{Related, minor-related}
use Rattle.words.proofs.Alike.{AlikeSteps, alike-each, letters-joined}
use Rattle.minors.specs.Matrix.{Positive}
use Rattle.minors.proofs.Positive.{PositiveSteps, joined-positive}
use Rattle.presence.specs.Presence.{presence, nonzero}
use Rattle.presence.specs.Full.{NoZero, Full}

abbrev F : Arithmetic
F = arithmetic rationals rationals-ordered

-- TRUE, OR ZERO
data Seen (b : Bool) (x : Rational) : Type 0 where
  present : b ≡ true → Seen b x
  zero : x ≡ rationals.𝟘 → Seen b x

seen-positive : (b : Bool) (x : Rational) → Seen b x → RationalPositive x → b ≡ true
seen-positive b x (present e) p = e
seen-positive b x (zero e) p = absurd (pos-nonzero rationals rationals-ordered x p e)

seen_moves : (b b' v : Bool) (x x' w : Rational) → Seen b x → v ≡ true → Seen b' x' → Seen (b || (v && b')) (rationals.add x (rationals.mul w x'))
seen_moves b b' v x x' w (present e) f s = present (ap (λ a. a || (v && b')) e)
seen_moves b b' v x x' w (zero e) f (present g) = present (ap₂ (λ a c. b || (a && c)) f g ∙ or-true b)
seen_moves b b' v x x' w (zero e) f (zero g) =
    zero (ap₂ (λ y y'. rationals.add y (rationals.mul w y')) e g ∙ ap (rationals.add rationals.𝟘) (*-zero rationals w) ∙ +-zero rationals rationals.𝟘)

seen-times : (b v : Bool) (x w : Rational) → Seen b x → v ≡ true → Seen (b && v) (rationals.mul x w)
seen-times b v x w (present e) f = present (ap₂ ◌&&◌ e f)
seen-times b v x w (zero e) f = zero (ap (λ y. rationals.mul y w) e ∙ zero-* rationals w)

-- the walk lemma with one grade: of a factor only the Bool is looked at
abbrev True : Bool → Type 0
True b = b ≡ true

abbrev Factor : Bool → Rational → Type 0
Factor b x = True b

abbrev seen-related : Related presence F (Unit {0}) (λ g. Seen)
seen-related = record {
  Weight = Factor;
  Entry = Factor;
  after_move = λ g. g;
  rel-stays = λ g b x h. h;
  rel-moves = λ g b b' v x x' w h f s. seen_moves b b' v x x' w h f s;
  after_entry = λ g. g;
  rel-skips = λ g b x h. h;
  rel-times = λ g b v x w h f. seen-times b v x w h f;
  rel-over = λ g b v x w h f. seen-times b v x (rationals-ordered.inv w) h f;
}

-- THE SAME STEPS WITH ONES FOR FACTORS
abbrev One : Bool → Rational
One b = rationals.𝟙

module _ (n : ℕ) (L : List (Step Bool)) (h : Sources (Each True n) L) where
  ones-positive : PositiveSteps rationals rationals-ordered n (each_steps One L)
  ones-positive = sources-map (Each True n) (Positive rationals rationals-ordered n) One (λ b e i j x y. rationals-ordered.pos-one) L h

  ones-alike : AlikeSteps Factor Factor n L (each_steps One L)
  ones-alike =
      alike-each Factor Factor n True True One (λ b e. e) (λ b e. e) L
      (sources-weaken (Each True n) (Weighted True True n) (each-weighted True True True (λ b e. e) (λ b e. e) n) L h)

  ones-seen : (I J : RowSet) → length I ≡ n → Seen (minor presence (joined_word n L) I J) (minor F (joined_word n (each_steps One L)) I J)
  ones-seen =
      minor-related presence F (Unit {0}) (λ g. Seen) seen-related n (joined_word n L) (joined_word n (each_steps One L))
      (letters-joined Factor Factor n L (each_steps One L) ones-alike) tt (zero refl) (present refl)

pub all-present : (n : ℕ) (L : List (Step Bool)) → 1 ≤ length L → Sources (Each (λ b. b ≡ true) n) L → (I J : RowSet) → length I ≡ n → length J ≡ n
    → count I ≡ count J → minor presence (joined_word n L) I J ≡ true
all-present n [] l h I J i j c = absurd (omega arith)
all-present n (s ∷ L) l h I J i j c =
    seen-positive _ _ (ones-seen n (s ∷ L) h I J i)
    (joined-positive rationals rationals-ordered n (each_steps One (s ∷ L)) (omega arith) (ones-positive n (s ∷ L) h) I J i j c)

-- steps in numbers
pub full-present : (n : ℕ) (L : List (Step Number)) → Full n L → (I J : RowSet) → length I ≡ n → length J ≡ n → count I ≡ count J
    → minor presence (joined_word n (each_steps nonzero L)) I J ≡ true
full-present n [] f = absurd (omega (arith, f.some))
full-present n (s ∷ L) f =
    all-present n (each_steps nonzero (s ∷ L)) (omega arith) (sources-map (NoZero n) (Each True n) nonzero (λ b h. h) (s ∷ L) f.factors)
