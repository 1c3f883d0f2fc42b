-- Letters with weights that are positive or zero, and positive diagonals (KeepsSign), keep a state positive or zero (walk-nonnegative) and a set's number
-- positive (walk-positive). So a word joined on the left to one whose minors are all positive has positive minors (append-keeps).
use mathlib.Core.Path.{◌≡◌, refl, sym, ap, ◌∙◌, subst}
use mathlib.Core.Bool.{Bool, true, false, not, cond, ◌&&◌}
use mathlib.Core.List.{[], ◌∷◌, ◌++◌}
use Prim.Native.Nat.{ℕ, ◌-◌}
use lib.ListN.{length}
use Rattle.fraction.specs.Arithmetic.{Arithmetic}
use Rattle.fraction.specs.Ring.{CRing, Ordered, arithmetic, NonNegative, positive, zero}
use Rattle.fraction.proofs.Ordered.{nonnegative-add, nonnegative-mul, positive-add-nonnegative}
use Rattle.words.specs.RowSet.{In, RowSet, has, replaced, count, equal}
use Rattle.words.specs.Word.{Letter, E, Et, D, Dinv, Word}
use Rattle.words.specs.Walk.{State, one_at, moved, moved_if, scaled, act, walk, minor}
use Rattle.words.proofs.RowSets.{length-replaced}
use Rattle.words.proofs.Walks.{All, walk-append}
use Rattle.words.proofs.Steps.{Weights}
use Rattle.words.proofs.Related.{Related, walk-related}
use Rattle.words.proofs.Alike.{letters-self}
use Rattle.minors.proofs.Entries.{scaled-product, entry_product-positive}

module _ (K : CRing) (O : Ordered K) where
  open K use {R, 𝟘, 𝟙, mul as ◌*◌}
  open O use {Pos, pos-one, pos-mul, inv, inv-pos}

  infixl 70 ◌*◌
  abbrev F : Arithmetic
  F = arithmetic K O

  -- every minor of n rows is positive
  abbrev pub AllPositive : ℕ → Word R → Type 0
  AllPositive n W = (I J : RowSet) → length I ≡ n → length J ≡ n → count I ≡ count J → Pos (minor (arithmetic K O) W I J)

  -- positive or zero at every set of n rows
  abbrev pub NonNegatives : ℕ → State (arithmetic K O) → Type 0
  NonNegatives n ω = (S : RowSet) → length S ≡ n → NonNegative K O (ω S)

  -- a weight that is positive or zero, a positive diagonal
  abbrev pub KeepsSign : ℕ → Letter R → Type 0
  KeepsSign n = Weights (NonNegative K O) Pos n

  -- POSITIVE OR ZERO is kept: the walk lemma with one grade, and a relation that looks at one side only
  abbrev nonnegative-related : Related F F (Unit {0}) (λ g x y. NonNegative K O x)
  nonnegative-related = record {
    Weight = λ w v. NonNegative K O w;
    Entry = λ e f. Pos e;
    after_move = λ g. g;
    rel-stays = λ g x y h. h;
    rel-moves = λ g x x' w y y' v h p h'. nonnegative-add K O _ _ h (nonnegative-mul K O _ _ p h');
    after_entry = λ g. g;
    rel-skips = λ g x y h. h;
    rel-times = λ g x e y f h p. nonnegative-mul K O _ _ h (positive p);
    rel-over = λ g x e y f h p. nonnegative-mul K O _ _ h (positive (inv-pos _ p));
  }

  pub walk-nonnegative : (n : ℕ) (W : Word R) (ω : State F) → All (KeepsSign n) W → NonNegatives n ω → NonNegatives n (walk F W ω)
  walk-nonnegative n W ω p h =
      walk-related F F (Unit {0}) (λ g x y. NonNegative K O x) nonnegative-related n W W (letters-self (NonNegative K O) Pos n W p) tt ω ω h

  pub act-nonnegative : (n : ℕ) (l : Letter R) (ω : State F) → KeepsSign n l → NonNegatives n ω → NonNegatives n (act F l ω)
  unfolding walk
  act-nonnegative n l ω p h = walk-nonnegative n (l ∷ []) ω (p, tt) h

  -- A POSITIVE NUMBER is kept where the others are positive or zero
  moved-positive : (n a o : ℕ) (w : R) (ω : State F) → NonNegative K O w → NonNegatives n ω → (S : RowSet) → length S ≡ n → Pos (ω S) → Pos (moved F a o w ω S)
  unfolding moved
  moved-positive n a o w ω p h S s q = by (has a S && not (has o S))
    where
      by : (t : Bool) → Pos (moved_if F t a o w ω S)
      by true = positive-add-nonnegative K O _ _ q (nonnegative-mul K O _ _ p (h (replaced a o S) (length-replaced a o S ∙ s)))
      by false = q

  scaled-positive : (f : R → R) (e : ℕ → R) (S : RowSet) → ((i : ℕ) → In (length S) i → Pos (f (e i))) → (x : R) → Pos x → Pos (scaled F (λ y z. y * f z) e S x)
  scaled-positive f e S h x p = subst Pos (sym (scaled-product K O f e S x)) (pos-mul _ _ p (entry_product-positive K O (λ i. f (e i)) S h))

  pub act-positive : (n : ℕ) (l : Letter R) (ω : State F) → KeepsSign n l → NonNegatives n ω → (S : RowSet) → length S ≡ n → Pos (ω S) → Pos (act F l ω S)
  unfolding act
  act-positive n (E j w) ω p h S s q = moved-positive n j (j - 1) w ω p h S s q
  act-positive n (Et j w) ω p h S s q = moved-positive n (j - 1) j w ω p h S s q
  act-positive n (D e) ω p h S s q = scaled-positive (λ x. x) e S (λ i x. p i (subst (λ m. In m i) s x)) (ω S) q
  act-positive n (Dinv e) ω p h S s q = scaled-positive inv e S (λ i x. inv-pos _ (p i (subst (λ m. In m i) s x))) (ω S) q

  pub walk-positive : (n : ℕ) (W : Word R) (ω : State F) → All (KeepsSign n) W → NonNegatives n ω → (S : RowSet) → length S ≡ n → Pos (ω S) → Pos (walk F W ω S)
  unfolding walk
  walk-positive n [] ω p h S s q = q
  walk-positive n (l ∷ W) ω p h S s q = act-positive n l (walk F W ω) p.0 (walk-nonnegative n W ω p.1 h) S s (walk-positive n W ω p.1 h S s q)

  pub one_at-nonnegative : (n : ℕ) (J : RowSet) → NonNegatives n (one_at F J)
  unfolding one_at
  one_at-nonnegative n J S s = by (equal J S)
    where
      by : (t : Bool) → NonNegative K O (cond t 𝟙 𝟘)
      by true = positive pos-one
      by false = zero refl

  pub append-keeps : (n : ℕ) (U W : Word R) → All (KeepsSign n) U → All (KeepsSign n) W → AllPositive n W → AllPositive n (U ++ W)
  unfolding minor
  append-keeps n U W u w h I J i j c = subst Pos (sym (ap (λ ω. ω I) (walk-append F U W (one_at F J))))
      (walk-positive n U (walk F W (one_at F J)) u (walk-nonnegative n W (one_at F J) w (one_at-nonnegative n J)) I i (h I J i j c))
