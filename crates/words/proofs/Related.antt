-- THE GRADED WALK LEMMA: a relation between the numbers of two arithmetics that a letter keeps is kept by a walk (walk-related), and by a minor
-- (minor-related).
-- The relation is graded, as by an error so far: a letter E or Et takes a grade to another, and so does each entry of D that is multiplied or divided by.
-- Instances: rounded numbers within so many unit roundings of fractions; exponents that reach so far; fractions that stand for elements of a ring.
use mathlib.Core.Path.{◌≡◌, refl, ap, ◌∙◌, subst}
use mathlib.Core.Bool.{Bool, true, false, not, cond, ◌&&◌}
use mathlib.Core.List.{[], ◌∷◌, ◌++◌}
use Prim.Native.Nat.{ℕ, zero, suc, ◌+◌, ◌-◌, ◌*◌, ◌≤◌}
use native.Mathlib.Omega.{arith}
use lib.ListN.{length}
use Rattle.fraction.specs.Arithmetic.{Arithmetic}
use Rattle.words.specs.RowSet.{RowSet, has, replaced, equal}
use Rattle.words.specs.Word.{Letter, E, Et, D, Dinv, Word, total}
use Rattle.words.specs.Walk.{State, one_at, moved, moved_if, scaled, act, walk, minor}
use Rattle.words.proofs.RowSets.{length-replaced}

-- G: the grades; Rel g x y: the numbers x and y are related by the grade g
pub record Related (A B : Arithmetic) (G : Type 0) (Rel : G → A.Num → B.Num → Type 0) : Type 1 where
  -- weights of letters E and Et, entries of a letter D
  pub Weight : A.Num → B.Num → Type 0
  pub Entry : A.Num → B.Num → Type 0
  -- the grade after a letter E or Et, which leaves a number alone or adds a weight times another
  pub after_move : G → G
  pub rel-stays : (g : G) (x : A.Num) (y : B.Num) → Rel g x y → Rel (after_move g) x y
  pub rel-moves : (g : G) (x x' w : A.Num) (y y' v : B.Num) → Rel g x y → Weight w v → Rel g x' y'
      → Rel (after_move g) (A.add x (A.mul w x')) (B.add y (B.mul v y'))
  -- the grade after an entry of D, which leaves a number alone, multiplies it or divides it
  pub after_entry : G → G
  pub rel-skips : (g : G) (x : A.Num) (y : B.Num) → Rel g x y → Rel (after_entry g) x y
  pub rel-times : (g : G) (x e : A.Num) (y f : B.Num) → Rel g x y → Entry e f → Rel (after_entry g) (A.mul x e) (B.mul y f)
  pub rel-over : (g : G) (x e : A.Num) (y f : B.Num) → Rel g x y → Entry e f → Rel (after_entry g) (A.div x e) (B.div y f)

-- f taken n times
unfoldable pub repeated : {G : Type 0} → ℕ → (G → G) → G → G
repeated zero f g = g
repeated (suc n) f g = f (repeated n f g)

-- a for each E and Et, d for each D
module _ {A : Type 0} where
  abbrev pub letter_cost : ℕ → ℕ → Letter A → ℕ
  letter_cost a d (E j w) = a
  letter_cost a d (Et j w) = a
  letter_cost a d (D e) = d
  letter_cost a d (Dinv e) = d

-- two words, letter by letter
abbrev pub Matched : {A B : Type 0} → (Letter A → Letter B → Type 0) → Word A → Word B → Type 0
Matched P [] [] = Unit {0}
Matched P [] (y ∷ X) = ⊥
Matched P (x ∷ W) [] = ⊥
Matched P (x ∷ W) (y ∷ X) = P x y × Matched P W X

-- two letters of one kind at one row, their weights related, or their entries 1 .. n
abbrev pub Letters : {A B : Type 0} → (weight entry : A → B → Type 0) → ℕ → Letter A → Letter B → Type 0
Letters P Q n (E j w) (E i v) = (j ≡ i) × P w v
Letters P Q n (Et j w) (Et i v) = (j ≡ i) × P w v
Letters P Q n (D e) (D f) = (i : ℕ) → 1 ≤ i → i ≤ n → Q (e i) (f i)
Letters P Q n (Dinv e) (Dinv f) = (i : ℕ) → 1 ≤ i → i ≤ n → Q (e i) (f i)
Letters P Q n (E j w) (Et i v) = ⊥
Letters P Q n (E j w) (D f) = ⊥
Letters P Q n (E j w) (Dinv f) = ⊥
Letters P Q n (Et j w) (E i v) = ⊥
Letters P Q n (Et j w) (D f) = ⊥
Letters P Q n (Et j w) (Dinv f) = ⊥
Letters P Q n (D e) (E i v) = ⊥
Letters P Q n (D e) (Et i v) = ⊥
Letters P Q n (D e) (Dinv f) = ⊥
Letters P Q n (Dinv e) (E i v) = ⊥
Letters P Q n (Dinv e) (Et i v) = ⊥
Letters P Q n (Dinv e) (D f) = ⊥

module _ (A B : Arithmetic) (G : Type 0) (Rel : G → A.Num → B.Num → Type 0) (C : Related A B G Rel) (n : ℕ) where
  open C use {Weight, Entry, after_move, after_entry, rel-stays, rel-moves, rel-skips, rel-times, rel-over}

  -- the grade after a word
  abbrev pub after_letter : Letter A.Num → G → G
  after_letter (E j w) g = after_move g
  after_letter (Et j w) g = after_move g
  after_letter (D e) g = repeated n after_entry g
  after_letter (Dinv e) g = repeated n after_entry g

  unfoldable pub after : Word A.Num → G → G
  after [] g = g
  after (l ∷ W) g = after_letter l (after W g)

  -- states related on the sets of n rows
  abbrev pub States : G → State A → State B → Type 0
  States g ω η = (S : RowSet) → length S ≡ n → Rel g (ω S) (η S)

  moved-related : (a o : ℕ) (g : G) (w : A.Num) (v : B.Num) → Weight w v → (ω : State A) (η : State B) → States g ω η
      → States (after_move g) (moved A a o w ω) (moved B a o v η)
  unfolding moved
  moved-related a o g w v h ω η r S s = by (has a S && not (has o S))
    where
      by : (b : Bool) → Rel (after_move g) (moved_if A b a o w ω S) (moved_if B b a o v η S)
      by true = rel-moves g _ _ _ _ _ _ (r S s) h (r (replaced a o S) (length-replaced a o S ∙ s))
      by false = rel-stays g _ _ (r S s)

  module _ (f : A.Num → A.Num → A.Num) (h : B.Num → B.Num → B.Num)
      (kept : (g : G) (x e : A.Num) (y d : B.Num) → Rel g x y → Entry e d → Rel (after_entry g) (f x e) (h y d))
      (e : ℕ → A.Num) (d : ℕ → B.Num) (entries : (i : ℕ) → 1 ≤ i → i ≤ n → Entry (e i) (d i)) where
    pub scaled-related : (S : RowSet) → length S ≤ n → (g : G) (x : A.Num) (y : B.Num) → Rel g x y
        → Rel (repeated (length S) after_entry g) (scaled A f e S x) (scaled B h d S y)
    unfolding scaled repeated
    scaled-related [] l g x y r = r
    scaled-related (true ∷ S) l g x y r = kept _ _ _ _ _ (scaled-related S (omega arith) g x y r) (entries (suc (length S)) (omega arith) l)
    scaled-related (false ∷ S) l g x y r = rel-skips _ _ _ (scaled-related S (omega arith) g x y r)

    scaled-states : (g : G) (ω : State A) (η : State B) → States g ω η
        → States (repeated n after_entry g) (λ S. scaled A f e S (ω S)) (λ S. scaled B h d S (η S))
    scaled-states g ω η r S s =
        subst (λ (k : ℕ). Rel (repeated k after_entry g) (scaled A f e S (ω S)) (scaled B h d S (η S))) s (scaled-related S (omega (arith, s)) g _ _ (r S s))

  act-related : (l : Letter A.Num) (m : Letter B.Num) → Letters Weight Entry n l m → (g : G) (ω : State A) (η : State B) → States g ω η
      → States (after_letter l g) (act A l ω) (act B m η)
  unfolding act
  act-related (E j w) (E i v) h g ω η r S s =
      subst (λ (k : ℕ). Rel (after_move g) (moved A j (j - 1) w ω S) (moved B k (k - 1) v η S)) h.0 (moved-related j (j - 1) g w v h.1 ω η r S s)
  act-related (Et j w) (Et i v) h g ω η r S s =
      subst (λ (k : ℕ). Rel (after_move g) (moved A (j - 1) j w ω S) (moved B (k - 1) k v η S)) h.0 (moved-related (j - 1) j g w v h.1 ω η r S s)
  act-related (D e) (D f) h g ω η r S s = scaled-states A.mul B.mul rel-times e f h g ω η r S s
  act-related (Dinv e) (Dinv f) h g ω η r S s = scaled-states A.div B.div rel-over e f h g ω η r S s
  act-related (E j w) (Et i v) h g ω η r S s = elim h [ ]
  act-related (E j w) (D f) h g ω η r S s = elim h [ ]
  act-related (E j w) (Dinv f) h g ω η r S s = elim h [ ]
  act-related (Et j w) (E i v) h g ω η r S s = elim h [ ]
  act-related (Et j w) (D f) h g ω η r S s = elim h [ ]
  act-related (Et j w) (Dinv f) h g ω η r S s = elim h [ ]
  act-related (D e) (E i v) h g ω η r S s = elim h [ ]
  act-related (D e) (Et i v) h g ω η r S s = elim h [ ]
  act-related (D e) (Dinv f) h g ω η r S s = elim h [ ]
  act-related (Dinv e) (E i v) h g ω η r S s = elim h [ ]
  act-related (Dinv e) (Et i v) h g ω η r S s = elim h [ ]
  act-related (Dinv e) (D f) h g ω η r S s = elim h [ ]

  pub walk-related : (W : Word A.Num) (X : Word B.Num) → Matched (Letters Weight Entry n) W X → (g : G) (ω : State A) (η : State B) → States g ω η
      → States (after W g) (walk A W ω) (walk B X η)
  unfolding walk after
  walk-related [] [] h g ω η r S s = r S s
  walk-related (l ∷ W) (m ∷ X) h g ω η r S s = act-related l m h.0 (after W g) (walk A W ω) (walk B X η) (walk-related W X h.1 g ω η r) S s
  walk-related [] (m ∷ X) h g ω η r S s = elim h [ ]
  walk-related (l ∷ W) [] h g ω η r S s = elim h [ ]

  -- a minor of related words, from a grade that relates zero to zero and one to one
  pub minor-related : (W : Word A.Num) (X : Word B.Num) → Matched (Letters Weight Entry n) W X → (g : G) → Rel g A.zero B.zero
      → Rel g A.one B.one → (I J : RowSet) → length I ≡ n
      → Rel (after W g) (minor A W I J) (minor B X I J)
  unfolding minor one_at
  minor-related W X h g z o I J i = walk-related W X h g (one_at A J) (one_at B J) (λ S s. by (equal J S)) I i
    where
      by : (b : Bool) → Rel g (cond b A.one A.zero) (cond b B.one B.zero)
      by true = o
      by false = z

  pub after-append : (U W : Word A.Num) (g : G) → after (U ++ W) g ≡ after U (after W g)
  unfolding after
  after-append [] W g = refl
  after-append (l ∷ U) W g = ap (after_letter l) (after-append U W g)

  -- a measure of the grades to which each letter E or Et adds a, and each entry of D e
  module _ (measure : G → ℕ) (a e : ℕ) (moving : (g : G) → measure (after_move g) ≡ measure g + a)
      (entering : (g : G) → measure (after_entry g) ≡ measure g + e) where
    pub repeated-measure : (m : ℕ) (g : G) → measure (repeated m after_entry g) ≡ measure g + m * e
    unfolding repeated
    repeated-measure zero g = omega arith
    repeated-measure (suc m) g = omega (arith, entering (repeated m after_entry g), repeated-measure m g)

    letter-measure : (l : Letter A.Num) (g : G) → measure (after_letter l g) ≡ measure g + letter_cost a (n * e) l
    letter-measure (E j w) g = moving g
    letter-measure (Et j w) g = moving g
    letter-measure (D f) g = repeated-measure n g
    letter-measure (Dinv f) g = repeated-measure n g

    pub after-measure : (W : Word A.Num) (g : G) → measure (after W g) ≡ measure g + total (letter_cost a (n * e)) W
    unfolding after total
    after-measure [] g = omega arith
    after-measure (l ∷ W) g = omega (arith, letter-measure l (after W g), after-measure W g)
