-- MINORS ARE DETERMINANTS: a walk's minor is the wedge of the columns of the word's matrix (minor-determinant),
-- a function of its entries alone (determinant-equal).
-- Those within chosen rows and columns are the submatrix's (determinant-among), and those of one row and one column are the entries (determinant-entry).
use mathlib.Core.Path.{◌≡◌, refl, sym, ap, ap₂, ◌∙◌, subst, fun_ext}
use mathlib.Core.Bool.{Bool, true, false, cond}
use mathlib.Core.List.{List, [], ◌∷◌}
use Prim.Native.Nat.{ℕ, zero, suc, ◌≤◌, ◌<◌}
use native.Mathlib.Omega.{arith}
use lib.ListN.{length}
use borrow.Author.Tests.{eq-eqb, ne_eqb}
use Rattle.fraction.specs.Arithmetic.{Arithmetic}
use Rattle.fraction.specs.Ring.{CRing, Ordered, arithmetic}
use Rattle.fraction.proofs.Ring.{ring, zero-*, *-zero, *-one, one-*}
use Rattle.words.specs.RowSet.{In, RowSet, rows, count, members, chosen, among, equal}
use Rattle.words.specs.Word.{Letter, Word}
use Rattle.words.specs.Walk.{one_at, minor, act, walk, carry_letter, carry}
use Rattle.words.proofs.RowSets.{in-under, in_top, length-rows}
use Rattle.words.proofs.Runs.{rows_last, rows-own, rows_none}
use Rattle.words.proofs.Chosen.{chosen-top, chosen-under}
use Rattle.words.proofs.Walks.{Rows, All, under}
use Rattle.words.proofs.Agree.{act-agree, walk-agree}
use Rattle.minors.specs.Matrix.{Matrix, Equal, identity, submatrix_of}
use Rattle.minors.proofs.Wedge.{wedge-agree, wedge-zero}
use Rattle.minors.proofs.Carried.{act-wedge, act-empty}
unfoldable pub use Rattle.minors.specs.Determinant.{wedge, empty, wedges, columns, determinant}

module _ (K : CRing) where
  open K use {R, 𝟘, 𝟙, add as ◌+◌, mul as ◌*◌, neg}

  infixl 65 ◌+◌
  infixl 70 ◌*◌
  -- it is made of the entries at the rows 1 .. length I and columns 1 .. length J
  pub determinant-agree : (M N : Matrix K) (I J : RowSet) → ((i j : ℕ) → In (length I) i → In (length J) j → M i j ≡ N i j)
      → determinant K M I J ≡ determinant K N I J
  unfolding determinant columns wedges
  determinant-agree M N I [] e = refl
  determinant-agree M N I (true ∷ J) e =
      wedge-agree K (λ i. M i (suc (length J))) (λ i. N i (suc (length J))) _ _ I (λ i p. e i (suc (length J)) p (in_top (length J)))
      (λ T t. determinant-agree M N T J (λ i j p q. e i j (subst (λ n. In n i) t p) (in-under q)))
  determinant-agree M N I (false ∷ J) e = determinant-agree M N I J (λ i j p q. e i j p (in-under q))

  pub determinant-equal : (n : ℕ) (M N : Matrix K) → Equal K n M N → (I J : RowSet) → length I ≡ n → length J ≡ n → determinant K M I J ≡ determinant K N I J
  determinant-equal n M N e I J i j = determinant-agree M N I J (λ r c p q. e r c (subst (λ k. In k r) i p) (subst (λ k. In k c) j q))

  -- a row above the set, or a column, does not count
  pub wedges-false : (vs : List (ℕ → R)) (S : RowSet) → wedges K vs (false ∷ S) ≡ wedges K vs S
  unfolding wedges wedge empty
  wedges-false [] S = refl
  wedges-false (v ∷ vs) S = ap (λ ω. wedge K v ω S) (fun_ext (wedges-false vs))

  pub determinant-above : (M : Matrix K) (I J : RowSet) → determinant K M (false ∷ I) J ≡ determinant K M I J
  unfolding determinant
  determinant-above M I J = wedges-false (columns K M J) I

  -- along the highest column, where it has the highest row
  pub determinant-expand : (M : Matrix K) (I J : RowSet) (i j : ℕ) → length I ≡ i → length J ≡ j
      → determinant K M (true ∷ I) (true ∷ J) ≡ M (suc i) (suc j) * determinant K M I J + neg (wedge K (λ r. M r (suc j)) (λ T. determinant K M (true ∷ T) J) I)
  unfolding determinant columns wedges wedge
  determinant-expand M I J i j p q =
      ap₂ (λ r c. M (suc r) (suc c) * determinant K M (false ∷ I) J + neg (wedge K (λ k. M k (suc c)) (λ T. determinant K M (true ∷ T) J) I)) p q
      ∙ ap (λ x. M (suc i) (suc j) * x + neg (wedge K (λ k. M k (suc j)) (λ T. determinant K M (true ∷ T) J) I)) (determinant-above M I J)

  -- at runs of rows and of columns: those above their highest do not count, and a run of none is the empty set
  pub determinant-runs : (M : Matrix K) (n m a b c d : ℕ) → b ≤ n → d ≤ m
      → determinant K M (rows n a b) (rows m c d) ≡ determinant K M (rows b a b) (rows d c d)
  unfolding determinant columns
  determinant-runs M n m a b c d h g =
      rows-own (λ I. determinant K M I (rows m c d)) (λ I. determinant-above M I (rows m c d)) n a b h
      ∙ rows-own (determinant K M (rows b a b)) (λ J. refl) m c d g

  pub determinant-none : (M : Matrix K) (I : RowSet) (m c d : ℕ) → d < c → determinant K M I (rows m c d) ≡ empty K I
  unfolding determinant columns wedges
  determinant-none M I m c d h = rows_none (determinant K M I) (λ J. refl) m c d h

  pub empty-none : (n a b : ℕ) → b < a → empty K (rows n a b) ≡ 𝟙
  unfolding empty
  empty-none n a b h = rows_none (empty K) (λ S. refl) n a b h

  -- the first term of an expansion whose other terms are zero
  alone : (x y : R) → y ≡ 𝟘 → x + neg y ≡ x
  alone x y h = ap (λ z. x + neg z) h ∙ simp ring

  -- the determinant is zero where the highest row is
  pub determinant-zero-row : (M : Matrix K) (I J : RowSet) → ((j : ℕ) → In (length J) j → M (suc (length I)) j ≡ 𝟘) → determinant K M (true ∷ I) J ≡ 𝟘
  unfolding determinant columns wedges wedge empty
  determinant-zero-row M I [] h = refl
  determinant-zero-row M I (true ∷ J) h =
      alone _ _ (wedge-zero K _ _ I (λ i T p t. ap (λ x. M i (suc (length J)) * x)
      (determinant-zero-row M T J (λ j q. subst (λ n. M (suc n) j ≡ 𝟘) (sym t) (h j (in-under q)))) ∙ *-zero K _))
      ∙ ap (λ x. x * determinant K M (false ∷ I) J) (h (suc (length J)) (in_top (length J))) ∙ zero-* K _
  determinant-zero-row M I (false ∷ J) h = determinant-zero-row M I J (λ j p. h j (in-under p))

module _ (K : CRing) (O : Ordered K) where
  open K use {R, 𝟘, 𝟙, mul as ◌*◌}

  infixl 70 ◌*◌
  abbrev F : Arithmetic
  F = arithmetic K O

  -- the matrix of a word: its column j is what the word carries the j-th unit vector to
  unfoldable pub matrix_of : Word R → Matrix K
  matrix_of W i j = carry F W (λ k. identity K k j) i

  -- a letter, and a word, at minors of M: the minors of the matrix with its columns carried
  act-determinant : (l : Letter R) (M : Matrix K) (I J : RowSet) → Rows (length I) l
      → act F l (λ T. determinant K M T J) I ≡ determinant K (λ i j. carry_letter F l (λ k. M k j) i) I J
  unfolding determinant columns wedges
  act-determinant l M I [] h = act-empty K O l I h
  act-determinant l M I (true ∷ J) h =
      act-wedge K O l (λ k. M k (suc (length J))) (wedges K (columns K M J)) I h
      ∙ wedge-agree K (carry_letter F l (λ k. M k (suc (length J)))) _ _ _ I (λ i p. refl)
      (λ T t. act-determinant l M T J (subst (λ n. Rows n l) (sym t) h))
  act-determinant l M I (false ∷ J) h = act-determinant l M I J h

  pub walk-determinant : (W : Word R) (M : Matrix K) (I J : RowSet) → All (Rows (length I)) W
      → walk F W (λ T. determinant K M T J) I ≡ determinant K (λ i j. carry F W (λ k. M k j) i) I J
  unfolding walk carry
  walk-determinant [] M I J h = refl
  walk-determinant (l ∷ W) M I J h =
      act-agree F (length I) l _ _ (λ T t. walk-determinant W M T J (subst (λ n. All (Rows n) W) (sym t) h.1)) I refl
      ∙ act-determinant l (λ i j. carry F W (λ k. M k j) i) I J h.0

  -- the minors of the identity
  identity-off : (i j : ℕ) → (i ≡ j → ⊥) → identity K i j ≡ 𝟘
  identity-off i j h = rw (ne_eqb i j h)

  identity-column : (ω : RowSet → R) (I : RowSet) (j : ℕ) → length I < j → wedge K (λ i. identity K i j) ω I ≡ 𝟘
  identity-column ω I j e = wedge-zero K _ ω I (λ i T p t. ap (λ x. x * ω T) (identity-off i j (λ f. omega (arith, p.1))) ∙ zero-* K _)

  determinant-identity : (I J : RowSet) → length I ≡ length J → determinant K (identity K) I J ≡ one_at F J I
  unfolding determinant columns wedges wedge empty one_at equal
  determinant-identity [] [] e = refl
  determinant-identity [] (y ∷ J) e = absurd (omega arith)
  determinant-identity (x ∷ I) [] e = absurd (omega arith)
  determinant-identity (true ∷ I) (true ∷ J) e =
      alone K _ _ (identity-column _ I (suc (length J)) (omega arith))
      ∙ ap (λ t. cond t 𝟙 𝟘 * determinant K (identity K) (false ∷ I) J) (eq-eqb (suc (length I)) (suc (length J)) e)
      ∙ one-* K _ ∙ determinant-above K (identity K) I J ∙ determinant-identity I J (omega arith)
  determinant-identity (true ∷ I) (false ∷ J) e = determinant-zero-row K (identity K) I J (λ j p. identity-off (suc (length I)) j (λ f. omega (arith, p.1)))
  determinant-identity (false ∷ I) (true ∷ J) e = identity-column _ I (suc (length J)) (omega arith)
  determinant-identity (false ∷ I) (false ∷ J) e = determinant-above K (identity K) I J ∙ determinant-identity I J (omega arith)

  pub minor-determinant : (n : ℕ) (W : Word R) → All (Rows n) W → (I J : RowSet) → length I ≡ n → length J ≡ n
      → minor F W I J ≡ determinant K (matrix_of W) I J
  unfolding minor matrix_of
  minor-determinant n W h I J i j =
      walk-agree F n W (one_at F J) (λ T. determinant K (identity K) T J) (λ T t. sym (determinant-identity T J (t ∙ sym j))) I i
      ∙ walk-determinant W (identity K) I J (subst (λ k. All (Rows k) W) (sym i) h)

module _ (K : CRing) where
  open K use {R, 𝟙, add as ◌+◌, mul as ◌*◌, neg}

  infixl 65 ◌+◌
  infixl 70 ◌*◌
  wedge-among : (P : RowSet) (v : ℕ → R) (ω : RowSet → R) (I : RowSet) → length I ≡ count P
      → wedge K v ω (among P I) ≡ wedge K (λ i. v (chosen P i)) (λ T. ω (among P T)) I
  unfolding wedge among count members
  wedge-among [] v ω [] e = refl
  wedge-among [] v ω (x ∷ I) e = absurd (omega arith)
  wedge-among (true ∷ P) v ω [] e = absurd (omega arith)
  wedge-among (true ∷ P) v ω (x ∷ I) e = by x (λ y. wedge-among P v (under y ω) I f ∙ wedge-agree K _ (λ i. v (chosen (true ∷ P) i)) _ _ I
      (λ i p. ap v (chosen-under P i (subst (λ n. In n i) f p))) (λ T t. refl))
    where
      f : length I ≡ count P
      f = omega arith

      by : (x : Bool)
          → ((y : Bool) → wedge K v (under y ω) (among P I) ≡ wedge K (λ i. v (chosen (true ∷ P) i)) (λ T. ω (y ∷ among P T)) I)
          → wedge K v ω (x ∷ among P I) ≡ wedge K (λ i. v (chosen (true ∷ P) i)) (λ T. ω (among (true ∷ P) T)) (x ∷ I)
      by true h = ap₂ (λ p q. p * ω (false ∷ among P I) + neg q) (ap v (chosen-top P I f)) (h true)
      by false h = h false
  wedge-among (false ∷ P) v ω I e = wedge-among P v (under false ω) I e

  empty-among : (P I : RowSet) → length I ≡ count P → empty K (among P I) ≡ empty K I
  unfolding empty among count
  empty-among [] [] e = refl
  empty-among [] (x ∷ I) e = absurd (omega arith)
  empty-among (true ∷ P) [] e = absurd (omega arith)
  empty-among (true ∷ P) (true ∷ I) e = refl
  empty-among (true ∷ P) (false ∷ I) e = empty-among P I (omega arith)
  empty-among (false ∷ P) I e = empty-among P I e

  rows-among : (M : Matrix K) (P I J : RowSet) → length I ≡ count P → determinant K M (among P I) J ≡ determinant K (λ i j. M (chosen P i) j) I J
  unfolding determinant columns wedges
  rows-among M P I [] e = empty-among P I e
  rows-among M P I (true ∷ J) e =
      wedge-among P (λ i. M i (suc (length J))) (wedges K (columns K M J)) I e
      ∙ wedge-agree K _ _ _ _ I (λ i p. refl) (λ T t. rows-among M P T J (t ∙ e))
  rows-among M P I (false ∷ J) e = rows-among M P I J e

  columns-among : (M : Matrix K) (I Q J : RowSet) → length J ≡ count Q → determinant K M I (among Q J) ≡ determinant K (λ i j. M i (chosen Q j)) I J
  unfolding determinant columns wedges among count members
  columns-among M I [] [] e = refl
  columns-among M I [] (x ∷ J) e = absurd (omega arith)
  columns-among M I (true ∷ Q) [] e = absurd (omega arith)
  columns-among M I (true ∷ Q) (x ∷ J) e =
      by x (λ T. columns-among M T Q J f ∙ determinant-agree K _ _ T J (λ i j p q. ap (M i) (chosen-under Q j (subst (λ n. In n j) f q))))
    where
      f : length J ≡ count Q
      f = omega arith

      by : (x : Bool)
          → ((T : RowSet) → determinant K M T (among Q J) ≡ determinant K (λ i j. M i (chosen (true ∷ Q) j)) T J)
          → determinant K M I (x ∷ among Q J) ≡ determinant K (λ i j. M i (chosen (true ∷ Q) j)) I (x ∷ J)
      by true h = wedge-agree K _ _ _ _ I (λ i p. ap (M i) (chosen-top Q J f)) (λ T t. h T)
      by false h = h I
  columns-among M I (false ∷ Q) J e = columns-among M I Q J e

  -- a minor within chosen rows and columns is a minor of the submatrix
  pub determinant-among : (M : Matrix K) (P Q I J : RowSet) → length I ≡ count P → length J ≡ count Q
      → determinant K M (among P I) (among Q J) ≡ determinant K (submatrix_of K P Q M) I J
  determinant-among M P Q I J i j = rows-among M P I (among Q J) i ∙ columns-among (λ r c. M (chosen P r) c) I Q J j

  -- a minor of one row and one column is the entry
  determinant-one : (M : Matrix K) (I J : RowSet) (i j : ℕ) → length I ≡ i → length J ≡ j
      → ((T : RowSet) → determinant K M T J ≡ empty K T) → empty K I ≡ 𝟙 → determinant K M (true ∷ I) (true ∷ J) ≡ M (suc i) (suc j)
  unfolding empty
  determinant-one M I J i j p q h e =
      determinant-expand K M I J i j p q
      ∙ alone K _ _ (wedge-zero K _ _ I (λ r T l t. ap (λ x. M r (suc j) * x) (h (true ∷ T)) ∙ *-zero K _))
      ∙ ap (λ x. M (suc i) (suc j) * x) (h I ∙ e) ∙ *-one K _

  pub determinant-entry : (n : ℕ) (M : Matrix K) (i j : ℕ) → In n i → In n j → determinant K M (rows n i i) (rows n j j) ≡ M i j
  determinant-entry n M zero j x y = absurd (omega (arith, x.0))
  determinant-entry n M (suc i) zero x y = absurd (omega (arith, y.0))
  determinant-entry n M (suc i) (suc j) x y =
      determinant-runs K M n n (suc i) (suc i) (suc j) (suc j) x.1 y.1
      ∙ ap₂ (determinant K M) (rows_last i (suc i) (omega arith)) (rows_last j (suc j) (omega arith))
      ∙ determinant-one M _ _ i j (length-rows i (suc i) i) (length-rows j (suc j) j)
      (λ T. determinant-none K M T j (suc j) j (omega arith)) (empty-none K i (suc i) i (omega arith))
