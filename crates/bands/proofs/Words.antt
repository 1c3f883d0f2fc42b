-- THE FACTOR THEOREM WITH ZEROS FOR WORDS: of any word with weights positive or zero and positive diagonals, and of any rows and columns of it that are not
-- singular, document 02's new factors are accepted (chosen-banded), multiply out to the chosen entries of the word's matrix (banded-multiplied), and are the
-- only ones that do and keep the rule for zeros (banded-unique); no divisor of their formulas is zero (banded-divisible).
use mathlib.Core.Path.{◌≡◌, refl, sym, ap, ap₂, ◌∙◌, subst}
use mathlib.Core.Bool.{Bool, true}
use Prim.Native.Nat.{ℕ, ◌-◌, ◌≤◌, ◌<◌}
use native.Mathlib.Omega.{arith}
use lib.Dec.{ltb}
use lib.ListN.{length}
use borrow.Author.Tests.{eq-eqb, ne_eqb, lt-ltb, le-ltb}
use Rattle.fraction.specs.Arithmetic.{Arithmetic}
use Rattle.fraction.specs.Ring.{CRing, Ordered, arithmetic, NonNegative}
use Rattle.words.specs.RowSet.{In, RowSet, put, count, among, rows}
use Rattle.words.specs.Word.{Factors, Letter, E, Et, D, Dinv, Word, exchanged, transposed_letter, transposed_word}
use Rattle.words.specs.Walk.{minor}
use Rattle.words.specs.Formula.{on_diagonal, latest_before, banded_below, factor_by, factors_by, new_factor, Divisible}
use Rattle.words.proofs.RowSets.{length-put, length-rows}
use Rattle.words.proofs.Walks.{Rows, All}
use Rattle.words.proofs.Words.{transposed-all, transposed-rows}
use Rattle.minors.specs.Matrix.{Matrix, Equal, submatrix_of, chosen, word_matrix, multiplied}
use Rattle.minors.proofs.Determinant.{determinant, determinant-equal}
use Rattle.minors.proofs.Transpose.{minor-transposed}
use Rattle.minors.proofs.Multiply.{word_matrix-transposed}
use Rattle.minors.proofs.Nonnegative.{KeepsSign}
use Rattle.bands.specs.Factored.{KeepsRuleOver, BandedOver}
use Rattle.bands.proofs.Heights.{above}
use Rattle.bands.proofs.Lattice.{Highest}
use Rattle.bands.proofs.Nonzero.{positive-present, present-positive}
use Rattle.bands.proofs.Banded.{Zeroed, value_of, ByRule, under-positive, value-times, before-positive, leading-positive, diagonal-value}
use Rattle.bands.proofs.Factoring.{factors-banded, factors-multiplied, factors-unique}
use Rattle.bands.proofs.Chosen.{latest-chosen, banded-by-rule}
use Rattle.bands.proofs.Patterned.{chosen-row, among-rows, among-columns, minor_at-determinant, zeroed, zeroed-counts}

-- equal matrices have equal minors
unfoldable pub zeroed-of : (K : CRing) (O : Ordered K) (k : ℕ) (A B : Matrix K) → Equal K k A B → Zeroed K O k A → Zeroed K O k B
zeroed-of K O k A B e Z = record {
  Rel = Z.Rel;
  closed = Z.closed;
  whole = Z.whole;
  nonnegative = λ j I l i. subst (NonNegative K O) (determinant-equal K k A B e I (rows k 1 j) i (length-rows k 1 j)) (Z.nonnegative j I l i);
  to = λ j I l i h. Z.to j I l i (subst O.Pos (sym (determinant-equal K k A B e I (rows k 1 j) i (length-rows k 1 j))) h);
  from = λ j I l i h. subst O.Pos (determinant-equal K k A B e I (rows k 1 j) i (length-rows k 1 j)) (Z.from j I l i h);
}

pub transposed-signs : (K : CRing) (O : Ordered K) (n : ℕ) (W : Word K.R) → All (KeepsSign K O n) W → All (KeepsSign K O n) (transposed_word W)
transposed-signs K O n = transposed-all (KeepsSign K O n) (KeepsSign K O n) one
  where
    one : (l : Letter K.R) → KeepsSign K O n l → KeepsSign K O n (transposed_letter l)
    one (E j w) h = h
    one (Et j w) h = h
    one (D e) h = h
    one (Dinv e) h = h

module _ (K : CRing) (O : Ordered K) (N : ℕ) (W : Word K.R) (inside : All (Rows N) W) (signs : All (KeepsSign K O N) W)
    (k : ℕ) (P Q : RowSet) (length_p : length P ≡ N) (length_q : length Q ≡ N) (count_p : count P ≡ k) (count_q : count Q ≡ k)
    (regular : O.Pos (minor (arithmetic K O) W P Q))
    (M : RowSet → RowSet → K.R) (same : (I J : RowSet) → length I ≡ k → length J ≡ k → M I J ≡ minor (arithmetic K O) W (among P I) (among Q J)) where
  open K use {R, mul as ◌*◌}
  open O use {Pos, inv}

  infixl 70 ◌*◌
  abbrev pub F : Arithmetic
  F = arithmetic K O

  abbrev pub T : Word R
  T = transposed_word W

  -- THE NEW FACTORS, and the entries that they are to multiply out to
  abbrev pub new_factors : Factors R
  new_factors = new_factor F k M

  abbrev pub A : Matrix K
  A = submatrix_of K P Q (word_matrix K O N W)

  abbrev pub Aᵗ : Matrix K
  Aᵗ i j = A j i

  -- BELOW THE DIAGONAL
  abbrev pub Z : Zeroed K O k A
  Z = zeroed K O N W inside signs k P Q length_p length_q count_p count_q regular

  pub is : (I : RowSet) (j : ℕ) → length I ≡ k → j ≤ k → M I (rows k 1 j) ≡ determinant K A I (rows k 1 j)
  is I j i l =
      same I (rows k 1 j) i (length-rows k 1 j)
      ∙ minor_at-determinant K O N W inside signs k P Q length_p length_q count_p count_q I (rows k 1 j) i (length-rows k 1 j)

  pub counts : (j : ℕ) (I : RowSet) → length I ≡ k → Z.Rel (λ x. j - x) (above I) → count I ≡ j
  counts = zeroed-counts K O N W inside signs k P Q length_p length_q count_p count_q regular

  abbrev pub C : ℕ → ℕ → RowSet
  C = latest_before F k M

  -- ABOVE IT: the transposed word, its rows Q and columns P
  pub inside' : All (Rows N) T
  inside' = transposed-rows N W inside

  pub signs' : All (KeepsSign K O N) T
  signs' = transposed-signs K O N W signs

  pub regular' : Pos (minor F T Q P)
  regular' = subst Pos (minor-transposed K O N W inside P Q length_p length_q) regular

  abbrev pub B : Matrix K
  B = submatrix_of K Q P (word_matrix K O N T)

  pub turned : Equal K k B Aᵗ
  turned i j x y = word_matrix-transposed K O N W (chosen Q i) (chosen P j)
      (chosen-row K O N W inside signs k P Q length_p length_q count_p count_q Q i length_q count_q x)
      (chosen-row K O N W inside signs k P Q length_p length_q count_p count_q P j length_p count_p y)

  unfoldable pub Zᵗ : Zeroed K O k B
  Zᵗ = zeroed K O N T inside' signs' k Q P length_q length_p count_q count_p regular'

  abbrev pub Z' : Zeroed K O k Aᵗ
  Z' = zeroed-of K O k B Aᵗ turned Zᵗ

  pub is' : (I : RowSet) (j : ℕ) → length I ≡ k → j ≤ k → M (rows k 1 j) I ≡ determinant K Aᵗ I (rows k 1 j)
  is' I j i l =
      same (rows k 1 j) I (length-rows k 1 j) i ∙ minor-transposed K O N W inside (among P (rows k 1 j)) (among Q I)
      (among-rows K O N W inside signs k P Q length_p length_q count_p count_q (rows k 1 j) (length-rows k 1 j))
      (among-columns K O N W inside signs k P Q length_p length_q count_p count_q I i)
      ∙ minor_at-determinant K O N T inside' signs' k Q P length_q length_p count_q count_p I (rows k 1 j) i (length-rows k 1 j)
      ∙ determinant-equal K k B Aᵗ turned I (rows k 1 j) i (length-rows k 1 j)

  pub counts' : (j : ℕ) (I : RowSet) → length I ≡ k → Z'.Rel (λ x. j - x) (above I) → count I ≡ j
  unfolding Zᵗ zeroed-of
  counts' = zeroed-counts K O N T inside' signs' k Q P length_q length_p count_q count_p regular'

  abbrev pub C' : ℕ → ℕ → RowSet
  C' = latest_before F k (λ I J. M J I)

  -- the table has the rule's factors
  table_below : (i j : ℕ) → j < i → new_factors i j ≡ banded_below F k M i j
  unfolding factors_by
  table_below i j l = ap₂ (λ s t. factor_by F k s t (banded_below F k) M i j) (ne_eqb i j (λ e. omega arith)) (lt-ltb j i l)

  table-above : (i j : ℕ) → j < i → new_factors j i ≡ banded_below F k (λ I J. M J I) i j
  unfolding factors_by
  table-above i j l = ap₂ (λ s t. factor_by F k s t (banded_below F k) M j i) (ne_eqb j i (λ e. omega arith)) (le-ltb i j (omega arith))

  table_on : (i : ℕ) → new_factors i i ≡ on_diagonal F k M i
  unfolding factors_by
  table_on i = ap (λ (s : Bool). factor_by F k s (ltb i i) (banded_below F k) M i i) (eq-eqb i i refl)

  pub below : (i j : ℕ) → 1 ≤ j → j < i → i ≤ k → ByRule K O k A C new_factors i j
  below i j o l p = banded-by-rule K O k A Z counts M is new_factors i j o l p (table_below i j l)

  pub above-it : (i j : ℕ) → 1 ≤ j → j < i → i ≤ k → ByRule K O k Aᵗ C' (exchanged new_factors) i j
  above-it i j o l p = banded-by-rule K O k Aᵗ Z' counts' (λ I J. M J I) is' (exchanged new_factors) i j o l p (table-above i j l)

  pub highest : (i j : ℕ) → 1 ≤ j → j ≤ i → i ≤ k → Highest k Z.Rel Z.closed Z.whole i j (C i j)
  highest = latest-chosen K O k A Z counts M is

  pub highest' : (i j : ℕ) → 1 ≤ j → j ≤ i → i ≤ k → Highest k Z'.Rel Z'.closed Z'.whole i j (C' i j)
  highest' = latest-chosen K O k Aᵗ Z' counts' (λ I J. M J I) is'

  -- WHAT THE RULE GIVES of a matrix X with the minors G: on the diagonal the quotient of leading minors, and nowhere a divisor that is zero
  module _ (X : Matrix K) (Y : Zeroed K O k X) (G : RowSet → RowSet → R)
      (eq : (I : RowSet) (j : ℕ) → length I ≡ k → j ≤ k → G I (rows k 1 j) ≡ determinant K X I (rows k 1 j))
      (top : (i j : ℕ) → 1 ≤ j → j ≤ i → i ≤ k → Highest k Y.Rel Y.closed Y.whole i j (latest_before F k G i j))
      (g : ℕ → ℕ → R) (by : (i j : ℕ) → 1 ≤ j → j < i → i ≤ k → ByRule K O k X (latest_before F k G) g i j) where
    diagonal-by : (i : ℕ) → In k i → value_of K O k X (latest_before F k G) i i ≡ on_diagonal F k G i
    unfolding on_diagonal
    diagonal-by i p =
        diagonal-value K O k X Y (latest_before F k G) top g by i p
        ∙ ap₂ (λ x y. x * inv y) (sym (eq (rows k 1 i) i (length-rows k 1 i) p.1))
        (sym (eq (rows k 1 (i - 1)) (i - 1) (length-rows k 1 (i - 1)) (omega (arith, p.1))))

    divisible-by : Divisible F k G
    divisible-by = record {
      leading = λ j l.
          positive-present K O _ (subst Pos (sym (eq (rows k 1 j) j (length-rows k 1 j) l)) (leading-positive K O k X Y (latest_before F k G) top g by j l));
      run = λ i j o l p.
          positive-present K O _ (subst Pos (sym (eq _ (j - 1) (top i j o (omega arith) p).size (omega arith)))
          (under-positive K O k X Y (latest_before F k G) top i j o (omega arith) p));
      before = λ i j o l p e.
          let s = length-put i true (latest_before F k G i j) ∙ (top i j o (omega arith) p).size in
          let s' = length-put (i - 1) true (latest_before F k G (i - 1) j) ∙ (top (i - 1) j o (omega arith) (omega arith)).size in
          let u : Pos (determinant K X (put i true (latest_before F k G i j)) (rows k 1 j)) =
          present-positive K O _ (Y.nonnegative j _ (omega arith) s) (ap O.is_zero (sym (eq _ j s (omega arith))) ∙ e) in
          let v : Pos (value_of K O k X (latest_before F k G) i j) =
          O.pos-mul _ _ u (O.inv-pos _ (under-positive K O k X Y (latest_before F k G) top i j o (omega arith) p)) in
          positive-present K O _ (subst Pos (sym (eq _ j s' (omega arith)))
          (subst Pos (sym (value-times K O k X Y (latest_before F k G) top (i - 1) j o (omega arith) (omega arith)))
          (O.pos-mul _ _ (before-positive K O k X Y (latest_before F k G) top i j o l p v)
          (under-positive K O k X Y (latest_before F k G) top (i - 1) j o (omega arith) (omega arith)))));
    }

  on : (i : ℕ) → In k i → value_of K O k A C i i ≡ new_factors i i
  on i p = diagonal-by A Z M is highest new_factors below i p ∙ sym (table_on i)

  on' : (i : ℕ) → In k i → value_of K O k Aᵗ C' i i ≡ new_factors i i
  unfolding on_diagonal
  on' i p = diagonal-by Aᵗ Z' (λ I J. M J I) is' highest' (exchanged new_factors) above-it i p ∙ sym (table_on i)

  -- THE NEW FACTORS ARE ACCEPTED
  pub chosen-banded : BandedOver K O k new_factors
  chosen-banded = factors-banded K O k A Z Z' C C' highest highest' new_factors below above-it on on'

  -- THEY MULTIPLY OUT
  pub banded-multiplied : Equal K k (multiplied K O k new_factors) A
  banded-multiplied = factors-multiplied K O k A Z Z' C C' highest highest' new_factors below above-it on on'

  -- AND NO OTHERS DO that keep the rule for zeros
  pub banded-unique : (c : Factors R) → KeepsRuleOver K O k c → Equal K k (multiplied K O k c) A → (i j : ℕ) → In k i → In k j → c i j ≡ new_factors i j
  banded-unique = factors-unique K O k A Z Z' C C' highest highest' new_factors below above-it on on'

  -- NO DIVISOR IS ZERO
  pub banded-divisible : Divisible F k M
  banded-divisible = divisible-by A Z M is highest new_factors below

  pub banded-divisible' : Divisible F k (λ I J. M J I)
  banded-divisible' = divisible-by Aᵗ Z' (λ I J. M J I) is' highest' (exchanged new_factors) above-it
