-- THE RULE WITH ZEROS, below the diagonal. Where it is known which minors of a matrix with its columns 1 .. j are not zero (Zeroed), factors by the rule
-- (ByRule) reduce the matrix (rule-reduces) and keep the rule for zeros (rule-kept).
use mathlib.Core.Path.{◌≡◌, sym, ap, ◌∙◌, subst, fun_ext}
use mathlib.Core.Bool.{true}
use Prim.Native.Nat.{ℕ, suc, ◌+◌, ◌-◌, ◌≤◌, ◌<◌}
use native.Mathlib.Omega.{arith}
use lib.ListN.{length}
use Rattle.fraction.specs.Ring.{CRing, Ordered, NonNegative, positive, zero as null}
use Rattle.fraction.proofs.Ring.{zero-*}
use Rattle.fraction.proofs.Ordered.{pos-nonzero, pos-cancel, quotient-mul, nonnegative-mul}
use Rattle.words.specs.RowSet.{In, RowSet, put, rows}
use Rattle.words.proofs.RowSets.{length-put, length-rows}
use Rattle.words.proofs.Runs.{put-rows}
use Rattle.minors.specs.Matrix.{Matrix}
use Rattle.minors.proofs.Determinant.{determinant}
use Rattle.bands.proofs.Heights.{stands, above, above_rows}
use Rattle.bands.proofs.Reach.{Topical}
use Rattle.bands.proofs.Lattice.{Stands, Highest, leading, pattern, grows, takes, latest-diagonal}
use Rattle.bands.proofs.Elimination.{Or, gone, there, left, killed, valued}
use Rattle.bands.proofs.Reduction.{Reduces}
use Rattle.bands.proofs.Unique.{Kept}

-- WHAT IS KNOWN of the minors with the first columns: they are positive or zero, and positive where the heights of their rows are in a relation Rel to those of
-- the columns that is closed as reaching is
pub record Zeroed (K : CRing) (O : Ordered K) (n : ℕ) (M : Matrix K) : Type 1 where
  pub Rel : (ℕ → ℕ) → (ℕ → ℕ) → Type 0
  pub closed : (φ : ℕ → ℕ → ℕ) → Topical φ → (f g f' g' : ℕ → ℕ) → Rel f g → Rel f' g' → Rel (λ x. φ (f x) (f' x)) (λ x. φ (g x) (g' x))
  pub whole : Rel (λ x. n - x) (λ x. n - x)
  pub nonnegative : (j : ℕ) (I : RowSet) → j ≤ n → length I ≡ n → NonNegative K O (determinant K M I (rows n 1 j))
  pub to : (j : ℕ) (I : RowSet) → j ≤ n → length I ≡ n → O.Pos (determinant K M I (rows n 1 j)) → Rel (λ x. j - x) (above I)
  pub from : (j : ℕ) (I : RowSet) → j ≤ n → length I ≡ n → Rel (λ x. j - x) (above I) → O.Pos (determinant K M I (rows n 1 j))

module _ (K : CRing) (O : Ordered K) (n : ℕ) (M : Matrix K) where
  open K use {R, 𝟘, mul as ◌*◌}
  open O use {Pos, pos-mul, inv, inv-pos}

  infixl 70 ◌*◌
  -- v (i, j) of document 02, with the sets C
  abbrev pub value_of : (ℕ → ℕ → RowSet) → ℕ → ℕ → R
  value_of C i j = determinant K M (put i true (C i j)) (rows n 1 j) * inv (determinant K M (C i j) (rows n 1 (j - 1)))

  -- zero where v (i, j) is, else v (i, j) / v (i - 1, j)
  pub record ByRule (C : ℕ → ℕ → RowSet) (g : ℕ → ℕ → R) (i j : ℕ) : Type 0 where
    pub zero : value_of C i j ≡ 𝟘 → g i j ≡ 𝟘
    pub positive : Pos (value_of C i j) → g i j ≡ value_of C i j * inv (value_of C (i - 1) j)

  module _ (Z : Zeroed K O n M) (C : ℕ → ℕ → RowSet) (highest : (i j : ℕ) → 1 ≤ j → j ≤ i → i ≤ n → Highest n Z.Rel Z.closed Z.whole i j (C i j)) where
    abbrev v : ℕ → ℕ → R
    v = value_of C

    module _ (i j : ℕ) (o : 1 ≤ j) (l : j ≤ i) (p : i ≤ n) where
      joined_length : length (put i true (C i j)) ≡ n
      joined_length = length-put i true (C i j) ∙ (highest i j o l p).size

      -- the divisor of v
      pub under-positive : Pos (determinant K M (C i j) (rows n 1 (j - 1)))
      under-positive = Z.from (j - 1) (C i j) (omega arith) (highest i j o l p).size (highest i j o l p).stands

      pub value-nonnegative : NonNegative K O (v i j)
      value-nonnegative = nonnegative-mul K O _ _ (Z.nonnegative j _ (omega arith) joined_length) (positive (inv-pos _ under-positive))

      pub value-times : determinant K M (put i true (C i j)) (rows n 1 j) ≡ v i j * determinant K M (C i j) (rows n 1 (j - 1))
      value-times = sym (quotient-mul K O _ _ (pos-nonzero K O _ under-positive))

      stands-value : Stands n Z.Rel Z.closed Z.whole j (put i true (C i j)) → Pos (v i j)
      stands-value h = pos-mul _ _ (Z.from j _ (omega arith) joined_length h) (inv-pos _ under-positive)

      value-stands : Pos (v i j) → Stands n Z.Rel Z.closed Z.whole j (put i true (C i j))
      value-stands h = Z.to j _ (omega arith) joined_length (subst Pos (sym value-times) (pos-mul _ _ h under-positive))

    -- where v (i, j) is not zero, v (i - 1, j) is not
    module _ (i j : ℕ) (o : 1 ≤ j) (l : j < i) (p : i ≤ n) where
      before_stands : Pos (v i j) → Stands n Z.Rel Z.closed Z.whole j (put (i - 1) true (C (i - 1) j))
      before_stands h =
          pattern n Z.Rel Z.closed Z.whole i j (C i j) (C (i - 1) j) o l p (highest i j o (omega arith) p)
          (highest (i - 1) j o (omega arith) (omega arith))
          (value-stands i j o (omega arith) p h)

      pub before-positive : Pos (v i j) → Pos (v (i - 1) j)
      before-positive h = stands-value (i - 1) j o (omega arith) (omega arith) (before_stands h)

    module _ (g : ℕ → ℕ → R) (by-rule : (i j : ℕ) → 1 ≤ j → j < i → i ≤ n → ByRule C g i j) where
      rule : (i j : ℕ) → 1 ≤ j → j < i → i ≤ n → v i j ≡ g i j * v (i - 1) j
      rule i j o l p = by (value-nonnegative i j o (omega arith) p)
        where
          by : NonNegative K O (v i j) → v i j ≡ g i j * v (i - 1) j
          by (null z) = z ∙ sym (ap (λ y. y * v (i - 1) j) ((by-rule i j o l p).zero z) ∙ zero-* K _)
          by (positive z) =
              sym (quotient-mul K O _ _ (pos-nonzero K O _ (before-positive i j o l p z))) ∙ ap (λ y. y * v (i - 1) j) (sym ((by-rule i j o l p).positive z))

      take : (i j : ℕ) → 1 ≤ j → j < i → i ≤ n → Or (g i j ≡ 𝟘) ((x : ℕ) → above (C (i - 1) j) x + stands (i - 1) x ≤ above (C i (suc j)) x)
      take i j o l p = by (value-nonnegative i j o (omega arith) p)
        where
          by : NonNegative K O (v i j) → Or (g i j ≡ 𝟘) ((x : ℕ) → above (C (i - 1) j) x + stands (i - 1) x ≤ above (C i (suc j)) x)
          by (null z) = gone ((by-rule i j o l p).zero z)
          by (positive z) = there (takes n Z.Rel Z.closed Z.whole i j (C (i - 1) j) (C i (suc j)) o l p
              (highest (i - 1) j o (omega arith) (omega arith)) (highest i (suc j) (omega arith) l p) (before_stands i j o l p z))

      abbrev size : (i j : ℕ) → 1 ≤ j → j ≤ i → i ≤ n → length (C i j) ≡ n
      size i j o l p = (highest i j o l p).size

      abbrev cancel : (i j : ℕ) → 1 ≤ j → j ≤ i → i ≤ n → (x y : R)
          → x * determinant K M (C i j) (rows n 1 (j - 1)) ≡ y * determinant K M (C i j) (rows n 1 (j - 1)) → x ≡ y
      cancel i j o l p x y = pos-cancel K O _ x y (under-positive i j o l p)

      abbrev grow : (i j : ℕ) → 1 ≤ j → j < i → i ≤ n → (x : ℕ) → above (C i j) x ≤ above (C i (suc j)) x
      grow i j o l p =
          grows n Z.Rel Z.closed Z.whole i j (C i j) (C i (suc j)) o l p (highest i j o (omega arith) p) (highest i (suc j) (omega arith) l p)

      -- THE FACTORS REDUCE THE MATRIX
      pub rule-reduces : Reduces K O n g (λ i. v i i) M
      rule-reduces = record {
        below = λ i q o l p.
            killed K n M g v C size (λ i j o l p. (highest i j o l p).before) cancel value-times rule grow take (i - 1) i (omega arith) p q o (omega arith);
        on = λ i p.
            let e : suc (i - 1) ≡ i = omega (arith, p.0) in
            subst (λ q. left K n g (λ r. M r q) i (i - 1) ≡ v i q) e
            (valued K n M g v C size (λ i j o l p. (highest i j o l p).before) cancel value-times rule grow take (i - 1) i (omega (arith, p.0)) p.1);
      }

      -- ON THE DIAGONAL v is a quotient of leading minors
      pub diagonal-value : (i : ℕ) → In n i → v i i ≡ determinant K M (rows n 1 i) (rows n 1 i) * inv (determinant K M (rows n 1 (i - 1)) (rows n 1 (i - 1)))
      diagonal-value i p =
          let e : C i i ≡ rows n 1 (i - 1) = latest-diagonal n Z.Rel Z.closed Z.whole i (C i i) p (highest i i p.0 (omega arith) p.1) in
          ap (λ S. determinant K M (put i true S) (rows n 1 i) * inv (determinant K M S (rows n 1 (i - 1)))) e
          ∙ ap (λ S. determinant K M S (rows n 1 i) * inv (determinant K M (rows n 1 (i - 1)) (rows n 1 (i - 1)))) (put-rows n 1 i p.0 p.1 p.0)

      pub leading-positive : (j : ℕ) → j ≤ n → Pos (determinant K M (rows n 1 j) (rows n 1 j))
      leading-positive j h = Z.from j (rows n 1 j) h (length-rows n 1 j)
          (subst (Z.Rel (λ x. j - x)) (sym (fun_ext (λ x. above_rows n j x h))) (leading n Z.Rel Z.closed Z.whole j h))

      pub diagonal-positive : (i : ℕ) → In n i → Pos (v i i)
      diagonal-positive i p =
          subst Pos (sym (diagonal-value i p)) (pos-mul _ _ (leading-positive i p.1) (inv-pos _ (leading-positive (i - 1) (omega (arith, p.1)))))

      -- AND KEEP THE RULE FOR ZEROS
      pub rule-kept : Kept K O n g
      rule-kept = record { below = below; under = under }
        where
          by-positive : (i j : ℕ) → 1 ≤ j → j < i → i ≤ n → Pos (v i j) → Pos (g i j)
          by-positive i j o l p z = subst Pos (sym ((by-rule i j o l p).positive z)) (pos-mul _ _ z (inv-pos _ (before-positive i j o l p z)))

          below : (i j : ℕ) → 1 ≤ j → j < i → i ≤ n → NonNegative K O (g i j)
          below i j o l p = by (value-nonnegative i j o (omega arith) p)
            where
              by : NonNegative K O (v i j) → NonNegative K O (g i j)
              by (null z) = null ((by-rule i j o l p).zero z)
              by (positive z) = positive (by-positive i j o l p z)

          under : (i j : ℕ) → 1 ≤ j → j < i → i < n → g i j ≡ 𝟘 → g (suc i) j ≡ 𝟘
          under i j o l p z = by (value-nonnegative (suc i) j o (omega arith) p)
            where
              by : NonNegative K O (v (suc i) j) → g (suc i) j ≡ 𝟘
              by (null y) = (by-rule (suc i) j o (omega arith) p).zero y
              by (positive y) =
                  let e : suc i - 1 ≡ i = omega arith in
                  absurd (pos-nonzero K O _ (by-positive i j o l (omega arith) (subst (λ k. Pos (v k j)) e (before-positive (suc i) j o (omega arith) p y))) z)
