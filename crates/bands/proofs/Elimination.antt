-- ELIMINATION BELOW THE DIAGONAL by factors g: from each row g times the row before is taken away, so that row i has its first c columns killed (eliminated).
-- With the sets R of document 02 (e) this combination of rows does kill them (killed), and at the next column it gives v (valued).
use mathlib.Core.Path.{◌≡◌, refl, sym, ap, ap₂, ◌∙◌}
use mathlib.Core.Bool.{Bool, true, false, false≢true}
use Prim.Native.Nat.{ℕ, zero, suc, ◌-◌, ◌≤◌, ◌<◌, ◌+◌ as ◌+ℕ◌}
use native.Mathlib.Decide.{ℕ_discrete, dec_le}
use native.Mathlib.Omega.{arith}
use lib.ListN.{length}
use borrow.Author.Tests.{eq-eqb, ne_eqb}
use Rattle.fraction.specs.Ring.{CRing}
use Rattle.fraction.proofs.Ring.{ring, +-neg}
use Rattle.words.specs.RowSet.{In, RowSet, has, put, rows}
use Rattle.minors.specs.Matrix.{Matrix, identity}
use Rattle.minors.proofs.Sums.{sum-equal, sum-add, scale-sum}
use Rattle.minors.proofs.Products.{identity-sum}
use Rattle.minors.proofs.Determinant.{wedges, columns, determinant}
use Rattle.bands.proofs.Heights.{stands, above, one, has_above}
use Rattle.bands.proofs.Lattice.{Before, before-le}
use Rattle.bands.proofs.Contraction.{combined, columns-first, kills-first, combined-minor}

-- a row has no part in a combination, or it is there
pub data Or (A B : Type 0) : Type 0 where
  gone : A → Or A B
  there : B → Or A B

module _ (K : CRing) where
  open K use {R, 𝟘, 𝟙, add as ◌+◌, mul as ◌*◌, neg}

  infixl 65 ◌+◌
  infixl 70 ◌*◌
  -- the part of row r in row i with c columns killed
  unfoldable pub eliminated : (ℕ → ℕ → R) → ℕ → ℕ → ℕ → R
  eliminated g i zero r = identity K i r
  eliminated g i (suc c) r = eliminated g i c r + neg (g i (suc c) * eliminated g (i - 1) c r)

  nothing : (w x y : R) → x ≡ 𝟘 → y ≡ 𝟘 → x + neg (w * y) ≡ 𝟘
  nothing w x y p q = rw (p, q) (simp ring)

  pub eliminated-above : (g : ℕ → ℕ → R) (i c r : ℕ) → i < r → eliminated g i c r ≡ 𝟘
  unfolding eliminated
  eliminated-above g i zero r h = rw (ne_eqb i r (λ e. omega arith))
  eliminated-above g i (suc c) r h = nothing _ _ _ (eliminated-above g i c r h) (eliminated-above g (i - 1) c r (omega arith))

  pub eliminated-own : (g : ℕ → ℕ → R) (i c : ℕ) → 1 ≤ i → eliminated g i c i ≡ 𝟙
  unfolding eliminated
  eliminated-own g i zero h = rw (eq-eqb i i refl)
  eliminated-own g i (suc c) h =
      ap₂ (λ x y. x + neg (g i (suc c) * y)) (eliminated-own g i c h) (eliminated-above g (i - 1) c i (omega arith)) ∙ simp ring

  -- by factors that are equal where they are used: below the diagonal, up to column c
  pub eliminated-equal : (g h : ℕ → ℕ → R) (c i : ℕ) → c < i → ((k j : ℕ) → 1 ≤ j → j ≤ c → j < k → k ≤ i → g k j ≡ h k j) → (r : ℕ)
      → eliminated g i c r ≡ eliminated h i c r
  unfolding eliminated
  eliminated-equal g h zero i l e r = refl
  eliminated-equal g h (suc c) i l e r =
      ap₂ (λ x y. x + neg y) (eliminated-equal g h c i (omega arith) (λ k j p q. e k j p (omega arith)) r)
      (ap₂ ◌*◌ (e i (suc c) (omega arith) (omega arith) l (omega arith))
      (eliminated-equal g h c (i - 1) (omega arith) (λ k j p q u v. e k j p (omega arith) u (omega arith)) r))

  -- a vector of n rows, its row i with c columns killed
  abbrev pub left : ℕ → (ℕ → ℕ → R) → (ℕ → R) → ℕ → ℕ → R
  left n g a i c = combined K n (eliminated g i c) a

  pub left-first : (n : ℕ) (g : ℕ → ℕ → R) (a : ℕ → R) (i : ℕ) → In n i → left n g a i 0 ≡ a i
  unfolding eliminated
  left-first n g a i p = identity-sum K n a i p

  pub left-next : (n : ℕ) (g : ℕ → ℕ → R) (a : ℕ → R) (i c : ℕ) → left n g a i (suc c) ≡ left n g a i c + neg (g i (suc c) * left n g a (i - 1) c)
  unfolding eliminated
  left-next n g a i c =
      sum-equal K n _ _ (λ r p. part (eliminated g i c r) (g i (suc c)) (eliminated g (i - 1) c r) (a r))
      ∙ sum-add K n _ _ ∙ ap (λ x. left n g a i c + x) (sym (scale-sum K n (neg (g i (suc c))) _) ∙ out _ _)
    where
      part : (x w y a : R) → (x + neg (w * y)) * a ≡ x * a + neg w * (y * a)
      part x w y a = simp ring

      out : (w s : R) → neg w * s ≡ neg (w * s)
      out w s = simp ring

  -- M of n rows, with the factors g, the numbers v and the sets C of rows i and columns j, j not above i
  module _ (n : ℕ) (M : Matrix K) (g v : ℕ → ℕ → R) (C : ℕ → ℕ → RowSet)
      (size : (i j : ℕ) → 1 ≤ j → j ≤ i → i ≤ n → length (C i j) ≡ n)
      (before : (i j : ℕ) → 1 ≤ j → j ≤ i → i ≤ n → Before i (C i j))
      (cancel : (i j : ℕ) → 1 ≤ j → j ≤ i → i ≤ n → (x y : R)
      → x * determinant K M (C i j) (rows n 1 (j - 1)) ≡ y * determinant K M (C i j) (rows n 1 (j - 1)) → x ≡ y)
      (value : (i j : ℕ) → 1 ≤ j → j ≤ i → i ≤ n → determinant K M (put i true (C i j)) (rows n 1 j) ≡ v i j * determinant K M (C i j) (rows n 1 (j - 1)))
      (rule : (i j : ℕ) → 1 ≤ j → j < i → i ≤ n → v i j ≡ g i j * v (i - 1) j)
      (grow : (i j : ℕ) → 1 ≤ j → j < i → i ≤ n → (x : ℕ) → above (C i j) x ≤ above (C i (suc j)) x)
      (take : (i j : ℕ) → 1 ≤ j → j < i → i ≤ n → Or (g i j ≡ 𝟘) ((x : ℕ) → above (C (i - 1) j) x +ℕ stands (i - 1) x ≤ above (C i (suc j)) x)) where
    -- the combination has its rows in the set, from row i - 1 down without a gap
    support : (c i r : ℕ) → c < i → i ≤ n → 1 ≤ r → r ≤ i → Or (eliminated g i c r ≡ 𝟘) (i - r ≤ above (C i (suc c)) (r - 1))
    unfolding eliminated
    support zero i r l h p q = elim (ℕ_discrete i r) [
      | yes e ↦ there (omega arith)
      | no e ↦ gone (rw (ne_eqb i r e))
    ]
    support (suc c) i r l h p q = elim (ℕ_discrete i r) [
      | yes e ↦ there (omega arith)
      | no e ↦
          go (omega arith) (support c i r (omega arith) h p q) (take i (suc c) (omega arith) l h)
          (support c (i - 1) r (omega arith) (omega arith) p (omega arith))
    ]
      where
        go : r ≤ i - 1 → Or (eliminated g i c r ≡ 𝟘) (i - r ≤ above (C i (suc c)) (r - 1))
            → Or (g i (suc c) ≡ 𝟘) ((x : ℕ) → above (C (i - 1) (suc c)) x +ℕ stands (i - 1) x ≤ above (C i (suc (suc c))) x)
            → Or (eliminated g (i - 1) c r ≡ 𝟘) (i - 1 - r ≤ above (C (i - 1) (suc c)) (r - 1))
            → Or (eliminated g i c r + neg (g i (suc c) * eliminated g (i - 1) c r) ≡ 𝟘) (i - r ≤ above (C i (suc (suc c))) (r - 1))
        go o (there x) t s = there (omega (arith, grow i (suc c) (omega arith) l h (r - 1)))
        go o (gone x) (there t) (there s) = there (let z : stands (i - 1) (r - 1) ≡ 1 = omega arith in omega (arith, z, t (r - 1)))
        go o (gone x) (there t) (gone s) = gone (nothing _ _ _ x s)
        go o (gone x) (gone t) s = gone (rw (x, t) (simp ring))

    outside : (c i : ℕ) → c < i → i ≤ n → (r : ℕ) → In n r → (r ≡ i → ⊥) → has r (C i (suc c)) ≡ false → eliminated g i c r ≡ 𝟘
    outside c i l h r p e f = elim (dec_le i r) [
      | yes q ↦ elim (ℕ_discrete r i) [ yes z ↦ absurd (e z) | no z ↦ eliminated-above g i c r (omega arith) ]
      | no q ↦ go (omega arith) (support c i r l h p.0 (omega arith))
    ]
      where
        go : r < i → Or (eliminated g i c r ≡ 𝟘) (i - r ≤ above (C i (suc c)) (r - 1)) → eliminated g i c r ≡ 𝟘
        go q (gone x) = x
        go q (there x) = absurd (by (has r (C i (suc c))) f (has_above (C i (suc c)) r (p.0, omega (arith, p.1, size i (suc c) (omega arith) l h))))
          where
            by : (t : Bool) → t ≡ false → above (C i (suc c)) (r - 1) ≡ above (C i (suc c)) r +ℕ one t → ⊥
            by true z w = false≢true (sym z)
            by false z w = omega (arith, before-le (C i (suc c)) i r (before i (suc c) (omega arith) l h))

    abbrev Killed : ℕ → Type 0
    Killed c = (i : ℕ) → c < i → i ≤ n → (q : ℕ) → 1 ≤ q → q ≤ c → left n g (λ r. M r q) i c ≡ 𝟘

    valued-from : (c : ℕ) → Killed c → (i : ℕ) → c < i → i ≤ n → left n g (λ r. M r (suc c)) i c ≡ v i (suc c)
    unfolding determinant
    valued-from c kd i l h =
        let e : suc c - 1 ≡ c = omega arith in
        cancel i (suc c) (omega arith) l h _ _
        (ap (λ m. left n g (λ r. M r (suc c)) i c * wedges K (columns K M (rows n 1 m)) (C i (suc c))) e
        ∙ sym (ap (λ vs. wedges K vs (put i true (C i (suc c)))) (columns-first K M n c (omega arith))
        ∙ combined-minor K n (eliminated g i c) (λ r. M r (suc c)) (columns K M (rows n 1 c)) (C i (suc c)) i (size i (suc c) (omega arith) l h)
        (omega arith, h) (before i (suc c) (omega arith) l h) (eliminated-own g i c (omega arith)) (outside c i l h)
        (kills-first K n n M (eliminated g i c) c (omega arith) (kd i l h)))
        ∙ value i (suc c) (omega arith) l h)

    -- THE COLUMNS ARE KILLED
    pub killed : (c : ℕ) → Killed c
    killed zero i l h q p e = absurd (omega arith)
    killed (suc c) i l h q p e = left-next n g (λ r. M r q) i c ∙ elim (ℕ_discrete q (suc c)) [
      | yes f ↦
          ap (λ m. left n g (λ r. M r m) i c + neg (g i (suc c) * left n g (λ r. M r m) (i - 1) c)) f
          ∙ ap₂ (λ x y. x + neg (g i (suc c) * y)) (valued-from c (killed c) i (omega arith) h) (valued-from c (killed c) (i - 1) (omega arith) (omega arith))
          ∙ ap (λ x. x + neg (g i (suc c) * v (i - 1) (suc c))) (rule i (suc c) (omega arith) l h) ∙ +-neg K _
      | no f ↦ nothing _ _ _ (killed c i (omega arith) h q p (omega arith)) (killed c (i - 1) (omega arith) (omega arith) q p (omega arith))
    ]

    -- AND THE NEXT ONE GIVES v
    pub valued : (c i : ℕ) → c < i → i ≤ n → left n g (λ r. M r (suc c)) i c ≡ v i (suc c)
    valued c i l h = valued-from c (killed c) i l h
