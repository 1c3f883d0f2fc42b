-- THE MATRIX OF POWERS: over any ordered ring the factors of document 02's request (a) multiply out to the matrix whose row i holds the powers of x i
-- (stamps-multiplied). The lower part of the word is carried by Neville's scheme in each column q: at level c item j is the run of c - 1 differences before
-- x j, times the complete polynomial of degree q - c in the c variables up to x j, and a step between levels is that of a divided difference.
use mathlib.Core.Path.{◌≡◌, refl, sym, ap, ap₂, ◌∙◌}
use mathlib.Core.Bool.{cond}
use mathlib.Core.List.{◌∷◌}
use Prim.Native.Nat.{ℕ, suc, ◌≤◌, ◌<◌, ◌-◌, ◌+◌ as ◌+ℕ◌}
use native.Mathlib.Decide.{ℕ_discrete, dec_lt}
use native.Mathlib.Omega.{arith}
use lib.Dec.{leb}
use borrow.Author.Tests.{le-leb, lt-leb}
use Rattle.fraction.specs.Arithmetic.{Arithmetic}
use Rattle.fraction.specs.Ring.{CRing, Ordered, arithmetic}
use Rattle.fraction.proofs.Ring.{ring, *-one, one-*, *-comm}
use Rattle.fraction.proofs.Ordered.{inv-mul-pos}
use Rattle.words.specs.RowSet.{In}
use Rattle.words.specs.Word.{D, Word, word, exchanged, transposed_word}
use Rattle.words.specs.Walk.{carry, carry_letter}
use Rattle.words.proofs.Walks.{carry-append}
use Rattle.words.proofs.Stages.{stages, word-stages, word_rows}
use Rattle.minors.specs.Matrix.{Equal, identity, multiplied}
use Rattle.minors.proofs.Determinant.{matrix_of}
use Rattle.minors.proofs.Multiply.{word_matrix-carried}
use Rattle.powers.specs.Stamps.{product_from}
use Rattle.powers.proofs.Complete.{power, adds-nothing, complete, complete-step, complete-one}
use Rattle.powers.proofs.Neville.{neville}
use Rattle.powers.proofs.Runs.{difference, factors, run, run_more, run-positive, on-it, below}
use Rattle.powers.proofs.Upper.{upper_level, upper}

module _ (K : CRing) (O : Ordered K) (x : ℕ → K.R) (n : ℕ)
    (rising : (i k : ℕ) → 1 ≤ k → k < i → i ≤ n → O.Pos (difference K O x i k)) where
  open K use {R, 𝟘, 𝟙, add as ◌+◌, mul as ◌*◌}
  open O use {Pos, inv}

  infixl 65 ◌+◌
  infixl 70 ◌*◌
  abbrev F : Arithmetic
  F = arithmetic K O

  abbrev f : ℕ → ℕ → R
  f = factors K O x

  abbrev less : ℕ → ℕ → R
  less = difference K O x

  abbrev runs : ℕ → ℕ → R
  runs = run K O x

  module _ (q : ℕ) where
    -- the complete polynomial of degree q - c in the c variables up to x j
    part : ℕ → ℕ → R
    part c j = cond (leb c q) (complete K x (suc j - c) c (q - c)) 𝟘

    part-zero : (c j : ℕ) → q < c → part c j ≡ 𝟘
    unfolding part
    part-zero c j h = rw (lt-leb c q h)

    part_at : (c j a d : ℕ) → c ≤ q → suc j - c ≡ a → q - c ≡ d → part c j ≡ complete K x a c d
    unfolding part
    part_at c j a d h e g = rw (le-leb c q h, e, g)

    part_step : (c j : ℕ) → 1 ≤ c → c < j → part c j ≡ part c (j - 1) + less j (j - c) * part (suc c) j
    unfolding complete
    part_step c j l h = elim (dec_lt q c) [
      | yes g ↦
          part-zero c j g ∙ adds-nothing K 𝟘 (less j (j - c))
          ∙ sym (ap₂ (λ y z. y + less j (j - c) * z) (part-zero c (j - 1) g) (part-zero (suc c) j (omega arith)))
      | no g ↦ elim (ℕ_discrete c q) [
        | yes e ↦ part_at c j _ 0 (omega arith) refl (omega arith) ∙ adds-nothing K 𝟙 (less j (j - c))
            ∙ sym (ap₂ (λ y z. y + less j (j - c) * z) (part_at c (j - 1) _ 0 (omega arith) refl (omega arith)) (part-zero (suc c) j (omega arith)))
        | no e ↦
            let i : j - c +ℕ c ≡ j = omega arith in
            let d : ℕ = q - c - 1 in
            part_at c j (suc (j - c)) (suc d) (omega arith) (omega arith) (omega arith)
            ∙ complete-step K x (j - c) c d
            ∙ ap (λ k. complete K x (j - c) c (suc d) + less k (j - c) * complete K x (j - c) (suc c) d) i
            ∙ sym (ap₂ (λ y z. y + less j (j - c) * z) (part_at c (j - 1) (j - c) (suc d) (omega arith) (omega arith) (omega arith))
            (part_at (suc c) j (j - c) d (omega arith) (omega arith) (omega arith)))
      ]
    ]

    lower_level : ℕ → ℕ → R
    lower_level c j = runs j (c - 1) * part c j

    lower-step : (c j : ℕ) → 1 ≤ c → c < j → j ≤ n → lower_level c j ≡ lower_level (suc c) j + f j c * lower_level c (j - 1)
    unfolding lower_level
    lower-step c j l h u =
        let m : suc (c - 1) ≡ c = omega arith in
        let k : suc c - 1 ≡ suc (c - 1) = omega arith in
        let A : R = runs j (c - 1) in
        let B : R = runs (j - 1) (c - 1) in
        let more : runs j (suc c - 1) ≡ less j (j - c) * A =
        ap (runs j) k ∙ run_more K O x j (c - 1) (omega arith) ∙ ap (λ i. less j (j - i) * A) m in
        ap (λ y. A * y) (part_step c j l h)
        ∙ spread A (part c (j - 1)) (less j (j - c)) (part (suc c) j)
        ∙ sym (ap₂ (λ y z. y * part (suc c) j + z * (B * part c (j - 1))) more (below K O x j c l h)
        ∙ ap (λ z. less j (j - c) * A * part (suc c) j + z)
        (cancelled A B (part c (j - 1)) (run-positive K O x n (j - 1) (c - 1) rising (omega arith) (omega arith))))
      where
        spread : (a p y z : R) → a * (p + y * z) ≡ y * a * z + a * p
        spread a p y z = simp ring

        cancelled : (a b p : R) → Pos b → a * inv b * (b * p) ≡ a * p
        cancelled a b p h = regroup a (inv b) b p ∙ ap (λ y. a * y * p) (inv-mul-pos K O b h) ∙ ap (λ y. y * p) (*-one K a)
          where
            regroup : (a i b p : R) → a * i * (b * p) ≡ a * (b * i) * p
            regroup a i b p = simp ring

    -- row i, column q of the word's matrix
    word-power : (i : ℕ) → In n i → In n q → carry F (word n f) (λ k. identity K k q) i ≡ power K (x i) (q - 1)
    unfolding carry lower_level carry_letter upper_level part run product_from
    word-power i h g =
        let T : Word R = transposed_word (stages n 1 (n - 1) (exchanged f)) in
        let U : ℕ → R = carry F T (λ k. identity K k q) in
        ap (λ W. carry F W (λ k. identity K k q) i) (word-stages n f)
        ∙ ap (λ u. u i) (carry-append F (stages n 1 (n - 1) f) (D (λ i. f i i) ∷ T) (λ k. identity K k q))
        ∙ neville K O n f lower_level lower-step (carry_letter F (D (λ i. f i i)) U) start i h
        ∙ last
      where
        same : (j : ℕ) → 1 ≤ j → suc j - j ≡ 1 → upper_level K O x n j 1 q ≡ part j j
        same j l k = let m : suc j - 1 ≡ j = omega arith in ap₂ (λ m a. cond (leb j q) (complete K x a m (q - j)) 𝟘) m (sym k)

        start : (j : ℕ) → In n j
            → carry_letter F (D (λ i. f i i)) (carry F (transposed_word (stages n 1 (n - 1) (exchanged f))) (λ k. identity K k q)) j ≡ lower_level j j
        start j p =
            let k : suc j - j ≡ 1 = omega arith in
            ap₂ ◌*◌ (upper K O x n j q p g ∙ same j p.0 k) (on-it K O x j p.0) ∙ *-comm K _ _

        last : lower_level 1 i ≡ power K (x i) (q - 1)
        last =
            let a : suc i - 1 ≡ i = omega arith in
            one-* K _ ∙ part_at 1 i i (q - 1) g.0 a refl ∙ complete-one K x i (q - 1)

  -- THEY MULTIPLY OUT to the matrix whose row i holds the powers 0 .. n - 1 of x i
  pub stamps-multiplied : Equal K n (multiplied K O n (factors K O x)) (λ i j. power K (x i) (j - 1))
  unfolding matrix_of
  stamps-multiplied i j h g = word_matrix-carried K O n (word n f) (word_rows n f) i j h g ∙ word-power j i h g
