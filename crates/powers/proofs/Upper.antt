-- THE UPPER PART of the word of stamps' factors: row i, column j of its matrix is the complete polynomial of degree j - i in the variables x 1 .. x i (upper),
-- by Neville's scheme on the transposed letters.
use mathlib.Core.Path.{◌≡◌, refl, sym, ap₂, ◌∙◌}
use mathlib.Core.Bool.{cond}
use Prim.Native.Nat.{ℕ, suc, ◌≤◌, ◌<◌, ◌-◌}
use native.Mathlib.Decide.{ℕ_discrete, dec_le, dec_lt}
use native.Mathlib.Omega.{arith}
use lib.Dec.{leb}
use borrow.Author.Tests.{eq-eqb, ne_eqb, le-leb, lt-leb}
use Rattle.fraction.specs.Arithmetic.{Arithmetic}
use Rattle.fraction.specs.Ring.{CRing, Ordered, arithmetic}
use Rattle.words.specs.RowSet.{In}
use Rattle.words.specs.Word.{Word, exchanged, transposed_word}
use Rattle.words.specs.Walk.{carry}
use Rattle.words.proofs.Words.{transposed-rows}
use Rattle.words.proofs.Stages.{stages, stages-rows}
use Rattle.minors.specs.Matrix.{identity}
use Rattle.minors.proofs.Determinant.{matrix_of}
use Rattle.minors.proofs.Multiply.{word_matrix-carried, word_matrix-transposed}
use Rattle.powers.proofs.Complete.{adds-nothing, complete}
use Rattle.powers.proofs.Neville.{neville}
use Rattle.powers.proofs.Runs.{factors, above}

module _ (K : CRing) (O : Ordered K) (x : ℕ → K.R) (n i : ℕ) where
  open K use {R, 𝟘, 𝟙, add as ◌+◌, mul as ◌*◌}

  infixl 65 ◌+◌
  infixl 70 ◌*◌
  abbrev F : Arithmetic
  F = arithmetic K O

  abbrev f : ℕ → ℕ → R
  f = factors K O x

  -- of degree j - i in x c .. x i, nothing where j < i
  unfoldable pub upper_level : ℕ → ℕ → R
  upper_level c j = cond (leb i j) (complete K x c (suc i - c) (j - i)) 𝟘

  level-zero : (c j : ℕ) → j < i → upper_level c j ≡ 𝟘
  unfolding upper_level
  level-zero c j h = rw (lt-leb i j h)

  level-at : (c j m d : ℕ) → i ≤ j → suc i - c ≡ m → j - i ≡ d → upper_level c j ≡ complete K x c m d
  unfolding upper_level
  level-at c j m d h e g = rw (le-leb i j h, e, g)

  upper-step : (c j : ℕ) → 1 ≤ c → c < j → j ≤ n → upper_level c j ≡ upper_level (suc c) j + exchanged f j c * upper_level c (j - 1)
  unfolding complete
  upper-step c j l h u = elim (dec_lt j i) [
    | yes g ↦ level-zero c j g ∙ adds-nothing K 𝟘 (f c j) ∙ sym (ap₂ (λ y z. y + f c j * z) (level-zero (suc c) j g) (level-zero c (j - 1) (omega arith)))
    | no g ↦ elim (ℕ_discrete i j) [
      | yes e ↦ level-at c j (suc i - c) 0 (omega arith) refl (omega arith) ∙ adds-nothing K 𝟙 (f c j)
          ∙ sym (ap₂ (λ y z. y + f c j * z) (level-at (suc c) j (suc i - suc c) 0 (omega arith) refl (omega arith)) (level-zero c (j - 1) (omega arith)))
      | no e ↦ elim (dec_le c i) [
        | yes k ↦ level-at c j (suc (i - c)) (suc (j - i - 1)) (omega arith) (omega arith) (omega arith)
            ∙ sym (ap₂ ◌+◌ (level-at (suc c) j (i - c) (suc (j - i - 1)) (omega arith) (omega arith) (omega arith))
            (ap₂ ◌*◌ (above K O x c j h) (level-at c (j - 1) (suc (i - c)) (j - i - 1) (omega arith) (omega arith) (omega arith))))
        | no k ↦ level-at c j 0 (suc (j - i - 1)) (omega arith) (omega arith) (omega arith) ∙ adds-nothing K 𝟘 (f c j)
            ∙ sym (ap₂ (λ y z. y + f c j * z) (level-at (suc c) j 0 (suc (j - i - 1)) (omega arith) (omega arith) (omega arith))
            (level-at c (j - 1) 0 (suc (j - i - 2)) (omega arith) (omega arith) (omega arith)))
      ]
    ]
  ]

  upper-start : (j : ℕ) → In n j → identity K j i ≡ upper_level j j
  unfolding complete
  upper-start j h = elim (dec_lt j i) [
    | yes g ↦ rw (ne_eqb j i (λ e. omega arith)) (sym (level-zero j j g))
    | no g ↦ elim (ℕ_discrete j i) [
      | yes e ↦ rw (eq-eqb j i e) (sym (level-at j j 1 0 (omega arith) (omega arith) (omega arith)))
      | no e ↦ rw (ne_eqb j i e) (sym (level-at j j 0 (suc (j - i - 1)) (omega arith) (omega arith) (omega arith)))
    ]
  ]

  -- column j carried through the transposed letters
  pub upper : (j : ℕ) → In n i → In n j → carry F (transposed_word (stages n 1 (n - 1) (exchanged f))) (λ k. identity K k j) i ≡ upper_level 1 j
  unfolding matrix_of
  upper j p q =
      let S : Word R = stages n 1 (n - 1) (exchanged f) in
      let rows = stages-rows n 1 (n - 1) (exchanged f) (omega arith) in
      sym (word_matrix-carried K O n (transposed_word S) (transposed-rows n S rows) i j p q)
      ∙ word_matrix-transposed K O n S i j p q
      ∙ word_matrix-carried K O n S rows j i q p
      ∙ neville K O n (exchanged f) upper_level upper-step (λ k. identity K k i) upper-start j q
