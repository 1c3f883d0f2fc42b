-- THE FACTOR THEOREM WITH ZEROS, over both sides: factors that the rule gives below and above the diagonal are accepted (factors-banded) and multiply out to
-- the matrix (factors-multiplied), and no others do that keep the rule for zeros (factors-unique): those that multiply out to what accepted factors do are the
-- same (tables-unique).
use mathlib.Core.Path.{◌≡◌, refl, sym, ap, ◌∙◌, subst}
use mathlib.Core.Bool.{Bool, true, false}
use Prim.Native.Nat.{ℕ, suc, ◌-◌, ◌≤◌, ◌<◌}
use native.Mathlib.Decide.{ℕ_discrete, dec_le}
use native.Mathlib.Omega.{arith}
use Rattle.fraction.specs.Ring.{CRing, Ordered, NonNegative, positive, zero as null}
use Rattle.words.specs.RowSet.{In, RowSet}
use Rattle.words.specs.Word.{Factors, word, exchanged}
use Rattle.words.proofs.Stages.{word_rows}
use Rattle.words.proofs.Banded.{banded-next, rule-exchanged}
use Rattle.minors.specs.Matrix.{Matrix, Equal, multiplied}
use Rattle.minors.proofs.Sums.{sum-equal}
use Rattle.minors.proofs.Determinant.{matrix_of}
use Rattle.minors.proofs.Multiply.{word_matrix-carried, multiplied-exchanged}
use Rattle.bands.specs.Factored.{KeepsRuleOver, BandedOver}
use Rattle.bands.proofs.Lattice.{Highest}
use Rattle.bands.proofs.Elimination.{eliminated}
use Rattle.bands.proofs.Reduction.{Reduces, word-reduces, reduced-equal}
use Rattle.bands.proofs.Unique.{Kept, kept-unique, diagonal-unique}
use Rattle.bands.proofs.Banded.{Zeroed, value_of, ByRule, rule-reduces, rule-kept, diagonal-positive}

module _ (K : CRing) (O : Ordered K) (n : ℕ) where
  open K use {R, 𝟘, mul as ◌*◌}
  open O use {Pos, is_zero, zero-yes, zero-no}

  infixl 70 ◌*◌
  -- equal matrices are reduced alike
  reduces-of : (g : ℕ → ℕ → R) (d : ℕ → R) (A B : Matrix K) → Equal K n A B → Reduces K O n g d A → Reduces K O n g d B
  reduces-of g d A B e r = record {
    below = λ i q o l p. sum-equal K n _ _ (λ k x. ap (λ y. eliminated K g i (i - 1) k * y) (sym (e k q x (o, omega arith)))) ∙ r.below i q o l p;
    on = λ i p. sum-equal K n _ _ (λ k x. ap (λ y. eliminated K g i (i - 1) k * y) (sym (e k i x p))) ∙ r.on i p;
  }

  reduces-to : (g : ℕ → ℕ → R) (d e : ℕ → R) (A : Matrix K) → ((i : ℕ) → In n i → d i ≡ e i) → Reduces K O n g d A → Reduces K O n g e A
  reduces-to g d e A h r = record { below = r.below; on = λ i p. r.on i p ∙ h i p }

  -- what factors multiply out to is reduced by them, and its transpose by the factors exchanged
  multiplied-reduces : (b : Factors R) → Reduces K O n b (λ i. b i i) (multiplied K O n b)
  multiplied-reduces b =
      reduces-of b (λ i. b i i) (matrix_of K O (word n b)) (multiplied K O n b) (λ i j x y. sym (word_matrix-carried K O n (word n b) (word_rows n b) i j x y))
      (word-reduces K O n b)

  transpose-reduces : (b : Factors R) → Reduces K O n (exchanged b) (λ i. b i i) (λ i j. multiplied K O n b j i)
  transpose-reduces b =
      reduces-of (exchanged b) (λ i. b i i) (multiplied K O n (exchanged b)) (λ i j. multiplied K O n b j i) (multiplied-exchanged K O n b)
      (multiplied-reduces (exchanged b))

  -- THE RULE FOR ZEROS is kept on both sides
  decided : (x : R) → ((x ≡ 𝟘 → ⊥) → Pos x) → NonNegative K O x
  decided x f = by (is_zero x) refl
    where
      by : (t : Bool) → is_zero x ≡ t → NonNegative K O x
      by true e = null (zero-yes x e)
      by false e = positive (f (zero-no x e))

  nonzero : {x : R} → NonNegative K O x → (x ≡ 𝟘 → ⊥) → Pos x
  nonzero (positive p) f = p
  nonzero (null e) f = absurd (f e)

  kept : (b : Factors R) → KeepsRuleOver K O n b → Kept K O n b
  kept b h = record {
    below = λ i j o l p. decided (b i j) (h.positive i j (omega arith, p) (o, omega arith));
    under = λ i j o l p. h.down i (suc i) j o l (omega arith) p;
  }

  kept-exchanged : (b : Factors R) → KeepsRuleOver K O n b → Kept K O n (exchanged b)
  kept-exchanged b h = kept (exchanged b) (rule-exchanged Pos (λ x. x ≡ 𝟘) n b h)

  kept-banded : (b : Factors R) → ((i : ℕ) → In n i → Pos (b i i)) → Kept K O n b → Kept K O n (exchanged b) → BandedOver K O n b
  kept-banded b on lower upper =
      banded-next Pos (λ x. x ≡ 𝟘) n b on others lower.under (λ i j o l p. upper.under j i o l p)
    where
      others : (i j : ℕ) → In n i → In n j → (b i j ≡ 𝟘 → ⊥) → Pos (b i j)
      others i j x y f = elim (ℕ_discrete i j) [
        | yes e ↦ subst (λ m. Pos (b i m)) e (on i x)
        | no e ↦ elim (dec_le j i) [
          | yes l ↦ nonzero (lower.below i j y.0 (omega arith) x.1) f
          | no l ↦ nonzero (upper.below j i x.0 (omega arith) y.1) f
        ]
      ]

  -- ONE TABLE
  pub tables-unique : (b c : Factors R) → KeepsRuleOver K O n b → BandedOver K O n c → Equal K n (multiplied K O n b) (multiplied K O n c)
      → (i j : ℕ) → In n i → In n j → b i j ≡ c i j
  tables-unique b c hb hc e i j p q = elim (ℕ_discrete i j) [
    | yes z ↦
        ap (b i) (sym z) ∙ diagonal-unique K O n b c (λ i. b i i) (λ i. c i i) (multiplied K O n c) rb (multiplied-reduces c) (kept b hb)
        (kept c hc.rule) hc.diagonal i p ∙ ap (c i) z
    | no z ↦ elim (dec_le j i) [
      | yes l ↦
          kept-unique K O n b c (λ i. b i i) (λ i. c i i) (multiplied K O n c) rb (multiplied-reduces c) (kept b hb) (kept c hc.rule) hc.diagonal i j
          q.0 (omega arith) p.1
      | no l ↦
          kept-unique K O n (exchanged b) (exchanged c) (λ i. b i i) (λ i. c i i) (λ i j. multiplied K O n c j i) rb' (transpose-reduces c)
          (kept-exchanged b hb) (kept-exchanged c hc.rule) hc.diagonal j i p.0 (omega arith) q.1
    ]
  ]
    where
      rb : Reduces K O n b (λ i. b i i) (multiplied K O n c)
      rb = reduces-of b (λ i. b i i) (multiplied K O n b) (multiplied K O n c) e (multiplied-reduces b)

      rb' : Reduces K O n (exchanged b) (λ i. b i i) (λ i j. multiplied K O n c j i)
      rb' = reduces-of (exchanged b) (λ i. b i i) (λ i j. multiplied K O n b j i) (λ i j. multiplied K O n c j i) (λ i j x y. e j i y x) (transpose-reduces b)

  -- a matrix and its transpose, what is known of their zeros, the sets R, and factors by the rule
  module _ (M : Matrix K) (Z : Zeroed K O n M) (Z' : Zeroed K O n (λ i j. M j i)) (C C' : ℕ → ℕ → RowSet)
      (highest : (i j : ℕ) → 1 ≤ j → j ≤ i → i ≤ n → Highest n Z.Rel Z.closed Z.whole i j (C i j))
      (highest' : (i j : ℕ) → 1 ≤ j → j ≤ i → i ≤ n → Highest n Z'.Rel Z'.closed Z'.whole i j (C' i j))
      (b : Factors R)
      (below : (i j : ℕ) → 1 ≤ j → j < i → i ≤ n → ByRule K O n M C b i j)
      (above : (i j : ℕ) → 1 ≤ j → j < i → i ≤ n → ByRule K O n (λ i j. M j i) C' (exchanged b) i j)
      (on : (i : ℕ) → In n i → value_of K O n M C i i ≡ b i i)
      (on' : (i : ℕ) → In n i → value_of K O n (λ i j. M j i) C' i i ≡ b i i) where
    -- THEY ARE ACCEPTED
    pub factors-banded : BandedOver K O n b
    factors-banded = kept-banded b (λ i p. subst Pos (on i p) (diagonal-positive K O n M Z C highest b below i p))
        (rule-kept K O n M Z C highest b below) (rule-kept K O n (λ i j. M j i) Z' C' highest' (exchanged b) above)

    -- THEY MULTIPLY OUT TO THE MATRIX
    pub factors-multiplied : Equal K n (multiplied K O n b) M
    factors-multiplied = reduced-equal K O n b (exchanged b) (λ i. b i i) (multiplied K O n b) M
        (multiplied-reduces b) (reduces-to b _ _ M on (rule-reduces K O n M Z C highest b below))
        (transpose-reduces b) (reduces-to (exchanged b) _ _ (λ i j. M j i) on' (rule-reduces K O n (λ i j. M j i) Z' C' highest' (exchanged b) above))

    -- AND NO OTHERS DO that keep the rule for zeros
    pub factors-unique : (c : Factors R) → KeepsRuleOver K O n c → Equal K n (multiplied K O n c) M → (i j : ℕ) → In n i → In n j → c i j ≡ b i j
    factors-unique c h e = tables-unique c b h factors-banded (λ i j x y. e i j x y ∙ sym (factors-multiplied i j x y))
