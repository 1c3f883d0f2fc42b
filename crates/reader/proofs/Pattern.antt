-- THE PATTERN OF ZEROS, A FACTOR AT A TIME. What may stand behind others in its line (`Follows`): accepted factors are those each of which does
-- (`banded-follows`, `follows-banded`). Which exponent codes are taken there (`Taken`): those that are judged so (`judged-taken`, `judged-only`), and those of
-- the numbers that may stand there (`stored-taken`, `zero-taken`, `taken-stored`, `taken-zero`).
use Prim.Native.Nat.{ℕ, suc, ◌-◌, ◌<◌, ◌≤◌}
use native.Mathlib.Decide.{ℕ_discrete, dec_lt}
use native.Mathlib.Omega.{arith}
use mathlib.Core.Path.{◌≡◌, refl, ap, subst, ◌∙◌}
use mathlib.Core.Bool.{Bool, true, false, not, cond, ◌&&◌}
use lib.Dec.{ltb, eqb}
use borrow.Author.Tests.{lt-ltb, le-ltb, ltb-false, eq-eqb, ne_eqb, eqb-true, eqb-false}
use Rattle.number.specs.declared.Number.{Number}
use Rattle.number.specs.Number.{zero_number, Stored}
use Rattle.words.specs.Word.{Factors}
use Rattle.words.specs.RowSet.{In}
use Rattle.words.specs.Sources.{BandedNumbers}
use Rattle.words.proofs.Banded.{StoredOrZero, stored, zero, stored-nonzero, banded-next, banded-decided, below-zero, above_zero}
use Rattle.writer.specs.Encoding.{exponent_code}
use Rattle.std.specs.Prelude.{Ok, Err}
use Rattle.verdict.specs.declared.Reason.TheVariants as reason
use Rattle.reader.specs.Matrix.{CodeVerdict, before_in_line, judged_at}

-- a number that is stored or zero, by its mantissa
by-mantissa : {a : Number} → StoredOrZero a → a.m ≡ 0 → a ≡ zero_number
by-mantissa (stored s) z = absurd (omega (arith, s.low))
by-mantissa (zero e) z = e

unless-zero : {a : Number} → StoredOrZero a → (a ≡ zero_number → ⊥) → Stored a
unless-zero (stored s) h = s
unless-zero (zero e) h = absurd (h e)

-- the verdict on a code, by its tests: above 2001, on the diagonal, that of zero, and behind a zero in its line
abbrev pub tested : (large on blank behind : Bool) → CodeVerdict
tested large on blank behind =
    cond large (Err reason.FactorOutOfRange)
    (cond on (cond blank (Err reason.FactorZero) (Ok tt)) (cond (not blank && behind) (Err reason.PatternBroken) (Ok tt)))

module _ (b : Factors Number) where
  pub just-above : (i j : ℕ) → j < i → before_in_line b i j ≡ b (i - 1) j
  just-above i j h = simp (lt-ltb j i h)

  pub just-left : (i j : ℕ) → i < j → before_in_line b i j ≡ b i (j - 1)
  just-left i j h = simp (le-ltb j i (omega arith))

  -- what may stand in row i and column j: a stored number or, off the diagonal, zero; and nothing but zero just behind a zero in its line
  pub record Follows (i j : ℕ) (a : Number) : Type 0 where
    pub decided : StoredOrZero a
    pub on : i ≡ j → Stored a
    pub off : (i ≡ j → ⊥) → (before_in_line b i j).m ≡ 0 → a ≡ zero_number

  -- ACCEPTED FACTORS
  pub banded-follows : (n : ℕ) → BandedNumbers n b → (i j : ℕ) → In n i → In n j → Follows i j (b i j)
  banded-follows n h i j x y =
      record {
        decided = banded-decided n b h i j x y;
        on = λ e. subst (λ c. Stored (b i c)) e (h.diagonal i x);
        off = λ e z.
            elim (dec_lt j i) [
              | yes l ↦
                  below-zero n b h i j y.0 l x.1
                  (by-mantissa (banded-decided n b h (i - 1) j (omega arith, omega arith) y) (rw (just-above i j l) at z))
              | no l ↦
                  above_zero n b h i j x.0 (omega arith) y.1
                  (by-mantissa (banded-decided n b h i (j - 1) x (omega arith, omega arith)) (rw (just-left i j (omega arith)) at z))
            ];
      }

  pub follows-banded : (n : ℕ) → ((i j : ℕ) → In n i → In n j → Follows i j (b i j)) → BandedNumbers n b
  follows-banded n f =
      banded-next Stored (λ a. a ≡ zero_number) n b (λ i x. (f i i x x).on refl) (λ i j x y h. unless-zero (f i j x y).decided h)
      (λ i j low less few z.
      let e : suc i - 1 ≡ i = omega arith in
      (f (suc i) j (omega arith, few) (low, omega arith)).off (λ q. omega arith)
      (ap (λ (a : Number). a.m) (just-above (suc i) j (omega arith) ∙ ap (λ (r : ℕ). b r j) e ∙ z)))
      (λ i j low less few z.
      let e : suc j - 1 ≡ j = omega arith in
      (f i (suc j) (low, omega arith) (omega arith, few)).off (λ q. omega arith)
      (ap (λ (a : Number). a.m) (just-left i (suc j) (omega arith) ∙ ap (b i) e ∙ z)))

  -- CODES
  module _ (i j : ℕ) where
    -- which are taken
    pub record Taken (code : ℕ) : Type 0 where
      pub few : code ≤ 2001
      pub on : i ≡ j → code ≡ 0 → ⊥
      pub off : (i ≡ j → ⊥) → (before_in_line b i j).m ≡ 0 → code ≡ 0

    pub judged-taken : (code : ℕ) → Taken code → judged_at b i j code ≡ Ok tt
    judged-taken code t =
        elim (ℕ_discrete i j) [
          | yes e ↦ simp (le-ltb 2001 code t.few, eq-eqb i j e, ne_eqb code 0 (t.on e))
          | no e ↦
              elim (ℕ_discrete code 0) [
                | yes z ↦ simp (le-ltb 2001 code t.few, ne_eqb i j e, eq-eqb code 0 z)
                | no z ↦ simp (le-ltb 2001 code t.few, ne_eqb i j e, ne_eqb code 0 z, ne_eqb (before_in_line b i j).m 0 (λ w. z (t.off e w)))
              ]
        ]

    judged-by : (code : ℕ) (t u v w : Bool) → ltb 2001 code ≡ t → eqb i j ≡ u → eqb code 0 ≡ v → eqb (before_in_line b i j).m 0 ≡ w
        → tested t u v w ≡ Ok tt → Taken code
    judged-by code true u v w p q r s f = absurd (cc)
    judged-by code false true true w p q r s f = absurd (cc)
    judged-by code false true false w p q r s f =
        record { few = ltb-false 2001 code p; on = λ e. eqb-false code 0 r; off = λ h. absurd (h (eqb-true i j q)) }
    judged-by code false false true w p q r s f =
        record { few = ltb-false 2001 code p; on = λ e. absurd (eqb-false i j q e); off = λ h z. eqb-true code 0 r }
    judged-by code false false false true p q r s f = absurd (cc)
    judged-by code false false false false p q r s f =
        record { few = ltb-false 2001 code p; on = λ e. absurd (eqb-false i j q e); off = λ h z. absurd (eqb-false _ 0 s z) }

    pub judged-only : (code : ℕ) → judged_at b i j code ≡ Ok tt → Taken code
    judged-only code f = judged-by code (ltb 2001 code) (eqb i j) (eqb code 0) (eqb (before_in_line b i j).m 0) refl refl refl refl f

    -- of the numbers that may stand there
    pub stored-taken : (a : Number) → Stored a → Follows i j a → Taken (exponent_code a)
    stored-taken a s h =
        record { few = omega (arith, s.stop); on = λ e z. omega (arith, s.start); off = λ e z. absurd (stored-nonzero a s (h.off e z)) }

    pub zero-taken : Follows i j zero_number → Taken 0
    zero-taken h = record { few = omega arith; on = λ e z. stored-nonzero zero_number (h.on e) refl; off = λ e z. refl }

    pub taken-stored : (code : ℕ) (a : Number) → 0 < code → Stored a → Taken code → Follows i j a
    taken-stored code a g s t = record { decided = stored s; on = λ e. s; off = λ e z. absurd (omega (arith, t.off e z)) }

    pub taken-zero : Taken 0 → Follows i j zero_number
    taken-zero t = record { decided = zero refl; on = λ e. absurd (t.on e refl); off = λ e z. refl }

pub follows_same : (b c : Factors Number) (i j : ℕ) (a : Number) → ((i ≡ j → ⊥) → before_in_line b i j ≡ before_in_line c i j) → Follows b i j a
    → Follows c i j a
follows_same b c i j a same f =
    record { decided = f.decided; on = f.on; off = λ e z. f.off e (ap (λ (x : Number). x.m) (same e) ∙ z) }
