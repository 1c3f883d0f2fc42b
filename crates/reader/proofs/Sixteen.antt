-- 6 AND 16 END A READING EXACTLY WHERE DOCUMENT 02 SAYS (`six`, `sixteen`). The judge asks whether the factor just before in its line is zero. What was taken
-- before has only zeros behind an off-diagonal zero, so that is the same as whether such a zero stands before it in its line at all (`behind-just`,
-- `just_behind`).
use Prim.Native.Nat.{ℕ, zero, suc, ◌+◌, ◌-◌, ◌*◌, ◌/◌, ◌%◌, ◌<◌, ◌≤◌}
use native.Mathlib.Nat.{div-add-mod', mod-lt, mul-le-mul_right}
use native.Mathlib.Decide.{ℕ_discrete, dec_lt}
use native.Mathlib.Omega.{arith}
use mathlib.Core.Path.{◌≡◌, refl, sym, ap, ◌∙◌, subst}
use mathlib.Core.Logic.{◌↔◌}
use mathlib.Core.Bool.{Bool, true, false}
use mathlib.Core.List.{List, []}
use lib.ListN.{length}
use lib.Dec.{ltb, eqb}
use borrow.Author.Tests.{le-ltb, ltb-false, eq-eqb, ne_eqb, eqb-true, eqb-false}
use Rattle.group.specs.Group.{Bytes}
use Rattle.number.specs.declared.Number.{Number}
use Rattle.words.specs.Word.{Factors}
use Rattle.words.specs.RowSet.{In}
use Rattle.table.specs.Table.{square_of}
use Rattle.std.specs.Prelude.{Err}
use Rattle.verdict.specs.declared.Reason.TheVariants as reason
use Rattle.reader.specs.Matrix.{before_in_line, judged_at, judged_code, fault, matrix_of}
use Rattle.reader.specs.Faults.{next_row, next_column, CodeAt, BehindZero, column, row, ZeroOnDiagonal, BreaksPattern}
use Rattle.reader.proofs.Pattern.{tested, just-above, just-left, Follows}
use Rattle.reader.proofs.Continued.{Continued, continued-follows}
use Rattle.reader.proofs.Faults.{taken-continued, code-fault, fault-code}

-- THE VERDICT, by its tests
module _ (b : Factors Number) (i j code : ℕ) where
  verdict-six : (t u v w : Bool) → tested t u v w ≡ Err reason.FactorZero → (u ≡ true) × (v ≡ true)
  verdict-six true u v w f = absurd (cc)
  verdict-six false true true w f = (refl, refl)
  verdict-six false true false w f = absurd (cc)
  verdict-six false false true w f = absurd (cc)
  verdict-six false false false true f = absurd (cc)
  verdict-six false false false false f = absurd (cc)

  verdict-sixteen : (t u v w : Bool) → tested t u v w ≡ Err reason.PatternBroken → (t ≡ false) × (u ≡ false) × (v ≡ false) × (w ≡ true)
  verdict-sixteen true u v w f = absurd (cc)
  verdict-sixteen false true true w f = absurd (cc)
  verdict-sixteen false true false w f = absurd (cc)
  verdict-sixteen false false true w f = absurd (cc)
  verdict-sixteen false false false false f = absurd (cc)
  verdict-sixteen false false false true f = (refl, refl, refl, refl)

  judged-six : (judged_at b i j code ≡ Err reason.FactorZero) ↔ ((i ≡ j) × (code ≡ 0))
  judged-six = (
    λ f.
        let h = verdict-six (ltb 2001 code) (eqb i j) (eqb code 0) (eqb (before_in_line b i j).m 0) f in
        (eqb-true i j h.0, eqb-true code 0 h.1),
    λ h. let z : code ≤ 2001 = omega (arith, h.1) in simp (le-ltb 2001 code z, eq-eqb i j h.0, eq-eqb code 0 h.1),
  )

  judged-sixteen : (judged_at b i j code ≡ Err reason.PatternBroken) ↔ ((code ≤ 2001) × (i ≡ j → ⊥) × (code ≡ 0 → ⊥) × ((before_in_line b i j).m ≡ 0))
  judged-sixteen = (
    λ f.
        let h = verdict-sixteen (ltb 2001 code) (eqb i j) (eqb code 0) (eqb (before_in_line b i j).m 0) f in
        (ltb-false 2001 code h.0, eqb-false i j h.1, eqb-false code 0 h.2, eqb-true _ 0 h.3),
    λ h. simp (le-ltb 2001 code h.0, ne_eqb i j h.1, ne_eqb code 0 h.2, eq-eqb (before_in_line b i j).m 0 h.3),
  )

-- THE LINE of row i and column j, whose factors before these were taken
module _ (b : Factors Number) (i j : ℕ) (above : (r : ℕ) → j ≤ r → r < i → Follows b r j (b r j)) (left : (c : ℕ) → i ≤ c → c < j → Follows b i c (b i c)) where
  -- behind a zero all are zero, f factors on
  down : (f r : ℕ) → j < r → f + r < i → (b r j).m ≡ 0 → (b (f + r) j).m ≡ 0
  down zero r l h z =
      let e : zero + r ≡ r = omega arith in
      ap (λ (k : ℕ). (b k j).m) e ∙ z
  down (suc f) r l h z =
      let y : (b (f + r) j).m ≡ 0 = down f r l (omega arith) z in
      let e : suc f + r - 1 ≡ f + r = omega arith in
      ap (λ (a : Number). a.m)
      ((above (suc f + r) (omega arith) h).off (λ q. omega arith)
      (ap (λ (a : Number). a.m) (just-above b (suc f + r) j (omega arith) ∙ ap (λ (k : ℕ). b k j) e) ∙ y))

  along : (f c : ℕ) → i < c → f + c < j → (b i c).m ≡ 0 → (b i (f + c)).m ≡ 0
  along zero c l h z =
      let e : zero + c ≡ c = omega arith in
      ap (λ (k : ℕ). (b i k).m) e ∙ z
  along (suc f) c l h z =
      let y : (b i (f + c)).m ≡ 0 = along f c l (omega arith) z in
      let e : suc f + c - 1 ≡ f + c = omega arith in
      ap (λ (a : Number). a.m)
      ((left (suc f + c) (omega arith) h).off (λ q. omega arith)
      (ap (λ (a : Number). a.m) (just-left b i (suc f + c) (omega arith) ∙ ap (b i) e) ∙ y))

  -- so behind a zero is just behind one
  behind-just : BehindZero b i j → (before_in_line b i j).m ≡ 0
  behind-just (column r l h z) =
      let e : i - 1 - r + r ≡ i - 1 = omega arith in
      ap (λ (a : Number). a.m) (just-above b i j (omega arith) ∙ ap (λ (k : ℕ). b k j) (sym e)) ∙ down (i - 1 - r) r l (omega arith) z
  behind-just (row c l h z) =
      let e : j - 1 - c + c ≡ j - 1 = omega arith in
      ap (λ (a : Number). a.m) (just-left b i j (omega arith) ∙ ap (b i) (sym e)) ∙ along (j - 1 - c) c l (omega arith) z

  just_behind : (i ≡ j → ⊥) → 1 ≤ i → 1 ≤ j → (before_in_line b i j).m ≡ 0 → BehindZero b i j
  just_behind off p q z = elim (dec_lt j i) [
    | yes l ↦
        let y : (b (i - 1) j).m ≡ 0 = sym (ap (λ (a : Number). a.m) (just-above b i j l)) ∙ z in
        elim (ℕ_discrete (i - 1) j) [
          | yes e ↦ absurd (let s = (above (i - 1) (omega arith) (omega arith)).on e in omega (arith, s.low, y))
          | no e ↦ column (i - 1) (omega arith) (omega arith) y
        ]
    | no l ↦
        let y : (b i (j - 1)).m ≡ 0 = sym (ap (λ (a : Number). a.m) (just-left b i j (omega arith))) ∙ z in
        elim (ℕ_discrete i (j - 1)) [
          | yes e ↦ absurd (let s = (left (j - 1) (omega arith) (omega arith)).on e in omega (arith, s.low, y))
          | no e ↦ row (j - 1) (omega arith) (omega arith) y
        ]
  ]

-- no such zero stands before the diagonal
off-diagonal : (b : Factors Number) (i j : ℕ) → BehindZero b i j → i ≡ j → ⊥
off-diagonal b i j (column r l h z) e = omega arith
off-diagonal b i j (row c l h z) e = omega arith

-- the number of a factor in a row before that of number k, and of one further left in its row
row_before : (n k q c : ℕ) → q < k / n → c < n → q * n + c < k
row_before n k q c h g =
    let l : suc q ≤ k / n = omega arith in
    omega (arith, mul-le-mul_right n l, div-add-mod' k n)

column-before : (n k c : ℕ) → c < k % n → (suc (k / n) - 1) * n + c < k
column-before n k c h =
    let e : suc (k / n) - 1 ≡ k / n = omega arith in
    rw e (omega (arith, div-add-mod' k n))

code-six : (n : ℕ) (front : List Number) (code : ℕ)
    → (judged_code n front code ≡ Err reason.FactorZero) ↔ ((next_row n front ≡ next_column n front) × (code ≡ 0))
unfolding judged_code
code-six n front code = judged-six (square_of n front) (next_row n front) (next_column n front) code

-- THE FACTORS BEFORE A CODE
module _ (n : ℕ) (front : List Number) (some : 0 < n) (taken : Continued n [] front) where
  abbrev b : Factors Number
  b = square_of n front

  abbrev k : ℕ
  k = length front

  column-in : In n (next_column n front)
  column-in = (omega arith, mod-lt k some)

  above : (r : ℕ) → next_column n front ≤ r → r < next_row n front
      → Follows (square_of n front) r (next_column n front) (square_of n front r (next_column n front))
  above r l h =
      continued-follows n some front taken r (next_column n front) (omega arith) column-in
      (row_before n k (r - 1) (next_column n front - 1) (omega arith) (omega (arith, mod-lt k some)))

  left : (c : ℕ) → next_row n front ≤ c → c < next_column n front → Follows (square_of n front) (next_row n front) c (square_of n front (next_row n front) c)
  left c l h =
      continued-follows n some front taken (next_row n front) c (omega arith) (omega arith, omega (arith, mod-lt k some))
      (column-before n k (c - 1) (omega arith))

  code-sixteen : (code : ℕ) → (judged_code n front code ≡ Err reason.PatternBroken)
      ↔ ((code ≤ 2001) × (code ≡ 0 → ⊥) × BehindZero (square_of n front) (next_row n front) (next_column n front))
  unfolding judged_code
  code-sixteen code =
      let i = next_row n front in
      let j = next_column n front in
      let h = judged-sixteen b i j code in (
        λ f. let x = h.0 f in (x.0, x.2, just_behind b i j above left x.1 (omega arith) (omega arith) x.3),
        λ x. h.1 (x.0, off-diagonal b i j x.2, x.1, behind-just b i j above left x.2),
      )

-- 6 FOR THE DIAGONAL ONLY
pub six : (s : List ℕ) (o : ℕ) → (matrix_of s ≡ fault reason.FactorZero o) ↔ ZeroOnDiagonal s o
six s o = (
  λ f.
      let r = fault-code s reason.FactorZero o (omega arith) f in
      let h = (code-six r.n r.front r.code).0 r.judged in
      record { n = r.n; front = r.front; at = subst (CodeAt s r.n r.front o) h.1 r.at; on = h.0 },
  λ z. code-fault s reason.FactorZero o (record { n = z.n; front = z.front; code = 0; at = z.at; judged = (code-six z.n z.front 0).1 (z.on, refl) }),
)

-- 16 BEHIND AN OFF-DIAGONAL ZERO
pub sixteen : (s : List ℕ) → Bytes s → (o : ℕ) → (matrix_of s ≡ fault reason.PatternBroken o) ↔ BreaksPattern s o
sixteen s bs o = (
  λ f.
      let r = fault-code s reason.PatternBroken o (omega arith) f in
      let h = (code-sixteen r.n r.front r.at.some (taken-continued s r.n r.at.begin bs r.at.taken) r.code).0 r.judged in
      record { n = r.n; front = r.front; code = r.code; at = r.at; in-range = h.0; nonzero = h.1; behind = h.2 },
  λ z.
      code-fault s reason.PatternBroken o
      (record {
        n = z.n;
        front = z.front;
        code = z.code;
        at = z.at;
        judged = (code-sixteen z.n z.front z.at.some (taken-continued s z.n z.at.begin bs z.at.taken) z.code).1
            (z.in-range, z.nonzero, z.behind);
      }),
)
