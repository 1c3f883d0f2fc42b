-- EVERY READING STAYS AS IT WAS before zeros were, but that of a zero off the diagonal (`read-before`); so does each that was accepted (`accepted-before`),
-- of which every factor is a stored number (`old-stored`).
-- Up to the first code of zero both readings take the same factors, none of them zero, so that no code is behind a zero in its line (`same-judged`). That code
-- is 6 in document 01, and still so on the diagonal (`diagonal-judged`).
use Prim.Native.Nat.{ℕ, zero, suc, ◌+◌, ◌-◌, ◌*◌, ◌/◌, ◌%◌, ◌<◌, ◌≤◌}
use native.Mathlib.Decide.{ℕ_discrete, dec_lt}
use native.Mathlib.Omega.{arith}
use mathlib.Core.Path.{◌≡◌, refl, sym, ap, ◌∙◌}
use mathlib.Core.Bool.{Bool, true, false, cond}
use mathlib.Core.List.{List, [], ◌∷◌, ◌++◌}
use lib.ListN.{length, get_or, length-append}
use lib.Dec.{ltb, eqb}
use borrow.Author.Tests.{ltb-false, eqb-false, eq-eqb, ne_eqb}
use Rattle.number.specs.declared.Number.{Number}
use Rattle.number.specs.Number.{zero_number, Stored}
use Rattle.table.specs.Table.{square_of}
use Rattle.table.proofs.RowByRow.{square-below}
use Rattle.std.specs.Prelude.{Ok, Err}
use Rattle.verdict.specs.declared.Reason.TheVariants as reason
use Rattle.reader.specs.Matrix.{Item, item, item_at, before_in_line, CodeVerdict, judged_code, Factor, factor, mantissa_at, judged_by}
use Rattle.reader.specs.Matrix.{factor_by_item, factor_at, Reading, matrix, fault, wrong_size, on_factor, factors_from, matrix_by, matrix_of}
use Rattle.reader.specs.Faults.{next_row, next_column, FactorsTo, none, more}
use Rattle.reader.specs.Before.{old_judged, old_factor_by, old_factors_from, old_reading_by, old_reading, ReadAsBefore, same, was-six, OldRead}
use Rattle.reader.proofs.OneFactor.{mantissa-taken}
use Rattle.reader.proofs.Continued.{row-above, column-left, before-below, before_above}

-- every number of a list in P
abbrev Every : (Number → Type 0) → List Number → Type 0
Every P L = (k : ℕ) → k < length L → P (get_or L k zero_number)

every_more : (P : Number → Type 0) (L : List Number) (a : Number) → Every P L → P a → Every P (L ++ (a ∷ []))
every_more P [] a h g zero l = g
every_more P [] a h g (suc k) l = absurd (omega arith)
every_more P (x ∷ L) a h g zero l = h 0 (omega arith)
every_more P (x ∷ L) a h g (suc k) l = every_more P L a (λ k l. h (suc k) (omega arith)) g k (omega arith)

-- no number of a list is zero
abbrev NotZero : Number → Type 0
NotZero a = a.m ≡ 0 → ⊥

abbrev Nonzero : List Number → Type 0
Nonzero = Every NotZero

-- a factor whose code is not 0 is not zero
factor-nonzero : (s : List ℕ) (p code : ℕ) → (code ≡ 0 → ⊥) → (a : Number) (q : ℕ) → mantissa_at s p code ≡ factor a q → a.m ≡ 0 → ⊥
factor-nonzero s p code h a q e z =
    let m = mantissa-taken s p code a q h e in
    omega (arith, ap (λ (x : Number). x.m) m.made)

module _ (n : ℕ) (some : 0 < n) (front : List Number) where
  -- behind factors none of which is zero the one just before in its line is not
  before-nonzero : Nonzero front → (next_row n front ≡ next_column n front → ⊥)
      → (before_in_line (square_of n front) (next_row n front) (next_column n front)).m ≡ 0 → ⊥
  before-nonzero h off z =
      let k = length front in
      elim (dec_lt (k % n) (k / n)) [
        | yes l ↦ h (k - n) (omega (arith, row-above n k l)) (sym (ap (λ (a : Number). a.m) (before-below n k front l)) ∙ z)
        | no l ↦
            let g : k / n < k % n = omega arith in
            h (k - 1) (omega (arith, column-left n k g)) (sym (ap (λ (a : Number). a.m) (before_above n k front g)) ∙ z)
      ]

  -- THE SAME VERDICT on every code but that of zero, and on that on the diagonal
  same-judged : Nonzero front → (code : ℕ) → (code ≡ 0 → ⊥) → judged_code n front code ≡ old_judged code
  unfolding judged_code
  same-judged h code g =
      elim (ℕ_discrete (next_row n front) (next_column n front)) [
        | yes e ↦ simp (ne_eqb code 0 g, eq-eqb (next_row n front) (next_column n front) e)
        | no e ↦ simp (ne_eqb code 0 g, ne_eqb (next_row n front) (next_column n front) e, ne_eqb _ 0 (before-nonzero h e))
      ]

  diagonal-judged : next_row n front ≡ next_column n front → judged_code n front 0 ≡ Err reason.FactorZero
  unfolding judged_code
  diagonal-judged e = simp (eq-eqb (next_row n front) (next_column n front) e)

-- BOTH READINGS, from the factors in front on
module _ (s : List ℕ) where
  module _ (n begin : ℕ) (rows : item_at s 0 ≡ item n begin) (some : 0 < n) (few : n ≤ 8) where
    module _ (c : ℕ) (front : List Number) (p : ℕ) (taken : FactorsTo s n begin front p) (whole : Nonzero front) (left : length front + suc c ≡ n * n)
        (behind : (a : Number) (q : ℕ) → FactorsTo s n begin (front ++ (a ∷ [])) q → (a.m ≡ 0 → ⊥)
        → ReadAsBefore s (factors_from s n (front ++ (a ∷ [])) c q) (old_factors_from s n (front ++ (a ∷ [])) c q)) where
      abbrev new : Factor → Reading
      new = on_factor (λ a q. factors_from s n (front ++ (a ∷ [])) c q)

      abbrev old : Factor → Reading
      old = on_factor (λ a q. old_factors_from s n (front ++ (a ∷ [])) c q)

      by-factor : (w : Factor) → factor_at s n front p ≡ w → ((a : Number) (q : ℕ) → w ≡ factor a q → a.m ≡ 0 → ⊥) → ReadAsBefore s (new w) (old w)
      by-factor (Ok r) e h = behind r.value r.next (more r.value r.next taken e) (h r.value r.next refl)
      by-factor (Err v) e h = same refl

      by_code : (code q : ℕ) → (code ≡ 0 → ⊥) → (v : CodeVerdict) → factor_at s n front p ≡ judged_by p (mantissa_at s q code) v
          → ReadAsBefore s (new (judged_by p (mantissa_at s q code) v)) (old (judged_by p (mantissa_at s q code) v))
      by_code code q h (Ok tt) f = by-factor (mantissa_at s q code) f (λ a r. factor-nonzero s q code h a r)
      by_code code q h (Err k) f = same refl

      by_zero : (q : ℕ) → item_at s p ≡ item 0 q → ReadAsBefore s (new (judged_by p (mantissa_at s q 0) (judged_code n front 0))) (fault reason.FactorZero p)
      by_zero q e =
          elim (ℕ_discrete (next_row n front) (next_column n front)) [
            | yes d ↦ same (ap (λ (v : CodeVerdict). new (judged_by p (mantissa_at s q 0) v)) (diagonal-judged n some front d))
            | no d ↦
                was-six p refl
                (record {
                  n = n;
                  front = front;
                  at = record { begin = begin; next = q; rows = rows; some = some; few = few; taken = taken; left = omega arith; stands = e };
                  off = d;
                })
          ]

      by-value : (code q : ℕ) → item_at s p ≡ item code q
          → ReadAsBefore s (new (judged_by p (mantissa_at s q code) (judged_code n front code))) (old (judged_by p (mantissa_at s q code) (old_judged code)))
      unfolding factor_at
      by-value zero q e = by_zero q e
      by-value (suc k) q e =
          let code : ℕ = suc k in
          let h : code ≡ 0 → ⊥ = λ z. omega arith in
          let d = same-judged n some front whole code h in
          rw d (by_code code q h (old_judged code) (rw e (ap (judged_by p (mantissa_at s q code)) d)))

      by-item : (w : Item) → item_at s p ≡ w → ReadAsBefore s (new (factor_by_item s n front p w)) (old (old_factor_by s p w))
      by-item (Ok i) e = by-value i.value i.next e
      by-item (Err w) e = same refl

    from_front : (c : ℕ) (front : List Number) (p : ℕ) → FactorsTo s n begin front p → Nonzero front → length front + c ≡ n * n
        → ReadAsBefore s (factors_from s n front c p) (old_factors_from s n front c p)
    unfolding factors_from old_factors_from factor_at
    from_front zero front p t h l = same refl
    from_front (suc c) front p t h l =
        by-item c front p t h l
        (λ a q u g. from_front c (front ++ (a ∷ [])) q u (every_more NotZero front a h g) (omega (arith, length-append front (a ∷ [])))) (item_at s p) refl

  by_rows : (n begin : ℕ) → item_at s 0 ≡ item n begin → (t u : Bool) → ltb n 1 ≡ t → ltb 8 n ≡ u
      → ReadAsBefore s (cond t wrong_size (cond u wrong_size (factors_from s n [] (n * n) begin)))
      (cond t wrong_size (cond u wrong_size (old_factors_from s n [] (n * n) begin)))
  by_rows n begin e true u a b = same refl
  by_rows n begin e false true a b = same refl
  by_rows n begin e false false a b =
      from_front n begin e (ltb-false n 1 a) (ltb-false 8 n b) (n * n) [] begin none (λ k l. absurd (omega arith)) (omega arith)

  from_start : (w : Item) → item_at s 0 ≡ w → ReadAsBefore s (matrix_by s w) (old_reading_by s w)
  from_start (Ok i) e = by_rows i.value i.next e (ltb i.value 1) (ltb 8 i.value) refl refl
  from_start (Err w) e = same refl

  -- EVERY READING STAYS, but that of a zero off the diagonal
  pub read-before : ReadAsBefore s (matrix_of s) (old_reading s)
  unfolding matrix_of old_reading
  read-before = from_start (item_at s 0) refl

  pub accepted-before : (n : ℕ) (L : List Number) (q : ℕ) → old_reading s ≡ matrix n L q → matrix_of s ≡ matrix n L q
  accepted-before n L q e = by read-before
    where
      by : ReadAsBefore s (matrix_of s) (old_reading s) → matrix_of s ≡ matrix n L q
      by (same f) = f ∙ e
      by (was-six o f z) = absurd (cc)

-- WHAT DOCUMENT 01 TOOK: stored numbers alone
module _ (s : List ℕ) where
  mantissa-stored : (code p q : ℕ) (a : Number) → (code ≡ 0 → ⊥) → code ≤ 2001 → mantissa_at s p code ≡ factor a q → Stored a
  mantissa-stored code p q a some few f =
      let m = mantissa-taken s p code a q some f in
      rw (← m.made) (record { low = omega arith; high = omega (arith, m.small); start = omega arith; stop = omega arith })

  module _ (p q : ℕ) (a : Number) where
    by-verdict : (code r : ℕ) (t u : Bool) → ltb 2001 code ≡ t → eqb code 0 ≡ u
        → judged_by p (mantissa_at s r code) (cond t (Err reason.FactorOutOfRange) (cond u (Err reason.FactorZero) (Ok tt))) ≡ factor a q → Stored a
    by-verdict code r true u e d f = absurd (cc)
    by-verdict code r false true e d f = absurd (cc)
    by-verdict code r false false e d f = mantissa-stored code r q a (eqb-false code 0 d) (ltb-false 2001 code e) f

    factor-stored : (w : Item) → old_factor_by s p w ≡ factor a q → Stored a
    factor-stored (Ok i) f = by-verdict i.value i.next (ltb 2001 i.value) (eqb i.value 0) refl refl f
    factor-stored (Err w) f = absurd (cc)

  -- factors that were read, behind others, to a count: stored ones, of as many rows as were said
  record OldRows (n count : ℕ) (L : List Number) (m : ℕ) : Type 0 where
    rows : m ≡ n
    square : length L ≡ count
    stored : Every Stored L

  module _ (n m : ℕ) (L : List Number) (q : ℕ) where
    stored-first : (c : ℕ) (front : List Number) (p : ℕ)
        → ((a : Number) (r : ℕ) → Stored a → old_factors_from s n (front ++ (a ∷ [])) c r ≡ matrix m L q → OldRows n (length front + suc c) L m)
        → (w : Factor) → old_factor_by s p (item_at s p) ≡ w → on_factor (λ a r. old_factors_from s n (front ++ (a ∷ [])) c r) w ≡ matrix m L q
        → OldRows n (length front + suc c) L m
    stored-first c front p behind (Ok r) e f = behind r.value r.next (factor-stored p r.next r.value (item_at s p) e) f
    stored-first c front p behind (Err w) e f = absurd (cc)

    stored-from : (c : ℕ) (front : List Number) (p : ℕ) → Every Stored front → old_factors_from s n front c p ≡ matrix m L q → OldRows n (length front + c) L m
    unfolding old_factors_from
    stored-from zero front p h f =
        let em : m ≡ n = cc in
        let el : L ≡ front = cc in
        record { rows = em; square = rw el (omega arith); stored = rw el h }
    stored-from (suc c) front p h f =
        stored-first c front p
        (λ a r g e.
        let i = stored-from c (front ++ (a ∷ [])) r (every_more Stored front a h g) e in
        record { rows = i.rows; square = i.square ∙ omega (arith, length-append front (a ∷ [])); stored = i.stored })
        (old_factor_by s p (item_at s p)) refl f

  module _ (n : ℕ) (L : List Number) (q : ℕ) where
    stored-rows : (v r : ℕ) (t u : Bool) → ltb 8 v ≡ u
        → cond t wrong_size (cond u wrong_size (old_factors_from s v [] (v * v) r)) ≡ matrix n L q → OldRead n L
    unfolding square_of
    stored-rows v r true u e f = absurd (cc)
    stored-rows v r false true e f = absurd (cc)
    stored-rows v r false false e f =
        let g = stored-from v n L q (v * v) [] r (λ k l. absurd (omega arith)) f in
        rw g.rows
        (record {
          few = ltb-false 8 v e;
          stored = λ i j x y. g.stored ((i - 1) * v + (j - 1)) (omega (arith, g.square, square-below v (i - 1) (j - 1) (omega arith) (omega arith)));
        })

    stored-item : (w : Item) → old_reading_by s w ≡ matrix n L q → OldRead n L
    stored-item (Ok i) f = stored-rows i.value i.next (ltb i.value 1) (ltb 8 i.value) refl f
    stored-item (Err w) f = absurd (cc)

    pub old-stored : old_reading s ≡ matrix n L q → OldRead n L
    unfolding old_reading
    old-stored = stored-item (item_at s 0)
