-- WHAT THE TEST OF A SHELF ASKS OF ONE NUMBER. Whether it is stored or zero (`stored_is`, `stored-tested`, `zero_is`, `zero-tested`); behind another in a line
-- (`continued-zero`, `continued-stored`, `continued-tested`); at its row and column (`asked`, `sound-asked`), and where the one before it stands (`back_below`,
-- `back_above`).
use Prim.Native.Nat.{ℕ, suc, ◌+◌, ◌-◌, ◌/◌, ◌%◌, ◌^◌, ◌<◌, ◌≤◌}
use native.Mathlib.Decide.{ℕ_discrete}
use native.Mathlib.Omega.{arith}
use mathlib.Core.Path.{◌≡◌, refl, sym, ap, ap₂, subst, ◌∙◌}
use mathlib.Core.Bool.{Bool, true, false, not, cond, ◌&&◌, ◌||◌, or-true, and-eq-true_iff, false≢true}
use lib.Dec.{leb, ltb, eqb}
use borrow.Author.Tests.{leb-true, le-leb, ltb-true, lt-ltb, le-ltb, eqb-true, eq-eqb, ne_eqb}
use Rattle.number.specs.declared.Number.{Number}
use Rattle.number.specs.Number.{bias, zero_number, in_range, Stored}
use Rattle.number.proofs.Tests.{quotient-of, remainder_of}
use Rattle.words.specs.RowSet.{In}
use Rattle.words.proofs.Banded.{StoredOrZero, stored, zero}
use Rattle.table.specs.Table.{cell_of}
use Rattle.places.specs.Check.{is_stored, is_zero, back, continues, sound}

-- NUMBERS
pub zero_is : (a : Number) → is_zero a ≡ true → a ≡ zero_number
unfolding is_zero
zero_is a e =
    let p = (and-eq-true_iff (eqb a.m 0) (eqb a.x bias)).0 e in
    ap₂ (λ (m x : ℕ). let r : Number = record { m = m; x = x } in r) (eqb-true a.m 0 p.0) (eqb-true a.x bias p.1)

pub zero-tested : is_zero zero_number ≡ true
unfolding is_zero
zero-tested = refl

pub stored_is : (a : Number) → is_stored a ≡ true → Stored a
unfolding is_stored in_range
stored_is a e =
    let p = (and-eq-true_iff (leb (2 ^ 31) a.m) _).0 e in
    let q = (and-eq-true_iff (ltb a.m (2 ^ 32)) _).0 p.1 in
    let r = (and-eq-true_iff (leb bias (a.x + 1000)) _).0 q.1 in
    record {
      low = leb-true (2 ^ 31) a.m p.0;
      high = ltb-true a.m (2 ^ 32) q.0;
      start = leb-true bias (a.x + 1000) r.0;
      stop = leb-true a.x (bias + 1000) r.1;
    }

pub stored-tested : (a : Number) → Stored a → is_stored a ≡ true
unfolding is_stored in_range
stored-tested a h =
    rw (le-leb (2 ^ 31) a.m h.low, lt-ltb a.m (2 ^ 32) h.high, le-leb bias (a.x + 1000) h.start, le-leb a.x (bias + 1000) h.stop)

-- behind x in a line: zero where x is, and stored where it is not zero
module _ (x a : Number) where
  pub continued-zero : continues x a ≡ true → x ≡ zero_number → a ≡ zero_number
  unfolding continues
  continued-zero e z = zero_is a (by (is_zero a) (is_zero x) (subst (λ y. is_zero y ≡ true) (sym z) zero-tested) e)
    where
      by : (t u : Bool) → u ≡ true → t || (not u && is_stored a) ≡ true → t ≡ true
      by true u f g = refl
      by false true f g = absurd (false≢true g)
      by false false f g = absurd (false≢true f)

  pub continued-stored : continues x a ≡ true → (a ≡ zero_number → ⊥) → Stored a
  unfolding continues
  continued-stored e h = by (is_zero a) (is_zero x) refl e
    where
      by : (t u : Bool) → is_zero a ≡ t → t || (not u && is_stored a) ≡ true → Stored a
      by true u f g = absurd (h (zero_is a f))
      by false true f g = absurd (false≢true g)
      by false false f g = stored_is a g

  pub continued-tested : StoredOrZero a → (x ≡ zero_number → a ≡ zero_number) → continues x a ≡ true
  unfolding continues
  continued-tested (zero e) h = ap (λ y. is_zero y || (not (is_zero x) && is_stored y)) e ∙ simp zero-tested
  continued-tested (stored s) h = by (is_zero x) refl
    where
      by : (u : Bool) → is_zero x ≡ u → is_zero a || (not u && is_stored a) ≡ true
      by true f = ap (λ t. t || false) (subst (λ y. is_zero y ≡ true) (sym (h (zero_is x f))) zero-tested)
      by false f = ap (λ t. is_zero a || t) (stored-tested a s) ∙ or-true (is_zero a)

-- WHAT IS ASKED of the number a in row i and column j behind x, in a table of n rows
abbrev pub asked : (n i j : ℕ) (x a : Number) → Bool
asked n i j x a = cond (leb i n && leb j n) (cond (eqb i j) (is_stored a) (continues x a)) (is_zero a)

pub asked-within : (t u : Bool) (a : Number) → cond t u (is_zero a) ≡ true → a ≡ cond t a zero_number
asked-within true u a e = refl
asked-within false u a e = zero_is a e

pub asked-off : (n i j : ℕ) (x a : Number) → i ≤ n → j ≤ n → (i ≡ j → ⊥) → asked n i j x a ≡ continues x a
asked-off n i j x a h g e = simp (le-leb i n h, le-leb j n g, ne_eqb i j e)

module _ (i j : ℕ) (row : In 8 i) (column : In 8 j) where
  at_row : cell_of i j / 8 ≡ i - 1
  at_row = quotient-of 8 (i - 1) (j - 1) (omega arith)

  at-column : cell_of i j % 8 ≡ j - 1
  at-column = remainder_of 8 (i - 1) (j - 1) (omega arith)

  pub sound-asked : (n : ℕ) (x a : Number) → sound n (cell_of i j) x a ≡ asked n i j x a
  unfolding sound
  sound-asked n x a =
      let r : suc (cell_of i j / 8) ≡ i = omega (arith, at_row) in
      let c : suc (cell_of i j % 8) ≡ j = omega (arith, at-column) in
      let d : eqb (cell_of i j / 8) (cell_of i j % 8) ≡ eqb i j = ap₂ eqb at_row at-column ∙ eqb-less i j row.0 column.0 in
      rw (r, c, d)
    where
      eqb-less : (i j : ℕ) → 1 ≤ i → 1 ≤ j → eqb (i - 1) (j - 1) ≡ eqb i j
      eqb-less i j h g =
          elim (ℕ_discrete i j) [
            | yes e ↦ eq-eqb (i - 1) (j - 1) (omega arith) ∙ sym (eq-eqb i j e)
            | no e ↦ ne_eqb (i - 1) (j - 1) (λ f. e (omega arith)) ∙ sym (ne_eqb i j e)
          ]

  pub back_below : j < i → back (cell_of i j) ≡ 8
  unfolding back
  back_below h = simp (lt-ltb (cell_of i j % 8) (cell_of i j / 8) (omega (arith, at_row, at-column)))

  pub back_above : i < j → back (cell_of i j) ≡ 1
  unfolding back
  back_above h =
      let e : ltb (cell_of i j % 8) (cell_of i j / 8) ≡ false = le-ltb (cell_of i j % 8) (cell_of i j / 8) (omega (arith, at_row, at-column)) in
      simp (e, lt-ltb (cell_of i j / 8) (cell_of i j % 8) (omega (arith, at_row, at-column)))
