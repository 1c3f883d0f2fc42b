-- A factor of a place: where it stands and what it is (`factor-is`), and the answer (`factor-done`; `factor-none` where the place has none).
use Prim.Native.Nat.{ℕ, ◌+◌, ◌-◌, ◌*◌, ◌^◌, ◌<◌}
use native.Mathlib.Decide.{dec_lt}
use native.Mathlib.Omega.{arith}
use mathlib.Core.Path.{◌≡◌, refl, sym, ap, ◌∙◌}
use mathlib.Core.Bool.{Bool, true, false, cond, ◌&&◌}
use mathlib.Core.Logic.{◌⊎◌, inl, inr}
use mathlib.Core.List.{List, [], ◌∷◌}
use lib.Dec.{leb}
use lib.IntN.{ℤ, pos}
use lib.ListN.{length, get_or, get_or-eq_default}
use borrow.Author.Tests.{le-leb, lt-leb}
use Rattle.number.specs.declared.Number.{Number}
use Rattle.number.specs.Number.{zero_number, exponent_of}
use Rattle.words.specs.RowSet.{In}
use Rattle.words.proofs.Banded.{StoredOrZero, stored, zero, banded-decided}
use Rattle.table.specs.Table.{absent, cell_of, factors_of}
use Rattle.places.specs.declared.Shelf.{Shelf}
use Rattle.places.specs.Shelf.{rows_at, table_at, factors_at, Good}
use Rattle.table.proofs.Table.{read-default, table-length}
use Rattle.verdict.specs.Report.{accepted}
use Rattle.shelf.specs.Reports.{factor_report}
use Rattle.shelf.specs.Calls.{factor_or_zero, factor_call}

and-false : (a : Bool) → a && false ≡ false
and-false true = refl
and-false false = refl

small-exponent : {a : Number} → StoredOrZero a → a.x < 2 ^ 32
small-exponent (stored s) = omega (arith, s.stop)
small-exponent (zero e) = rw e (omega arith)

-- before the rows or columns of a place, or past them
abbrev pub Beyond : (n i j : ℕ) → Type 0
Beyond n i j = (i < 1) ⊎ ((j < 1) ⊎ ((n < i) ⊎ (n < j)))

module _ (s : Shelf) (good : Good s) (p : ℕ) where
  -- a place above 7 holds no rows
  pub place-small : 0 < rows_at s p → p < 8
  unfolding rows_at
  place-small h =
      elim (dec_lt p 8) [
        | yes l ↦ l
        | no l ↦ absurd (let e : get_or s.sizes p 0 ≡ 0 = get_or-eq_default s.sizes 0 (omega (arith, good.places)) in omega arith)
      ]

  module _ (i j : ℕ) (row : In (rows_at s p) i) (column : In (rows_at s p) j) where
    small : p < 8
    small = place-small (omega arith)

    pub factor-below : (i - 1) * 8 + (j - 1) < 64
    factor-below = omega (arith, (good.held p small).few)

    -- the number that the table has there
    module _ (t : List Number) (is : t ≡ table_at s p) where
      pub factor-is : get_or t ((i - 1) * 8 + (j - 1)) absent ≡ factors_at s p i j
      unfolding factors_of
      factor-is =
          let l : length t ≡ 64 = ap length (is ∙ (good.held p small).rest) ∙ table-length (rows_at s p) (factors_at s p) in
          read-default t (cell_of i j) (omega (arith, factor-below)) ∙ ap (λ (u : List Number). factors_of u i j) is

      pub factor-exponent : (get_or t ((i - 1) * 8 + (j - 1)) absent).x < 2 ^ 32
      factor-exponent = rw factor-is (small-exponent (banded-decided (rows_at s p) (factors_at s p) (good.held p small).banded i j row column))

    pub factor-done : (a : Number) (e : ℤ) → a ≡ factors_at s p i j → e ≡ exponent_of a
        → factor_report (record { mantissa = a.m; exponent = e }) ≡ factor_call s p i j
    unfolding factor_call
    factor-done a e f g =
        let t : (leb 1 i && leb 1 j) && (leb i (rows_at s p) && leb j (rows_at s p)) ≡ true =
        rw (le-leb 1 i row.0, le-leb 1 j column.0, le-leb i (rows_at s p) row.1, le-leb j (rows_at s p) column.1) in
        let h : a ≡ factor_or_zero s p i j = f ∙ sym (ap (λ (b : Bool). cond b (factors_at s p i j) zero_number) t) in
        ap (λ (z : ℤ). accepted (pos a.m ∷ z ∷ [])) g ∙ ap (λ (x : Number). accepted (pos x.m ∷ exponent_of x ∷ [])) h

  -- there is none
  pub factor-none : (i j : ℕ) → Beyond (rows_at s p) i j → factor_report (record { mantissa = 0; exponent = pos 0 }) ≡ factor_call s p i j
  unfolding factor_call
  factor-none i j (inl h) = simp (lt-leb 1 i h)
  factor-none i j (inr (inl h)) = simp (lt-leb 1 j h, and-false)
  factor-none i j (inr (inr (inl h))) = simp (lt-leb i (rows_at s p) h, and-false)
  factor-none i j (inr (inr (inr h))) = simp (lt-leb j (rows_at s p) h, and-false)
