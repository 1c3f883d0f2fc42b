-- Laws of the shelf. Put and read: a place holds what was put there (`rows-put`, `table-put`), the others what they held (`rows-kept`, `table_kept`); what was
-- put last counts (`put-put`), and what is there may be put again (`put-held`). A shelf is given by what it holds (`shelf-determined`). The empty shelf is good
-- (`good-empty`), and stays good with what fits (`good-put`).
use Prim.Native.Nat.{ℕ, suc, ◌+◌, ◌*◌, ◌/◌, ◌%◌, ◌<◌, ◌≤◌}
use native.Mathlib.Nat.{div-add-mod', div-lt_iff_lt-mul, mod-lt}
use native.Mathlib.Decide.{ℕ_discrete}
use native.Mathlib.Omega.{arith}
use mathlib.Core.Path.{◌≡◌, sym, ap, ap₂, ◌∙◌}
use mathlib.Core.List.{List, ◌++◌, append_assoc}
use lib.ListN.{length, get_or, take, drop, replicate, length-set, length-take, length-drop, length-replicate, get_or-replicate}
use lib.Seq.{sets, length-sets, sets-eq, take_at, drop_at, length-take-le, get_or-take, get_or-drop, get_or-set_same, get_or-set_other, ext_get_or, set-set}
use Rattle.number.specs.declared.Number.{Number}
use Rattle.number.specs.Number.{zero_number, Stored}
use Rattle.words.specs.Word.{Factors}
use Rattle.words.specs.RowSet.{In}
use Rattle.words.specs.Sources.{BandedNumbers}
use Rattle.words.proofs.Banded.{banded-same, stored-banded}
use Rattle.places.specs.declared.Shelf.{Shelf}
use Rattle.table.specs.Table.{absent, factors_of, table_of}
use Rattle.places.specs.Shelf.{rows_at, table_at, factors_at, with_table, holding, empty_shelf, Fits, Good}
use Rattle.arrays.proofs.Runs.{get_d-sets-other, sets_over}
use Rattle.arrays.proofs.Filled.{Filled, filled-all}
use Rattle.table.proofs.Table.{table-length, factors-table, table-list, table_same, table-refactored, padded-none}

pub shelf-fields : (s t : Shelf) → s.numbers ≡ t.numbers → s.sizes ≡ t.sizes → s ≡ t
shelf-fields s t e f = ap₂ (λ (a : List Number) (b : List ℕ). let r : Shelf = record { numbers = a; sizes = b } in r) e f

module _ (s : Shelf) (p n : ℕ) (t : List Number) (small : p < 8) (eight : length s.sizes ≡ 8) (all : length s.numbers ≡ 512) (long : length t ≡ 64) where
  pub rows-put : rows_at (with_table s p n t) p ≡ n
  unfolding rows_at with_table
  rows-put = get_or-set_same s.sizes p n 0 (omega arith)

  pub rows-kept : (q : ℕ) → (q ≡ p → ⊥) → rows_at (with_table s p n t) q ≡ rows_at s q
  unfolding rows_at with_table
  rows-kept q h = get_or-set_other s.sizes p q n 0 h

  pub table-put : table_at (with_table s p n t) p ≡ t
  unfolding table_at with_table
  table-put =
      rw (sets-eq t s.numbers (p * 64) (omega arith), append_assoc (take (p * 64) s.numbers) t (drop (p * 64 + length t) s.numbers))
      (ap (take 64)
      (drop_at (take (p * 64) s.numbers) (t ++ drop (p * 64 + length t) s.numbers) (p * 64) (length-take-le (p * 64) s.numbers (omega arith)))
      ∙ take_at t (drop (p * 64 + length t) s.numbers) 64 long)

  pub table_kept : (q : ℕ) → (q ≡ p → ⊥) → table_at (with_table s p n t) q ≡ table_at s q
  unfolding table_at with_table
  table_kept q h =
      ext_get_or zero_number (take 64 (drop (q * 64) (sets s.numbers (p * 64) t))) (take 64 (drop (q * 64) s.numbers))
      (rw (length-take, length-take, length-drop, length-drop, length-sets))
      (λ k g.
      let l : k < 64 = omega (arith, length-take 64 (drop (q * 64) (sets s.numbers (p * 64) t))) in
      get_or-take 64 (drop (q * 64) (sets s.numbers (p * 64) t)) k zero_number l
      ∙ get_or-drop (q * 64) (sets s.numbers (p * 64) t) k zero_number
      ∙ get_d-sets-other s.numbers (p * 64) t (q * 64 + k) zero_number (λ j i e. omega arith)
      ∙ sym (get_or-take 64 (drop (q * 64) s.numbers) k zero_number l ∙ get_or-drop (q * 64) s.numbers k zero_number))

  -- what was put last counts
  pub put-put : (m : ℕ) (u : List Number) → length u ≡ 64 → with_table (with_table s p m u) p n t ≡ with_table s p n t
  unfolding with_table
  put-put m u l = shelf-fields _ _ (sets_over s.numbers (p * 64) u t (l ∙ sym long) (omega arith)) (set-set s.sizes p m n)

-- the number at k of place p
pub number_at : (s : Shelf) (p k : ℕ) → k < 64 → get_or (table_at s p) k zero_number ≡ get_or s.numbers (p * 64 + k) zero_number
unfolding table_at
number_at s p k h = get_or-take 64 (drop (p * 64) s.numbers) k zero_number h ∙ get_or-drop (p * 64) s.numbers k zero_number

-- the numbers of a place, read one after the other
pub table-read : (s : Shelf) (p : ℕ) → p < 8 → length s.numbers ≡ 512 → {k : ℕ} {t : List Number}
    → Filled absent (λ i. get_or s.numbers (p * 64 + i) absent) 64 k t → 64 ≤ k → t ≡ table_at s p
unfolding table_at
table-read s p small all w h =
    filled-all absent (λ i. get_or s.numbers (p * 64 + i) absent) 64 w h (take 64 (drop (p * 64) s.numbers))
    (length-take-le 64 (drop (p * 64) s.numbers) (omega (arith, length-drop (p * 64) s.numbers)))
    (λ i l. get_or-take 64 (drop (p * 64) s.numbers) i absent l ∙ get_or-drop (p * 64) s.numbers i absent)

-- shelves with the same sizes and tables are the same
same-places : (s t : Shelf) → Good s → Good t → ((p : ℕ) → p < 8 → rows_at s p ≡ rows_at t p) → ((p : ℕ) → p < 8 → table_at s p ≡ table_at t p) → s ≡ t
unfolding rows_at
same-places s t g h e f =
    shelf-fields s t
    (ext_get_or zero_number s.numbers t.numbers (g.numbers ∙ sym h.numbers)
    (λ k l.
    let q : k / 64 < 8 = (div-lt_iff_lt-mul {k = 64} {x = k} {y = 8} (omega arith)).1 (omega (arith, g.numbers)) in
    let r : k % 64 < 64 = mod-lt k (omega arith) in
    let d : k / 64 * 64 + k % 64 ≡ k = div-add-mod' k 64 in
    let here : get_or s.numbers (k / 64 * 64 + k % 64) zero_number ≡ get_or t.numbers (k / 64 * 64 + k % 64) zero_number =
    sym (number_at s (k / 64) (k % 64) r) ∙ ap (λ (u : List Number). get_or u (k % 64) zero_number) (f (k / 64) q) ∙ number_at t (k / 64) (k % 64) r in
    rw d at here))
    (ext_get_or 0 s.sizes t.sizes (g.places ∙ sym h.places) (λ p l. e p (omega (arith, g.places))))

-- A SHELF IS GIVEN BY WHAT IT HOLDS
pub shelf-determined : (s t : Shelf) → Good s → Good t → ((p : ℕ) → p < 8 → rows_at s p ≡ rows_at t p)
    → ((p : ℕ) → p < 8 → (i j : ℕ) → In (rows_at s p) i → In (rows_at s p) j → factors_at s p i j ≡ factors_at t p i j) → s ≡ t
shelf-determined s t g h e f =
    same-places s t g h e
    (λ p l.
    (g.held p l).rest
    ∙ table_same (rows_at s p) (factors_at s p) (factors_at t p) (f p l)
    ∙ ap (λ (n : ℕ). table_of n (factors_at t p)) (e p l)
    ∙ sym (h.held p l).rest)

-- WHAT FITS A PLACE: the table of accepted factors
pub fits-table : (n : ℕ) (b : Factors Number) → n ≤ 8 → BandedNumbers n b → Fits n (table_of n b)
fits-table n b few h =
    record {
      few = few;
      banded = banded-same Stored (λ a. a ≡ zero_number) n (λ i j x y. sym (factors-table n b few i j x y)) h;
      rest = sym (table-refactored n b few);
    }

pub fits-none : (b : Factors Number) → Fits 0 (table_of 0 b)
fits-none b = fits-table 0 b (omega arith) (stored-banded 0 b (λ i j x y. absurd (omega arith)))

-- THE SHELF STAYS GOOD
module _ (s : Shelf) (g : Good s) (p n : ℕ) (t : List Number) (small : p < 8) (fits : Fits n t) where
  abbrev new : Shelf
  new = with_table s p n t

  long : length t ≡ 64
  long = ap length fits.rest ∙ table-length n (factors_of t)

  pub rows-held : rows_at new p ≡ n
  rows-held = rows-put s p n t small g.places g.numbers long

  pub table-held : table_at new p ≡ t
  table-held = table-put s p n t small g.places g.numbers long

  -- the table put, and each other place
  each-held : (q : ℕ) → q < 8 → Fits (rows_at new q) (table_at new q)
  each-held q l =
      elim (ℕ_discrete q p) [
        | yes e ↦ rw (e, rows-held, table-held) fits
        | no e ↦ rw (rows-kept s p n t small g.places g.numbers long q e, table_kept s p n t small g.places g.numbers long q e) (g.held q l)
      ]

  pub good-put : Good new
  unfolding with_table
  good-put =
      record { places = length-set s.sizes p n ∙ g.places; numbers = length-sets s.numbers (p * 64) t ∙ g.numbers; held = each-held }

pub factors-held : (s : Shelf) → Good s → (p n : ℕ) (b : Factors Number) → p < 8 → Fits n (table_of n b) → (i j : ℕ) → In n i → In n j
    → factors_at (holding s p n b) p i j ≡ b i j
factors-held s g p n b small fits i j h k =
    ap (λ (t : List Number). factors_of t i j) (table-held s g p n (table_of n b) small fits) ∙ factors-table n b fits.few i j h k

-- what is there may be put again
pub put-held : (s : Shelf) → Good s → (p : ℕ) → p < 8 → holding s p (rows_at s p) (factors_at s p) ≡ s
put-held s g p small =
    let n = rows_at s p in
    let f = g.held p small in
    let t = table_of n (factors_at s p) in
    let l : length t ≡ 64 = table-length n (factors_at s p) in
    let h : Fits n t = fits-table n (factors_at s p) f.few f.banded in
    same-places (with_table s p n t) s (good-put s g p n t small h) g
    (λ q x.
    elim (ℕ_discrete q p) [
      | yes e ↦ rw e (rows-held s g p n t small h)
      | no e ↦ rows-kept s p n t small g.places g.numbers l q e
    ])
    (λ q x.
    elim (ℕ_discrete q p) [
      | yes e ↦ rw e (table-held s g p n t small h ∙ sym f.rest)
      | no e ↦ table_kept s p n t small g.places g.numbers l q e
    ])

-- ALL PLACES EMPTY
module _ (p : ℕ) (small : p < 8) where
  empty-rows : rows_at empty_shelf p ≡ 0
  unfolding rows_at empty_shelf
  empty-rows = get_or-replicate 8 p 0 0 small

  empty-number : (k : ℕ) → k < 64 → get_or (table_at empty_shelf p) k zero_number ≡ zero_number
  unfolding empty_shelf
  empty-number k h = number_at empty_shelf p k h ∙ get_or-replicate 512 (p * 64 + k) zero_number zero_number (omega arith)

  empty-length : length (table_at empty_shelf p) ≡ 64
  unfolding table_at empty_shelf
  empty-length =
      length-take-le 64 (drop (p * 64) (replicate 512 zero_number))
      (omega (arith, length-drop (p * 64) (replicate 512 zero_number), length-replicate 512 zero_number))

  empty-table : (b : Factors Number) → table_at empty_shelf p ≡ table_of 0 b
  empty-table b =
      table-list 0 b zero_number (table_at empty_shelf p) empty-length
      (λ i j h g. empty-number (i * 8 + j) (omega arith) ∙ sym (padded-none b (suc i) (suc j) (omega arith)))

pub good-empty : Good empty_shelf
unfolding empty_shelf
good-empty =
    record {
      places = length-replicate {A = ℕ} 8 0;
      numbers = length-replicate 512 zero_number;
      held = λ p h. rw (empty-rows p h, empty-table p h (λ i j. zero_number)) (fits-none (λ i j. zero_number));
    }
