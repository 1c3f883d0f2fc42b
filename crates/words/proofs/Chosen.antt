-- Chosen rows in ascending order: how many (length-members), the highest of them (chosen-top), the others (chosen-under), each a row (chosen-in); sets among
-- them (length-among, count-among); and all rows chosen (count-all, chosen-all, among-all), or the first ones (chosen-first).
use mathlib.Core.Path.{◌≡◌, refl, sym, ap, ◌∙◌}
use mathlib.Core.Bool.{true, false}
use mathlib.Core.List.{[], ◌∷◌, ◌++◌}
use Prim.Native.Nat.{ℕ, zero, suc, ◌-◌, ◌≤◌}
use native.Mathlib.Decide.{dec_le}
use native.Mathlib.Omega.{arith}
use lib.ListN.{length, get_or, length-append, get_or-append}
use lib.Seq.{get_or-append_seam}
use Rattle.words.specs.RowSet.{In, RowSet, count, members, chosen, among, rows}
use Rattle.words.proofs.RowSets.{in-under, length-rows}
use Rattle.words.proofs.Runs.{rows_last, rows-own, count-rows}

-- SETS AMONG THE CHOSEN ROWS
pub length-among : (P I : RowSet) → length I ≡ count P → length (among P I) ≡ length P
unfolding among count
length-among [] I e = refl
length-among (true ∷ P) [] e = absurd (omega arith)
length-among (true ∷ P) (x ∷ I) e = ap suc (length-among P I (omega arith))
length-among (false ∷ P) I e = ap suc (length-among P I e)

pub count-among : (P I : RowSet) → length I ≡ count P → count (among P I) ≡ count I
unfolding among count
count-among [] [] e = refl
count-among [] (x ∷ I) e = absurd (omega arith)
count-among (false ∷ P) I e = count-among P I e
count-among (true ∷ P) [] e = absurd (omega arith)
count-among (true ∷ P) (true ∷ I) e = ap suc (count-among P I (omega arith))
count-among (true ∷ P) (false ∷ I) e = count-among P I (omega arith)

-- THE CHOSEN ROWS, the highest of them and the others
pub length-members : (P : RowSet) → length (members P) ≡ count P
unfolding members count
length-members [] = refl
length-members (true ∷ P) = omega (arith, length-append (members P) (suc (length P) ∷ []), length-members P)
length-members (false ∷ P) = length-members P

chosen_last : (P : RowSet) → chosen (true ∷ P) (suc (count P)) ≡ suc (length P)
unfolding members
chosen_last P =
    let f : suc (count P) - 1 ≡ length (members P) = omega (arith, length-members P) in
    ap (λ n. get_or (members P ++ (suc (length P) ∷ [])) n 0) f ∙ get_or-append_seam (members P) (suc (length P)) [] 0

pub chosen-top : (P I : RowSet) → length I ≡ count P → suc (length (among P I)) ≡ chosen (true ∷ P) (suc (length I))
chosen-top P I e = ap suc (length-among P I e) ∙ sym (chosen_last P) ∙ ap (λ i. chosen (true ∷ P) (suc i)) (sym e)

pub chosen-under : (P : RowSet) (i : ℕ) → In (count P) i → chosen P i ≡ chosen (true ∷ P) i
unfolding members
chosen-under P i h = sym (get_or-append (members P) (suc (length P) ∷ []) 0 (i - 1) (omega (arith, h.0, h.1, length-members P)))

-- each is a row
pub chosen-in : (P : RowSet) (i : ℕ) → In (count P) i → In (length P) (chosen P i)
unfolding count members
chosen-in [] i h = absurd (omega (arith, h.0, h.1))
chosen-in (false ∷ P) i h = in-under (chosen-in P i h)
chosen-in (true ∷ P) i h =
    elim (dec_le i (count P)) [
      | yes l ↦ let g = chosen-in P i (h.0, l) in (omega (arith, g.0, chosen-under P i (h.0, l)), omega (arith, g.1, chosen-under P i (h.0, l)))
      | no l ↦
          let e : i ≡ suc (count P) = omega (arith, h.1) in
          let f : chosen (true ∷ P) i ≡ suc (length P) = ap (chosen (true ∷ P)) e ∙ chosen_last P in
          (omega (arith, f), omega (arith, f))
    ]

-- ALL ROWS: the i-th is row i
pub count-all : (n : ℕ) → count (rows n 1 n) ≡ n
count-all n = count-rows n 1 n (omega arith) (omega arith) ∙ omega arith

pub chosen-all : (n i : ℕ) → In n i → chosen (rows n 1 n) i ≡ i
chosen-all zero i h = absurd (omega (arith, h.0, h.1))
chosen-all (suc n) i h =
    ap (λ P. chosen P i) (rows_last n 1 (omega arith))
    ∙ elim (dec_le i n) [
      | yes l ↦ sym (chosen-under (rows n 1 n) i (h.0, omega (arith, count-all n))) ∙ chosen-all n i (h.0, l)
      | no l ↦
          let e : i ≡ suc (count (rows n 1 n)) = omega (arith, h.1, count-all n) in
          ap (chosen (true ∷ rows n 1 n)) e ∙ chosen_last (rows n 1 n) ∙ omega (arith, length-rows n 1 n, h.1)
    ]

-- the i-th of the first k rows is row i
pub chosen-first : (n k i : ℕ) → k ≤ n → In k i → chosen (rows n 1 k) i ≡ i
unfolding members
chosen-first n k i l h = rows-own (λ S. chosen S i) (λ S. refl) n 1 k l ∙ chosen-all k i h

pub among-all : (n : ℕ) (I : RowSet) → length I ≡ n → among (rows n 1 n) I ≡ I
unfolding among rows
among-all zero [] e = refl
among-all zero (x ∷ I) e = absurd (omega arith)
among-all (suc n) [] e = absurd (omega arith)
among-all (suc n) (x ∷ I) e = ap (λ P. among P (x ∷ I)) (rows_last n 1 (omega arith)) ∙ ap (λ S. x ∷ S) (among-all n I (omega arith))

-- all of the chosen rows
pub among-whole : (P : RowSet) → among P (rows (count P) 1 (count P)) ≡ P
unfolding among rows count
among-whole [] = refl
among-whole (true ∷ P) = ap (among (true ∷ P)) (rows_last (count P) 1 (omega arith)) ∙ ap (λ S. true ∷ S) (among-whole P)
among-whole (false ∷ P) = ap (λ S. false ∷ S) (among-whole P)
