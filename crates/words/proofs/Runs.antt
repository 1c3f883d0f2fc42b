-- Runs, the consecutive rows a .. b of n rows: the highest row is one of them (rows_in, rows_last) or is not (rows_out, rows_above, rows-below); rows beyond n
-- (rows-beyond), and no rows (rows_empty); how many they are (count-rows); the next row put to them (put-rows); what does not count rows above a set (rows-own,
-- rows_none); and blocks of rows (rows_run).
use mathlib.Core.Path.{◌≡◌, refl, sym, ap, ap₂, ◌∙◌}
use mathlib.Core.Bool.{Bool, true, false, ◌&&◌}
use mathlib.Core.List.{[], ◌∷◌}
use Prim.Native.Nat.{ℕ, zero, suc, ◌+◌, ◌-◌, ◌≤◌, ◌<◌}
use native.Mathlib.Decide.{ℕ_discrete, dec_le}
use native.Mathlib.Omega.{arith}
use lib.Dec.{leb}
use lib.ListN.{length}
use borrow.Author.Tests.{le-leb, leb-true}
use Rattle.words.specs.RowSet.{RowSet, put, count, rows}
use Rattle.words.proofs.RowSets.{put-top, put_under, length-rows}

-- THE HIGHEST ROW: in the run, or not; past the last, before the first
pub rows_in : (n a b : ℕ) → a ≤ suc n → suc n ≤ b → rows (suc n) a b ≡ true ∷ rows n a b
unfolding rows
rows_in n a b h g = ap₂ (λ x y. (x && y) ∷ rows n a b) (le-leb a (suc n) h) (le-leb (suc n) b g)

pub rows_out : (n a b : ℕ) → (a ≤ suc n → suc n ≤ b → ⊥) → rows (suc n) a b ≡ false ∷ rows n a b
unfolding rows
rows_out n a b h = ap (λ x. x ∷ rows n a b) (by (leb a (suc n)) (leb (suc n) b) (λ p q. h (leb-true _ _ p) (leb-true _ _ q)))
  where
    by : (x y : Bool) → (x ≡ true → y ≡ true → ⊥) → (x && y) ≡ false
    by true true g = absurd (g refl refl)
    by true false g = refl
    by false y g = refl

pub rows_above : (n a b : ℕ) → b ≤ n → rows (suc n) a b ≡ false ∷ rows n a b
rows_above n a b h = rows_out n a b (λ p q. omega arith)

pub rows-below : (n a b : ℕ) → suc n < a → rows (suc n) a b ≡ false ∷ rows n a b
rows-below n a b h = rows_out n a b (λ p q. omega arith)

-- rows beyond n are none of n rows, and there is no row 0
pub rows-beyond : (n a b c : ℕ) → n ≤ b → n ≤ c → rows n a b ≡ rows n a c
unfolding rows
rows-beyond zero a b c h g = refl
rows-beyond (suc n) a b c h g =
    ap₂ (λ y S. (leb a (suc n) && y) ∷ S) (le-leb (suc n) b h ∙ sym (le-leb (suc n) c g)) (rows-beyond n a b c (omega arith) (omega arith))

-- the highest row, where it is the run's last
pub rows_last : (n a : ℕ) → a ≤ suc n → rows (suc n) a (suc n) ≡ true ∷ rows n a n
rows_last n a h = rows_in n a (suc n) h (omega arith) ∙ ap (λ S. true ∷ S) (rows-beyond n a (suc n) n (omega arith) (omega arith))

-- what does not count rows above a set is the same of the run's own rows, and of a run of no rows the same as of none
module _ {A : Type 0} (f : RowSet → A) (above : (S : RowSet) → f (false ∷ S) ≡ f S) where
  pub rows-own : (n a b : ℕ) → b ≤ n → f (rows n a b) ≡ f (rows b a b)
  rows-own zero a b h = ap (λ k. f (rows k a b)) (omega arith)
  rows-own (suc n) a b h =
      elim (ℕ_discrete (suc n) b) [
        | yes e ↦ ap (λ k. f (rows k a b)) e
        | no e ↦ ap f (rows_out n a b (λ p q. e (omega arith))) ∙ above (rows n a b) ∙ rows-own n a b (omega arith)
      ]

  pub rows_none : (n a b : ℕ) → b < a → f (rows n a b) ≡ f []
  unfolding rows
  rows_none zero a b h = refl
  rows_none (suc n) a b h = ap f (rows_out n a b (λ p q. omega arith)) ∙ above (rows n a b) ∙ rows_none n a b h

-- runs of no rows are one set
pub rows_empty : (n a b : ℕ) → b < a → rows n a b ≡ rows n 1 0
unfolding rows
rows_empty zero a b h = refl
rows_empty (suc n) a b h = rows_out n a b (λ p q. omega arith) ∙ ap (λ S. false ∷ S) (rows_empty n a b h) ∙ sym (rows_above n 1 0 (omega arith))

-- HOW MANY
pub count-rows : (n a b : ℕ) → 1 ≤ a → b ≤ n → count (rows n a b) ≡ suc b - a
unfolding count rows
count-rows zero a b h g = omega arith
count-rows (suc n) a b h g =
    elim (dec_le b n) [
      | yes l ↦ ap count (rows_above n a b l) ∙ count-rows n a b h l
      | no l ↦
          let e : b ≡ suc n = omega arith in
          ap (λ k. count (rows (suc n) a k)) e
          ∙ elim (dec_le a (suc n)) [
            | yes m ↦ ap count (rows_last n a m) ∙ ap suc (count-rows n a n h (omega arith)) ∙ omega arith
            | no m ↦ rows_none count (λ S. refl) (suc n) a (suc n) (omega arith) ∙ omega arith
          ]
    ]

-- ROW i PUT to the rows a .. i - 1
pub put-rows : (n a i : ℕ) → 1 ≤ i → i ≤ n → a ≤ i → put i true (rows n a (i - 1)) ≡ rows n a i
put-rows zero a i h g l = absurd (omega arith)
put-rows (suc n) a i h g l =
    ap (put i true) (rows_above n a (i - 1) (omega arith))
    ∙ elim (ℕ_discrete i (suc n)) [
      | yes e ↦
          let z : i ≡ suc (length (rows n a (i - 1))) = e ∙ ap suc (sym (length-rows n a (i - 1))) in
          ap (λ k. put k true (false ∷ rows n a (i - 1))) z ∙ put-top true false (rows n a (i - 1))
          ∙ ap (λ S. true ∷ S) (rows-beyond n a (i - 1) i (omega arith) (omega arith)) ∙ sym (rows_in n a i (omega arith) (omega arith))
      | no e ↦
          put_under i true false (rows n a (i - 1)) (omega (arith, length-rows n a (i - 1)))
          ∙ ap (λ S. false ∷ S) (put-rows n a i h (omega arith) l) ∙ sym (rows_above n a i (omega arith))
    ]

-- BLOCKS: S under j higher rows, all of them in the set (true) or none (false)
abbrev pub topped : Bool → ℕ → RowSet → RowSet
topped x zero S = S
topped x (suc j) S = x ∷ topped x j S

pub length-topped : (x : Bool) (j : ℕ) (S : RowSet) → length (topped x j S) ≡ j + length S
length-topped x zero S = omega arith
length-topped x (suc j) S = ap suc (length-topped x j S) ∙ omega arith

-- r rows before the first of the consecutive rows, and j of these on top
rows_before : (r a b : ℕ) → r < a → rows r a b ≡ topped false r []
unfolding rows
rows_before zero a b h = refl
rows_before (suc r) a b h = rows-below r a b h ∙ ap (λ S. false ∷ S) (rows_before r a b (omega arith))

rows-top : (n j r b : ℕ) → n ≡ j + r → n ≤ b → rows n (suc r) b ≡ topped true j (topped false r [])
rows-top n zero r b e h = ap (λ k. rows k (suc r) b) (omega arith) ∙ rows_before r (suc r) b (omega arith)
rows-top zero (suc j) r b e h = absurd (omega arith)
rows-top (suc n) (suc j) r b e h = rows_in n (suc r) b (omega arith) h ∙ ap (λ S. true ∷ S) (rows-top n j r b (omega arith) (omega arith))

-- the rows r + 1 .. r + j: r rows, j rows of the set on them, p rows on these
pub rows_run : (n p j r : ℕ) → n ≡ p + (j + r) → rows n (suc r) (r + j) ≡ topped false p (topped true j (topped false r []))
rows_run n zero j r e = rows-top n j r (r + j) (omega arith) (omega arith)
rows_run zero (suc p) j r e = absurd (omega arith)
rows_run (suc n) (suc p) j r e = rows_above n (suc r) (r + j) (omega arith) ∙ ap (λ S. false ∷ S) (rows_run n p j r (omega arith))
