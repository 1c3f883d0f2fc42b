-- Factors and letters as they are lent: the factor at a place of a step (factor-at), an entry of D (entry_in), a step's factors as they are put
-- into words (Putting, put_next, put_all), its letters as they are spelled (SpelledTo, spelled-next), and read again (decoded).
use mathlib.Core.Path.{◌≡◌, refl, sym, ap, ap₂, ◌∙◌, subst}
use mathlib.Core.Bool.{Bool, true, false, cond}
use mathlib.Core.List.{List}
use Prim.Native.Nat.{ℕ, zero, suc, ◌+◌, ◌-◌, ◌*◌, ◌/◌, ◌%◌, ◌≤◌, ◌<◌}
use native.Mathlib.Nat.{not-suc-le-zero}
use native.Mathlib.Decide.{ℕ_discrete}
use native.Mathlib.Omega.{arith}
use lib.ListN.{get_or, set, length, length-set}
use lib.Pow.{high, low}
use lib.Seq.{get_or-set_same, get_or-set_other, ext_get_or}
use Rattle.number.specs.Number.{zero_number}
use Rattle.number.specs.declared.Number.{Number}
use Rattle.table.specs.Table.{absent}
use Rattle.walk.specs.Letters.{middle, move_at, MoveWithin}
use Rattle.walk.specs.Steps.{entry_place, entries_of}
use Rattle.walk.specs.Lent.{number_in, numbers_in, table_in, code_of}
use Rattle.walk.specs.declared.Way.{Way}
use Rattle.walk.specs.declared.letters.Move.{Move}

-- FACTORS
pub numbers-at : (b : List ℕ) (p k i : ℕ) (d : Number) → i < k → get_or (numbers_in b p k) i d ≡ number_in b (p + i)
unfolding numbers_in
numbers-at b p zero i d h = absurd (not-suc-le-zero h)
numbers-at b p (suc k) zero d h = let e : p ≡ p + 0 = omega arith in ap (number_in b) e
numbers-at b p (suc k) (suc i) d h = let e : suc p + i ≡ p + suc i = omega arith in numbers-at b (suc p) k i d (omega arith) ∙ ap (number_in b) e

pub numbers-length : (b : List ℕ) (p k : ℕ) → length (numbers_in b p k) ≡ k
unfolding numbers_in
numbers-length b p zero = refl
numbers-length b p (suc k) = ap suc (numbers-length b (suc p) k)

-- the factor at place p of step c
pub factor-at : (b : List ℕ) (c p : ℕ) → p < 64 → get_or (table_in b c) p zero_number ≡ number_in b (c * 64 + p)
factor-at b c p h = numbers-at b (c * 64) 64 p zero_number h

-- the entry of row i + 1 of D
pub entry_in : (b : List ℕ) (c n i r : ℕ) (back : Bool) → i < n → n ≤ 8 → r ≡ cond back (n - 1 - i) i
    → number_in b (c * 64 + r * 9) ≡ entries_of n back (table_in b c) (i + 1)
unfolding entries_of
entry_in b c n i r true l h e =
    let f : r * 9 ≡ entry_place n true (i + 1) = omega arith in
    ap (λ (p : ℕ). number_in b (c * 64 + p)) f ∙ sym (factor-at b c (entry_place n true (i + 1)) (omega arith))
entry_in b c n i r false l h e =
    let f : r * 9 ≡ entry_place n false (i + 1) = omega arith in
    ap (λ (p : ℕ). number_in b (c * 64 + p)) f ∙ sym (factor-at b c (entry_place n false (i + 1)) (omega arith))

-- the first t factors of a table are put into the words of step c, and nothing before these is changed
pub record Putting (c : ℕ) (table : List Number) (old new : List ℕ) (t : ℕ) : Type 0 where
  pub size : length new ≡ 768
  pub put : (i : ℕ) → i < t → number_in new (c * 64 + i) ≡ get_or table i absent
  pub before : (i : ℕ) → i < c * 128 → get_or new i 0 ≡ get_or old i 0

pub put-none : {c : ℕ} {table : List Number} {old : List ℕ} → length old ≡ 768 → Putting c table old old 0
put-none e = record { size = e; put = λ i h. absurd (omega arith); before = λ i h. refl }

module _ {c : ℕ} {table : List Number} {old new : List ℕ} where
  pub put_all : Putting c table old new 64 → length table ≡ 64 → table_in new c ≡ table
  put_all P e =
      ext_get_or absent (table_in new c) table (numbers-length new (c * 64) 64 ∙ sym e)
      (λ i h. let l : i < 64 = omega (arith, numbers-length new (c * 64) 64) in numbers-at new (c * 64) 64 i absent l ∙ P.put i l)

  module _ {t : ℕ} (P : Putting c table old new t) (lc : c < 6) (lt : t < 64) where
    -- both words of a number
    pub put_next : (a : Number) (p q : ℕ) (new' : List ℕ) → a ≡ get_or table t absent → p ≡ c * 128 + 2 * t → q ≡ c * 128 + 2 * t + 1
        → new' ≡ set (set new p a.m) q a.x → Putting c table old new' (t + 1)
    put_next a p q new' ea ep eq en =
        subst (λ (l : List ℕ). Putting c table old l (t + 1)) (sym en)
        (record {
          size = length-set (set new p a.m) q a.x ∙ length-set new p a.m ∙ P.size;
          put = λ i h. elim (ℕ_discrete i t) [
            | yes e ↦ ap₂ (λ (m x : ℕ). record { m = m; x = x }) (first i e) (second i e) ∙ ea ∙ ap (λ (k : ℕ). get_or table k absent) (sym e)
            | no e ↦ ap₂ (λ (m x : ℕ). record { m = m; x = x }) (other (2 * (c * 64 + i)) (λ f. e (omega arith)) (λ f. e (omega arith)))
                (other (2 * (c * 64 + i) + 1) (λ f. e (omega arith)) (λ f. e (omega arith))) ∙ P.put i (omega arith)
          ];
          before = λ i h. other i (λ f. omega arith) (λ f. omega arith) ∙ P.before i h;
        })
      where
        other : (i : ℕ) → (i ≡ p → ⊥) → (i ≡ q → ⊥) → get_or (set (set new p a.m) q a.x) i 0 ≡ get_or new i 0
        other i f g = get_or-set_other (set new p a.m) q i a.x 0 g ∙ get_or-set_other new p i a.m 0 f

        first : (i : ℕ) → i ≡ t → get_or (set (set new p a.m) q a.x) (2 * (c * 64 + i)) 0 ≡ a.m
        first i e =
            let f : 2 * (c * 64 + i) ≡ p = omega arith in
            ap (λ (k : ℕ). get_or (set (set new p a.m) q a.x) k 0) f ∙ get_or-set_other (set new p a.m) q p a.x 0 (λ g. omega arith)
            ∙ get_or-set_same new p a.m 0 (omega (arith, P.size))

        second : (i : ℕ) → i ≡ t → get_or (set (set new p a.m) q a.x) (2 * (c * 64 + i) + 1) 0 ≡ a.x
        second i e =
            let f : 2 * (c * 64 + i) + 1 ≡ q = omega arith in
            ap (λ (k : ℕ). get_or (set (set new p a.m) q a.x) k 0) f
            ∙ get_or-set_same (set new p a.m) q a.x 0 (omega (arith, length-set new p a.m, P.size))

-- LETTERS
-- the letters of step c below t are spelled, and nothing before these is changed
pub record SpelledTo (n : ℕ) (way : Way) (c : ℕ) (old new : List ℕ) (t : ℕ) : Type 0 where
  pub size : length new ≡ 342
  pub letter : (i : ℕ) → i < t → (i ≡ middle n → ⊥) → get_or new (c * 57 + i) 0 ≡ code_of (move_at n way i)
  pub before : (i : ℕ) → i < c * 57 → get_or new i 0 ≡ get_or old i 0

pub spelled_none : {n : ℕ} {way : Way} {c : ℕ} {old : List ℕ} → length old ≡ 342 → SpelledTo n way c old old 0
spelled_none e = record { size = e; letter = λ i h f. absurd (omega arith); before = λ i h. refl }

module _ {n : ℕ} {way : Way} {c : ℕ} {old new : List ℕ} {t : ℕ} (S : SpelledTo n way c old new t) where
  -- D is passed over
  pub spelled-passed : t ≡ middle n → SpelledTo n way c old new (t + 1)
  spelled-passed e = record { size = S.size; letter = λ i h f. S.letter i (less i h f) f; before = S.before }
    where
      less : (i : ℕ) → i < t + 1 → (i ≡ middle n → ⊥) → i < t
      less i h f = elim (ℕ_discrete i t) [ yes g ↦ absurd (f (g ∙ e)) | no g ↦ omega arith ]

  pub spelled-next : c * 57 + t < 342 → (p v : ℕ) (new' : List ℕ) → p ≡ c * 57 + t → v ≡ code_of (move_at n way t) → new' ≡ set new p v
      → SpelledTo n way c old new' (t + 1)
  spelled-next l p v new' ep ev en =
      subst (λ (x : List ℕ). SpelledTo n way c old x (t + 1)) (sym en)
      (record {
        size = length-set new p v ∙ S.size;
        letter = λ i h f. elim (ℕ_discrete i t) [
          | yes g ↦
              ap (λ (k : ℕ). get_or (set new p v) k 0) (ap (λ (k : ℕ). c * 57 + k) g ∙ sym ep) ∙ get_or-set_same new p v 0 (omega (arith, S.size))
              ∙ ev ∙ ap (λ (k : ℕ). code_of (move_at n way k)) (sym g)
          | no g ↦ get_or-set_other new p (c * 57 + i) v 0 (λ q. g (omega arith)) ∙ S.letter i (omega arith) f
        ];
        before = λ i h. get_or-set_other new p i v 0 (λ q. omega arith) ∙ S.before i h;
      })

-- a letter read again
pub decoded : (m : Move) (v : ℕ) → v ≡ code_of m → m.to < 16 → m.at < 64 → record { to = v / 64 % 16; from = v / 64 / 16; at = v % 64 } ≡ m
unfolding code_of
decoded m v e ht ha =
    let h : v / 64 ≡ m.from * 16 + m.to = ap (λ (x : ℕ). x / 64) e ∙ high (m.from * 16 + m.to) 6 ha in
    let at : v % 64 ≡ m.at = ap (λ (x : ℕ). x % 64) e ∙ low (m.from * 16 + m.to) 6 ha in
    let to : v / 64 % 16 ≡ m.to = ap (λ (x : ℕ). x % 16) h ∙ low m.from 4 ht in
    let from : v / 64 / 16 ≡ m.from = ap (λ (x : ℕ). x / 16) h ∙ high m.from 4 ht in
    ap₂ (λ (x y : ℕ). record { to = x; from = y; at = v % 64 }) to from ∙ ap (λ (x : ℕ). record { to = m.to; from = m.from; at = x }) at

-- the rows of a letter are few
pub within-few : {n : ℕ} {m : Move} → n ≤ 8 → MoveWithin n m → (m.to < 16) × (m.from < 16) × (m.at < 64)
within-few h w = (omega (arith, w.rows.to_high), omega (arith, w.rows.from-high), w.place)
