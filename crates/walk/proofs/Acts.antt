-- The letters of a step's word in the code's terms: rows, factors and entries by their places (letter-pair), E and Et as moves (letter-moved, letter-ranged),
-- D as a scaling (letter-scaled, entries-stored).
use mathlib.Core.Path.{◌≡◌, refl, sym, ap, ap₂, ◌∙◌, subst}
use mathlib.Core.Bool.{Bool, true, false}
use mathlib.Core.List.{List, [], ◌∷◌}
use Prim.Native.Nat.{ℕ, zero, suc, ◌+◌, ◌-◌, ◌*◌, ◌≤◌, ◌<◌}
use native.Mathlib.Nat.{not-suc-le-zero}
use native.Mathlib.Omega.{arith}
use lib.ListN.{get_or, length}
use Rattle.number.specs.Number.{rounded, zero_number, product_of, quotient_of, Ranged, Stored}
use Rattle.number.specs.declared.Number.{Number}
use Rattle.words.specs.RowSet.{RowSet}
use Rattle.words.specs.Word.{Letter, E, Et, D, Dinv, Word}
use Rattle.words.specs.Operation as words
use Rattle.words.specs.Operation.{step_word, joined_word}
use Rattle.words.specs.Walk.{State, moved, scaled, act}
use Rattle.words.proofs.Related.{Matched, Letters}
use Rattle.words.proofs.Alike.{Alike, alike, letters-joined}
use Rattle.words.specs.Sources.{Walkable, Source}
use Rattle.walk.specs.declared.Way.{Way}
use Rattle.walk.specs.declared.letters.Move.{Move}
use Rattle.table.specs.Table.{cell_of, factors_of}
use Rattle.walk.specs.Steps.{way_of, step_of, letter_at, scaling, divides, backwards, entry_place, entries_of, diagonal_of, StoredEntries}
use Rattle.walk.specs.Letters.{middle, place_word, move_of, move_at}
use Rattle.walk.specs.Held.{Agree}
use Rattle.walk.proofs.Scaling.{scaled-entries}
use Rattle.walk.proofs.Spelling.{IsMove, EntriesAt, IsDiagonal, word-length, letter-move, letter-diagonal}

pub each-length : {A B : Type 0} (P : Letter A → Letter B → Type 0) (U : Word A) (X : Word B) → Matched P U X → length U ≡ length X
each-length P [] [] h = refl
each-length P (x ∷ U) (y ∷ X) h = ap suc (each-length P U X h.1)
each-length {A = A} {B = B} P [] (y ∷ X) h = elim h [ ]
each-length {A = A} {B = B} P (x ∷ U) [] h = elim h [ ]

pub each_at : {A B : Type 0} (P : Letter A → Letter B → Type 0) (U : Word A) (X : Word B) → Matched P U X → (t : ℕ) → t < length X
    → (d : Letter A) (e : Letter B) → P (get_or U t d) (get_or X t e)
each_at P [] [] h t l d e = absurd (not-suc-le-zero l)
each_at P (x ∷ U) (y ∷ X) h zero l d e = h.0
each_at P (x ∷ U) (y ∷ X) h (suc t) l d e = each_at P U X h.1 t (omega arith) d e
each_at {A = A} {B = B} P [] (y ∷ X) h t l d e = elim h [ ]
each_at {A = A} {B = B} P (x ∷ U) [] h t l d e = elim h [ ]

-- a factor and the place where it stands: the weight of a letter E or Et, and an entry of D
abbrev pub At : List Number → Number → ℕ → Type 0
At b x p = (x ≡ get_or b p zero_number) × Ranged 1000 x

abbrev pub On : List Number → Number → ℕ → Type 0
On b x p = x ≡ get_or b p zero_number

module _ (n : ℕ) (way : Way) (b : List Number) (walkable : Source (Walkable n) (step_of way b)) where
  placed : Alike (At b) (On b) n (factors_of b) cell_of
  unfolding factors_of
  placed = record { off = λ i j p q r t e. (refl, walkable.off i j (p, q) (r, t) e); on = λ i p q. refl }

  spelled : Matched (Letters (At b) (On b) n) (step_word n (step_of way b)) (place_word n way)
  unfolding joined_word place_word
  spelled = letters-joined (At b) (On b) n (step_of way b ∷ []) (words.step (way_of way) cell_of ∷ []) (alike placed, tt)

  module _ (ln : 1 ≤ n) (hn : n ≤ 8) where
    pub step-length : length (step_word n (step_of way b)) ≡ 2 * middle n + 1
    step-length = each-length _ (step_word n (step_of way b)) (place_word n way) spelled ∙ word-length n way ln hn

    pub letter-pair : (t : ℕ) → t < 2 * middle n + 1 → Letters (At b) (On b) n (letter_at n way b t) (get_or (place_word n way) t (D (λ i. 0)))
    unfolding letter_at
    letter-pair t l = each_at _ (step_word n (step_of way b)) (place_word n way) spelled t (omega (arith, word-length n way ln hn)) _ _

module _ (n : ℕ) (b : List Number) (ω : State rounded) where
  -- E AND Et
  pub act-move : (y : Letter ℕ) (x : Letter Number) → Letters (At b) (On b) n x y → IsMove y
      → act rounded x ω ≡ moved rounded (move_of y).to (move_of y).from (get_or b (move_of y).at zero_number) ω
  unfolding act
  act-move (E i p) (E j w) h m = ap₂ (λ (k : ℕ) (v : Number). moved rounded k (k - 1) v ω) h.0 h.1.0
  act-move (Et i p) (Et j w) h m = ap₂ (λ (k : ℕ) (v : Number). moved rounded (k - 1) k v ω) h.0 h.1.0
  act-move (E i p) (Et j w) h m = elim h [ ]
  act-move (E i p) (D _) h m = elim h [ ]
  act-move (E i p) (Dinv _) h m = elim h [ ]
  act-move (Et i p) (E j w) h m = elim h [ ]
  act-move (Et i p) (D _) h m = elim h [ ]
  act-move (Et i p) (Dinv _) h m = elim h [ ]
  act-move (D _) _ h m = elim m [ ]
  act-move (Dinv _) _ h m = elim m [ ]

  -- D
  module _ (way : Way) where
    abbrev entries : ℕ → Number
    entries = entries_of n (backwards way) b

    entry-is : (e : ℕ → Number) (f : ℕ → ℕ) → ((i : ℕ) → 1 ≤ i → i ≤ n → On b (e i) (f i)) → EntriesAt n way f → (i : ℕ) → 1 ≤ i → i ≤ n → e i ≡ entries i
    unfolding entries_of
    entry-is e f h g i l u = h i l u ∙ ap (λ (p : ℕ). get_or b p zero_number) (g i l u)

    pub act-diagonal : (y : Letter ℕ) (x : Letter Number) → Letters (At b) (On b) n x y → IsDiagonal n way y → (S : RowSet) → length S ≡ n
        → act rounded x ω S ≡ scaled rounded (scaling (divides way)) entries S (ω S)
    unfolding act
    act-diagonal (D f) (D e) h g S z =
        scaled-entries product_of e entries S (ω S) (λ i l u. entry-is e f h g.1 i l (omega (arith, z)))
        ∙ ap (λ (c : Bool). scaled rounded (scaling c) entries S (ω S)) (sym g.0)
    act-diagonal (Dinv f) (Dinv e) h g S z =
        scaled-entries quotient_of e entries S (ω S) (λ i l u. entry-is e f h g.1 i l (omega (arith, z)))
        ∙ ap (λ (c : Bool). scaled rounded (scaling c) entries S (ω S)) (sym g.0)
    act-diagonal (E _ _) _ h g S z = elim g [ ]
    act-diagonal (Et _ _) _ h g S z = elim g [ ]
    act-diagonal (D f) (E _ _) h g S z = elim h [ ]
    act-diagonal (D f) (Et _ _) h g S z = elim h [ ]
    act-diagonal (D f) (Dinv e) h g S z = elim h [ ]
    act-diagonal (Dinv f) (E _ _) h g S z = elim h [ ]
    act-diagonal (Dinv f) (Et _ _) h g S z = elim h [ ]
    act-diagonal (Dinv f) (D e) h g S z = elim h [ ]

-- the factor of a move is stored or zero
pub move-ranged : (n : ℕ) (b : List Number) (y : Letter ℕ) (x : Letter Number) → Letters (At b) (On b) n x y → IsMove y
    → Ranged 1000 (get_or b (move_of y).at zero_number)
move-ranged n b (E i p) (E j w) h m = subst (Ranged 1000) h.1.0 h.1.1
move-ranged n b (Et i p) (Et j w) h m = subst (Ranged 1000) h.1.0 h.1.1
move-ranged n b (E i p) (Et j w) h m = elim h [ ]
move-ranged n b (E i p) (D _) h m = elim h [ ]
move-ranged n b (E i p) (Dinv _) h m = elim h [ ]
move-ranged n b (Et i p) (E j w) h m = elim h [ ]
move-ranged n b (Et i p) (D _) h m = elim h [ ]
move-ranged n b (Et i p) (Dinv _) h m = elim h [ ]
move-ranged n b (D _) _ h m = elim m [ ]
move-ranged n b (Dinv _) _ h m = elim m [ ]

-- LETTER t OF A STEP
module _ (n : ℕ) (way : Way) (b : List Number) (walkable : Source (Walkable n) (step_of way b)) (ln : 1 ≤ n) (hn : n ≤ 8) (t : ℕ)
    (l : t < 2 * middle n + 1) where
  module _ (e : t ≡ middle n → ⊥) (m : Move) (q : m ≡ move_at n way t) (w : Number) (f : w ≡ get_or b m.at zero_number) where
    pub letter-moved : (ω : State rounded) → act rounded (letter_at n way b t) ω ≡ moved rounded m.to m.from w ω
    unfolding move_at
    letter-moved ω =
        act-move n b ω _ (letter_at n way b t) (letter-pair n way b walkable ln hn t l) (letter-move n way ln hn t l e)
        ∙ ap (λ (x : Move). moved rounded x.to x.from (get_or b x.at zero_number) ω) (sym q)
        ∙ ap (λ (x : Number). moved rounded m.to m.from x ω) (sym f)

    pub letter-ranged : Ranged 1000 w
    unfolding move_at
    letter-ranged =
        subst (Ranged 1000) (ap (λ (x : Move). get_or b x.at zero_number) (sym q) ∙ sym f)
        (move-ranged n b _ (letter_at n way b t) (letter-pair n way b walkable ln hn t l) (letter-move n way ln hn t l e))

  pub letter-scaled : (k : ℕ) → t ≡ middle n → (ω : State rounded)
      → Agree n k (diagonal_of n way b ω) (act rounded (letter_at n way b t) ω)
  letter-scaled k e ω =
      let p = letter-pair n way b walkable ln hn t l in
      record { same = λ S z c. sym (act-diagonal n b ω way _ (letter_at n way b t) p (letter-diagonal n way ln hn t l e) S z) }

-- the entries of D are stored
pub entries-stored : (n : ℕ) (way : Way) (b : List Number) → Source (Walkable n) (step_of way b) → StoredEntries n (entries_of n (backwards way) b)
unfolding factors_of entries_of
entries-stored n way b s = record { stored = by (backwards way) }
  where
    by : (x : Bool) (i : ℕ) → 1 ≤ i → i ≤ n → Stored (get_or b (entry_place n x i) zero_number)
    by true i h l = s.on (n + 1 - i) (omega arith, omega arith)
    by false i h l = s.on i (h, l)
