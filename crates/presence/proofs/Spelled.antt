-- Letters of a step's word in Bools by their numbers: a letter E or Et is a move, in the transpose with its rows exchanged (present-moved); D changes nothing
-- (present-still), and neither does a letter with factor zero (present-skipped).
use mathlib.Core.Path.{◌≡◌, refl, sym, ap, ap₂, ◌∙◌, subst}
use mathlib.Core.Bool.{Bool, true, false, not, ◌&&◌, ◌||◌}
use mathlib.Core.List.{List, [], ◌∷◌}
use Prim.Native.Nat.{ℕ, ◌+◌, ◌-◌, ◌*◌, ◌≤◌, ◌<◌}
use native.Mathlib.Omega.{arith}
use borrow.Author.Tests.{ne_eqb}
use lib.ListN.{get_or, length}
use Rattle.number.specs.declared.Number.{Number}
use Rattle.number.specs.Number.{zero_number}
use Rattle.words.specs.RowSet.{RowSet, has}
use Rattle.words.specs.Word.{Letter, E, Et, D, Dinv}
use Rattle.words.specs.Walk.{moved, moved_if, act}
use Rattle.words.specs.Operation as words
use Rattle.words.specs.Operation.{joined_word}
use Rattle.words.specs.Sources.{Walkable, Source}
use Rattle.words.proofs.Related.{Matched, Letters}
use Rattle.words.proofs.Alike.{Alike, alike, letters-joined}
use Rattle.table.specs.Table.{cell_of, factors_of}
use Rattle.walk.specs.declared.Way.{Way}
use Rattle.walk.specs.declared.letters.Move.{Move}
use Rattle.walk.specs.Steps.{way_of, step_of}
use Rattle.walk.specs.Letters.{middle, place_word, move_of, move_at}
use Rattle.walk.proofs.Spelling.{IsMove, IsDiagonal, word-length, letter-move, letter-diagonal}
use Rattle.walk.proofs.Acts.{each-length, each_at}
use Rattle.presence.specs.Presence.{presence, nonzero, letter_if}
use Rattle.presence.specs.Held.{Agree, present_word, present_letter}
use Rattle.presence.proofs.Nonzero.{nonzero-no, nonzero-yes}
use Rattle.presence.proofs.Turned.{scaled-true, unit}

Placed : List Number → Bool → ℕ → Type 0
Placed b x p = x ≡ nonzero (get_or b p zero_number)

There : Bool → ℕ → Type 0
There x p = x ≡ true

module _ (n : ℕ) (way : Way) (b : List Number) (walkable : Source (Walkable n) (step_of way b)) where
  placed : Alike (Placed b) There n (λ i j. nonzero (factors_of b i j)) cell_of
  unfolding factors_of Placed There
  placed = record { off = λ i j p q r t e. refl; on = λ i p q. nonzero-yes (factors_of b i i) (omega (arith, (walkable.on i (p, q)).low)) }

  spelled : Matched (Letters (Placed b) There n) (present_word n way b) (place_word n way)
  unfolding joined_word place_word
  spelled = letters-joined (Placed b) There n (words.each_step nonzero (step_of way b) ∷ []) (words.step (way_of way) cell_of ∷ []) (alike placed, tt)

  module _ (ln : 1 ≤ n) (hn : n ≤ 8) where
    pub present-length : length (present_word n way b) ≡ 2 * middle n + 1
    present-length = each-length _ (present_word n way b) (place_word n way) spelled ∙ word-length n way ln hn

    present-pair : (t : ℕ) → t < 2 * middle n + 1 → Letters (Placed b) There n (present_letter n way b t) (get_or (place_word n way) t (D (λ i. 0)))
    unfolding present_letter
    present-pair t l = each_at _ (present_word n way b) (place_word n way) spelled t (omega (arith, word-length n way ln hn)) _ _

-- the rows of a move, exchanged in the transpose
abbrev pub to_if : Bool → Move → ℕ
to_if true m = m.from
to_if false m = m.to

abbrev pub from_if : Bool → Move → ℕ
from_if true m = m.to
from_if false m = m.from

module _ (n : ℕ) (b : List Number) (ω : RowSet → Bool) where
  act-move : (u : Bool) (y : Letter ℕ) (x : Letter Bool) → Letters (Placed b) There n x y → IsMove y
      → act presence (letter_if u x) ω ≡ moved presence (to_if u (move_of y)) (from_if u (move_of y)) (nonzero (get_or b (move_of y).at zero_number)) ω
  unfolding act Placed
  act-move false (E i p) (E j w) h m = ap₂ (λ (k : ℕ) (v : Bool). moved presence k (k - 1) v ω) h.0 h.1
  act-move false (Et i p) (Et j w) h m = ap₂ (λ (k : ℕ) (v : Bool). moved presence (k - 1) k v ω) h.0 h.1
  act-move true (E i p) (E j w) h m = ap₂ (λ (k : ℕ) (v : Bool). moved presence (k - 1) k v ω) h.0 h.1
  act-move true (Et i p) (Et j w) h m = ap₂ (λ (k : ℕ) (v : Bool). moved presence k (k - 1) v ω) h.0 h.1
  act-move false (E i p) (Et j w) h m = elim h [ ]
  act-move false (E i p) (D _) h m = elim h [ ]
  act-move false (E i p) (Dinv _) h m = elim h [ ]
  act-move false (Et i p) (E j w) h m = elim h [ ]
  act-move false (Et i p) (D _) h m = elim h [ ]
  act-move false (Et i p) (Dinv _) h m = elim h [ ]
  act-move false (D _) _ h m = elim m [ ]
  act-move false (Dinv _) _ h m = elim m [ ]
  act-move true (E i p) (Et j w) h m = elim h [ ]
  act-move true (E i p) (D _) h m = elim h [ ]
  act-move true (E i p) (Dinv _) h m = elim h [ ]
  act-move true (Et i p) (E j w) h m = elim h [ ]
  act-move true (Et i p) (D _) h m = elim h [ ]
  act-move true (Et i p) (Dinv _) h m = elim h [ ]
  act-move true (D _) _ h m = elim m [ ]
  act-move true (Dinv _) _ h m = elim m [ ]

  act-still : (u : Bool) (y : Letter ℕ) (x : Letter Bool) → Letters (Placed b) There n x y → (IsMove y → ⊥) → (S : RowSet) → length S ≡ n
      → act presence (letter_if u x) ω S ≡ ω S
  unfolding act There
  act-still u (E i p) (E j w) h m S z = absurd (m tt)
  act-still u (Et i p) (Et j w) h m S z = absurd (m tt)
  act-still true (D f) (D e) h m S z = scaled-true n ◌&&◌ (unit n) e S (ω S) (omega (arith, z)) (λ i p. h i p.0 p.1)
  act-still false (D f) (D e) h m S z = scaled-true n ◌&&◌ (unit n) e S (ω S) (omega (arith, z)) (λ i p. h i p.0 p.1)
  act-still true (Dinv f) (Dinv e) h m S z = scaled-true n ◌&&◌ (unit n) e S (ω S) (omega (arith, z)) (λ i p. h i p.0 p.1)
  act-still false (Dinv f) (Dinv e) h m S z = scaled-true n ◌&&◌ (unit n) e S (ω S) (omega (arith, z)) (λ i p. h i p.0 p.1)
  act-still u (E i p) (Et j w) h m S z = elim h [ ]
  act-still u (E i p) (D e) h m S z = elim h [ ]
  act-still u (E i p) (Dinv e) h m S z = elim h [ ]
  act-still u (Et i p) (E j w) h m S z = elim h [ ]
  act-still u (Et i p) (D e) h m S z = elim h [ ]
  act-still u (Et i p) (Dinv e) h m S z = elim h [ ]
  act-still false (D f) (E j w) h m S z = elim h [ ]
  act-still false (D f) (Et j w) h m S z = elim h [ ]
  act-still false (D f) (Dinv e) h m S z = elim h [ ]
  act-still true (D f) (E j w) h m S z = elim h [ ]
  act-still true (D f) (Et j w) h m S z = elim h [ ]
  act-still true (D f) (Dinv e) h m S z = elim h [ ]
  act-still false (Dinv f) (E j w) h m S z = elim h [ ]
  act-still false (Dinv f) (Et j w) h m S z = elim h [ ]
  act-still false (Dinv f) (D e) h m S z = elim h [ ]
  act-still true (Dinv f) (E j w) h m S z = elim h [ ]
  act-still true (Dinv f) (Et j w) h m S z = elim h [ ]
  act-still true (Dinv f) (D e) h m S z = elim h [ ]

or-none : (x : Bool) → x || false ≡ x
or-none true = refl
or-none false = refl

-- a weight that is zero changes nothing
pub moved_none : (a o : ℕ) (ω : RowSet → Bool) (S : RowSet) → moved presence a o false ω S ≡ ω S
unfolding moved
moved_none a o ω S = by (has a S && not (has o S))
  where
    by : (b : Bool) → moved_if presence b a o false ω S ≡ ω S
    by true = or-none (ω S)
    by false = refl

no_move : (n : ℕ) (way : Way) (y : Letter ℕ) → IsDiagonal n way y → IsMove y → ⊥
no_move n way (D e) h m = m
no_move n way (Dinv e) h m = m
no_move n way (E _ _) h m = elim h [ ]
no_move n way (Et _ _) h m = elim h [ ]

module _ (n : ℕ) (way : Way) (b : List Number) (walkable : Source (Walkable n) (step_of way b)) (ln : 1 ≤ n) (hn : n ≤ 8) (t : ℕ) (l : t < 2 * middle n + 1)
    (u : Bool) (ω : RowSet → Bool) where
  pub present-still : t ≡ middle n → Agree n ω (act presence (letter_if u (present_letter n way b t)) ω)
  present-still e =
      record {
        same = λ S z. sym (act-still n b ω u (get_or (place_word n way) t (D (λ i. 0))) (present_letter n way b t) (present-pair n way b walkable ln hn t l)
            (no_move n way (get_or (place_word n way) t (D (λ i. 0))) (letter-diagonal n way ln hn t l e)) S z);
      }

  pub present-moved : (t ≡ middle n → ⊥) → (m : Move) → m ≡ move_at n way t → (x : Bool) → x ≡ nonzero (get_or b m.at zero_number)
      → act presence (letter_if u (present_letter n way b t)) ω ≡ moved presence (to_if u m) (from_if u m) x ω
  unfolding move_at
  present-moved e m q x f =
      act-move n b ω u _ (present_letter n way b t) (present-pair n way b walkable ln hn t l) (letter-move n way ln hn t l e)
      ∙ ap (λ (y : Move). moved presence (to_if u y) (from_if u y) (nonzero (get_or b y.at zero_number)) ω) (sym q)
      ∙ ap (λ (y : Bool). moved presence (to_if u m) (from_if u m) y ω) (sym f)

  pub present-skipped : (t ≡ middle n → ⊥) → (m : Move) → m ≡ move_at n way t → false ≡ nonzero (get_or b m.at zero_number)
      → Agree n ω (act presence (letter_if u (present_letter n way b t)) ω)
  present-skipped e m q f = subst (Agree n ω) (sym (present-moved e m q false f)) (record { same = λ S z. sym (moved_none (to_if u m) (from_if u m) ω S) })

-- the factor as it is read
pub factor-no : (b : List Number) (p : ℕ) (w : Number) → w ≡ get_or b p zero_number → w.m ≡ 0 → false ≡ nonzero (get_or b p zero_number)
factor-no b p w e z = sym (nonzero-no w z) ∙ ap nonzero e

pub factor-yes : (b : List Number) (p : ℕ) (w : Number) → w ≡ get_or b p zero_number → (w.m ≡ 0 → ⊥) → true ≡ nonzero (get_or b p zero_number)
factor-yes b p w e z = sym (ap not (ne_eqb w.m 0 z)) ∙ ap nonzero e
