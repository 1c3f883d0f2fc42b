-- HOWEVER THE INPUT ARRIVES: a text answered in two pieces, the second behind what was held of the first, is answered as the whole (`pieces`). The lines of the
-- whole are those of the first piece, then those of the rest (`lines-parted`); a line whose start was thrown away is too long in the whole as well.
use Prim.Native.Nat.{ℕ, suc}
use native.Mathlib.Omega.{arith}
use mathlib.Core.Path.{◌≡◌, refl, sym, ap, ap₂, ◌∙◌}
use mathlib.Core.Bool.{Bool, true, false, cond, ◌||◌}
use mathlib.Core.List.{List, [], ◌∷◌, ◌++◌, append-nil, append_assoc}
use lib.Dec.{ltb, eqb}
use lib.ListN.{length, length-append}
use borrow.Author.Tests.{lt-ltb, ltb-true}
use Rattle.lines.specs.Words.{before, in_front, parted, parts_at}
use Rattle.lines.proofs.Parts.{parts_first}
use Rattle.replies.specs.Replies.{overlong, answer_to, reply_to_line}
use Rattle.tnb_console.specs.Session.{Session, enough, after_line, after_lines, answers_to, written_of, all_but_last, last_of, lines_of, unended, after_text, held}

-- a text has a first part, and those behind it
pub record Parts (stop : ℕ) (s : List ℕ) : Type 0 where
  pub first : List ℕ
  pub others : List (List ℕ)
  pub same : parted stop s ≡ first ∷ others

parts : (stop : ℕ) (s : List ℕ) → Parts stop s
parts stop s = record { first = before stop s; others = parts_at stop s (suc (length (before stop s))); same = parts_first stop s }

-- ---- all parts but the last, and the last, of one list behind another
but-behind : (L : List (List ℕ)) (w : List ℕ) (ws : List (List ℕ)) → all_but_last (L ++ (w ∷ ws)) ≡ L ++ all_but_last (w ∷ ws)
unfolding all_but_last
but-behind [] w ws = refl
but-behind (v ∷ []) w ws = refl
but-behind (v ∷ u ∷ L) w ws = ap (λ l. v ∷ l) (but-behind (u ∷ L) w ws)

last-behind : (L : List (List ℕ)) (w : List ℕ) (ws : List (List ℕ)) → last_of (L ++ (w ∷ ws)) ≡ last_of (w ∷ ws)
unfolding last_of
last-behind [] w ws = refl
last-behind (v ∷ []) w ws = refl
last-behind (v ∷ u ∷ L) w ws = last-behind (u ∷ L) w ws

-- THE PARTS of one text behind another: the last part of the first goes on
parted-behind : (stop : ℕ) (a b : List ℕ) → parted stop (a ++ b) ≡ all_but_last (parted stop a) ++ parted stop (last_of (parted stop a) ++ b)
unfolding parted all_but_last last_of
parted-behind stop [] b = refl
parted-behind stop (x ∷ a) b = by (eqb x stop) refl (parts stop a) (parted-behind stop a b)
  where
    more : (t : Bool) → eqb x stop ≡ t → (p : List ℕ) (ps : List (List ℕ)) → parted stop a ≡ p ∷ ps
        → parted stop (a ++ b) ≡ all_but_last (p ∷ ps) ++ parted stop (last_of (p ∷ ps) ++ b)
        → parted stop (x ∷ (a ++ b)) ≡ all_but_last (parted stop (x ∷ a)) ++ parted stop (last_of (parted stop (x ∷ a)) ++ b)
    more true e p ps s h = rw (e, h, s)
    more false e p [] s h = rw (e, h, s, e)
    more false e p (q ∷ qs) s h = rw (e, h, s)

    by : (t : Bool) → eqb x stop ≡ t → Parts stop a → parted stop (a ++ b) ≡ all_but_last (parted stop a) ++ parted stop (last_of (parted stop a) ++ b)
        → parted stop (x ∷ (a ++ b)) ≡ all_but_last (parted stop (x ∷ a)) ++ parted stop (last_of (parted stop (x ∷ a)) ++ b)
    by t e p h = more t e p.first p.others p.same (rw p.same at h)

-- the last part has no stop in it, so a text behind it goes on where it ends
pub last-whole : (stop : ℕ) (a : List ℕ) → parted stop (last_of (parted stop a)) ≡ last_of (parted stop a) ∷ []
unfolding parted last_of
last-whole stop [] = refl
last-whole stop (x ∷ a) = by (eqb x stop) refl (parts stop a) (last-whole stop a)
  where
    more : (t : Bool) → eqb x stop ≡ t → (p : List ℕ) (ps : List (List ℕ)) → parted stop a ≡ p ∷ ps → parted stop (last_of (p ∷ ps)) ≡ last_of (p ∷ ps) ∷ []
        → parted stop (last_of (parted stop (x ∷ a))) ≡ last_of (parted stop (x ∷ a)) ∷ []
    more true e p ps s h = rw (e, s, h)
    more false e p [] s h = rw (e, s, e, h)
    more false e p (q ∷ qs) s h = rw (e, s, h)

    by : (t : Bool) → eqb x stop ≡ t → Parts stop a → parted stop (last_of (parted stop a)) ≡ last_of (parted stop a) ∷ []
        → parted stop (last_of (parted stop (x ∷ a))) ≡ last_of (parted stop (x ∷ a)) ∷ []
    by t e p h = more t e p.first p.others p.same (rw p.same at h)

whole-front : (stop : ℕ) (u b p : List ℕ) (ps : List (List ℕ)) → parted stop u ≡ u ∷ [] → parted stop b ≡ p ∷ ps → parted stop (u ++ b) ≡ (u ++ p) ∷ ps
unfolding parted
whole-front stop [] b p ps h e = e
whole-front stop (x ∷ u) b p ps h e = by (eqb x stop) refl (parts stop u) (λ v. whole-front stop u b p ps v e)
  where
    by : (t : Bool) → eqb x stop ≡ t → Parts stop u → (parted stop u ≡ u ∷ [] → parted stop (u ++ b) ≡ (u ++ p) ∷ ps)
        → parted stop (x ∷ (u ++ b)) ≡ (x ∷ (u ++ p)) ∷ ps
    by true f q more =
        let g : [] ∷ parted stop u ≡ (x ∷ u) ∷ [] = sym (ap (λ t. cond t ([] ∷ parted stop u) (in_front x (parted stop u))) f) ∙ h in
        let z : ◌≡◌ {A = ℕ} 0 1 = cc in
        absurd (omega arith)
    by false f q more =
        let g : (x ∷ q.first) ∷ q.others ≡ (x ∷ u) ∷ [] = sym (ap₂ (λ t l. cond t ([] ∷ l) (in_front x l)) f q.same) ∙ h in
        let v : q.first ∷ q.others ≡ u ∷ [] = cc in
        rw (f, more (q.same ∙ v))

-- ---- what a text leaves, by its parts
abbrev after_parts : Session → List (List ℕ) → Session
after_parts c P =
    record {
      shelf = (after_lines c (all_but_last P)).shelf;
      long = overlong (after_lines c (all_but_last P)).long (last_of P);
      waiting = (after_lines c (all_but_last P)).waiting;
    }

lines-behind : (c : Session) (L M : List (List ℕ)) → after_lines c (L ++ M) ≡ after_lines (after_lines c L) M
unfolding after_lines
lines-behind c [] M = refl
lines-behind c (l ∷ L) M = lines-behind (after_line c l) L M

parts-behind : (c : Session) (L : List (List ℕ)) (t : List ℕ) → after_parts c (L ++ parted 10 t) ≡ after_parts (after_lines c L) (parted 10 t)
parts-behind c L t =
    let p = parts 10 t in
    rw (p.same, but-behind L p.first p.others, last-behind L p.first p.others, lines-behind c L (all_but_last (p.first ∷ p.others)))

-- ---- a line that is too long already is answered alike, whatever more of it is kept
module _ (d : Session) (u : List ℕ) (over : overlong d.long u ≡ true) where
  abbrev cut : Session
  cut = record { shelf = d.shelf; long = true; waiting = d.waiting }

  still : (p : List ℕ) → overlong d.long (u ++ p) ≡ true
  still p = by d.long refl
    where
      by : (t : Bool) → d.long ≡ t → t || ltb 4096 (length (u ++ p)) ≡ true
      by true e = refl
      by false e =
          let l = ltb-true 4096 (length u) (sym (ap (λ t. t || ltb 4096 (length u)) e) ∙ over) in
          lt-ltb 4096 (length (u ++ p)) (omega (arith, length-append u p))

  line-cut : (p : List ℕ) → after_line cut p ≡ after_line d (u ++ p)
  unfolding after_line answer_to
  line-cut p = rw (still p)

  parts_cut : (p : List ℕ) (ps : List (List ℕ)) → after_parts cut (p ∷ ps) ≡ after_parts d ((u ++ p) ∷ ps)
  unfolding after_lines all_but_last last_of
  parts_cut p [] = rw (still p)
  parts_cut p (q ∷ qs) = ap (λ (c : Session). after_parts c (q ∷ qs)) (line-cut p)

-- THE PIECES of a text, one behind the other
pub pieces : (c : Session) (a b : List ℕ) → after_text (after_text c a) (held c a ++ b) ≡ after_text c (a ++ b)
unfolding after_text
pieces c a b = by (overlong d.long u) refl ∙ sym (rw (parted-behind 10 a b) (parts-behind c (lines_of a) (u ++ b)))
  where
    d : Session
    d = after_lines c (lines_of a)

    u : List ℕ
    u = unended a

    neither : (t : Bool) → t || ltb 4096 (length u) ≡ false → t ≡ false
    neither false f = refl
    neither true f = f

    by : (t : Bool) → overlong d.long u ≡ t
        → after_parts (record { shelf = d.shelf; long = t; waiting = d.waiting }) (parted 10 (cond t [] u ++ b)) ≡ after_parts d (parted 10 (u ++ b))
    by true e =
        let p = parts 10 b in
        rw (p.same, whole-front 10 u b p.first p.others (last-whole 10 a) p.same) (parts_cut d u e p.first p.others)
    by false e = ap (λ (x : Bool). after_parts (record { shelf = d.shelf; long = x; waiting = d.waiting }) (parted 10 (u ++ b))) (sym (neither d.long e))

-- NOTHING IS LOST: what was written and what waits, one behind the other, are what waited before and the answers in their order
pub nothing-lost : (c : Session) (L : List (List ℕ)) → written_of c L ++ (after_lines c L).waiting ≡ c.waiting ++ answers_to c L
unfolding written_of after_lines answers_to after_line
nothing-lost c [] = sym (append-nil c.waiting)
nothing-lost c (line ∷ L) =
    by (ltb (length c.waiting) enough) (written_of (after_line c line) L) (after_lines (after_line c line) L).waiting (answers_to (after_line c line) L)
    (nothing-lost (after_line c line) L)
  where
    w : List ℕ
    w = c.waiting

    text : List ℕ
    text = (reply_to_line c.shelf c.long line).text

    by : (t : Bool) (x y z : List ℕ) → x ++ y ≡ (cond t w [] ++ text) ++ z → (cond t [] w ++ x) ++ y ≡ w ++ (text ++ z)
    by true x y z e = e ∙ append_assoc w text z
    by false x y z e = append_assoc w x y ∙ ap (λ l. w ++ l) e
