-- The letters of the words of n rows by their numbers, as the code finds them: one computed test each over all n up to 8 and all letters.
-- What letter t is (letter-diagonal, letter-move), the letters of a way by those of the plain word (move-by), and their rows and places (move-within).
use mathlib.Core.Path.{◌≡◌, sym, ap, ap₂, ◌∙◌, subst}
use mathlib.Core.Bool.{Bool, true, false, not, ◌&&◌}
use mathlib.Core.List.{List, [], ◌∷◌, ◌++◌}
use Prim.Native.Nat.{ℕ, zero, suc, ◌+◌, ◌-◌, ◌*◌, ◌/◌, ◌≤◌, ◌<◌}
use native.Mathlib.Nat.{mul-le-mul, not-suc-le-zero}
use native.Mathlib.Omega.{arith}
use borrow.Author.Tests.{ltb-true, eqb-false, not-true}
use lib.Dec.{T, eqb, leb, ltb, eqb→eq, leb→le}
use lib.ListN.{get_or, length, replicate}
use Rattle.rowset.proofs.Finite.{and_left, and_right, T_true, all, all-at}
use Rattle.words.specs.Word.{Letter, E, Et, D, Dinv, Word, ascending, descending, word, inverse_word, converse_word, transposed_word}
use Rattle.walk.specs.declared.Way.{Way}
use Rattle.walk.specs.declared.Way.TheVariants.{Plain, Inverted, Conversed, Transposed}
use Rattle.walk.specs.declared.letters.Move.{Move}
use Rattle.rowset.specs.Sets.{adjacent}
use Rattle.table.specs.Table.{cell_of}
use Rattle.walk.specs.Steps.{divides, backwards, entry_place}
use Rattle.walk.specs.Letters.{middle, place_word, move_of, move_at, MoveWithin}

pub middle-few : (n : ℕ) → n ≤ 8 → n * (n - 1) ≤ 56
middle-few n l = let h : n - 1 ≤ 7 = omega arith in mul-le-mul l h

-- the stages i, i + 1, .. : c stages, stage i with i letters
unfoldable pub staged : ℕ → ℕ → List ℕ
staged i zero = []
staged i (suc c) = replicate i i ++ staged (suc i) c

-- TESTS ON MOVES
same : Move → Move → Bool
same x y = eqb x.to y.to && (eqb x.from y.from && eqb x.at y.at)

same-eq : (x y : Move) → T (same x y) → x ≡ y
unfolding same
same-eq x y t =
    let a = eqb→eq x.to y.to (and_left (eqb x.to y.to) _ t) in
    let r = and_right (eqb x.to y.to) (eqb x.from y.from && eqb x.at y.at) t in
    let b = eqb→eq x.from y.from (and_left (eqb x.from y.from) _ r) in
    let d = eqb→eq x.at y.at (and_right (eqb x.from y.from) _ r) in
    ap (λ (i : ℕ). record { to = i; from = x.from; at = x.at }) a ∙ ap₂ (λ (i j : ℕ). record { to = y.to; from = i; at = j }) b d

within : ℕ → Move → Bool
within n x = (leb 1 x.to && (leb x.to n && (leb 1 x.from && leb x.from n))) && (adjacent x.to x.from && ltb x.at 64)

within-eq : (n : ℕ) (x : Move) → T (within n x) → MoveWithin n x
unfolding within
within-eq n x t =
    let p = and_left (leb 1 x.to && (leb x.to n && (leb 1 x.from && leb x.from n))) _ t in
    let q = and_right (leb 1 x.to && (leb x.to n && (leb 1 x.from && leb x.from n))) _ t in
    let p' = and_right (leb 1 x.to) _ p in
    let p'' = and_right (leb x.to n) _ p' in
    record {
      rows = record {
        to_low = leb→le _ _ (and_left (leb 1 x.to) _ p);
        to_high = leb→le _ _ (and_left (leb x.to n) _ p');
        from_low = leb→le _ _ (and_left (leb 1 x.from) _ p'');
        from-high = leb→le _ _ (and_right (leb 1 x.from) _ p'');
        beside = T_true _ (and_left (adjacent x.to x.from) _ q);
      };
      place = ltb-true _ _ (T_true _ (and_right (adjacent x.to x.from) _ q));
    }

-- LETTERS AS THE CODE FINDS THEM
-- letter t of the first half, of stage i, is E with the factor of this row and column
abbrev pub column_of : ℕ → ℕ → ℕ
column_of t i = t - i * (i - 1) / 2 + 1

abbrev pub row_of : ℕ → ℕ → ℕ → ℕ
row_of n t i = n + 1 + (t - i * (i - 1) / 2) - i

abbrev pub lower_move : ℕ → ℕ → Move
lower_move j c = record { to = j; from = j - 1; at = cell_of j c }

abbrev pub upper_move : ℕ → ℕ → Move
upper_move j c = record { to = j - 1; from = j; at = cell_of c j }

abbrev pub stage_of : ℕ → ℕ
stage_of t = get_or (staged 1 7) t 0

abbrev pub half_move : Bool → ℕ → ℕ → Move
half_move true n t = lower_move (row_of n t (stage_of t)) (column_of t (stage_of t))
half_move false n t = upper_move (row_of n (2 * middle n - t) (stage_of (2 * middle n - t))) (column_of (2 * middle n - t) (stage_of (2 * middle n - t)))

unfoldable pub plain_move : ℕ → ℕ → Move
plain_move n t = half_move (ltb t (middle n)) n t

abbrev pub mirrored : ℕ → Move → Move
mirrored n m = record { to = n + 1 - m.to; from = n + 1 - m.from; at = m.at }

abbrev pub crossed : Move → Move → Move
crossed m f = record { to = m.to; from = m.from; at = f.at }

unfoldable pub move_by : ℕ → Way → ℕ → Move
move_by n Plain t = plain_move n t
move_by n Inverted t = plain_move n (2 * middle n - t)
move_by n Conversed t = mirrored n (plain_move n t)
move_by n Transposed t = crossed (plain_move n t) (plain_move n (2 * middle n - t))

-- THE TEST, letter by letter
-- E and Et stand everywhere but in the middle, with these rows and factors; D stands there, with the diagonal's places
entries : ℕ → Way → (ℕ → ℕ) → Bool
entries n way e = all n (λ i. eqb (e (suc i)) (entry_place n (backwards way) (suc i)))

right : ℕ → Way → ℕ → Letter ℕ → Bool
right n way t (E j p) = not (eqb t (middle n)) && (same (move_of (E j p)) (move_by n way t) && within n (move_of (E j p)))
right n way t (Et j p) = not (eqb t (middle n)) && (same (move_of (Et j p)) (move_by n way t) && within n (move_of (Et j p)))
right n way t (D e) = eqb t (middle n) && (not (divides way) && entries n way e)
right n way t (Dinv e) = eqb t (middle n) && (divides way && entries n way e)

along : (ℕ → Letter ℕ → Bool) → ℕ → Word ℕ → Bool
along p t [] = true
along p t (l ∷ W) = p t l && along p (suc t) W

along-at : (p : ℕ → Letter ℕ → Bool) (t : ℕ) (W : Word ℕ) → T (along p t W) → (i : ℕ) → i < length W → (d : Letter ℕ) → T (p (t + i) (get_or W i d))
unfolding along
along-at p t [] h i l d = absurd (not-suc-le-zero l)
along-at p t (x ∷ W) h zero l d = let e : t ≡ t + 0 = omega arith in subst (λ (k : ℕ). T (p k x)) e (and_left (p t x) (along p (suc t) W) h)
along-at p t (x ∷ W) h (suc i) l d =
    let e : suc t + i ≡ t + suc i = omega arith in
    subst (λ (k : ℕ). T (p k (get_or W i d))) e (along-at p (suc t) W (and_right (p t x) (along p (suc t) W) h) i (omega arith) d)

spelt : ℕ → Way → Bool
spelt n way = eqb (length (place_word (suc n) way)) (2 * middle (suc n) + 1) && along (right (suc n) way) 0 (place_word (suc n) way)

plain-all : T (all 8 (λ n. spelt n Plain))
unfolding spelt along right entries same within adjacent staged plain_move move_by place_word word ascending descending
plain-all = tt

inverse-all : T (all 8 (λ n. spelt n Inverted))
unfolding spelt along right entries same within adjacent staged plain_move move_by place_word word ascending descending inverse_word
inverse-all = tt

converse-all : T (all 8 (λ n. spelt n Conversed))
unfolding spelt along right entries same within adjacent staged plain_move move_by place_word word ascending descending converse_word
converse-all = tt

transpose-all : T (all 8 (λ n. spelt n Transposed))
unfolding spelt along right entries same within adjacent staged plain_move move_by place_word word ascending descending transposed_word
transpose-all = tt

-- WHAT THE TEST SAYS
module _ (n : ℕ) (way : Way) (ln : 1 ≤ n) (hn : n ≤ 8) where
  spelt-at : T (spelt (n - 1) way)
  spelt-at = go way
    where
      go : (way : Way) → T (spelt (n - 1) way)
      go Plain = all-at 8 (λ n. spelt n Plain) plain-all (n - 1) (omega arith)
      go Inverted = all-at 8 (λ n. spelt n Inverted) inverse-all (n - 1) (omega arith)
      go Conversed = all-at 8 (λ n. spelt n Conversed) converse-all (n - 1) (omega arith)
      go Transposed = all-at 8 (λ n. spelt n Transposed) transpose-all (n - 1) (omega arith)

  spelt-parts : T (eqb (length (place_word n way)) (2 * middle n + 1) && along (right n way) 0 (place_word n way))
  unfolding spelt
  spelt-parts =
      let e : suc (n - 1) ≡ n = omega arith in
      subst (λ (m : ℕ). T (eqb (length (place_word m way)) (2 * middle m + 1) && along (right m way) 0 (place_word m way))) e spelt-at

  pub word-length : length (place_word n way) ≡ 2 * middle n + 1
  word-length = eqb→eq _ _ (and_left (eqb (length (place_word n way)) (2 * middle n + 1)) (along (right n way) 0 (place_word n way)) spelt-parts)

  module _ (t : ℕ) (l : t < 2 * middle n + 1) where
    letter-right : T (right n way t (get_or (place_word n way) t (D (λ i. 0))))
    letter-right =
        let e : 0 + t ≡ t = omega arith in
        subst (λ (k : ℕ). T (right n way k (get_or (place_word n way) t (D (λ i. 0))))) e
        (along-at (right n way) 0 (place_word n way)
        (and_right (eqb (length (place_word n way)) (2 * middle n + 1)) (along (right n way) 0 (place_word n way)) spelt-parts) t
        (omega (arith, word-length)) (D (λ i. 0)))

-- a letter E or Et; a letter D, with its kind and its entries
abbrev pub IsMove : Letter ℕ → Type 0
IsMove (E j p) = Unit {0}
IsMove (Et j p) = Unit {0}
IsMove (D e) = ⊥
IsMove (Dinv e) = ⊥

abbrev pub EntriesAt : ℕ → Way → (ℕ → ℕ) → Type 0
EntriesAt n way e = (i : ℕ) → 1 ≤ i → i ≤ n → e i ≡ entry_place n (backwards way) i

abbrev pub IsDiagonal : ℕ → Way → Letter ℕ → Type 0
IsDiagonal n way (E j p) = ⊥
IsDiagonal n way (Et j p) = ⊥
IsDiagonal n way (D e) = (divides way ≡ false) × EntriesAt n way e
IsDiagonal n way (Dinv e) = (divides way ≡ true) × EntriesAt n way e

entries_at : (n : ℕ) (way : Way) (e : ℕ → ℕ) → T (entries n way e) → EntriesAt n way e
unfolding entries
entries_at n way e t i l h =
    let z : suc (i - 1) ≡ i = omega arith in
    subst (λ (k : ℕ). e k ≡ entry_place n (backwards way) k) z
    (eqb→eq _ _ (all-at n (λ i. eqb (e (suc i)) (entry_place n (backwards way) (suc i))) t (i - 1) (omega arith)))

module _ (n : ℕ) (way : Way) (t : ℕ) where
  right-diagonal : (l : Letter ℕ) → T (right n way t l) → t ≡ middle n → IsDiagonal n way l
  unfolding right
  right-diagonal (E j p) h e = absurd (eqb-false t (middle n) (not-true _ (T_true _ (and_left (not (eqb t (middle n))) _ h))) e)
  right-diagonal (Et j p) h e = absurd (eqb-false t (middle n) (not-true _ (T_true _ (and_left (not (eqb t (middle n))) _ h))) e)
  right-diagonal (D f) h e =
      let r = and_right (eqb t (middle n)) (not (divides way) && entries n way f) h in
      (not-true _ (T_true _ (and_left (not (divides way)) _ r)), entries_at n way f (and_right (not (divides way)) _ r))
  right-diagonal (Dinv f) h e =
      let r = and_right (eqb t (middle n)) (divides way && entries n way f) h in
      (T_true _ (and_left (divides way) _ r), entries_at n way f (and_right (divides way) _ r))

  record Moving (l : Letter ℕ) : Type 0 where
    kind : IsMove l
    by : move_of l ≡ move_by n way t
    inside : MoveWithin n (move_of l)

  right-moving : (l : Letter ℕ) → T (right n way t l) → (t ≡ middle n → ⊥) → Moving l
  unfolding right
  right-moving (E j p) h e =
      let r = and_right (not (eqb t (middle n))) (same (move_of (E j p)) (move_by n way t) && within n (move_of (E j p))) h in
      record {
        kind = tt;
        by = same-eq _ _ (and_left (same (move_of (E j p)) (move_by n way t)) _ r);
        inside = within-eq n _ (and_right (same (move_of (E j p)) (move_by n way t)) _ r);
      }
  right-moving (Et j p) h e =
      let r = and_right (not (eqb t (middle n))) (same (move_of (Et j p)) (move_by n way t) && within n (move_of (Et j p))) h in
      record {
        kind = tt;
        by = same-eq _ _ (and_left (same (move_of (Et j p)) (move_by n way t)) _ r);
        inside = within-eq n _ (and_right (same (move_of (Et j p)) (move_by n way t)) _ r);
      }
  right-moving (D f) h e = absurd (e (eqb→eq t (middle n) (and_left (eqb t (middle n)) _ h)))
  right-moving (Dinv f) h e = absurd (e (eqb→eq t (middle n) (and_left (eqb t (middle n)) _ h)))

module _ (n : ℕ) (way : Way) (ln : 1 ≤ n) (hn : n ≤ 8) (t : ℕ) (l : t < 2 * middle n + 1) where
  pub letter-diagonal : t ≡ middle n → IsDiagonal n way (get_or (place_word n way) t (D (λ i. 0)))
  letter-diagonal e = right-diagonal n way t _ (letter-right n way ln hn t l) e

  module _ (e : t ≡ middle n → ⊥) where
    moving : Moving n way t (get_or (place_word n way) t (D (λ i. 0)))
    moving = right-moving n way t _ (letter-right n way ln hn t l) e

    pub letter-move : IsMove (get_or (place_word n way) t (D (λ i. 0)))
    letter-move = moving.kind

    pub move-by : move_at n way t ≡ move_by n way t
    unfolding move_at
    move-by = moving.by

    pub move-within : MoveWithin n (move_at n way t)
    unfolding move_at
    move-within = moving.inside

-- THE WAYS BY THE PLAIN WORD
module _ (n : ℕ) (ln : 1 ≤ n) (hn : n ≤ 8) (t : ℕ) (l : t < 2 * middle n + 1) (e : t ≡ middle n → ⊥) where
  plain-move : plain_move n t ≡ move_at n Plain t
  unfolding move_by
  plain-move = sym (move-by n Plain ln hn t l e)

  plain_back : plain_move n (2 * middle n - t) ≡ move_at n Plain (2 * middle n - t)
  unfolding move_by
  plain_back = sym (move-by n Plain ln hn (2 * middle n - t) (omega arith) (λ f. e (omega arith)))

  pub inverse-move : move_at n Inverted t ≡ move_at n Plain (2 * middle n - t)
  unfolding move_by
  inverse-move = move-by n Inverted ln hn t l e ∙ plain_back

  pub converse-move : move_at n Conversed t ≡ mirrored n (move_at n Plain t)
  unfolding move_by
  converse-move = move-by n Conversed ln hn t l e ∙ ap (mirrored n) plain-move

  pub transpose-move : move_at n Transposed t ≡ crossed (move_at n Plain t) (move_at n Plain (2 * middle n - t))
  unfolding move_by
  transpose-move = move-by n Transposed ln hn t l e ∙ ap₂ crossed plain-move plain_back
