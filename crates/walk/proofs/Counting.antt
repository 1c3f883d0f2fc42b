-- THE STEPS OF A WALK as the code counts them: a letter's are the sets that it updates (move-counted), D's are none (diagonal-counted); those of the letters
-- from number t on (letters-counted), of the joined steps from number c on (joined-counted), and of an empty minor (empty-counted).
use mathlib.Core.Path.{◌≡◌, refl, sym, ap, ◌∙◌}
use mathlib.Core.List.{List, [], ◌∷◌}
use Prim.Native.Nat.{ℕ, zero, suc, ◌+◌, ◌-◌, ◌*◌, ◌^◌, ◌≤◌, ◌<◌}
use native.Mathlib.Nat.{not-suc-le-zero}
use native.Mathlib.Numerals.{add-one}
use native.Mathlib.Omega.{arith}
use lib.ListN.{get_or, length, drop}
use lib.Seq.{drop-cons, drop-length}
use Rattle.number.specs.declared.Number.{Number}
use Rattle.rowset.specs.Mask.{mask_count, count_below}
use Rattle.rowset.proofs.Positions.{below-choose}
use Rattle.words.specs.Word.{Letter, E, Et, D, Dinv, Word, total}
use Rattle.words.specs.Operation as words
use Rattle.words.specs.Operation.{step_word, joined_word}
use Rattle.words.specs.Effort.{letter_steps, walk_steps}
use Rattle.words.specs.Sources.{Walkable, Source}
use Rattle.words.proofs.Walks.{Rows, All}
use Rattle.words.proofs.Related.{Letters, letter_cost}
use Rattle.words.proofs.Counts.{total-joined}
use Rattle.words.proofs.Steps.{step-rows}
use Rattle.words.proofs.Effort.{letter_foretold, letter-updates, empty-steps}
use Rattle.walk.specs.declared.Way.{Way}
use Rattle.walk.specs.Letters.{middle}
use Rattle.walk.specs.Steps.{step_of, letter_at}
use Rattle.walk.proofs.Spelling.{IsMove, IsDiagonal, letter-move, letter-diagonal}
use Rattle.walk.proofs.Acts.{At, On, letter-pair, step-length}
use Rattle.walk.proofs.Minors.{empty-rows}

all-letter : {A : Type 0} (P : Letter A → Type 0) (W : Word A) → All P W → (t : ℕ) → t < length W → (d : Letter A) → P (get_or W t d)
all-letter P [] h t l d = absurd (not-suc-le-zero l)
all-letter P (x ∷ W) h zero l d = h.0
all-letter P (x ∷ W) h (suc t) l d = all-letter P W h.1 t (omega arith) d

-- what a letter costs, E or Et, and D
move-cost : (n c : ℕ) (b : List Number) (y : Letter ℕ) (x : Letter Number) → Letters (At b) (On b) n x y → IsMove y → letter_cost c 0 x ≡ c
move-cost n c b (E i p) (E j w) h m = refl
move-cost n c b (Et i p) (Et j w) h m = refl
move-cost n c b (E i p) (Et j w) h m = elim h [ ]
move-cost n c b (E i p) (D _) h m = elim h [ ]
move-cost n c b (E i p) (Dinv _) h m = elim h [ ]
move-cost n c b (Et i p) (E j w) h m = elim h [ ]
move-cost n c b (Et i p) (D _) h m = elim h [ ]
move-cost n c b (Et i p) (Dinv _) h m = elim h [ ]
move-cost n c b (D _) _ h m = elim m [ ]
move-cost n c b (Dinv _) _ h m = elim m [ ]

diagonal-cost : (n c : ℕ) (way : Way) (b : List Number) (y : Letter ℕ) (x : Letter Number) → Letters (At b) (On b) n x y → IsDiagonal n way y
    → letter_cost c 0 x ≡ 0
diagonal-cost n c way b (D f) (D e) h m = refl
diagonal-cost n c way b (Dinv f) (Dinv e) h m = refl
diagonal-cost n c way b (E _ _) _ h m = elim m [ ]
diagonal-cost n c way b (Et _ _) _ h m = elim m [ ]
diagonal-cost n c way b (D f) (E _ _) h m = elim h [ ]
diagonal-cost n c way b (D f) (Et _ _) h m = elim h [ ]
diagonal-cost n c way b (D f) (Dinv e) h m = elim h [ ]
diagonal-cost n c way b (Dinv f) (E _ _) h m = elim h [ ]
diagonal-cost n c way b (Dinv f) (Et _ _) h m = elim h [ ]
diagonal-cost n c way b (Dinv f) (D e) h m = elim h [ ]

-- how many sets of k out of n rows a letter updates, as the table has it
many-foretold : (n k : ℕ) → n ≤ 8 → 1 ≤ k → k ≤ n → letter_foretold n k ≡ count_below (k - 1) (2 ^ (n - 2))
many-foretold n zero ln l h = absurd (omega arith)
many-foretold n (suc k) ln l h =
    let e : k ≡ suc k - 1 = omega arith in
    sym (below-choose (n - 2) k (omega arith) (omega arith)) ∙ ap (λ (i : ℕ). count_below i (2 ^ (n - 2))) e

-- LETTER t OF A STEP
module _ (n k : ℕ) (way : Way) (b : List Number) (walkable : Source (Walkable n) (step_of way b)) (ln : 1 ≤ n) (hn : n ≤ 8) (t : ℕ)
    (l : t < 2 * middle n + 1) where
  rows : Rows n (letter_at n way b t)
  unfolding letter_at
  rows = all-letter (Rows n) (step_word n (step_of way b)) (step-rows n (step_of way b)) t (omega (arith, step-length n way b walkable ln hn)) _

  pub move-counted : 1 ≤ k → k ≤ n → (t ≡ middle n → ⊥) → (m : ℕ) → m ≡ count_below (k - 1) (2 ^ (n - 2)) → m ≡ letter_steps n k (letter_at n way b t)
  move-counted some few e m f =
      f ∙ sym (letter-updates n k (letter_at n way b t) rows
      ∙ move-cost n (letter_foretold n k) b _ (letter_at n way b t) (letter-pair n way b walkable ln hn t l) (letter-move n way ln hn t l e)
      ∙ many-foretold n k hn some few)

  pub diagonal-counted : t ≡ middle n → 0 ≡ letter_steps n k (letter_at n way b t)
  diagonal-counted e =
      sym (letter-updates n k (letter_at n way b t) rows
      ∙ diagonal-cost n (letter_foretold n k) way b _ (letter_at n way b t) (letter-pair n way b walkable ln hn t l) (letter-diagonal n way ln hn t l e))

-- THE LETTERS from number t on, none behind the last
pub none-counted : (f : Letter Number → ℕ) (X : Word Number) (t : ℕ) → t ≡ length X → 0 ≡ total f (drop t X)
unfolding total
none-counted f X t e = sym (ap (λ (i : ℕ). total f (drop i X)) e ∙ ap (total f) (drop-length X))

pub letters-counted : (f : Letter Number → ℕ) (X : Word Number) (t : ℕ) → t < length X → (d : Letter Number) (x y : ℕ) → x ≡ total f (drop (t + 1) X)
    → y ≡ f (get_or X t d) → x + y ≡ total f (drop t X)
unfolding total
letters-counted f X t l d x y p q =
    let e : drop t X ≡ get_or X t d ∷ drop (t + 1) X = drop-cons X t d l ∙ ap (λ (i : ℕ). get_or X t d ∷ drop i X) (sym (add-one t)) in
    let g : total f (drop t X) ≡ f (get_or X t d) + total f (drop (t + 1) X) = ap (total f) e in
    omega arith

-- THE STEPS from number c on
pub joined-counted : (n k : ℕ) (L : List (words.Step Number)) (s : words.Step Number) (c : ℕ) → drop c L ≡ s ∷ drop (c + 1) L → (x y : ℕ)
    → x ≡ walk_steps n k (joined_word n (drop (c + 1) L)) → y ≡ walk_steps n k (step_word n s) → x + y ≡ walk_steps n k (joined_word n (drop c L))
joined-counted n k L s c e x y p q =
    let g : walk_steps n k (joined_word n (drop c L)) ≡ walk_steps n k (step_word n s) + walk_steps n k (joined_word n (drop (c + 1) L)) =
    ap (λ (M : List (words.Step Number)). walk_steps n k (joined_word n M)) e ∙ total-joined (letter_steps n k) n s (drop (c + 1) L) in
    omega arith

-- before any step, and of an empty minor
pub no-joined-counted : (n k m : ℕ) (L : List (words.Step Number)) → drop m L ≡ [] → 0 ≡ walk_steps n k (joined_word n (drop m L))
unfolding joined_word total
no-joined-counted n k m L e = sym (ap (λ (M : List (words.Step Number)). walk_steps n k (joined_word n M)) e)

pub empty-counted : (n i j : ℕ) (W : Word Number) → mask_count i ≡ mask_count j → j ≡ 0 → 0 ≡ walk_steps n (mask_count i) W
empty-counted n i j W c z = sym (ap (λ (k : ℕ). walk_steps n k W) (c ∙ ap mask_count z ∙ empty-rows) ∙ empty-steps n W)
