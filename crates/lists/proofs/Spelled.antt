-- The letters of the signed word in the code's terms: their rows, and the places of their factors (`letter-placed`); so letter t carries by a move
-- (`carries-moved`), whose factor is stored or zero (`factor-ranged`), or by the entries of D (`carries-scaled`), and the word has so many letters
-- (`signed-length`).
use mathlib.Core.Path.{◌≡◌, refl, sym, ap, ap₂, ◌∙◌, subst}
use mathlib.Core.Bool.{cond, false≢true}
use mathlib.Core.List.{List, [], ◌∷◌}
use Prim.Native.Nat.{ℕ, ◌+◌, ◌-◌, ◌*◌, ◌≤◌, ◌<◌}
use native.Mathlib.Omega.{arith}
use lib.Dec.{eqb}
use lib.ListN.{length, set, get_or, length-set}
use Rattle.number.specs.Number.{zero_number, Ranged}
use Rattle.number.specs.Signed.{plain, zero_signed, signed_sum, signed_product, signed_arithmetic, SignedRanged}
use Rattle.number.specs.declared.Number.{Number}
use Rattle.number.specs.declared.signed.Signed.{Signed}
use Rattle.words.specs.RowSet.{In}
use Rattle.words.specs.Sources.{Each}
use Rattle.words.specs.Word.{Letter, E, Et, D, Dinv}
use Rattle.words.specs.Walk.{carry, carry_letter}
use Rattle.words.proofs.Alike.{letters-word}
use Rattle.words.proofs.Related.{Matched, Letters}
use Rattle.walk.specs.Letters.{middle, place_word, move_of, move_at, MoveWithin}
use Rattle.table.specs.Table.{cell_of, factors_of}
use Rattle.walk.specs.declared.Way.TheVariants.{Plain}
use Rattle.walk.specs.declared.letters.Move.{Move}
use Rattle.walk.proofs.Acts.{each-length, each_at}
use Rattle.walk.proofs.Spelling.{IsMove, IsDiagonal, word-length, letter-move, letter-diagonal}
use Rattle.items.specs.Items.{vector_of}
use Rattle.lists.specs.Lists.{signed_word}
use Rattle.lists.specs.Carrying.{Carries, Scaled, letter_of}
use Rattle.lists.proofs.LetterReach.{RangedLetter, ranged-letters}
use Rattle.lists.proofs.Carried.{ranged-letter, added-agrees}

-- a factor of a table, and the place where it stands
abbrev At : List Number → Signed → ℕ → Type 0
At b x p = x ≡ plain (get_or b p zero_number)

module _ (b : List Number) (n : ℕ) where
  spelled : Matched (Letters (At b) (At b) n) (signed_word n (factors_of b)) (place_word n Plain)
  unfolding place_word factors_of
  spelled = letters-word (At b) (At b) n (λ i j. plain (factors_of b i j)) cell_of (record { off = λ i j p q r t e. refl; on = λ i p q. refl })

  -- the factor of a letter E or Et
  move-ranged : (y : Letter ℕ) (x : Letter Signed) → Letters (At b) (At b) n x y → IsMove y → RangedLetter n x
      → Ranged 1000 (get_or b (move_of y).at zero_number)
  move-ranged (E k p) (E j w) h m r = (subst (SignedRanged 1000) h.1 r.2).size
  move-ranged (Et k p) (Et j w) h m r = (subst (SignedRanged 1000) h.1 r.2).size
  move-ranged (E k p) (Et j w) h m r = elim h [ ]
  move-ranged (E k p) (D _) h m r = elim h [ ]
  move-ranged (E k p) (Dinv _) h m r = elim h [ ]
  move-ranged (Et k p) (E j w) h m r = elim h [ ]
  move-ranged (Et k p) (D _) h m r = elim h [ ]
  move-ranged (Et k p) (Dinv _) h m r = elim h [ ]
  move-ranged (D _) _ h m r = elim m [ ]
  move-ranged (Dinv _) _ h m r = elim m [ ]

  -- E and Et, and D
  module _ (v : ℕ → Signed) where
    move-carried : (y : Letter ℕ) (x : Letter Signed) → Letters (At b) (At b) n x y → IsMove y → (i : ℕ)
        → carry_letter signed_arithmetic x v i ≡ cond (eqb i (move_of y).to)
        (signed_sum (v i) (signed_product (plain (get_or b (move_of y).at zero_number)) (v (move_of y).from))) (v i)
    unfolding carry_letter
    move-carried (E k p) (E j w) h m i = ap₂ (λ k x. cond (eqb i k) (signed_sum (v i) (signed_product x (v (k - 1)))) (v i)) h.0 h.1
    move-carried (Et k p) (Et j w) h m i = ap₂ (λ k x. cond (eqb i (k - 1)) (signed_sum (v i) (signed_product x (v k))) (v i)) h.0 h.1
    move-carried (E k p) (Et j w) h m i = elim h [ ]
    move-carried (E k p) (D _) h m i = elim h [ ]
    move-carried (E k p) (Dinv _) h m i = elim h [ ]
    move-carried (Et k p) (E j w) h m i = elim h [ ]
    move-carried (Et k p) (D _) h m i = elim h [ ]
    move-carried (Et k p) (Dinv _) h m i = elim h [ ]
    move-carried (D _) _ h m i = elim m [ ]
    move-carried (Dinv _) _ h m i = elim m [ ]

    diagonal-carried : (y : Letter ℕ) (x : Letter Signed) → Letters (At b) (At b) n x y → IsDiagonal n Plain y → (i : ℕ) → In n i
        → carry_letter signed_arithmetic x v i ≡ signed_product (v i) (plain (factors_of b i i))
    unfolding carry_letter factors_of
    diagonal-carried (D f) (D e) h g i p = ap (signed_product (v i)) (h i p.0 p.1 ∙ ap (λ k. plain (get_or b k zero_number)) (g.1 i p.0 p.1))
    diagonal-carried (Dinv f) (Dinv e) h g i p = absurd (false≢true g.0)
    diagonal-carried (E _ _) _ h g i p = elim g [ ]
    diagonal-carried (Et _ _) _ h g i p = elim g [ ]
    diagonal-carried (D f) (E _ _) h g i p = elim h [ ]
    diagonal-carried (D f) (Et _ _) h g i p = elim h [ ]
    diagonal-carried (D f) (Dinv e) h g i p = elim h [ ]
    diagonal-carried (Dinv f) (E _ _) h g i p = elim h [ ]
    diagonal-carried (Dinv f) (Et _ _) h g i p = elim h [ ]
    diagonal-carried (Dinv f) (D e) h g i p = elim h [ ]

  module _ (low : 1 ≤ n) (high : n ≤ 8) where
    pub signed-length : length (signed_word n (factors_of b)) ≡ 2 * middle n + 1
    signed-length = each-length _ (signed_word n (factors_of b)) (place_word n Plain) spelled ∙ word-length n Plain low high

    -- ---- letter t
    module _ (t : ℕ) (l : t < 2 * middle n + 1) where
      letter-placed : Letters (At b) (At b) n (letter_of n (factors_of b) t) (get_or (place_word n Plain) t (D (λ i. 0)))
      unfolding letter_of
      letter-placed = each_at _ (signed_word n (factors_of b)) (place_word n Plain) spelled t (omega (arith, word-length n Plain low high)) _ _

      pub factor-ranged : Each (Ranged 1000) n (factors_of b) → (t ≡ middle n → ⊥) → (m : Move) → m ≡ move_at n Plain t → (w : Number)
          → w ≡ get_or b m.at zero_number → Ranged 1000 w
      unfolding letter_of move_at
      factor-ranged s e m f w g =
          let r = ranged-letter n (signed_word n (factors_of b)) (ranged-letters n (factors_of b) s) t (D (λ i. zero_signed)) (omega (arith, signed-length)) in
          subst (Ranged 1000) (ap (λ (x : Move). get_or b x.at zero_number) (sym f) ∙ sym g)
          (move-ranged _ (letter_of n (factors_of b) t) letter-placed (letter-move n Plain low high t l e) r)

      pub carries-moved : (v : List Signed) → length v ≡ 8 → (t ≡ middle n → ⊥) → (m : Move) → m ≡ move_at n Plain t → MoveWithin n m → (w : Number)
          → w ≡ get_or b m.at zero_number
          → Carries n (letter_of n (factors_of b) t ∷ []) v (set v (m.to - 1) (signed_sum (vector_of v m.to) (signed_product (vector_of v m.from) (plain w))))
      unfolding carry move_at
      carries-moved v eight e m f k w g =
          record {
            eight = length-set v (m.to - 1) _ ∙ eight;
            agrees = λ i p. added-agrees n m.to m.from w v high eight (k.rows.to_low, k.rows.to_high) i p
                ∙ ap₂ (λ (x : Move) (z : Number). cond (eqb i x.to) (signed_sum (vector_of v i) (signed_product (plain z) (vector_of v x.from)))
                (vector_of v i)) f
                (g ∙ ap (λ (x : Move). get_or b x.at zero_number) f)
                ∙ sym (move-carried (vector_of v) _ (letter_of n (factors_of b) t) letter-placed (letter-move n Plain low high t l e) i);
          }

      pub carries-scaled : t ≡ middle n → (v u : List Signed) → Scaled n (factors_of b) v u → Carries n (letter_of n (factors_of b) t ∷ []) v u
      unfolding carry
      carries-scaled e v u s =
          record {
            eight = s.eight;
            agrees =
                λ i p. s.done i p
                ∙ sym (diagonal-carried (vector_of v) _ (letter_of n (factors_of b) t) letter-placed (letter-diagonal n Plain low high t l e) i p);
          }
