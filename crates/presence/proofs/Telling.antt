-- WHAT IS TOLD AT THE END of a walk in Bools (tells-if). It starts from a set of each count; letters keep the count of a set (walk_at), so at the
-- sets of one count the walk is that of the minor with the leading set of as many rows (start-one). Where no factor is zero all sets are held
-- (tells-all-if).
use mathlib.Core.Path.{◌≡◌, refl, sym, ap, ap₂, ◌∙◌}
use mathlib.Core.Bool.{Bool, true, false, not, cond, ◌&&◌, ◌||◌}
use mathlib.Core.List.{List, [], ◌∷◌}
use Prim.Native.Nat.{ℕ, ◌-◌, ◌^◌, ◌≤◌, ◌<◌}
use native.Mathlib.Omega.{arith}
use lib.Dec.{eqb}
use lib.ListN.{length, replicate, get_or-replicate}
use lib.Pow.{pow_mono}
use Rattle.number.specs.declared.Number.{Number}
use Rattle.number.specs.Number.{rounded}
use Rattle.rowset.specs.Mask.{mask_of, mask_count, mask_run, mask_among, mask_moves, mask_replaced}
use Rattle.rowset.proofs.Masks.{of_mask-length, mask-equal, mask-moves, mask-replaced, replaced-below}
use Rattle.rowset.proofs.Moved.{replaced-count}
use Rattle.rowset.proofs.Counts.{mask-count, mask-run, mask-among, among_below}
use Rattle.words.specs.RowSet.{In, RowSet, has, replaced, equal, count, among, rows, of_mask}
use Rattle.words.specs.Word.{Letter, E, Et, D, Dinv, Word, transposed_word}
use Rattle.words.specs.Walk.{one_at, moved, moved_if, scaled, act, walk, minor}
use Rattle.words.specs.Operation as words
use Rattle.words.specs.Operation.{joined_word, each_steps}
use Rattle.words.specs.Sources.{Walkable, Sources}
use Rattle.words.proofs.RowSets.{length-replaced, length-rows}
use Rattle.words.proofs.Runs.{count-rows}
use Rattle.words.proofs.Chosen.{length-among, count-among}
use Rattle.words.proofs.Words.{transposed-rows}
use Rattle.words.proofs.Walks.{Rows, All}
use Rattle.words.proofs.Steps.{joined-rows}
use Rattle.words.proofs.Related.{Matched, Letters}
use Rattle.words.proofs.Alike.{letters-joined}
use Rattle.walk.proofs.Held.{mask_lt, mask-set, mask-rows}
use Rattle.presence.specs.Presence.{presence, nonzero, word_if, turned_by}
use Rattle.presence.specs.Held.{held_at, state_of, Agree, Starts, leading, Tells}
use Rattle.presence.specs.Full.{Full}
use Rattle.presence.proofs.Nonzero.{nonzero-yes, WeightTold, EntryTold, told-steps, minor-presence}
use Rattle.presence.proofs.Turned.{Told, minor-turned}
use Rattle.presence.proofs.AllPresent.{full-present}
use Rattle.presence.proofs.Search.{count-few}
use Rattle.presence.proofs.Walking.{present_steps}

-- ONE COUNT OF ROWS: a walk keeps it
module _ (n k : ℕ) (ln : n ≤ 8) where
  abbrev Alike-at : (ω η : RowSet → Bool) → Type 0
  Alike-at ω η = (S : RowSet) → length S ≡ n → count S ≡ k → ω S ≡ η S

  replaced-rows : (a o : ℕ) (S : RowSet) → length S ≡ n → In n a → In n o → (has a S && not (has o S)) ≡ true → count (replaced a o S) ≡ count S
  replaced-rows a o S e ha ho t =
      let s : ℕ = mask_of S in
      let b : s < 2 ^ n = mask_lt n S e in
      let q : of_mask n s ≡ S = mask-set n S e in
      let h : 2 ^ n ≤ 2 ^ 8 = pow_mono ln in
      let m : mask_moves a o s ≡ true = sym (mask-moves n a o s ha.0 ha.1 ho.0 ho.1) ∙ ap (λ (T : RowSet). has a T && not (has o T)) q ∙ t in
      ap (λ (T : RowSet). count (replaced a o T)) (sym q) ∙ ap count (sym (mask-replaced n s a o b ha.0 ha.1 ho.0 ho.1))
      ∙ mask-count n (mask_replaced a o s) ln (replaced-below n s a o b ha.0 ha.1 ho.0 ho.1)
      ∙ replaced-count s a o (omega arith) (omega (arith, ha.1)) (omega (arith, ho.1)) m ∙ mask-rows n S e ln

  moved_at_lem : (a o : ℕ) (w : Bool) (ω η : RowSet → Bool) → In n a → In n o → Alike-at ω η → Alike-at (moved presence a o w ω) (moved presence a o w η)
  unfolding moved
  moved_at_lem a o w ω η ha ho h S e c = by (has a S && not (has o S)) refl
    where
      by : (b : Bool) → (has a S && not (has o S)) ≡ b → moved_if presence b a o w ω S ≡ moved_if presence b a o w η S
      by true t = ap₂ (λ (x y : Bool). x || (w && y)) (h S e c) (h (replaced a o S) (length-replaced a o S ∙ e) (replaced-rows a o S e ha ho t ∙ c))
      by false t = h S e c

  act-at : (l : Letter Bool) → Rows n l → (ω η : RowSet → Bool) → Alike-at ω η → Alike-at (act presence l ω) (act presence l η)
  unfolding act
  act-at (E j w) r ω η h = moved_at_lem j (j - 1) w ω η (omega (arith, r.0), r.1) (omega (arith, r.0), omega (arith, r.1)) h
  act-at (Et j w) r ω η h = moved_at_lem (j - 1) j w ω η (omega (arith, r.0), omega (arith, r.1)) (omega (arith, r.0), r.1) h
  act-at (D e) r ω η h = λ S z c. ap (scaled presence ◌&&◌ e S) (h S z c)
  act-at (Dinv e) r ω η h = λ S z c. ap (scaled presence ◌&&◌ e S) (h S z c)

  walk_at : (W : Word Bool) → All (Rows n) W → (ω η : RowSet → Bool) → Alike-at ω η → Alike-at (walk presence W ω) (walk presence W η)
  unfolding walk
  walk_at [] r ω η h = h
  walk_at (l ∷ W) r ω η h = act-at l r.0 (walk presence W ω) (walk presence W η) (walk_at W r.1 ω η h)

-- entries of D are there
told-letter : (n : ℕ) (l : Letter Number) (m : Letter Bool) → Letters WeightTold EntryTold n l m → Told n m
told-letter n (E j w) (E i v) h = tt
told-letter n (Et j w) (Et i v) h = tt
told-letter n (D e) (D f) h = λ i p. (h i p.0 p.1).0 ∙ nonzero-yes (e i) (omega (arith, (h i p.0 p.1).1.low))
told-letter n (Dinv e) (Dinv f) h = λ i p. (h i p.0 p.1).0 ∙ nonzero-yes (e i) (omega (arith, (h i p.0 p.1).1.low))
told-letter n (E j w) (Et i v) h = elim h [ ]
told-letter n (E j w) (D f) h = elim h [ ]
told-letter n (E j w) (Dinv f) h = elim h [ ]
told-letter n (Et j w) (E i v) h = elim h [ ]
told-letter n (Et j w) (D f) h = elim h [ ]
told-letter n (Et j w) (Dinv f) h = elim h [ ]
told-letter n (D e) (E i v) h = elim h [ ]
told-letter n (D e) (Et i v) h = elim h [ ]
told-letter n (D e) (Dinv f) h = elim h [ ]
told-letter n (Dinv e) (E i v) h = elim h [ ]
told-letter n (Dinv e) (Et i v) h = elim h [ ]
told-letter n (Dinv e) (D f) h = elim h [ ]

told-letters : (n : ℕ) (W : Word Number) (X : Word Bool) → Matched (Letters WeightTold EntryTold n) W X → All (Told n) X
told-letters n [] [] h = tt
told-letters n (l ∷ W) (m ∷ X) h = (told-letter n l m h.0, told-letters n W X h.1)
told-letters n [] (m ∷ X) h = elim h [ ]
told-letters n (l ∷ W) [] h = elim h [ ]

-- THE START, at one count of rows
module _ (n p : ℕ) (ln : n ≤ 8) (lp : p < 2 ^ n) (v : List Bool) (st : Starts p v) where
  P : RowSet
  P = of_mask n p

  leading-mask : (c : ℕ) → c ≤ 8 → of_mask n (mask_among p (mask_run 1 c)) ≡ leading P c
  unfolding P
  leading-mask c l =
      mask-among n p (mask_run 1 c) ln lp
      ∙ ap (among (of_mask n p)) (mask-run (mask_count p) 1 c (count-few p) (omega arith) l ∙ ap (λ (k : ℕ). rows k 1 c) (sym (mask-count n p ln lp)))

  start-one : (c : ℕ) → c ≤ mask_count p → (S : RowSet) → length S ≡ n → count S ≡ c → state_of v S ≡ one_at presence (leading P c) S
  unfolding one_at P
  start-one c l S e k =
      let s : ℕ = mask_of S in
      let b : s < 2 ^ n = mask_lt n S e in
      let q : mask_count s ≡ c = mask-rows n S e ln ∙ k in
      let g : 2 ^ n ≤ 2 ^ 8 = pow_mono ln in
      st.start s (omega arith) (omega arith) ∙ ap (λ (x : ℕ). eqb (mask_among p (mask_run 1 x)) s) q
      ∙ sym (mask-equal n (mask_among p (mask_run 1 c)) s (among_below n p (mask_run 1 c) ln lp) b)
      ∙ ap₂ equal (leading-mask c (omega (arith, count-few p))) (mask-set n S e) ∙ if (equal (leading (of_mask n p) c) S)
    where
      if : (b : Bool) → b ≡ cond b true false
      if true = refl
      if false = refl

  module _ (L : List (words.Step Number)) (walkable : Sources (Walkable n) L) (u : List Bool) where
    at_most : (S : RowSet) → count S ≤ count P → count S ≤ mask_count p
    unfolding P
    at_most S l = omega (arith, mask-count n p ln lp)

    pub tells : Agree n (state_of u) (walk presence (present_steps n L) (state_of v)) → Tells n (minor rounded (joined_word n L)) (of_mask n p) u
    unfolding minor P
    tells h = record {
      told = λ S e l. h.same S e
          ∙ walk_at n (count S) ln (present_steps n L) (joined-rows n (each_steps nonzero L)) (state_of v) (one_at presence (leading P (count S)))
          (start-one (count S) (at_most S l)) S e refl
          ∙ minor-presence n L walkable S (leading P (count S)) e;
    }

    tells-turned : Agree n (state_of u) (walk presence (transposed_word (present_steps n L)) (state_of v))
        → Tells n (λ I J. minor rounded (joined_word n L) J I) (of_mask n p) u
    unfolding minor P
    tells-turned h = record {
      told = λ S e l.
          let J : RowSet = leading P (count S) in
          let j : length J ≡ n = length-among P (rows (count P) 1 (count S)) (length-rows (count P) 1 (count S)) ∙ of_mask-length n p in
          h.same S e
          ∙ walk_at n (count S) ln (transposed_word (present_steps n L)) (transposed-rows n (present_steps n L) (joined-rows n (each_steps nonzero L)))
          (state_of v)
          (one_at presence J) (start-one (count S) (at_most S l)) S e refl
          ∙ minor-turned n ln (present_steps n L) (joined-rows n (each_steps nonzero L))
          (told-letters n (joined_word n L) (present_steps n L) (letters-joined WeightTold EntryTold n L (each_steps nonzero L) (told-steps n L walkable)))
          J S j e
          ∙ minor-presence n L walkable J S j;
    }

    pub tells-if : (b : Bool) → Agree n (state_of u) (walk presence (word_if b (present_steps n L)) (state_of v))
        → Tells n (turned_by b (minor rounded (joined_word n L))) (of_mask n p) u
    tells-if true = tells-turned
    tells-if false = tells

-- the leading ones of the chosen rows, as many as there are in S
leading_length : (n p c : ℕ) → length (leading (of_mask n p) c) ≡ n
leading_length n p c =
    let P : RowSet = of_mask n p in
    length-among P (rows (count P) 1 c) (length-rows (count P) 1 c) ∙ of_mask-length n p

leading-rows : (n p c : ℕ) → c ≤ count (of_mask n p) → count (leading (of_mask n p) c) ≡ c
leading-rows n p c l =
    let P : RowSet = of_mask n p in
    count-among P (rows (count P) 1 c) (length-rows (count P) 1 c) ∙ count-rows (count P) 1 c (omega arith) l ∙ omega arith

all_held : (n : ℕ) (S : RowSet) → length S ≡ n → n ≤ 8 → held_at (replicate 256 true) (mask_of S) ≡ true
unfolding held_at
all_held n S e ln =
    let h : 2 ^ n ≤ 2 ^ 8 = pow_mono ln in
    get_or-replicate 256 (mask_of S) true false (omega (arith, mask_lt n S e))

-- WHERE NO FACTOR IS ZERO all are held
pub tells_all : (n p : ℕ) (L : List (words.Step Number)) → n ≤ 8 → p < 2 ^ n → Sources (Walkable n) L → Full n L
    → Tells n (minor rounded (joined_word n L)) (of_mask n p) (replicate 256 true)
tells_all n p L ln lp walkable full = record {
  told = λ S e l.
      let J : RowSet = leading (of_mask n p) (count S) in
      all_held n S e ln ∙ sym (full-present n L full S J e (leading_length n p (count S)) (sym (leading-rows n p (count S) l)))
      ∙ minor-presence n L walkable S J e;
}

tells-all-turned : (n p : ℕ) (L : List (words.Step Number)) → n ≤ 8 → p < 2 ^ n → Sources (Walkable n) L → Full n L
    → Tells n (λ I J. minor rounded (joined_word n L) J I) (of_mask n p) (replicate 256 true)
tells-all-turned n p L ln lp walkable full = record {
  told = λ S e l.
      let J : RowSet = leading (of_mask n p) (count S) in
      all_held n S e ln ∙ sym (full-present n L full J S (leading_length n p (count S)) e (leading-rows n p (count S) l))
      ∙ minor-presence n L walkable J S (leading_length n p (count S));
}

pub tells-all-if : (b : Bool) (n p : ℕ) (L : List (words.Step Number)) → n ≤ 8 → p < 2 ^ n → Sources (Walkable n) L → Full n L
    → Tells n (turned_by b (minor rounded (joined_word n L))) (of_mask n p) (replicate 256 true)
tells-all-if true = tells-all-turned
tells-all-if false = tells_all
