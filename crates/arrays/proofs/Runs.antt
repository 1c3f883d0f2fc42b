-- Runs of elements written into a list, by `sets`. Parts of slices: what a callee is lent (`part-is`), and what it wrote said of the whole (`sets-part`).
-- A run behind another (`sets-append`), one element more (`sets-next`), over another (`sets_over`), past the end (`sets-out`); what a run does not reach
-- (`get_d-sets-other`), and a run at the front read again (`take-sets-front`).
use Prim.Native.Nat.{ℕ, suc, ◌+◌, ◌-◌, ◌<◌, ◌≤◌}
use native.Mathlib.Nat.{zero-add, suc-add, add-zero, add-suc}
use native.Mathlib.Numerals.{add-one}
use native.Mathlib.Omega.{arith}
use mathlib.Core.Path.{◌≡◌, refl, sym, ap, ◌∙◌}
use mathlib.Core.List.{List, [], ◌∷◌, ◌++◌, append-nil}
use lib.ListN.{length, get_or, take, drop, set, length-drop, take-append-drop, drop_of_length-le}
use lib.Seq.{sets, length-sets, sets-eq, set_out, take_all, take_at, take-suc, length-take-le, get_or-set_other, take-set-le, drop-set-lt}

module _ {A : Type 0} where
  -- `&s[p..]`
  pub part-is : (s : List A) (p : ℕ) → take (length s - p) (drop p s) ≡ drop p s
  part-is s p = take_all (length s - p) (drop p s) (omega (arith, length-drop p s))

  set-behind : (p q : List A) (i : ℕ) (v : A) → set (p ++ q) (length p + i) v ≡ p ++ set q i v
  set-behind [] q i v = rw zero-add
  set-behind (x ∷ p) q i v = rw (suc-add (length p) i) (ap (◌∷◌ x) (set-behind p q i v))

  sets_behind : (p q : List A) (i : ℕ) (vs : List A) → sets (p ++ q) (length p + i) vs ≡ p ++ sets q i vs
  sets_behind p q i [] = refl
  sets_behind p q i (v ∷ vs) = rw (set-behind p q i v, ← add-suc) (sets_behind p (set q i v) (suc i) vs)

  -- what a callee wrote at the start of `&mut xs[a..]`
  pub sets-part : (xs vs ys : List A) (a : ℕ) → a ≤ length xs → ys ≡ sets (take (length xs - a) (drop a xs)) 0 vs →
      take a xs ++ (ys ++ drop (length xs - a) (drop a xs)) ≡ sets xs a vs
  sets-part xs vs ys a h e =
      let n : drop (length xs - a) (drop a xs) ≡ [] = drop_of_length-le (drop a xs) {i = length xs - a} (omega (arith, length-drop a xs)) in
      let l : length (take a xs) + 0 ≡ a = omega (arith, length-take-le a xs h) in
      let b : sets (take a xs ++ drop a xs) (length (take a xs) + 0) vs ≡ take a xs ++ sets (drop a xs) 0 vs = sets_behind (take a xs) (drop a xs) 0 vs in
      rw (n, e, part-is xs a, append-nil) (sym b ∙ rw (l, take-append-drop))

  -- one run behind another is one run
  pub sets-append : (xs vs ws : List A) (a : ℕ) → sets (sets xs a vs) (a + length vs) ws ≡ sets xs a (vs ++ ws)
  sets-append xs [] ws a = rw add-zero
  sets-append xs (v ∷ vs) ws a = rw (add-suc, ← suc-add) (sets-append (set xs a v) vs ws (suc a))

  -- one element more of a run
  pub sets-next : (z : A) (xs vs : List A) (a k : ℕ) → k < length vs → set (sets xs a (take k vs)) (a + k) (get_or vs k z) ≡ sets xs a (take (k + 1) vs)
  sets-next z xs vs a k h =
      let e : length (take k vs) ≡ k = length-take-le k vs (omega arith) in
      let more : take (k + 1) vs ≡ take k vs ++ (get_or vs k z ∷ []) = rw add-one (take-suc vs k z h) in
      ap (λ (i : ℕ). set (sets xs a (take k vs)) (a + i) (get_or vs k z)) (sym e)
      ∙ sets-append xs (take k vs) (get_or vs k z ∷ []) a
      ∙ ap (sets xs a) (sym more)

  -- past the end nothing is written
  pub sets-out : (xs vs : List A) (a : ℕ) → length xs ≤ a → sets xs a vs ≡ xs
  sets-out xs [] a h = refl
  sets-out xs (v ∷ vs) a h = rw (set_out xs a v h) (sets-out xs vs (suc a) (omega arith))

  -- elements that a run does not reach
  pub get_d-sets-other : (xs : List A) (a : ℕ) (vs : List A) (k : ℕ) (d : A) → ((j : ℕ) → j < length vs → k ≡ a + j → ⊥)
      → get_or (sets xs a vs) k d ≡ get_or xs k d
  get_d-sets-other xs a [] k d h = refl
  get_d-sets-other xs a (v ∷ vs) k d h =
      get_d-sets-other (set xs a v) (suc a) vs k d (λ j g e. h (suc j) (omega arith) (omega arith))
      ∙ get_or-set_other xs a k v d (λ e. h 0 (omega arith) (omega arith))

  take-sets : (n : ℕ) (xs : List A) (a : ℕ) (vs : List A) → n ≤ a → take n (sets xs a vs) ≡ take n xs
  take-sets n xs a [] h = refl
  take-sets n xs a (v ∷ vs) h = take-sets n (set xs a v) (suc a) vs (omega arith) ∙ take-set-le n xs a v h

  drop-sets : (n : ℕ) (xs : List A) (a : ℕ) (vs : List A) → a + length vs ≤ n → drop n (sets xs a vs) ≡ drop n xs
  drop-sets n xs a [] h = refl
  drop-sets n xs a (v ∷ vs) h = drop-sets n (set xs a v) (suc a) vs (omega arith) ∙ drop-set-lt n xs a v (omega arith)

  -- a run over a run of the same length
  pub sets_over : (xs : List A) (a : ℕ) (vs ws : List A) → length vs ≡ length ws → a + length ws ≤ length xs → sets (sets xs a vs) a ws ≡ sets xs a ws
  sets_over xs a vs ws e h =
      sets-eq ws (sets xs a vs) a (omega (arith, length-sets xs a vs))
      ∙ rw (take-sets a xs a vs (omega arith), drop-sets (a + length ws) xs a vs (omega arith))
      (sym (sets-eq ws xs a h))

  -- a run at the front, read again
  pub take-sets-front : (n : ℕ) (xs vs : List A) → length vs ≡ n → n ≤ length xs → take n (sets xs 0 vs) ≡ vs
  take-sets-front n xs vs e h = ap (take n) (sets-eq vs xs 0 (omega arith)) ∙ take_at vs (drop (0 + length vs) xs) n e
