-- The latest set that passes, by masks: the largest mask that does (latest-found), the empty set where none does (latest-none). The search goes down from the
-- largest mask of rows before row i (before-mask), mask after mask (search-next), and ends at the latest set (search-found, search-none).
use mathlib.Core.Path.{◌≡◌, refl, sym, ap, ap₂, ◌∙◌}
use mathlib.Core.Bool.{Bool, true, false, cond, ◌&&◌, ◌||◌, beq}
use mathlib.Core.List.{List, [], ◌∷◌}
use Prim.Native.Nat.{ℕ, zero, suc, ◌+◌, ◌-◌, ◌^◌, ◌≤◌, ◌<◌}
use native.Mathlib.Decide.{ℕ_discrete, dec_le}
use native.Mathlib.Omega.{arith}
use borrow.Author.Tests.{eq-eqb, ne_eqb, lt-ltb, ltb-true}
use lib.Dec.{T, eqb, ltb}
use lib.Pow.{pow_pos, pow_mono}
use lib.ListN.{length}
use Rattle.rowset.specs.Mask.{mask_of, mask_count, mask_among, mask_with_first}
use Rattle.rowset.proofs.Finite.{implies, implies-at, beq-eq, all₃, all₃-at}
use Rattle.rowset.proofs.Masks.{of_mask-length, of_mask-above, mask-back}
use Rattle.rowset.proofs.Counts.{mask-count, count_to-le}
use Rattle.presence.specs.Held.{held_at, latest_held}
use Rattle.walk.proofs.Held.{mask_lt, mask-set}
use Rattle.words.specs.RowSet.{RowSet, count, all_before, of_mask}
use Rattle.words.specs.Latest.{some, latest}
use Rattle.words.proofs.Latest.{some-passes}

some-none : (n : ℕ) (t : RowSet → Bool) → ((S : RowSet) → length S ≡ n → t S ≡ false) → some n t ≡ false
unfolding some
some-none zero t h = h [] refl
some-none (suc n) t h =
    ap (λ b. b || some n (λ S. t (false ∷ S))) (some-none n (λ S. t (true ∷ S)) (λ S e. h (true ∷ S) (ap suc e)))
    ∙ some-none n (λ S. t (false ∷ S)) (λ S e. h (false ∷ S) (ap suc e))

by-masks : (n : ℕ) (t : RowSet → Bool) → ((s : ℕ) → s < 2 ^ n → t (of_mask n s) ≡ false) → (S : RowSet) → length S ≡ n → t S ≡ false
by-masks n t h S e = ap t (sym (mask-set n S e)) ∙ h (mask_of S) (mask_lt n S e)

-- the highest row in, or not in
with-top : (n s : ℕ) → s < 2 ^ n → of_mask (suc n) (2 ^ n + s) ≡ true ∷ of_mask n s
with-top n s l = ap (of_mask (suc n)) (omega arith) ∙ of_mask-above true n s l

without-top : (n s : ℕ) → s < 2 ^ n → of_mask (suc n) s ≡ false ∷ of_mask n s
without-top n s l = ap (of_mask (suc n)) (omega arith) ∙ of_mask-above false n s l

twice : (n : ℕ) → 2 ^ suc n ≡ 2 ^ n + 2 ^ n
twice n = omega arith

nothing : (r : ℕ) → [] ≡ of_mask 0 r
unfolding of_mask
nothing r = refl

pub latest-none : (n : ℕ) (t : RowSet → Bool) → ((s : ℕ) → s < 2 ^ n → t (of_mask n s) ≡ false) → latest n t ≡ of_mask n 0
unfolding latest
latest-none zero t h = nothing 0
latest-none (suc n) t h =
    ap (λ b. cond b (true ∷ latest n (λ S. t (true ∷ S))) (false ∷ latest n (λ S. t (false ∷ S))))
    (some-none n (λ S. t (true ∷ S)) (by-masks n (λ S. t (true ∷ S)) (λ s l. ap t (sym (with-top n s l)) ∙ h (2 ^ n + s) (omega (arith, twice n)))))
    ∙ ap (λ S. false ∷ S) (latest-none n (λ S. t (false ∷ S)) (λ s l. ap t (sym (without-top n s l)) ∙ h s (omega (arith, twice n))))
    ∙ sym (without-top n 0 (pow_pos n))

pub latest-found : (n : ℕ) (t : RowSet → Bool) (r : ℕ) → r < 2 ^ n → t (of_mask n r) ≡ true → ((s : ℕ) → r < s → s < 2 ^ n → t (of_mask n s) ≡ false)
    → latest n t ≡ of_mask n r
unfolding latest
latest-found zero t r l p h = nothing r
latest-found (suc n) t r l p h = by (dec_le (2 ^ n) r) (latest-found n (λ S. t (true ∷ S))) (latest-found n (λ S. t (false ∷ S)))
  where
    by : Dec (2 ^ n ≤ r)
        → ((r : ℕ) → r < 2 ^ n → t (true ∷ of_mask n r) ≡ true → ((s : ℕ) → r < s → s < 2 ^ n → t (true ∷ of_mask n s) ≡ false)
        → latest n (λ S. t (true ∷ S)) ≡ of_mask n r)
        → ((r : ℕ) → r < 2 ^ n → t (false ∷ of_mask n r) ≡ true → ((s : ℕ) → r < s → s < 2 ^ n → t (false ∷ of_mask n s) ≡ false)
        → latest n (λ S. t (false ∷ S)) ≡ of_mask n r)
        → cond (some n (λ S. t (true ∷ S))) (true ∷ latest n (λ S. t (true ∷ S))) (false ∷ latest n (λ S. t (false ∷ S))) ≡ of_mask (suc n) r
    by (yes g) f₁ f₀ =
        let m : ℕ = r - 2 ^ n in
        let b : m < 2 ^ n = omega (arith, twice n) in
        let e : of_mask (suc n) r ≡ true ∷ of_mask n m = ap (of_mask (suc n)) (omega arith) ∙ with-top n m b in
        let q : t (true ∷ of_mask n m) ≡ true = ap t (sym e) ∙ p in
        ap (λ b. cond b (true ∷ latest n (λ S. t (true ∷ S))) (false ∷ latest n (λ S. t (false ∷ S))))
        (some-passes n (λ S. t (true ∷ S)) (of_mask n m) (of_mask-length n m) q)
        ∙ ap (λ S. true ∷ S) (f₁ m b q (λ s x y. ap t (sym (with-top n s y)) ∙ h (2 ^ n + s) (omega arith) (omega (arith, twice n))))
        ∙ sym e
    by (no g) f₁ f₀ =
        let b : r < 2 ^ n = omega arith in
        let e = without-top n r b in
        ap (λ b. cond b (true ∷ latest n (λ S. t (true ∷ S))) (false ∷ latest n (λ S. t (false ∷ S))))
        (some-none n (λ S. t (true ∷ S)) (by-masks n (λ S. t (true ∷ S))
        (λ s l. ap t (sym (with-top n s l)) ∙ h (2 ^ n + s) (omega arith) (omega (arith, twice n)))))
        ∙ ap (λ S. false ∷ S) (f₀ r b (ap t (sym e) ∙ p) (λ s x y. ap t (sym (without-top n s y)) ∙ h s x (omega (arith, twice n))))
        ∙ sym e

-- ALL BEFORE ROW i: one computed test
before : ℕ → ℕ → ℕ → Bool
before s i n = implies (ltb s (2 ^ n)) (beq (all_before i (of_mask n s)) (ltb s (2 ^ (i - 1))))

before-all : T (all₃ 256 10 9 before)
unfolding before all_before of_mask
before-all = tt

pub before-mask : (n i s : ℕ) → n ≤ 8 → i ≤ 9 → s < 2 ^ n → all_before i (of_mask n s) ≡ ltb s (2 ^ (i - 1))
unfolding before
before-mask n i s ln li l =
    let h : 2 ^ n ≤ 2 ^ 8 = pow_mono ln in
    beq-eq _ _ (implies-at (ltb s (2 ^ n)) _ (all₃-at 256 10 9 before before-all s i n (omega arith) (omega arith) (omega arith)) (lt-ltb s (2 ^ n) l))

pub count-few : (p : ℕ) → mask_count p ≤ 8
unfolding mask_count
count-few p = count_to-le 8 p

-- THE SEARCH: the mask s is looked at
abbrev pub passes : List Bool → ℕ → ℕ → ℕ → ℕ → Bool
passes v p k c s = eqb (mask_count s) c && held_at v (mask_among p (mask_with_first k s))

pub fails-count : (v : List Bool) (p k c s : ℕ) → (mask_count s ≡ c → ⊥) → passes v p k c s ≡ false
fails-count v p k c s f = ap (λ (b : Bool). b && held_at v (mask_among p (mask_with_first k s))) (ne_eqb (mask_count s) c f)

pub passes-held : (v : List Bool) (p k c s : ℕ) {b : Bool} → mask_count s ≡ c → held_at v (mask_among p (mask_with_first k s)) ≡ b → passes v p k c s ≡ b
passes-held v p k c s e f = ap₂ ◌&&◌ (eq-eqb (mask_count s) c e) f

-- one mask further down
pub search-next : (v : List Bool) (p k c s b : ℕ) → 0 < s → ((x : ℕ) → s ≤ x → x < b → passes v p k c x ≡ false) → passes v p k c (s - 1) ≡ false
    → (x : ℕ) → s - 1 ≤ x → x < b → passes v p k c x ≡ false
search-next v p k c s b l h f x g y = elim (ℕ_discrete x (s - 1)) [ yes e ↦ ap (passes v p k c) e ∙ f | no e ↦ h x (omega arith) y ]

module _ (v : List Bool) (p k i c : ℕ) (few : mask_count p ≤ 8) (low : 1 ≤ i) (high : k + i ≤ mask_count p + 1) where
  -- how many rows of p are left
  abbrev m : ℕ
  m = mask_count p - k

  test : RowSet → Bool
  test S = all_before i S && (eqb (count S) c && held_at v (mask_among p (mask_with_first k (mask_of S))))

  test-mask : (s : ℕ) → s < 2 ^ m → test (of_mask m s) ≡ ltb s (2 ^ (i - 1)) && passes v p k c s
  unfolding test
  test-mask s l =
      ap₂ ◌&&◌ (before-mask m i s (omega arith) (omega arith) l)
      (ap₂ (λ x y. eqb x c && held_at v (mask_among p (mask_with_first k y))) (mask-count m s (omega arith) l) (mask-back m s l))

  within : (s : ℕ) → s < 2 ^ (i - 1) → s < 2 ^ m
  within s l = let h : 2 ^ (i - 1) ≤ 2 ^ m = pow_mono (omega arith) in omega arith

  fails : (r : ℕ) → ((x : ℕ) → r ≤ x → x < 2 ^ (i - 1) → passes v p k c x ≡ false) → (s : ℕ) → r ≤ s → s < 2 ^ m → test (of_mask m s) ≡ false
  fails r h s g l = test-mask s l ∙ by (ltb s (2 ^ (i - 1))) refl
    where
      by : (b : Bool) → ltb s (2 ^ (i - 1)) ≡ b → b && passes v p k c s ≡ false
      by true e = h s g (ltb-true s (2 ^ (i - 1)) e)
      by false e = refl

  pub search-found : (r : ℕ) → r < 2 ^ (i - 1) → passes v p k c r ≡ true → ((x : ℕ) → r + 1 ≤ x → x < 2 ^ (i - 1) → passes v p k c x ≡ false)
      → of_mask (mask_count p - k) r ≡ latest_held v p k i c
  unfolding test
  search-found r l q h =
      sym (latest-found m test r (within r l) (test-mask r (within r l) ∙ ap₂ ◌&&◌ (lt-ltb r (2 ^ (i - 1)) l) q) (λ s x y. fails (r + 1) h s (omega arith) y))

  pub search-none : ((x : ℕ) → 0 ≤ x → x < 2 ^ (i - 1) → passes v p k c x ≡ false) → of_mask (mask_count p - k) 0 ≡ latest_held v p k i c
  unfolding test
  search-none h = sym (latest-none m test (λ s l. fails 0 h s (omega arith) l))
