-- WHAT THE TEST OF STAMPS SAYS: stamps that are not turned down are 1 to 8, positive, strictly increasing and below 2 ^ 32 (timed), and such stamps are never
-- turned down (accepted). One pass finds it out: each stamp beside the one before it, and 0 before the first (faulty, mistimed-passes). `Passed` is the state
-- of the code's loop.
use mathlib.Core.Path.{◌≡◌, refl, ◌∙◌}
use mathlib.Core.Bool.{Bool, true, false, ◌||◌}
use mathlib.Core.List.{List, [], ◌∷◌}
use Prim.Native.Nat.{ℕ, zero, suc, ◌+◌, ◌-◌, ◌^◌, ◌≤◌, ◌<◌}
use native.Mathlib.Numerals.{add-one}
use native.Mathlib.Omega.{arith}
use lib.Dec.{eqb, leb, ltb}
use lib.ListN.{length, get_or, drop, drop_of_length-le}
use lib.Seq.{drop-cons}
use borrow.Author.Tests.{eqb-false, ne_eqb, leb-false, le-leb, lt-leb, ltb-false, lt-ltb, le-ltb}
use Rattle.number.proofs.Tests.{neither, alike}
use Rattle.stamps.specs.Stamps.{some_stamp, not_increasing, mistimed, Timed}

-- each stamp above the one before it, the first above b, and below 2 ^ 32
abbrev Above : ℕ → List ℕ → Type 0
Above b [] = Unit {0}
Above b (t ∷ L) = (b < t) × (t < 2 ^ 32) × Above t L

-- the same as a test
unfoldable pub faulty : ℕ → List ℕ → Bool
faulty b [] = false
faulty b (t ∷ L) = leb t b || (leb (2 ^ 32) t || faulty t L)

faulty-above : (b : ℕ) (L : List ℕ) → faulty b L ≡ false → Above b L
unfolding faulty
faulty-above b [] e = tt
faulty-above b (t ∷ L) e =
    let x = neither (leb t b) (leb (2 ^ 32) t || faulty t L) e in
    let y = neither (leb (2 ^ 32) t) (faulty t L) x.1 in
    (leb-false t b x.0, leb-false (2 ^ 32) t y.0, faulty-above t L y.1)

above-faultless : (b : ℕ) (L : List ℕ) → Above b L → faulty b L ≡ false
unfolding faulty
above-faultless b [] h = refl
above-faultless b (t ∷ L) h = rw (lt-leb t b h.0, lt-leb (2 ^ 32) t h.1, above-faultless t L h.2)

-- THE PAPER'S CONDITIONS, one by one
abbrev zero_in : List ℕ → Bool
zero_in = some_stamp (λ t. eqb t 0)

abbrev large_in : List ℕ → Bool
large_in = some_stamp (λ t. leb (2 ^ 32) t)

above-by : (b : ℕ) (L : List ℕ) → large_in L ≡ false → not_increasing (b ∷ L) ≡ false → Above b L
unfolding some_stamp not_increasing
above-by b [] l f = tt
above-by b (t ∷ L) l f =
    let x = neither (leb (2 ^ 32) t) (large_in L) l in
    let y = neither (leb t b) (not_increasing (t ∷ L)) f in
    (leb-false t b y.0, leb-false (2 ^ 32) t x.0, above-by t L x.1 y.1)

above-first : (L : List ℕ) → zero_in L ≡ false → large_in L ≡ false → not_increasing L ≡ false → Above 0 L
unfolding some_stamp not_increasing
above-first [] z l f = tt
above-first (t ∷ L) z l f =
    let x = neither (eqb t 0) (zero_in L) z in
    let y = neither (leb (2 ^ 32) t) (large_in L) l in
    (let n = eqb-false t 0 x.0 in omega arith, leb-false (2 ^ 32) t y.0, above-by t L y.1 f)

above-zeroless : (b : ℕ) (L : List ℕ) → Above b L → zero_in L ≡ false
unfolding some_stamp
above-zeroless b [] h = refl
above-zeroless b (t ∷ L) h = rw (ne_eqb t 0 (λ e. omega (arith, h.0)), above-zeroless t L h.2)

above-small : (b : ℕ) (L : List ℕ) → Above b L → large_in L ≡ false
unfolding some_stamp
above-small b [] h = refl
above-small b (t ∷ L) h = rw (lt-leb (2 ^ 32) t h.1, above-small t L h.2)

above-rises : (b : ℕ) (L : List ℕ) → Above b L → not_increasing L ≡ false
unfolding not_increasing
above-rises b [] h = refl
above-rises b (t ∷ []) h = refl
above-rises b (t ∷ u ∷ L) h = rw (lt-leb u t h.2.0, above-rises t (u ∷ L) h.2)

module _ (L : List ℕ) where
  -- what has passed the test
  passing : mistimed L ≡ false → (1 ≤ length L) × (length L ≤ 8) × Above 0 L
  unfolding mistimed
  passing e =
      let x = neither (zero_in L) _ e in
      let y = neither (large_in L) _ x.1 in
      let z = neither (not_increasing L) _ y.1 in
      let w = neither (ltb (length L) 1) (ltb 8 (length L)) z.1 in
      (ltb-false (length L) 1 w.0, ltb-false 8 (length L) w.1, above-first L x.0 y.0 z.0)

  module _ (some : 1 ≤ length L) (few : length L ≤ 8) where
    accepted : Above 0 L → mistimed L ≡ false
    unfolding mistimed
    accepted h = rw (above-zeroless 0 L h, above-small 0 L h, above-rises 0 L h, le-ltb (length L) 1 some, le-ltb 8 (length L) few)

    -- one pass
    mistimed-passes : mistimed L ≡ faulty 0 L
    mistimed-passes =
        alike (mistimed L) (faulty 0 L) (λ e. above-faultless 0 L (passing e).2) (λ e. accepted (faulty-above 0 L e))

  last : (x y z u : Bool) → u ≡ true → x || (y || (z || u)) ≡ true
  last true y z u e = refl
  last false true z u e = refl
  last false false true u e = refl
  last false false false u e = e

  pub none-mistimed : length L < 1 → mistimed L ≡ true
  unfolding mistimed
  none-mistimed h = last (zero_in L) (large_in L) (not_increasing L) _ (rw (lt-ltb (length L) 1 h))

  pub many-mistimed : 8 < length L → mistimed L ≡ true
  unfolding mistimed
  many-mistimed h = let e : 1 ≤ length L = omega arith in last (zero_in L) (large_in L) (not_increasing L) _ (rw (le-ltb (length L) 1 e, lt-ltb 8 (length L) h))

  -- THE LOOP: the first k stamps are passed, the last of them being b
  pub record Passed (b k : ℕ) : Type 0 where
    pub same : mistimed L ≡ faulty b (drop k L)

  pub passed_none : 1 ≤ length L → length L ≤ 8 → Passed 0 0
  passed_none some few = record { same = mistimed-passes some few }

  module _ {b k : ℕ} (p : Passed b k) where
    pub passed-end : length L ≤ k → mistimed L ≡ false
    unfolding faulty
    passed-end h = p.same ∙ rw (drop_of_length-le L {i = k} h)

    module _ (h : k < length L) where
      next : mistimed L ≡ leb (get_or L k 0) b || (leb (2 ^ 32) (get_or L k 0) || faulty (get_or L k 0) (drop (suc k) L))
      unfolding faulty
      next = p.same ∙ rw (drop-cons L k 0 h)

      pub passed-low : get_or L k 0 ≤ b → mistimed L ≡ true
      passed-low g = next ∙ rw (le-leb (get_or L k 0) b g)

      module _ (g : b < get_or L k 0) where
        pub passed-large : 2 ^ 32 ≤ get_or L k 0 → mistimed L ≡ true
        passed-large l = next ∙ rw (lt-leb (get_or L k 0) b g, le-leb (2 ^ 32) (get_or L k 0) l)

        pub passed-more : get_or L k 0 < 2 ^ 32 → Passed (get_or L k 0) (k + 1)
        passed-more l = record { same = next ∙ rw (lt-leb (get_or L k 0) b g, lt-leb (2 ^ 32) (get_or L k 0) l, add-one k) }

-- STAMPS THAT ARE NOT TURNED DOWN
above_at : (b : ℕ) (L : List ℕ) → Above b L → (k : ℕ) → k < length L → (b < get_or L k 0) × (get_or L k 0 < 2 ^ 32)
above_at b [] h k l = absurd (omega arith)
above_at b (t ∷ L) h zero l = (h.0, h.1)
above_at b (t ∷ L) h (suc k) l = let g = above_at t L h.2 k (omega arith) in (omega (arith, h.0, g.0), g.1)

above-less : (b : ℕ) (L : List ℕ) → Above b L → (i k : ℕ) → k < i → i < length L → get_or L k 0 < get_or L i 0
above-less b [] h i k g l = absurd (omega arith)
above-less b (t ∷ L) h zero k g l = absurd (omega arith)
above-less b (t ∷ L) h (suc i) zero g l = (above_at t L h.2 i (omega arith)).0
above-less b (t ∷ L) h (suc i) (suc k) g l = above-less t L h.2 i k (omega arith) (omega arith)

pub timed : (L : List ℕ) → mistimed L ≡ false → Timed L
timed L e =
    let u = passing L e in
    record {
      some = u.0;
      few = u.1;
      below = λ i h. (above_at 0 L u.2 (i - 1) (omega (arith, h.0, h.1))).1;
      rising = record {
        positive = λ i h. (above_at 0 L u.2 (i - 1) (omega (arith, h.0, h.1))).0;
        increasing = λ i k l h g. above-less 0 L u.2 (i - 1) (k - 1) (omega arith) (omega arith);
      };
    }
