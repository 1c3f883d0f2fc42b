-- The sets that a letter changes, those with row a and without its neighbour o, are made of the sets of the other rows:
-- put apart with a put in (changed_of), and closed up again (closed_of).
-- Each has one row more (changed-count, closed-count), one way leads back the other (changed-closed, closed-changed),
-- n rows become n - 2 (changed-below, closed-below), and a replaced by o is the set for o (changed-replaced).
use mathlib.Core.Path.{◌≡◌, refl, ap, ◌∙◌}
use mathlib.Core.Bool.{Bool, true, false, ◌&&◌, ◌||◌, false≢true}
use mathlib.Core.Logic.{◌⊎◌, inl, inr, ⊎_elim}
use Prim.Native.Nat.{ℕ, suc, ◌+◌, ◌-◌, ◌^◌, ◌≤◌, ◌<◌, min}
use native.Mathlib.Omega.{arith}
use borrow.Author.Tests.{eq-eqb, eqb-true, le-leb, lt-ltb, ltb-true}
use lib.Dec.{T, eqb, leb, ltb, eqb→eq}
use Rattle.rowset.specs.Mask.{mask_has, mask_put, mask_replaced, mask_moves, count_to, mask_count, position_of}
use Rattle.rowset.proofs.Finite.{T_true, implies, implies-at, all, all-at, all₃, all₃-at}
use Rattle.rowset.specs.Sets.{adjacent, Neighbours, parted_of, closed_of, changed_of, SetAt, ChangedAt}

-- NEIGHBOURS
or_comm : (x y : Bool) → (x || y) ≡ (y || x)
or_comm true true = refl
or_comm true false = refl
or_comm false true = refl
or_comm false false = refl

module _ {n a o : ℕ} (N : Neighbours n a o) where
  pub neighbours-turned : Neighbours n o a
  unfolding adjacent
  neighbours-turned =
      record {
        to_low = N.from_low;
        to_high = N.from-high;
        from_low = N.to_low;
        from-high = N.to_high;
        beside = or_comm (eqb o (a + 1)) (eqb a (o + 1)) ∙ N.beside;
      }

  -- one is the next after the other
  pub neighbours-next : (o ≡ a + 1) ⊎ (a ≡ o + 1)
  unfolding adjacent
  neighbours-next = go (eqb a (o + 1)) (eqb o (a + 1)) refl refl N.beside
    where
      go : (x y : Bool) → eqb a (o + 1) ≡ x → eqb o (a + 1) ≡ y → (x || y) ≡ true → (o ≡ a + 1) ⊎ (a ≡ o + 1)
      go true y e f t = inr (eqb-true a (o + 1) e)
      go false true e f t = inl (eqb-true o (a + 1) f)
      go false false e f t = absurd (false≢true t)

  -- two neighbours are two rows
  pub neighbours-two : 2 ≤ n
  neighbours-two = ⊎_elim (λ e. omega (arith, N.from-high, N.to_low)) (λ e. omega (arith, N.to_high, N.from_low)) neighbours-next

pub neighbours-up : (n l : ℕ) → 1 ≤ l → l < n → Neighbours n l (l + 1)
unfolding adjacent
neighbours-up n l h g =
    record {
      to_low = h;
      to_high = omega arith;
      from_low = omega arith;
      from-high = omega arith;
      beside = or_comm (eqb l (l + 1 + 1)) (eqb (l + 1) (l + 1)) ∙ ap (λ (x : Bool). x || eqb l (l + 1 + 1)) (eq-eqb (l + 1) (l + 1) refl);
    }

-- A TEST
near : ℕ → ℕ → Bool
near a o = leb 1 a && (leb 1 o && adjacent a o)

near-true : (a o : ℕ) → 1 ≤ a → 1 ≤ o → adjacent a o ≡ true → near a o ≡ true
unfolding near
near-true a o h g e = rw (le-leb 1 a h, le-leb 1 o g, e)

-- rows a and o are among n, and x is below b
inside : ℕ → ℕ → ℕ → ℕ → ℕ → Bool
inside a o n x b = leb a n && (leb o n && ltb x b)

inside-true : (a o n x b : ℕ) → a ≤ n → o ≤ n → x < b → inside a o n x b ≡ true
unfolding inside
inside-true a o n x b h g l = rw (le-leb a n h, le-leb o n g, lt-ltb x b l)

-- a test at every mask below b and all neighbours a and o
abbrev Tested : ℕ → (ℕ → ℕ → ℕ → Bool) → Type 0
Tested b p = T (all₃ b 9 9 (λ s a o. implies (near a o) (p s a o)))

module _ (b : ℕ) (p : ℕ → ℕ → ℕ → Bool) (t : Tested b p) (s a o : ℕ) (l : s < b) (la : a ≤ 8) (lo : o ≤ 8) (e : near a o ≡ true) where
  tested : T (p s a o)
  tested = implies-at (near a o) (p s a o) (all₃-at b 9 9 (λ s a o. implies (near a o) (p s a o)) t s a o l (omega arith) (omega arith)) e

-- FROM A SET OF THE OTHER ROWS
grows : ℕ → ℕ → ℕ → Bool
grows m a o = eqb (mask_count (changed_of a o m)) (suc (mask_count m))

moving : ℕ → ℕ → ℕ → Bool
moving m a o = mask_moves a o (changed_of a o m)

closes : ℕ → ℕ → ℕ → Bool
closes m a o = eqb (closed_of (min a o) (changed_of a o m)) m

exchanges : ℕ → ℕ → ℕ → Bool
exchanges m a o = eqb (mask_replaced a o (changed_of a o m)) (changed_of o a m)

stays : ℕ → ℕ → ℕ → ℕ → Bool
stays m a o n = implies (inside a o n m (2 ^ (n - 2))) (ltb (changed_of a o m) (2 ^ n))

grows_all : Tested 64 grows
unfolding near adjacent grows changed_of parted_of mask_count count_to mask_has
grows_all = tt

moving-all : Tested 64 moving
unfolding near adjacent moving changed_of parted_of mask_moves mask_has
moving-all = tt

closes-all : Tested 64 closes
unfolding near adjacent closes changed_of parted_of closed_of
closes-all = tt

exchanges-all : Tested 64 exchanges
unfolding near adjacent exchanges changed_of parted_of mask_replaced mask_put mask_has
exchanges-all = tt

stays_all : Tested 64 (λ m a o. all 9 (stays m a o))
unfolding near adjacent stays inside changed_of parted_of
stays_all = tt

module _ (m a o : ℕ) (l : m < 64) (ha : 1 ≤ a) (la : a ≤ 8) (ho : 1 ≤ o) (lo : o ≤ 8) (e : adjacent a o ≡ true) where
  pub changed-count : mask_count (changed_of a o m) ≡ suc (mask_count m)
  unfolding grows
  changed-count = eqb→eq _ _ (tested 64 grows grows_all m a o l la lo (near-true a o ha ho e))

  pub changed-moves : mask_moves a o (changed_of a o m) ≡ true
  unfolding moving
  changed-moves = T_true _ (tested 64 moving moving-all m a o l la lo (near-true a o ha ho e))

  pub changed-closed : closed_of (min a o) (changed_of a o m) ≡ m
  unfolding closes
  changed-closed = eqb→eq _ _ (tested 64 closes closes-all m a o l la lo (near-true a o ha ho e))

  pub changed-replaced : mask_replaced a o (changed_of a o m) ≡ changed_of o a m
  unfolding exchanges
  changed-replaced = eqb→eq _ _ (tested 64 exchanges exchanges-all m a o l la lo (near-true a o ha ho e))

  pub changed-below : (n : ℕ) → n ≤ 8 → a ≤ n → o ≤ n → m < 2 ^ (n - 2) → changed_of a o m < 2 ^ n
  unfolding stays
  changed-below n ln an on h =
      let t = all-at 9 (stays m a o) (tested 64 (λ m a o. all 9 (stays m a o)) stays_all m a o l la lo (near-true a o ha ho e)) n (omega arith) in
      ltb-true _ _ (T_true _ (implies-at (inside a o n m (2 ^ (n - 2))) _ t (inside-true a o n m (2 ^ (n - 2)) an on h)))

-- FROM A SET THAT IS CHANGED
shrinks : ℕ → ℕ → ℕ → Bool
shrinks s a o = implies (mask_moves a o s) (eqb (suc (mask_count (closed_of (min a o) s))) (mask_count s))

returns : ℕ → ℕ → ℕ → Bool
returns s a o = implies (mask_moves a o s) (eqb (changed_of a o (closed_of (min a o) s)) s)

sinks : ℕ → ℕ → ℕ → ℕ → Bool
sinks s a o n = implies (inside a o n s (2 ^ n)) (ltb (closed_of (min a o) s) (2 ^ (n - 2)))

shrinks-all : Tested 256 shrinks
unfolding near adjacent shrinks closed_of mask_moves mask_count count_to mask_has
shrinks-all = tt

returns-all : Tested 256 returns
unfolding near adjacent returns changed_of parted_of closed_of mask_moves mask_has
returns-all = tt

sinks-all : Tested 256 (λ s a o. all 9 (sinks s a o))
unfolding near adjacent sinks inside closed_of
sinks-all = tt

module _ (s a o : ℕ) (l : s < 256) (ha : 1 ≤ a) (la : a ≤ 8) (ho : 1 ≤ o) (lo : o ≤ 8) (e : adjacent a o ≡ true) where
  pub closed-below : (n : ℕ) → n ≤ 8 → a ≤ n → o ≤ n → s < 2 ^ n → closed_of (min a o) s < 2 ^ (n - 2)
  unfolding sinks
  closed-below n ln an on h =
      let t = all-at 9 (sinks s a o) (tested 256 (λ s a o. all 9 (sinks s a o)) sinks-all s a o l la lo (near-true a o ha ho e)) n (omega arith) in
      ltb-true _ _ (T_true _ (implies-at (inside a o n s (2 ^ n)) _ t (inside-true a o n s (2 ^ n) an on h)))

  module _ (m : mask_moves a o s ≡ true) where
    pub closed-count : suc (mask_count (closed_of (min a o) s)) ≡ mask_count s
    unfolding shrinks
    closed-count = eqb→eq _ _ (implies-at _ _ (tested 256 shrinks shrinks-all s a o l la lo (near-true a o ha ho e)) m)

    pub closed-changed : changed_of a o (closed_of (min a o) s) ≡ s
    unfolding returns
    closed-changed = eqb→eq _ _ (implies-at _ _ (tested 256 returns returns-all s a o l la lo (near-true a o ha ho e)) m)

pub changed-at : (k a o p m : ℕ) → 1 ≤ k → 1 ≤ a → a ≤ 8 → 1 ≤ o → o ≤ 8 → adjacent a o ≡ true → m < 64 → SetAt (k - 1) p m
    → ChangedAt k a o p (changed_of a o m)
changed-at k a o p m hk ha la ho lo e l s =
    record {
      below = changed-below m a o l ha la ho lo e 8 (omega arith) la lo (omega arith);
      rows = changed-count m a o l ha la ho lo e ∙ omega (arith, s.rows);
      moves = changed-moves m a o l ha la ho lo e;
      others = ap position_of (changed-closed m a o l ha la ho lo e) ∙ s.position;
    }
