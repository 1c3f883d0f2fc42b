-- A group number has one form. What is written reads back, whatever is behind it (`group-written`); what is read is what is written (`group-read`).
-- `bytes-short`: a number below 128 ^ k takes at most k bytes.
use Prim.Native.Nat.{ℕ, zero, suc, ◌+◌, ◌-◌, ◌*◌, ◌/◌, ◌%◌, ◌^◌, ◌<◌, ◌≤◌}
use native.Mathlib.Nat.{pow-suc, pow-succ', pow-le-pow_right, div-lt_iff_lt-mul}
use native.Mathlib.Omega.{arith}
use mathlib.Core.Path.{◌≡◌, refl, sym, ap, ◌∙◌}
use mathlib.Core.Bool.{Bool, true, false, cond}
use mathlib.Core.List.{List, [], ◌∷◌, ◌++◌}
use lib.ListN.{length, take}
use lib.Dec.{ltb, eqb}
use borrow.Author.Tests.{ltb-true, ltb-false, lt-ltb, le-ltb, eqb-false, ne_eqb}
use Rattle.std.specs.Prelude.{Ok, Err}
use Rattle.group.specs.declared.Group.{Group}
use Rattle.group.specs.declared.GroupFault.TheVariants.{Faulty}
use Rattle.group.specs.Group.{Found, number, continued, group_in, limited, group_of, bytes_in, bytes_of, Bytes}

-- a group number says which one it is
pub number-same : (v n w m : ℕ) → number v n ≡ number w m → (v ≡ w) × (n ≡ m)
number-same v n w m e =
    let g : ◌≡◌ {A = Group} (record { value = v; bytes = n }) (record { value = w; bytes = m }) = cc in
    (ap (λ (x : Group). x.value) g, ap (λ (x : Group). x.bytes) g)

-- the bytes of a number, by its size
pub bytes-last : (k v : ℕ) → v < 128 → bytes_in (suc k) v ≡ v ∷ []
unfolding bytes_in
bytes-last k v h = rw (lt-ltb v 128 h)

pub bytes-more : (k v : ℕ) → 128 ≤ v → bytes_in (suc k) v ≡ (128 + v % 128) ∷ bytes_in k (v / 128)
unfolding bytes_in
bytes-more k v h = rw (le-ltb v 128 h)

-- a group, by its first byte
group-last : (k b : ℕ) (s : List ℕ) → b < 128 → group_in (suc k) (b ∷ s) ≡ number b 1
unfolding group_in
group-last k b s h = rw (lt-ltb b 128 h)

group-more : (k b : ℕ) (s : List ℕ) → 128 ≤ b → group_in (suc k) (b ∷ s) ≡ continued (b - 128) (group_in k s)
unfolding group_in
group-more k b s h = rw (le-ltb b 128 h)

pub quotient-below : (k v : ℕ) → v < 128 ^ suc k → v / 128 < 128 ^ k
quotient-below k v h = (div-lt_iff_lt-mul {k = 128} {x = v} {y = 128 ^ k} (omega arith)).1 (rw (pow-suc 128 k) at h)

-- how many bytes at most
bytes-short-step : (k m v : ℕ) → v < 128 ^ suc (suc k) → ((u : ℕ) → u < 128 ^ suc k → length (bytes_in m u) ≤ suc k) →
    (t : Bool) → ltb v 128 ≡ t → length (bytes_in (suc m) v) ≤ suc (suc k)
bytes-short-step k m v h behind true e = rw (bytes-last m v (ltb-true v 128 e)) (omega arith)
bytes-short-step k m v h behind false e = rw (bytes-more m v (ltb-false v 128 e)) (omega (arith, behind (v / 128) (quotient-below (suc k) v h)))

pub bytes-short : (k m v : ℕ) → v < 128 ^ suc k → length (bytes_in m v) ≤ suc k
unfolding bytes_in
bytes-short k zero v h = omega arith
bytes-short zero (suc m) v h = rw (lt-ltb v 128 h) (omega arith)
bytes-short (suc k) (suc m) v h = bytes-short-step k m v h (bytes-short k m) (ltb v 128) refl

-- one byte more: `behind` is the same of the numbers behind it
written_step : (rest : List ℕ) (k m v : ℕ) → v < 128 ^ suc k →
    ((u : ℕ) → u < 128 ^ k → 0 < u → group_in k (bytes_in m u ++ rest) ≡ number u (length (bytes_in m u))) →
    (t : Bool) → ltb v 128 ≡ t → group_in (suc k) (bytes_in (suc m) v ++ rest) ≡ number v (length (bytes_in (suc m) v))
written_step rest k m v h behind true e =
    let l : v < 128 = ltb-true v 128 e in
    rw (bytes-last m v l, group-last k v rest l)
written_step rest k m v h behind false e =
    let l : 128 ≤ v = ltb-false v 128 e in
    let z : eqb (v / 128) 0 ≡ false = ne_eqb (v / 128) 0 (λ q. omega arith) in
    rw (bytes-more m v l, group-more k (128 + v % 128) (bytes_in m (v / 128) ++ rest) (omega arith), behind (v / 128) (quotient-below k v h) (omega arith), z)
    (ap (λ (x : ℕ). number x (suc (length (bytes_in m (v / 128))))) (omega arith))

written_in : (rest : List ℕ) (k m : ℕ) → k ≤ m → (u : ℕ) → u < 128 ^ k → 0 < u → group_in k (bytes_in m u ++ rest) ≡ number u (length (bytes_in m u))
written_in rest zero m l u h p = absurd (omega arith)
written_in rest (suc k) zero l u h p = absurd (omega arith)
written_in rest (suc k) (suc m) l u h p = written_step rest k m u h (written_in rest k m (omega arith)) (ltb u 128) refl

-- what is written reads back, whatever is behind it
pub group-written : (v : ℕ) (rest : List ℕ) → v < 2 ^ 32 → group_of (bytes_of v ++ rest) ≡ number v (length (bytes_of v))
group-written v rest h = rw (written_step rest 4 9 v (omega arith) (written_in rest 4 9 (omega arith)) (ltb v 128) refl, lt-ltb v (2 ^ 32) h)

-- v was read from the first n elements of s, and those are its bytes
record Made (k m : ℕ) (s : List ℕ) (v n : ℕ) : Type 0 where
  small : v < 128 ^ k
  count : n ≡ length (bytes_in m v)
  bytes : take n s ≡ bytes_in m v

read-last : (k m b : ℕ) (s : List ℕ) (v n : ℕ) → b < 128 → number b 1 ≡ number v n → Made (suc k) (suc m) (b ∷ s) v n
read-last k m b s v n l e =
    let h = number-same b 1 v n e in
    rw (← h.0, ← h.1)
    (record {
      small = omega (arith, pow-le-pow_right {n = 128} (omega arith) {i = 1} {j = suc k} (omega arith));
      count = rw (bytes-last m b l);
      bytes = sym (bytes-last m b l);
    })

read_more : (k m b : ℕ) (s : List ℕ) (v n w c : ℕ) → 128 ≤ b → b < 256 → Made k m s w c → (t : Bool) → eqb w 0 ≡ t →
    cond t (Err Faulty) (number ((b - 128) + 128 * w) (suc c)) ≡ number v n → Made (suc k) (suc m) (b ∷ s) v n
read_more k m b s v n w c g u i true q e = absurd (cc)
read_more k m b s v n w c g u i false q e =
    let h = number-same ((b - 128) + 128 * w) (suc c) v n e in
    let en : n ≡ suc c = sym h.1 in
    let p : w ≡ 0 → ⊥ = eqb-false w 0 q in
    let l : 128 ≤ v = omega arith in
    let d : v / 128 ≡ w = omega arith in
    let r : 128 + v % 128 ≡ b = omega arith in
    record {
      small = omega (arith, pow-succ' 128 k, i.small);
      count = rw (bytes-more m v l, d, en, i.count);
      bytes = rw (bytes-more m v l, d, r, en) (ap (◌∷◌ b) i.bytes);
    }

read-continued : (k m b : ℕ) (s : List ℕ) (v n : ℕ) → 128 ≤ b → b < 256 → (r : Found) → continued (b - 128) r ≡ number v n →
    ((w c : ℕ) → r ≡ number w c → Made k m s w c) → Made (suc k) (suc m) (b ∷ s) v n
read-continued k m b s v n g u (Ok r) e behind = read_more k m b s v n r.value r.bytes g u (behind r.value r.bytes refl) (eqb r.value 0) refl e
read-continued k m b s v n g u (Err f) e behind = absurd (cc)

read_step : (k m b : ℕ) (s : List ℕ) (v n : ℕ) → b < 256 → ((w c : ℕ) → group_in k s ≡ number w c → Made k m s w c) →
    (t : Bool) → ltb b 128 ≡ t → group_in (suc k) (b ∷ s) ≡ number v n → Made (suc k) (suc m) (b ∷ s) v n
read_step k m b s v n u behind true q e =
    let l : b < 128 = ltb-true b 128 q in
    read-last k m b s v n l (sym (group-last k b s l) ∙ e)
read_step k m b s v n u behind false q e =
    let g : 128 ≤ b = ltb-false b 128 q in
    read-continued k m b s v n g u (group_in k s) (sym (group-more k b s g) ∙ e) behind

read-in : (k m : ℕ) → k ≤ m → (s : List ℕ) → Bytes s → (v n : ℕ) → group_in k s ≡ number v n → Made k m s v n
unfolding group_in
read-in zero m l s bs v n e = absurd (cc)
read-in (suc k) zero l s bs v n e = absurd (omega arith)
read-in (suc k) (suc m) l [] bs v n e = absurd (cc)
read-in (suc k) (suc m) l (b ∷ s) bs v n e = read_step k m b s v n (bs 0) (read-in k m (omega arith) s (λ i. bs (suc i))) (ltb b 128) refl e

limited-picked : (w m v n : ℕ) (t : Bool) → ltb w (2 ^ 32) ≡ t → cond t (number w m) (Err Faulty) ≡ number v n → (number w m ≡ number v n) × (v < 2 ^ 32)
limited-picked w m v n true q e =
    (e, omega (arith, (number-same w m v n e).0, ltb-true w (2 ^ 32) q))
limited-picked w m v n false q e = absurd (cc)

limited-value : (r : Found) (v n : ℕ) → limited (2 ^ 32) r ≡ number v n → (r ≡ number v n) × (v < 2 ^ 32)
limited-value (Ok g) v n e = limited-picked g.value g.bytes v n (ltb g.value (2 ^ 32)) refl e
limited-value (Err f) v n e = absurd (cc)

-- what is read is what is written
pub group-read : (s : List ℕ) (v n : ℕ) → Bytes s → group_of s ≡ number v n → (v < 2 ^ 32) × (n ≡ length (bytes_of v)) × (take n s ≡ bytes_of v)
group-read s v n bs e =
    let b = limited-value (group_in 5 s) v n e in
    let m = read-in 5 10 (omega arith) s bs v n b.0 in
    (b.1, m.count, m.bytes)
