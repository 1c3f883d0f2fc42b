-- Lent bytes and items: the first of many bytes are as many as were asked for, and a loop that fills a list with items (`Filled`, `items-filled`).
use Prim.Native.Nat.{ℕ, zero, suc, ◌+◌, ◌-◌, ◌*◌, ◌/◌, ◌≤◌, ◌<◌}
use native.Mathlib.Numerals.{add-one}
use native.Mathlib.Omega.{arith}
use mathlib.Core.Path.{◌≡◌, refl, sym, ap, ◌∙◌}
use mathlib.Core.List.{List, [], ◌∷◌, append-nil}
use lib.IntN.{ℤ, pos}
use lib.ListN.{length, take, drop, set, replicate, length-set, drop_of_length-le}
use lib.Seq.{sets, sets-eq}
use Rattle.replies.specs.Calls.{lent_items}

pub take-replicate : (n m a : ℕ) → n ≤ m → take n (replicate m a) ≡ replicate n a
take-replicate zero m a h = refl
take-replicate (suc n) zero a h = absurd (omega arith)
take-replicate (suc n) (suc m) a h = ap (λ l. a ∷ l) (take-replicate n m a (omega arith))

pub length-items : (n : ℕ) → length (lent_items n) ≡ n * 3
unfolding lent_items
length-items zero = refl
length-items (suc n) =
    let e = length-items n in
    omega arith

-- a whole list is set
sets-whole : (l vs : List ℤ) → length vs ≡ length l → sets l 0 vs ≡ vs
sets-whole l vs e =
    let none : drop (0 + length vs) l ≡ [] = drop_of_length-le l {i = 0 + length vs} (omega arith) in
    sets-eq vs l 0 (omega arith) ∙ rw none (append-nil vs)

-- a list of 3 n numbers that was filled: n items
pub items-filled : (l : List ℤ) (n : ℕ) → length l ≡ n * 3 → sets l 0 (lent_items (length l / 3)) ≡ lent_items n
items-filled l n e =
    let q : length l / 3 ≡ n = omega arith in
    rw q (sets-whole l (lent_items n) (length-items n ∙ sym e))

-- the numbers before index k are set
pub record Filled (l₀ l : List ℤ) (k : ℕ) : Type 0 where
  pub within : k ≤ length l₀
  pub kept : length l ≡ length l₀
  pub same : sets l₀ 0 (lent_items (length l₀ / 3)) ≡ sets l k (lent_items ((length l₀ - k) / 3))

pub filled_none : (l : List ℤ) → Filled l l 0
filled_none l =
    let e : length l - 0 ≡ length l = omega arith in
    record { within = omega arith; kept = refl; same = rw e }

module _ {l₀ l : List ℤ} {k : ℕ} (p : Filled l₀ l k) where
  pub filled-end : length l - k < 3 → l ≡ sets l₀ 0 (lent_items (length l₀ / 3))
  unfolding lent_items
  filled-end h =
      let e : (length l₀ - k) / 3 ≡ 0 = omega (arith, p) in
      sym (p.same ∙ rw e)

  pub filled_more : 3 ≤ length l - k → Filled l₀ (set (set (set l k (pos 1)) (k + 1) (pos 2147483648)) (k + 2) (pos 0)) (k + 3)
  unfolding lent_items
  filled_more h =
      let e : (length l₀ - k) / 3 ≡ suc ((length l₀ - (k + 3)) / 3) = omega (arith, p) in
      let two : k + 2 ≡ suc (k + 1) = omega arith in
      let three : k + 3 ≡ suc (k + 2) = omega arith in
      record {
        within = omega (arith, p);
        kept = simp length-set p.kept;
        same = p.same ∙ rw (e, three, two, add-one k);
      }
