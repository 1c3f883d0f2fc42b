-- Writing a group number a byte at a time: `Counted` is what holds when i bytes are counted, `Written` when they are written.
use Prim.Native.Nat.{ℕ, suc, ◌+◌, ◌-◌, ◌/◌, ◌%◌, ◌^◌, ◌<◌, ◌≤◌}
use native.Mathlib.Numerals.{add-one}
use native.Mathlib.Decide.{dec_lt}
use native.Mathlib.Omega.{arith}
use mathlib.Core.Path.{◌≡◌, ◌∙◌}
use mathlib.Core.List.{List}
use lib.ListN.{length, set, length-set}
use lib.Seq.{sets}
use Rattle.group.specs.Group.{bytes_in, bytes_of}
use Rattle.group.proofs.RoundTrip.{bytes-last, bytes-more, quotient-below}

-- i bytes of v are passed, and rest is left
pub record Counted (v rest i : ℕ) : Type 0 where
  pub few : i < 10
  pub small : rest < 128 ^ (10 - i)
  pub count : length (bytes_of v) ≡ i + length (bytes_in (10 - i) rest)

module _ {v rest i : ℕ} (w : Counted v rest i) where
  left : 10 - i ≡ suc (10 - (i + 1))
  left = omega (arith, w.few)

  pub counted-last : rest < 128 → i + 1 ≡ length (bytes_of v)
  counted-last h = rw (w.count, left, bytes-last (10 - (i + 1)) rest h)

  module _ (h : 128 ≤ rest) where
    few-more : i + 1 < 10
    few-more = go (dec_lt (i + 1) 10)
      where
        go : Dec (i + 1 < 10) → i + 1 < 10
        go (yes p) = p
        go (no n) =
            let k : 10 - i ≡ 1 = omega (arith, w.few) in
            let b : rest < 128 ^ 1 = rw k at w.small in
            absurd (omega arith)

    count-more : length (bytes_of v) ≡ i + suc (length (bytes_in (10 - (i + 1)) (rest / 128)))
    count-more = rw (w.count, left, bytes-more (10 - (i + 1)) rest h)

    pub counted-more : Counted v (rest / 128) (i + 1)
    counted-more =
        record { few = few-more; small = quotient-below (10 - (i + 1)) rest (rw left at w.small); count = omega (arith, count-more) }

-- the same, with those bytes written
pub record Written (out₀ : List ℕ) (v : ℕ) (out : List ℕ) (rest i : ℕ) : Type 0 where
  pub counted : Counted v rest i
  pub kept : length out ≡ length out₀
  pub same : sets out₀ 0 (bytes_of v) ≡ sets out i (bytes_in (10 - i) rest)

module _ {out₀ : List ℕ} {v : ℕ} {out : List ℕ} {rest i : ℕ} (w : Written out₀ v out rest i) (room : length (bytes_of v) ≤ length out₀) where
  module _ (h : rest < 128) where
    pub room-last : i < length out
    room-last = omega (arith, counted-last w.counted h, w.kept)

    pub written_last : set out i rest ≡ sets out₀ 0 (bytes_of v)
    written_last = rw (w.same, left w.counted, bytes-last (10 - (i + 1)) rest h)

  module _ (h : 128 ≤ rest) where
    pub room-more : i < length out
    room-more = omega (arith, count-more w.counted h, w.kept)

    pub written-more : Written out₀ v (set out i (128 + rest % 128)) (rest / 128) (i + 1)
    written-more =
        record {
          counted = counted-more w.counted h;
          kept = length-set out i _ ∙ w.kept;
          same = rw (w.same, left w.counted, bytes-more (10 - (i + 1)) rest h, add-one);
        }
