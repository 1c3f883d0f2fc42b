-- Writing a matrix a factor at a time: `Counted` is what holds when k factors are counted, `WrittenSoFar` when they are written. And the answer, by whether
-- the bytes fit (`writing-room`, `writing-done`).
use Prim.Native.Nat.{ℕ, ◌+◌, ◌-◌, ◌*◌, ◌<◌, ◌≤◌}
use native.Mathlib.Nat.{mul-le-mul, add_assoc}
use native.Mathlib.Numerals.{add-one}
use native.Mathlib.Omega.{arith}
use mathlib.Core.Path.{◌≡◌, refl, sym, ap, ◌∙◌}
use mathlib.Core.List.{List, [], ◌∷◌, ◌++◌}
use lib.IntN.{pos}
use lib.ListN.{length, take, drop, get_or, length-append, drop_of_length-le}
use lib.Seq.{sets, drop-cons, length-sets}
use borrow.Author.Tests.{eq-eqb, ne_eqb, ltb-false}
use lib.Dec.{ltb}
use Rattle.std.specs.Prelude.{Ok}
use Rattle.verdict.specs.declared.Reason.TheVariants.{OutputTooShort}
use Rattle.verdict.specs.Verdict.{Verdict, after}
use Rattle.verdict.specs.Report.{accepted, report_of}
use Rattle.verdict.proofs.Verdicts.{when-passed}
use Rattle.group.specs.Group.{bytes_of}
use Rattle.number.specs.declared.Number.{Number}
use Rattle.number.specs.Number.{Stored}
use Rattle.writer.specs.Encoding.{exponent_code, part_of, factor_bytes, factors_bytes, encoding, room_test, writing_report, bytes_after_writing}
use Rattle.arrays.proofs.Runs.{sets-part, sets-append}

-- what a read past the end of an array would give
abbrev pub unread : Number
unread = record { m = 0; x = 0 }

-- a factor's bytes, by whether it is zero
pub factor-bytes-zero : (a : Number) → a.m ≡ 0 → factor_bytes a ≡ bytes_of 0
unfolding factor_bytes
factor-bytes-zero a z = rw (eq-eqb _ _ z)

pub factor-bytes-some : (a : Number) → (a.m ≡ 0 → ⊥) → factor_bytes a ≡ bytes_of (exponent_code a) ++ bytes_of (part_of a)
unfolding factor_bytes
factor-bytes-some a n = rw (ne_eqb _ _ n)

pub factor-bytes-stored : (a : Number) → Stored a → factor_bytes a ≡ bytes_of (exponent_code a) ++ bytes_of (part_of a)
factor-bytes-stored a s = factor-bytes-some a (λ z. omega (arith, s.low))

-- the factors' bytes, by the first factor
pub factors-bytes-none : factors_bytes [] ≡ []
unfolding factors_bytes
factors-bytes-none = refl

pub factors-bytes-more : (L : List Number) (k : ℕ) → k < length L → factors_bytes (drop k L) ≡ factor_bytes (get_or L k unread) ++ factors_bytes (drop (k + 1) L)
unfolding factors_bytes
factors-bytes-more L k h = rw (drop-cons L k unread h, add-one)

pub square-small : (n : ℕ) → n < 9 → n * n ≤ 64
square-small n h =
    let l : n ≤ 8 = omega arith in
    mul-le-mul l l

-- the encoding, from n's bytes on
pub encoding-length : (n : ℕ) (L : List Number) → length (encoding n L) ≡ length (bytes_of n) + length (factors_bytes L)
unfolding encoding
encoding-length n L = length-append (bytes_of n) (factors_bytes L)

pub encoding-sets : (n : ℕ) (L : List Number) (out one : List ℕ) (at : ℕ) → at ≡ length (bytes_of n) → one ≡ sets out 0 (bytes_of n)
    → sets one at (factors_bytes L) ≡ sets out 0 (encoding n L)
unfolding encoding
encoding-sets n L out one at e f =
    let z : at ≡ 0 + length (bytes_of n) = omega arith in
    rw (f, z) (sets-append out (bytes_of n) (factors_bytes L) 0)

module _ (L : List Number) where
  -- bytes are counted from start on: now of k factors
  pub record Counted (start total k : ℕ) : Type 0 where
    pub few : k ≤ length L
    pub same : start + length (factors_bytes L) ≡ total + length (factors_bytes (drop k L))

  module _ {start total k : ℕ} (w : Counted start total k) where
    pub counted-more : (t : ℕ) → k < length L → t ≡ length (factor_bytes (get_or L k unread)) → Counted start (total + t) (k + 1)
    counted-more t h e = record { few = omega arith; same = w.same ∙ rw (factors-bytes-more L k h, length-append, e) (sym (add_assoc _ _ _)) }

    pub counted-all : length L ≤ k → total ≡ start + length (factors_bytes L)
    counted-all h = rw (w.same, drop_of_length-le L h, factors-bytes-none) (omega arith)

  -- the same, with those bytes written
  pub record WrittenSoFar (out₀ : List ℕ) (start : ℕ) (out : List ℕ) (at k : ℕ) : Type 0 where
    pub counted : Counted start at k
    pub kept : length out ≡ length out₀
    pub same : sets out₀ start (factors_bytes L) ≡ sets out at (factors_bytes (drop k L))

  module _ {out₀ : List ℕ} {start : ℕ} {out : List ℕ} {at k : ℕ} (w : WrittenSoFar out₀ start out at k) where
    pub written_all : length L ≤ k → out ≡ sets out₀ start (factors_bytes L)
    written_all h = rw (w.same, drop_of_length-le L h, factors-bytes-none)

    module _ (a : Number) (h : k < length L) (is : get_or L k unread ≡ a) where
      -- the factor fits behind what is written
      pub written-room : start + length (factors_bytes L) ≤ length out₀ → at + length (factor_bytes a) ≤ length out
      written-room r =
          let m : length (factors_bytes (drop k L)) ≡ length (factor_bytes a) + length (factors_bytes (drop (k + 1) L)) =
          rw (factors-bytes-more L k h, is, length-append) in
          omega (arith, w.counted.same, w.kept)

      pub written-more : (ys : List ℕ) (t : ℕ) → at ≤ length out → t ≡ length (factor_bytes a) →
          ys ≡ sets (take (length out - at) (drop at out)) 0 (factor_bytes a) →
          WrittenSoFar out₀ start (take at out ++ (ys ++ drop (length out - at) (drop at out))) (at + t) (k + 1)
      written-more ys t l e f =
          let p : take at out ++ (ys ++ drop (length out - at) (drop at out)) ≡ sets out at (factor_bytes a) = sets-part out (factor_bytes a) ys at l f in
          record {
            counted = counted-more w.counted t h (e ∙ ap (λ (x : Number). length (factor_bytes x)) (sym is));
            kept = ap length p ∙ length-sets out at (factor_bytes a) ∙ w.kept;
            same = w.same ∙ rw (factors-bytes-more L k h, is, p, e) (sym (sets-append out (factor_bytes a) (factors_bytes (drop (k + 1) L)) at));
          }

-- two runs of bytes, the second through the part behind the first
pub sets-two : (out u v one two : List ℕ) (k : ℕ) → k ≡ length u → k + length v ≤ length out → one ≡ sets out 0 u →
    two ≡ sets (take (length one - k) (drop k one)) 0 v →
    take k one ++ (two ++ drop (length one - k) (drop k one)) ≡ sets out 0 (u ++ v)
sets-two out u v one two k w h e f =
    let l : length one ≡ length out = ap length e ∙ length-sets out 0 u in
    let z : k ≡ 0 + length u = omega arith in
    sets-part one v two k (omega arith) f ∙ rw (e, z) (sets-append out u v 0)

-- ---- the answer: the bytes fit, or they do not
module _ (out bytes : List ℕ) where
  pub writing-room : room_test out bytes ≡ Ok tt → length bytes ≤ length out
  writing-room h = ltb-false (length out) (length bytes) (when-passed (ltb (length out) (length bytes)) OutputTooShort h)

  pub writing-done : room_test out bytes ≡ Ok tt →
      (accepted (pos (length bytes) ∷ []) ≡ writing_report out bytes) × (sets out 0 bytes ≡ bytes_after_writing out bytes)
  unfolding writing_report bytes_after_writing
  writing-done h = (sym (ap (λ (v : Verdict). report_of v (pos (length bytes) ∷ [])) h), sym (ap (λ (v : Verdict). after v out (sets out 0 bytes)) h))
