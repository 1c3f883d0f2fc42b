-- Reading a matrix a factor at a time: `ReadSoFar` is what holds when k factors are read.
use Prim.Native.Nat.{ℕ, suc, ◌+◌, ◌-◌, ◌<◌, ◌≤◌}
use native.Mathlib.Omega.{arith}
use native.Mathlib.Numerals.{add-one}
use mathlib.Core.Path.{◌≡◌, refl, sym, ap, ◌∙◌}
use mathlib.Core.List.{List, [], ◌∷◌, ◌++◌}
use lib.ListN.{length, take, set, length-replicate}
use lib.Seq.{sets, take-suc-set, length-take-le, length-sets}
use Rattle.std.specs.Prelude.{Result, Ok, Err}
use Rattle.verdict.specs.declared.Refusal.{Refusal}
use Rattle.number.specs.declared.Number.{Number}
use Rattle.number.specs.Number.{zero_number}
use Rattle.reader.specs.declared.Parsed.{Parsed}
use Rattle.reader.specs.Matrix.{Read, read_to, factor, factor_at, matrix, fault, factors_from, parsed, zero_table}
use Rattle.arrays.proofs.Runs.{sets-append}

-- what was read says what it is, and where it ends
pub read-same : {A : Type 0} (a : A) (q : ℕ) (b : A) (r : ℕ) → ◌≡◌ {A = Result (Read A) Refusal} (read_to q (Ok a)) (read_to r (Ok b)) → (a ≡ b) × (q ≡ r)
read-same {A} a q b r e =
    let f : ◌≡◌ {A = Read A} (record { value = a; next = q }) (record { value = b; next = r }) = cc in
    (ap (λ (x : Read A). x.value) f, ap (λ (x : Read A). x.next) f)

-- a run of factors, by its first
pub factors-none : (s : List ℕ) (n : ℕ) (before : List Number) (p : ℕ) → factors_from s n before 0 p ≡ matrix n before p
unfolding factors_from
factors-none s n before p = refl

pub factors-more : (s : List ℕ) (n : ℕ) (before : List Number) (c p q : ℕ) (a : Number) → factor_at s n before p ≡ factor a q →
    factors_from s n before (suc c) p ≡ factors_from s n (before ++ (a ∷ [])) c q
unfolding factors_from
factors-more s n before c p q a e = rw e

pub factors-fault : (s : List ℕ) (n : ℕ) (before : List Number) (c p : ℕ) (w : Refusal) → factor_at s n before p ≡ Err w
    → factors_from s n before (suc c) p ≡ fault w.reason w.offset
unfolding factors_from
factors-fault s n before c p w e = rw e

-- the first k numbers are factors, the others zero, and the next factor begins at p
pub record ReadSoFar (s : List ℕ) (n count at : ℕ) (numbers : List Number) (p k : ℕ) : Type 0 where
  pub few : k ≤ count
  pub room : count ≤ 64
  pub rest-blank : numbers ≡ sets zero_table 0 (take k numbers)
  pub same : factors_from s n [] count at ≡ factors_from s n (take k numbers) (count - k) p

-- a matrix that was read
abbrev held : ℕ → ℕ → List Number → Parsed
held n p numbers = record { rows = n; next = p; numbers = numbers }

module _ {s : List ℕ} {n count at : ℕ} {numbers : List Number} {p k : ℕ} (w : ReadSoFar s n count at numbers p k) where
  long : length numbers ≡ 64
  long = ap length w.rest-blank ∙ length-sets zero_table 0 (take k numbers) ∙ length-replicate 64 zero_number

  pub read_all : count ≤ k → Ok (held n p numbers) ≡ parsed (factors_from s n [] count at)
  read_all h =
      let z : count - k ≡ 0 = omega arith in
      rw (w.same, z, factors-none s n (take k numbers) p) (ap (λ (l : List Number). Ok (held n p l)) w.rest-blank)

  module _ (h : k < count) where
    left : count - k ≡ suc (count - (k + 1))
    left = omega arith

    pub read_more : (a : Number) (q : ℕ) → factor a q ≡ factor_at s n (take k numbers) p → ReadSoFar s n count at (set numbers k a) q (k + 1)
    read_more a q e =
        let more : take (k + 1) (set numbers k a) ≡ take k numbers ++ (a ∷ []) = rw add-one (take-suc-set numbers k a (omega (arith, long, w.room))) in
        let past : 0 + length (take k numbers) ≡ k = omega (arith, length-take-le k numbers (omega (arith, long, w.room))) in
        record {
          few = omega arith;
          room = w.room;
          rest-blank =
              ap (λ (l : List Number). set l k a) w.rest-blank
              ∙ ap (λ (i : ℕ). set (sets zero_table 0 (take k numbers)) i a) (sym past)
              ∙ sets-append zero_table (take k numbers) (a ∷ []) 0
              ∙ ap (sets zero_table 0) (sym more);
          same = rw (w.same, left, factors-more s n (take k numbers) (count - (k + 1)) p q a (sym e), more);
        }

    pub read-fault : (v : Refusal) → Err v ≡ factor_at s n (take k numbers) p → Err v ≡ parsed (factors_from s n [] count at)
    read-fault v e = rw (w.same, left, factors-fault s n (take k numbers) (count - (k + 1)) p v (sym e))
