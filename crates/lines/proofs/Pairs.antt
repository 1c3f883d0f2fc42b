-- Reading bytes in hexadecimal: whether all are digits (`digits-all`), and what holds when k bytes are put (`Filled`).
use Prim.Native.Nat.{ℕ, suc, ◌+◌, ◌/◌, ◌%◌, ◌≤◌, ◌<◌}
use native.Mathlib.Numerals.{add-one}
use native.Mathlib.Omega.{arith}
use mathlib.Core.Path.{◌≡◌, refl, sym, ap, ◌∙◌}
use mathlib.Core.Bool.{not, ◌&&◌, ◌||◌}
use mathlib.Core.List.{List, [], ◌∷◌, ◌++◌}
use lib.Dec.{eqb}
use lib.ListN.{length, get_or, set, length-append, length-set}
use lib.Seq.{sets}
use Rattle.std.specs.List.{list_all}
use Rattle.lines.specs.Decimal.{is_numeral}
use Rattle.lines.specs.Hexadecimal.{is_letter, byte_of, all_digits, spelled_bytes, hexadecimal}

-- std's answer over all the bytes is that of the definition
pub digits-all : (s : List ℕ) → list_all (λ b. is_numeral b || is_letter b) s ≡ all_digits s
unfolding all_digits
digits-all [] = refl
digits-all (b ∷ s) = rw (digits-all s)

pub hexadecimal-pairs : (s : List ℕ) → (length s ≡ 0 → ⊥) → (length s ≡ 1 → ⊥) → hexadecimal s ≡ not (eqb (length s % 2) 1) && all_digits s
hexadecimal-pairs [] n m = absurd (n refl)
hexadecimal-pairs (a ∷ []) n m = absurd (m refl)
hexadecimal-pairs (a ∷ b ∷ s) n m =
    let e : suc (suc (length s)) % 2 ≡ length s % 2 = omega arith in
    rw e

pub bytes-few : (s : List ℕ) → length s ≤ 1 → spelled_bytes s ≡ []
unfolding spelled_bytes
bytes-few [] h = refl
bytes-few (a ∷ []) h = refl
bytes-few (a ∷ b ∷ s) h = absurd (omega arith)

bytes-pair : (pair rest : List ℕ) → length pair ≡ 2 → spelled_bytes (pair ++ rest) ≡ byte_of (get_or pair 0 0) (get_or pair 1 0) ∷ spelled_bytes rest
unfolding spelled_bytes
bytes-pair [] rest h = absurd (omega arith)
bytes-pair (a ∷ []) rest h = absurd (omega arith)
bytes-pair (a ∷ b ∷ []) rest h = refl
bytes-pair (a ∷ b ∷ c ∷ s) rest h = absurd (omega arith)

-- k bytes are put, and those of `rest` are left
pub record Filled (out₀ bytes out rest : List ℕ) (k : ℕ) : Type 0 where
  pub kept : length out ≡ length out₀
  pub room : k + length rest / 2 ≤ length out
  pub same : sets out₀ 0 bytes ≡ sets out k (spelled_bytes rest)

module _ {out₀ bytes out rest : List ℕ} {k : ℕ} (p : Filled out₀ bytes out rest k) where
  pub filled-end : length rest < 2 → out ≡ sets out₀ 0 bytes
  filled-end h = sym (p.same ∙ rw (bytes-few rest (omega arith)))

  pub filled_more : (pair more : List ℕ) → rest ≡ pair ++ more → length pair ≡ 2
      → Filled out₀ bytes (set out k (byte_of (get_or pair 0 0) (get_or pair 1 0))) more (k + 1)
  filled_more pair more e h =
      let l : length rest ≡ 2 + length more = ap length e ∙ length-append pair more ∙ omega arith in
      record {
        kept = length-set out k _ ∙ p.kept;
        room = rw (length-set out k (byte_of (get_or pair 0 0) (get_or pair 1 0))) (omega (arith, p.room));
        same = p.same ∙ rw (e, bytes-pair pair more h, add-one k);
      }
