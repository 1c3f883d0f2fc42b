-- How long an encoding is at most: a matrix that can be stored takes at most 449 bytes (`encoding-short`). Each of its factors is stored or zero
-- (`storable-decided`).
use Prim.Native.Nat.{ℕ, zero, suc, ◌*◌, ◌/◌, ◌%◌, ◌<◌, ◌≤◌}
use native.Mathlib.Nat.{mod-lt}
use native.Mathlib.Omega.{arith}
use mathlib.Core.Path.{ap, subst}
use mathlib.Core.List.{List, [], ◌∷◌}
use lib.ListN.{length, get_or, length-append}
use Rattle.group.specs.Group.{bytes_of}
use Rattle.group.proofs.RoundTrip.{bytes-short}
use Rattle.number.specs.declared.Number.{Number}
use Rattle.number.specs.Number.{zero_number}
use Rattle.words.proofs.Banded.{StoredOrZero, stored, zero, banded-decided}
use Rattle.table.specs.Table.{square_of}
use Rattle.table.proofs.RowByRow.{row_below}
use Rattle.table.proofs.Square.{square-number}
use Rattle.writer.specs.Encoding.{exponent_code, part_of, factor_bytes, factors_bytes, encoding, Storable}
use Rattle.writer.proofs.Writing.{factor-bytes-zero, factor-bytes-stored, encoding-length, square-small}

-- two bytes for an exponent code, five for the rest of a mantissa; one for zero
factor-short : (a : Number) → StoredOrZero a → length (factor_bytes a) ≤ 7
factor-short a (stored s) =
    let c : length (bytes_of (exponent_code a)) ≤ 2 = bytes-short 1 10 (exponent_code a) (omega (arith, s.stop)) in
    let m : length (bytes_of (part_of a)) ≤ 5 = bytes-short 4 10 (part_of a) (omega (arith, s.high)) in
    rw (factor-bytes-stored a s) (simp length-append (omega arith))
factor-short a (zero e) = rw (factor-bytes-zero a (ap (λ (b : Number). b.m) e)) (omega (arith, bytes-short 0 10 0 (omega arith)))

factors-short : (L : List Number) → ((k : ℕ) → k < length L → StoredOrZero (get_or L k zero_number)) → length (factors_bytes L) ≤ 7 * length L
unfolding factors_bytes
factors-short [] h = omega arith
factors-short (a ∷ L) h =
    let f : length (factor_bytes a) ≤ 7 = factor-short a (h 0 (omega arith)) in
    let r : length (factors_bytes L) ≤ 7 * length L = factors-short L (λ k l. h (suc k) (omega arith)) in
    simp length-append (omega arith)

pub storable-decided : (n : ℕ) (L : List Number) → Storable n L → (k : ℕ) → k < length L → StoredOrZero (get_or L k zero_number)
storable-decided n L w k h =
    let m : k < n * n = omega (arith, w.square) in
    subst StoredOrZero (square-number n L k)
    (banded-decided n (square_of n L) w.banded (suc (k / n)) (suc (k % n)) (omega arith, row_below n k m) (omega arith, mod-lt k w.some))

pub encoding-short : (n : ℕ) (L : List Number) → Storable n L → length (encoding n L) ≤ 449
encoding-short n L w =
    let b : length (bytes_of n) ≤ 1 = bytes-short 0 10 n (omega (arith, w.few)) in
    omega (arith, encoding-length n L, factors-short L (storable-decided n L w), w.square, square-small n (omega (arith, w.few)))
