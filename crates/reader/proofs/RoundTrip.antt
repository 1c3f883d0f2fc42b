-- A matrix has one form. What is written reads back, whatever is behind it (`matrix-written`). What is read can be stored, so its zeros keep the pattern, and
-- it is what is written (`matrix-read`). `accepted`: the same of what `read_matrix` answers; `factors-held`: the factors of a matrix stand where `write_matrix`
-- finds them.
use Prim.Native.Nat.{ℕ, zero, suc, ◌+◌, ◌*◌, ◌≤◌}
use native.Mathlib.Nat.{add_assoc, add-zero, zero-add}
use native.Mathlib.Omega.{arith}
use mathlib.Core.Path.{◌≡◌, refl, sym, ap, ◌∙◌}
use mathlib.Core.Bool.{Bool, true, false, cond}
use mathlib.Core.List.{List, [], ◌∷◌, ◌++◌, append_assoc, append-nil}
use lib.ListN.{length, take, length-append}
use lib.Seq.{sets, sets-eq, take_at, drop-append_seam}
use lib.Dec.{ltb}
use borrow.Author.Tests.{ltb-false, le-ltb}
use Rattle.group.specs.Group.{bytes_of, Bytes}
use Rattle.number.specs.declared.Number.{Number}
use Rattle.std.specs.Prelude.{Ok, Err}
use Rattle.reader.specs.declared.Parsed.{Parsed}
use Rattle.writer.specs.Encoding.{factor_bytes, factors_bytes, encoding, square_factors, Storable}
use Rattle.writer.proofs.Writing.{square-small}
use Rattle.reader.specs.Matrix.{Item, item, item_at, Factor, factor_at, Reading, matrix, fault, wrong_size, on_factor, factors_from, matrix_by, matrix_of}
use Rattle.reader.specs.Matrix.{zero_table, parsed, behind_of}
use Rattle.reader.proofs.Reading.{factors-none, factors-more}
use Rattle.reader.proofs.Continued.{Continued, storable-continued, continued-banded}
use Rattle.reader.proofs.OneFactor.{item-written, factor-written, Stands, stands-none, stands-append, item-read, factor-read}

-- the factors, behind those in front
factors-written : (L : List Number) (front rest : List ℕ) (n : ℕ) (before : List Number) → Continued n before L →
    factors_from (front ++ (factors_bytes L ++ rest)) n before (length L) (length front) ≡ matrix n (before ++ L) (length front + length (factors_bytes L))
unfolding factors_bytes
factors-written [] front rest n before s = factors-none (front ++ rest) n before (length front) ∙ rw (append-nil, add-zero)
factors-written (a ∷ L) front rest n before s =
    let e : front ++ (factor_bytes a ++ (factors_bytes L ++ rest)) ≡ front ++ ((factor_bytes a ++ factors_bytes L) ++ rest) = simp append_assoc in
    let f : (front ++ factor_bytes a) ++ (factors_bytes L ++ rest) ≡ front ++ ((factor_bytes a ++ factors_bytes L) ++ rest) = simp append_assoc in
    let l : length front + length (factor_bytes a) ≡ length (front ++ factor_bytes a) = sym (length-append front (factor_bytes a)) in
    let g = rw (e, l) at (factor-written front (factors_bytes L ++ rest) n before a s.0) in
    let i = rw f at (factors-written L (front ++ factor_bytes a) rest n (before ++ (a ∷ [])) s.1) in
    factors-more _ n before (length L) (length front) _ a g ∙ i ∙ simp (append_assoc, length-append, add_assoc)

-- what is written reads back, whatever is behind it
pub matrix-written : (n : ℕ) (L : List Number) (rest : List ℕ) → Storable n L → matrix_of (encoding n L ++ rest) ≡ matrix n L (length (encoding n L))
unfolding matrix_of encoding
matrix-written n L rest w =
    let i = item-written [] (factors_bytes L ++ rest) n (omega (arith, w.few)) in
    let f = rw w.square at (factors-written L (bytes_of n) rest n [] (storable-continued n L w)) in
    rw (append_assoc, i, le-ltb n 1 w.some, le-ltb 8 n w.few, zero-add, f, length-append)

-- behind a written matrix stands the rest of a bundle
pub behind-written : (n : ℕ) (L : List Number) (rest : List ℕ) → Storable n L → behind_of (encoding n L ++ rest) ≡ rest
behind-written n L rest w = rw (matrix-written n L rest w) (drop-append_seam (encoding n L) rest)

-- A matrix that was read can be stored, and the bytes in front of q are those that it is written as.
pub record MatrixRead (s : List ℕ) (n : ℕ) (L : List Number) (q : ℕ) : Type 0 where
  pub storable : Storable n L
  pub next : q ≡ length (encoding n L)
  pub taken : take q s ≡ encoding n L

module _ (s : List ℕ) (bs : Bytes s) where
  -- the factors that were read behind those in front
  record FactorsRead (n : ℕ) (before : List Number) (c p : ℕ) (L : List Number) (q : ℕ) : Type 0 where
    list : List Number
    joined : L ≡ before ++ list
    count : length list ≡ c
    continued : Continued n before list
    stands : Stands s p q (factors_bytes list)

  module _ (n : ℕ) where
    factors-first : (before : List Number) (c p m : ℕ) (L : List Number) (q : ℕ) →
        ((a : Number) (r : ℕ) → factors_from s n (before ++ (a ∷ [])) c r ≡ matrix m L q → (m ≡ n) × FactorsRead n (before ++ (a ∷ [])) c r L q) →
        (w : Factor) → factor_at s n before p ≡ w → on_factor (λ a r. factors_from s n (before ++ (a ∷ [])) c r) w ≡ matrix m L q
        → (m ≡ n) × FactorsRead n before (suc c) p L q
    unfolding factors_bytes
    factors-first before c p m L q behind (Ok w) e f =
        let a = w.value in
        let r = w.next in
        let g = behind a r f in
        let o = factor-read s bs n before p a r e in (
          g.0,
          record {
            list = a ∷ g.1.list;
            joined = g.1.joined ∙ append_assoc before (a ∷ []) g.1.list;
            count = ap suc g.1.count;
            continued = (o.follows, g.1.continued);
            stands = stands-append s p r q (factor_bytes a) (factors_bytes g.1.list) o.stands g.1.stands;
          },
        )
    factors-first before c p m L q behind (Err w) e f = absurd (cc)

    factors-read : (c : ℕ) (before : List Number) (p m : ℕ) (L : List Number) (q : ℕ) → factors_from s n before c p ≡ matrix m L q
        → (m ≡ n) × FactorsRead n before c p L q
    unfolding factors_from factors_bytes
    factors-read zero before p m L q f =
        let em : m ≡ n = cc in
        let el : L ≡ before = cc in
        let eq : q ≡ p = cc in
        (em, rw (el, eq) (record { list = []; joined = sym (append-nil before); count = refl; continued = tt; stands = stands-none s p }))
    factors-read (suc c) before p m L q f = factors-first before c p m L q (λ a r. factors-read c (before ++ (a ∷ [])) r m L q) (factor_at s n before p) refl f

  rows-judged : (r v n : ℕ) (L : List Number) (q : ℕ) → item_at s 0 ≡ item v r → (t u : Bool) → ltb v 1 ≡ t → ltb 8 v ≡ u →
      cond t wrong_size (cond u wrong_size (factors_from s v [] (v * v) r)) ≡ matrix n L q → MatrixRead s n L q
  unfolding encoding
  rows-judged r v n L q e true u b d f = absurd (cc)
  rows-judged r v n L q e false true b d f = absurd (cc)
  rows-judged r v n L q e false false b d f =
      let g = factors-read v (v * v) [] r n L q f in
      let i = item-read s bs 0 v r e in
      let w = stands-append s 0 r q (bytes_of v) (factors_bytes g.1.list) i.1 g.1.stands in
      rw (g.0, g.1.joined)
      (record {
        storable = record {
          some = ltb-false v 1 b;
          few = ltb-false 8 v d;
          square = g.1.count;
          banded = continued-banded v (ltb-false v 1 b) g.1.list g.1.count g.1.continued;
        };
        next = w.next ∙ zero-add _;
        taken = w.taken;
      })

  matrix-item : (n : ℕ) (L : List Number) (q : ℕ) (w : Item) → item_at s 0 ≡ w → matrix_by s w ≡ matrix n L q → MatrixRead s n L q
  matrix-item n L q (Ok i) e f = rows-judged i.next i.value n L q e (ltb i.value 1) (ltb 8 i.value) refl refl f
  matrix-item n L q (Err w) e f = absurd (cc)

  -- what is read is what is written
  pub matrix-read : (n : ℕ) (L : List Number) (q : ℕ) → matrix_of s ≡ matrix n L q → MatrixRead s n L q
  unfolding matrix_of
  matrix-read n L q e = matrix-item n L q (item_at s 0) refl e

-- the factors of a matrix stand at the start of 64 numbers, where a writer finds them
pub factors-held : (n : ℕ) (L : List Number) → Storable n L → square_factors n (sets zero_table 0 L) ≡ L
factors-held n L w =
    let h : length L ≤ 64 = omega (arith, w.square, square-small n (omega (arith, w.few))) in
    rw (sets-eq L zero_table 0 (omega arith)) (take_at L _ (n * n) w.square)

-- what an answer of the reader holds
record Held (w : Reading) (r : Parsed) : Type 0 where
  list : List Number
  found : w ≡ matrix r.rows list r.next
  placed : r.numbers ≡ sets zero_table 0 list

held : (w : Reading) (r : Parsed) → Ok r ≡ parsed w → Held w r
held (matrix m L p) r e =
    let f : ◌≡◌ {A = Parsed} r (record { rows = m; next = p; numbers = sets zero_table 0 L }) = cc in
    record {
      list = L;
      found = rw (ap (λ (x : Parsed). x.rows) f, ap (λ (x : Parsed). x.next) f);
      placed = ap (λ (x : Parsed). x.numbers) f;
    }
held (fault k o) r e = absurd (cc)

-- an accepted matrix is held where a writer finds it, and the writer makes the bytes that were read
pub accepted : (s : List ℕ) → Bytes s → (r : Parsed) → Ok r ≡ parsed (matrix_of s) → MatrixRead s r.rows (square_factors r.rows r.numbers) r.next
accepted s bs r e =
    let h = held (matrix_of s) r e in
    let m = matrix-read s bs r.rows h.list r.next h.found in
    rw (h.placed, factors-held r.rows h.list m.storable) m
