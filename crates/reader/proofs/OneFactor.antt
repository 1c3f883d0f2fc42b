-- ONE FACTOR, and the group numbers that it consists of. Written where it may stand, it reads back, whatever is in front and behind (`item-written`,
-- `factor-written`). One that was read may stand there, and its bytes are those that it is written as (`item-read`, `factor-read`).
use Prim.Native.Nat.{ℕ, ◌+◌, ◌-◌, ◌^◌, ◌<◌}
use native.Mathlib.Nat.{add_assoc, add-zero}
use native.Mathlib.Decide.{ℕ_discrete}
use native.Mathlib.Omega.{arith}
use mathlib.Core.Path.{◌≡◌, refl, sym, ap, subst, ◌∙◌}
use mathlib.Core.Bool.{Bool, true, false, cond}
use mathlib.Core.List.{List, [], ◌++◌, append_assoc, append-nil}
use lib.ListN.{length, take, drop, length-append}
use lib.Seq.{drop-append_seam, take-add, get_or-drop}
use lib.Dec.{ltb}
use borrow.Author.Tests.{ltb-false, le-ltb, ne_eqb}
use Rattle.std.specs.Prelude.{Ok, Err}
use Rattle.verdict.specs.declared.Reason.TheVariants as reason
use Rattle.group.specs.declared.GroupFault.TheVariants.{Ended, Faulty}
use Rattle.group.specs.Group.{Found, group_of, bytes_of, Bytes}
use Rattle.group.proofs.RoundTrip.{group-written, group-read}
use Rattle.number.specs.declared.Number.{Number}
use Rattle.number.specs.Number.{zero_number, Stored}
use Rattle.words.proofs.Banded.{StoredOrZero, stored, zero}
use Rattle.writer.specs.Encoding.{code_zero, exponent_code, part_of, factor_bytes}
use Rattle.writer.proofs.Writing.{factor-bytes-zero, factor-bytes-some, factor-bytes-stored}
use Rattle.reader.specs.Matrix.{Item, item, item_by_group, item_at, factor, refusal, mantissa_by, mantissa_at, CodeVerdict, judged_code, decoded}
use Rattle.reader.specs.Matrix.{judged_by, factor_by_item, factor_at}
use Rattle.reader.proofs.Reading.{read-same}
use Rattle.reader.proofs.Pattern.{stored-taken, zero-taken, taken-stored, taken-zero}
use Rattle.reader.proofs.Continued.{Next, NextCode, code-taken, code-only}

-- A FACTOR BY ITS ITEMS: two, or code 0
factor-items : (s : List ℕ) (n : ℕ) (before : List Number) (p q r code m : ℕ) → item_at s p ≡ item code q → item_at s q ≡ item m r →
    0 < code → judged_code n before code ≡ Ok tt → m < 2 ^ 31 → factor_at s n before p ≡ factor (decoded code m) r
unfolding factor_at mantissa_at
factor-items s n before p q r code m e f g h l =
    rw e (ap (judged_by p (mantissa_at s q code)) h ∙ rw (ne_eqb code 0 (λ z. omega arith), f, le-ltb (2 ^ 31 - 1) m (omega arith)))

factor-zero : (s : List ℕ) (n : ℕ) (before : List Number) (p q : ℕ) → item_at s p ≡ item 0 q → judged_code n before 0 ≡ Ok tt →
    factor_at s n before p ≡ factor zero_number q
unfolding factor_at mantissa_at
factor-zero s n before p q e h = rw e (ap (judged_by p (mantissa_at s q 0)) h)

-- WRITTEN BYTES, behind any others and in front of any others
pub item-written : (front rest : List ℕ) (v : ℕ) → v < 2 ^ 32
    → item_at (front ++ (bytes_of v ++ rest)) (length front) ≡ item v (length front + length (bytes_of v))
unfolding item_at
item-written front rest v h = rw (drop-append_seam, group-written v rest h)

number_same : (a : Number) → Stored a → decoded (exponent_code a) (part_of a) ≡ a
number_same a s =
    let em : part_of a + 2 ^ 31 ≡ a.m = omega (arith, s.low) in
    let ex : exponent_code a + code_zero ≡ a.x = omega (arith, s.start) in
    ap (λ (m : ℕ). record { m = m; x = exponent_code a + code_zero }) em ∙ ap (λ (x : ℕ). record { m = a.m; x = x }) ex

module _ (front rest : List ℕ) (n : ℕ) (before : List Number) where
  stored-written : (a : Number) → Stored a → judged_code n before (exponent_code a) ≡ Ok tt →
      factor_at (front ++ (factor_bytes a ++ rest)) n before (length front) ≡ factor a (length front + length (factor_bytes a))
  stored-written a s h =
      let e : front ++ (bytes_of (exponent_code a) ++ (bytes_of (part_of a) ++ rest)) ≡ front ++ (factor_bytes a ++ rest) =
      rw (factor-bytes-stored a s) (simp append_assoc) in
      let f : (front ++ bytes_of (exponent_code a)) ++ (bytes_of (part_of a) ++ rest) ≡ front ++ (factor_bytes a ++ rest) =
      rw (factor-bytes-stored a s) (simp append_assoc) in
      let l : length front + length (bytes_of (exponent_code a)) ≡ length (front ++ bytes_of (exponent_code a)) =
      sym (length-append front (bytes_of (exponent_code a))) in
      let i = rw (e, l) at (item-written front (bytes_of (part_of a) ++ rest) (exponent_code a) (omega (arith, s.stop))) in
      let j = rw f at (item-written (front ++ bytes_of (exponent_code a)) rest (part_of a) (omega (arith, s.high))) in
      let r : length (front ++ bytes_of (exponent_code a)) + length (bytes_of (part_of a)) ≡ length front + length (factor_bytes a) =
      rw (factor-bytes-stored a s) (simp (length-append, add_assoc)) in
      factor-items _ n before _ _ _ (exponent_code a) (part_of a) i j (omega (arith, s.start)) h (omega (arith, s.high)) ∙ rw (number_same a s, r)

  zero-written : judged_code n before 0 ≡ Ok tt →
      factor_at (front ++ (factor_bytes zero_number ++ rest)) n before (length front) ≡ factor zero_number (length front + length (factor_bytes zero_number))
  zero-written h = rw (factor-bytes-zero zero_number refl) (factor-zero _ n before _ _ (item-written front rest 0 (omega arith)) h)

  pub factor-written : (a : Number) → Next n before a →
      factor_at (front ++ (factor_bytes a ++ rest)) n before (length front) ≡ factor a (length front + length (factor_bytes a))
  factor-written a f = by a f.decided f
    where
      by : (a : Number) → StoredOrZero a → Next n before a →
          factor_at (front ++ (factor_bytes a ++ rest)) n before (length front) ≡ factor a (length front + length (factor_bytes a))
      by a (stored s) f = stored-written a s (code-taken n before (exponent_code a) (stored-taken _ _ _ a s f))
      by a (zero e) f = rw e (zero-written (code-taken n before 0 (zero-taken _ _ _ (subst (Next n before) e f))))

-- READ BYTES. From p to q stand the bytes u.
pub record Stands (s : List ℕ) (p q : ℕ) (u : List ℕ) : Type 0 where
  pub next : q ≡ p + length u
  pub taken : take q s ≡ take p s ++ u

pub stands-none : (s : List ℕ) (p : ℕ) → Stands s p p []
stands-none s p = record { next = sym (add-zero p); taken = sym (append-nil (take p s)) }

pub stands-append : (s : List ℕ) (p q r : ℕ) (u v : List ℕ) → Stands s p q u → Stands s q r v → Stands s p r (u ++ v)
stands-append s p q r u v a b =
    record {
      next = b.next ∙ rw (a.next, length-append, add_assoc);
      taken = b.taken ∙ rw (a.taken, append_assoc);
    }

-- an element of the rest of a list of bytes is a byte
bytes-behind : (s : List ℕ) (p : ℕ) → Bytes s → Bytes (drop p s)
bytes-behind s p bs = λ i. rw get_or-drop (bs (p + i))

-- behind a code that is not 0: the part of the mantissa that was read, and the number
pub record Mantissa (s : List ℕ) (p code : ℕ) (a : Number) (q : ℕ) : Type 0 where
  pub part : ℕ
  pub small : part < 2 ^ 31
  pub stands : item_at s p ≡ item part q
  pub made : decoded code part ≡ a

pub mantissa-taken : (s : List ℕ) (p code : ℕ) (a : Number) (q : ℕ) → (code ≡ 0 → ⊥) → mantissa_at s p code ≡ factor a q → Mantissa s p code a q
unfolding mantissa_at
mantissa-taken s p code a q h e = by (item_at s p) refl (rw (ne_eqb code 0 h) at e)
  where
    value : (m r : ℕ) (t : Bool) → item_at s p ≡ item m r → ltb (2 ^ 31 - 1) m ≡ t
        → cond t (Err (refusal reason.FactorOutOfRange p)) (factor (decoded code m) r) ≡ factor a q → Mantissa s p code a q
    value m r true i g f = absurd (cc)
    value m r false i g f =
        let h = read-same (decoded code m) r a q f in
        record { part = m; small = omega (arith, ltb-false (2 ^ 31 - 1) m g); stands = i ∙ ap (item m) h.1; made = h.0 }

    by : (w : Item) → item_at s p ≡ w → mantissa_by p code w ≡ factor a q → Mantissa s p code a q
    by (Ok r) i f = value r.value r.next (ltb (2 ^ 31 - 1) r.value) i refl f
    by (Err w) i f = absurd (cc)

-- a factor that was read may stand behind those before it, and its bytes are those that it is written as
pub record FactorRead (s : List ℕ) (n : ℕ) (before : List Number) (a : Number) (p q : ℕ) : Type 0 where
  pub follows : Next n before a
  pub stands : Stands s p q (factor_bytes a)

module _ (s : List ℕ) (bs : Bytes s) where
  item-group : (p v q : ℕ) (r : Found) → group_of (drop p s) ≡ r → item_by_group s p r ≡ item v q → (v < 2 ^ 32) × Stands s p q (bytes_of v)
  item-group p v q (Ok r) e f =
      let h = read-same r.value (p + r.bytes) v q f in
      let g = group-read (drop p s) r.value r.bytes (bytes-behind s p bs) e in
      (omega (arith, g.0, h.0), record { next = rw (← h.0, ← h.1, g.1); taken = rw (← h.1, take-add, g.2, h.0) })
  item-group p v q (Err Ended) e f = absurd (cc)
  item-group p v q (Err Faulty) e f = absurd (cc)

  pub item-read : (p v q : ℕ) → item_at s p ≡ item v q → (v < 2 ^ 32) × Stands s p q (bytes_of v)
  unfolding item_at
  item-read p v q e = item-group p v q (group_of (drop p s)) refl e

  module _ (n : ℕ) (before : List Number) where
    factor-made : (code m p r q : ℕ) → 0 < code → NextCode n before code → m < 2 ^ 31 → item_at s p ≡ item code r → item_at s r ≡ item m q →
        FactorRead s n before (decoded code m) p q
    factor-made code m p r q g t l e f =
        let ec : code + code_zero - code_zero ≡ code = omega arith in
        let em : m + 2 ^ 31 - 2 ^ 31 ≡ m = omega arith in
        let z : m + 2 ^ 31 ≡ 0 → ⊥ = λ q. omega arith in
        let k : Stored (decoded code m) = record { low = omega arith; high = omega arith; start = omega arith; stop = omega (arith, t.few) } in
        record {
          follows = taken-stored _ _ _ code (decoded code m) g k t;
          stands =
              rw (factor-bytes-some (decoded code m) z, ec, em)
              (stands-append s p r q (bytes_of code) (bytes_of m) (item-read p code r e).1 (item-read r m q f).1);
        }

    module _ (code p r : ℕ) (t : NextCode n before code) (e : item_at s p ≡ item code r) (a : Number) (q : ℕ) where
      zero-made : code ≡ 0 → factor zero_number r ≡ factor a q → FactorRead s n before a p q
      zero-made z f =
          let h = read-same zero_number r a q f in
          rw (← h.0, ← h.1)
          (record {
            follows = taken-zero _ _ _ (subst (NextCode n before) z t);
            stands = rw (factor-bytes-zero zero_number refl) (rw z at (item-read p code r e).1);
          })

      mantissa-read : mantissa_at s r code ≡ factor a q → FactorRead s n before a p q
      unfolding mantissa_at
      mantissa-read f =
          elim (ℕ_discrete code 0) [
            | yes z ↦ zero-made z (rw z at f)
            | no z ↦
                let m = mantissa-taken s r code a q z f in
                rw (← m.made) (factor-made code m.part p r q (omega arith) t m.small e m.stands)
          ]

    module _ (p : ℕ) (a : Number) (q : ℕ) where
      code-judged : (code r : ℕ) → item_at s p ≡ item code r → (w : CodeVerdict) → judged_code n before code ≡ w
          → judged_by p (mantissa_at s r code) w ≡ factor a q → FactorRead s n before a p q
      code-judged code r e (Ok tt) d f = mantissa-read code p r (code-only n before code d) e a q f
      code-judged code r e (Err k) d f = absurd (cc)

      factor-item : (w : Item) → item_at s p ≡ w → factor_by_item s n before p w ≡ factor a q → FactorRead s n before a p q
      factor-item (Ok i) e f = code-judged i.value i.next e (judged_code n before i.value) refl f
      factor-item (Err w) e f = absurd (cc)

      pub factor-read : factor_at s n before p ≡ factor a q → FactorRead s n before a p q
      unfolding factor_at
      factor-read f = factor-item (item_at s p) refl f
