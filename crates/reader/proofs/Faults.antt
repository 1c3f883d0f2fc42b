-- FAULTS ABOVE 5. No item and no mantissa has one (`item-number`, `mantissa-number`), so a reading ends with 6 or 16 exactly where an exponent code that it
-- comes to is refused so (`fault-code`, `code-fault`): the whole reading is what is left of it behind the factors that were taken (`reading-on`), and each of
-- these stands where it may (`taken-continued`).
use Prim.Native.Nat.{ℕ, zero, suc, ◌+◌, ◌-◌, ◌*◌, ◌^◌, ◌<◌, ◌≤◌}
use native.Mathlib.Omega.{arith}
use mathlib.Core.Path.{◌≡◌, refl, sym, ap, ◌∙◌, subst}
use mathlib.Core.Bool.{Bool, true, false, cond}
use mathlib.Core.List.{List, [], ◌∷◌, ◌++◌}
use lib.ListN.{length, drop, length-append}
use lib.Dec.{ltb, eqb}
use borrow.Author.Tests.{le-ltb, ltb-false}
use Rattle.std.specs.Prelude.{Ok, Err}
use Rattle.verdict.specs.declared.Reason.{Reason}
use Rattle.verdict.specs.declared.Reason.TheVariants as reason
use Rattle.verdict.specs.declared.Refusal.{Refusal}
use Rattle.verdict.specs.Verdict.{number_of}
use Rattle.group.specs.declared.GroupFault.TheVariants.{Ended, Faulty}
use Rattle.group.specs.Group.{Found, group_of, Bytes}
use Rattle.number.specs.declared.Number.{Number}
use Rattle.number.specs.Number.{zero_number}
use Rattle.reader.specs.Matrix.{Item, item, item_by_group, item_at, CodeVerdict, judged_code, decoded, Factor, factor, refusal, mantissa_by, mantissa_at}
use Rattle.reader.specs.Matrix.{judged_by, factor_by_item, factor_at, fault, wrong_size, on_factor, factors_from, matrix_by, matrix_of}
use Rattle.reader.specs.Faults.{FactorsTo, none, more, CodeAt}
use Rattle.reader.proofs.Continued.{Continued, continued-more}
use Rattle.reader.proofs.OneFactor.{factor-read}
use Rattle.reader.proofs.Reading.{factors-more, factors-fault}

-- THE NUMBERS OF OTHER FAULTS: 2 or 3 of an item, and 5 of a mantissa
item-number : (s : List ℕ) (p : ℕ) (w : Refusal) → item_at s p ≡ Err w → number_of w.reason ≤ 3
unfolding item_at
item-number s p w e = by (group_of (drop p s)) e
  where
    by : (g : Found) → item_by_group s p g ≡ Err w → number_of w.reason ≤ 3
    by (Ok g) f = absurd (cc)
    by (Err Ended) f = let z : refusal reason.BytesEndEarly (length s) ≡ w = cc in omega (arith, ap (λ (v : Refusal). number_of v.reason) z)
    by (Err Faulty) f = let z : refusal reason.MalformedGroup p ≡ w = cc in omega (arith, ap (λ (v : Refusal). number_of v.reason) z)

mantissa-number : (s : List ℕ) (p code : ℕ) (w : Refusal) → mantissa_at s p code ≡ Err w → number_of w.reason ≤ 5
unfolding mantissa_at
mantissa-number s p code w e = by (eqb code 0) (item_at s p) refl e
  where
    large : (t : Bool) (m q : ℕ) → cond t (Err (refusal reason.FactorOutOfRange p)) (factor (decoded code m) q) ≡ Err w → number_of w.reason ≤ 5
    large true m q f = let z : refusal reason.FactorOutOfRange p ≡ w = cc in omega (arith, ap (λ (v : Refusal). number_of v.reason) z)
    large false m q f = absurd (cc)

    by : (t : Bool) (i : Item) → item_at s p ≡ i → cond t (factor zero_number p) (mantissa_by p code i) ≡ Err w → number_of w.reason ≤ 5
    by true i g f = absurd (cc)
    by false (Ok i) g f = large (ltb (2 ^ 31 - 1) i.value) i.value i.next f
    by false (Err v) g f = let z : v ≡ w = cc in omega (arith, item-number s p v g, ap (λ (x : Refusal). number_of x.reason) z)

-- FROM THE FACTORS IN FRONT ON
module _ (s : List ℕ) (n begin : ℕ) where
  pub reading-on : {front : List Number} {p : ℕ} → FactorsTo s n begin front p → (c : ℕ) → length front + c ≡ n * n
      → factors_from s n [] (n * n) begin ≡ factors_from s n front c p
  reading-on none c e =
      let f : n * n ≡ c = omega arith in
      ap (λ (k : ℕ). factors_from s n [] k begin) f
  reading-on (more {front} {p} a q t e) c l =
      reading-on t (suc c) (omega (arith, length-append front (a ∷ []))) ∙ factors-more s n front c p q a e

  pub taken-continued : Bytes s → {front : List Number} {p : ℕ} → FactorsTo s n begin front p → Continued n [] front
  taken-continued bs none = tt
  taken-continued bs (more {front} {p} a q t e) = continued-more n front [] a (taken-continued bs t) (factor-read s bs n front p a q e).follows

  -- a reading that ends in a fault comes to it
  record Stopped (k : Reason) (o : ℕ) : Type 0 where
    front : List Number
    at : ℕ
    taken : FactorsTo s n begin front at
    left : length front < n * n
    found : factor_at s n front at ≡ Err (refusal k o)

  module _ (k : Reason) (o : ℕ) where
    stopped_by : (c : ℕ) (front : List Number) (p : ℕ) → FactorsTo s n begin front p → length front + suc c ≡ n * n
        → ((a : Number) (q : ℕ) → FactorsTo s n begin (front ++ (a ∷ [])) q → factors_from s n (front ++ (a ∷ [])) c q ≡ fault k o → Stopped k o)
        → (w : Factor) → factor_at s n front p ≡ w → on_factor (λ a q. factors_from s n (front ++ (a ∷ [])) c q) w ≡ fault k o → Stopped k o
    stopped_by c front p t l behind (Ok r) f e = behind r.value r.next (more r.value r.next t f) e
    stopped_by c front p t l behind (Err w) f e =
        let ek : w.reason ≡ k = cc in
        let eo : w.offset ≡ o = cc in
        record { front = front; at = p; taken = t; left = omega arith; found = f ∙ rw (← ek, ← eo) }

    stopped : (c : ℕ) (front : List Number) (p : ℕ) → FactorsTo s n begin front p → length front + c ≡ n * n → factors_from s n front c p ≡ fault k o
        → Stopped k o
    unfolding factors_from
    stopped zero front p t l e = absurd (cc)
    stopped (suc c) front p t l e =
        stopped_by c front p t l (λ a q u f. stopped c (front ++ (a ∷ [])) q u (omega (arith, length-append front (a ∷ []))) f) (factor_at s n front p) refl e

-- A CODE THAT IS REFUSED for the reason k at offset o
module _ (s : List ℕ) (k : Reason) (o : ℕ) where
  pub record RefusedCode : Type 0 where
    pub n : ℕ
    pub front : List Number
    pub code : ℕ
    pub at : CodeAt s n front o code
    pub judged : judged_code n front code ≡ Err k

  pub code-fault : RefusedCode → matrix_of s ≡ fault k o
  unfolding matrix_of factor_at
  code-fault r =
      let n = r.n in
      let front = r.front in
      let a = r.at in
      let c : ℕ = n * n - suc (length front) in
      let f : factor_at s n front o ≡ Err (refusal k o) = rw a.stands (ap (judged_by o (mantissa_at s a.next r.code)) r.judged) in
      rw (a.rows, le-ltb n 1 a.some, le-ltb 8 n a.few)
      (reading-on s n a.begin a.taken (suc c) (omega (arith, a.left)) ∙ factors-fault s n front c o (refusal k o) f)

  module _ (high : 5 < number_of k) where
    module _ (n begin : ℕ) (rows : item_at s 0 ≡ item n begin) (some : 0 < n) (few : n ≤ 8) where
      judged-by : (t : Stopped s n begin k o) (code q : ℕ) → item_at s t.at ≡ item code q → (v : CodeVerdict) → judged_code n t.front code ≡ v
          → judged_by t.at (mantissa_at s q code) v ≡ Err (refusal k o) → RefusedCode
      judged-by t code q e (Ok tt) j f = absurd (omega (arith, mantissa-number s q code (refusal k o) f))
      judged-by t code q e (Err l) j f =
          let w : refusal l t.at ≡ refusal k o = cc in
          let el : l ≡ k = ap (λ (v : Refusal). v.reason) w in
          let eo : t.at ≡ o = ap (λ (v : Refusal). v.offset) w in
          record {
            n = n;
            front = t.front;
            code = code;
            at = record {
              begin = begin;
              next = q;
              rows = rows;
              some = some;
              few = few;
              taken = subst (FactorsTo s n begin t.front) eo t.taken;
              left = t.left;
              stands = ap (item_at s) (sym eo) ∙ e;
            };
            judged = j ∙ ap (λ (r : Reason). Err r) el;
          }

      item_by : (t : Stopped s n begin k o) (w : Item) → item_at s t.at ≡ w → factor_by_item s n t.front t.at w ≡ Err (refusal k o) → RefusedCode
      item_by t (Ok i) e f = judged-by t i.value i.next e (judged_code n t.front i.value) refl f
      item_by t (Err w) e f = absurd (let z : w ≡ refusal k o = cc in omega (arith, item-number s t.at w e, ap (λ (x : Refusal). number_of x.reason) z))

      stopped_code : Stopped s n begin k o → RefusedCode
      unfolding factor_at
      stopped_code t = item_by t (item_at s t.at) refl t.found

    rows-by : (n begin : ℕ) → item_at s 0 ≡ item n begin → (t u : Bool) → ltb n 1 ≡ t → ltb 8 n ≡ u
        → cond t wrong_size (cond u wrong_size (factors_from s n [] (n * n) begin)) ≡ fault k o → RefusedCode
    rows-by n begin e true u a b f = absurd (let z : reason.SizeOutOfRange ≡ k = cc in omega (arith, ap number_of z))
    rows-by n begin e false true a b f = absurd (let z : reason.SizeOutOfRange ≡ k = cc in omega (arith, ap number_of z))
    rows-by n begin e false false a b f =
        stopped_code n begin e (ltb-false n 1 a) (ltb-false 8 n b) (stopped s n begin k o (n * n) [] begin none (omega arith) f)

    fault-by : (w : Item) → item_at s 0 ≡ w → matrix_by s w ≡ fault k o → RefusedCode
    fault-by (Ok i) e f = rows-by i.value i.next e (ltb i.value 1) (ltb 8 i.value) refl refl f
    fault-by (Err w) e f = absurd (let z : w.reason ≡ k = cc in omega (arith, item-number s 0 w e, ap number_of z))

    pub fault-code : matrix_of s ≡ fault k o → RefusedCode
    unfolding matrix_of
    fault-code f = fault-by (item_at s 0) refl f
