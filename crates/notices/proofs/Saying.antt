-- WHAT THE CALL DOES, by its first test. Where that passed, the number has a reason and the places are few (`sayable`), and the rest is to write the sentence
-- (`sayable-done`). With 220 lent bytes only that test is left (`sentence-roomy`). What an answer promises, from what it reports and leaves (`worded`).
use Prim.Native.Nat.{ℕ, ◌≤◌}
use native.Mathlib.Omega.{arith}
use mathlib.Core.Path.{◌≡◌, refl, sym, ◌∙◌}
use mathlib.Core.Bool.{Bool, true, false, not, ◌&&◌}
use mathlib.Core.List.{List, [], ◌∷◌}
use lib.Dec.{leb, ltb}
use lib.IntN.{pos}
use lib.ListN.{length, take}
use lib.Seq.{sets}
use borrow.Author.Tests.{leb-true, ltb-false, le-ltb, not-false}
use Rattle.arrays.proofs.Runs.{take-sets-front}
use Rattle.number.proofs.Tests.{both, neither}
use Rattle.std.specs.Prelude.{Result, Ok, Err}
use Rattle.verdict.specs.declared.Refusal.{Refusal}
use Rattle.verdict.specs.declared.Reason.TheVariants.{WrongList}
use Rattle.verdict.specs.Verdict.{Verdict, when, or_else, first_behind, first_of, after}
use Rattle.verdict.specs.Report.{accepted, report_of}
use Rattle.verdict.proofs.Verdicts.{first-passed}
use Rattle.writer.specs.Encoding.{room_test, writing_report, bytes_after_writing, written_report}
use Rattle.writer.proofs.Writing.{writing-room}
use Rattle.notices.specs.Reasons.{HasReason}
use Rattle.notices.specs.Sentence.{Notice, sentence_of, unsayable, is_unsayable, sentence_tests, sentence_report, bytes_after_sentence}
use Rattle.notices.specs.Promise.{Bits64, TellsOnly, Recovered, Roomy, Worded}
use Rattle.notices.proofs.Only.{sentence-only}
use Rattle.notices.proofs.Room.{sentence-short}

pub sayable : (k n : ℕ) → unsayable k n ≡ false → HasReason k × (n ≤ 7)
sayable k n e =
    let p = neither (not (leb 1 k && leb k 22)) (ltb 7 n) e in
    let q = both (leb 1 k) (leb k 22) (not-false (leb 1 k && leb k 22) p.0) in
    ((leb-true 1 k q.0, leb-true k 22 q.1), ltb-false 7 n p.1)

-- a report with a length is that of an accepted call
length-is : (v : Verdict) (n m : ℕ) → accepted (pos n ∷ []) ≡ report_of v (pos m ∷ []) → (v ≡ Ok tt) × (n ≡ m)
length-is (Ok tt) n m e = (refl, cc)
length-is (Err w) n m e = absurd (let z : ◌≡◌ {A = ℕ} 0 1 = cc in omega arith)

module _ (a : Notice) (out : List ℕ) where
  -- where the first test passed, the verdict is that of the room
  pub sayable-done : is_unsayable a ≡ false
      → (writing_report out (sentence_of a) ≡ sentence_report a out) × (bytes_after_writing out (sentence_of a) ≡ bytes_after_sentence a out)
  unfolding sentence_report bytes_after_sentence writing_report bytes_after_writing first_behind
  sayable-done e = (rw e, rw e)

  -- THE PROMISES
  module _ (f : Bits64 a) where
    -- of an accepted call
    pub accepted-only : first_of (sentence_tests a out) ≡ Ok tt → TellsOnly a (take (length (sentence_of a)) (bytes_after_sentence a out))
    unfolding bytes_after_sentence
    accepted-only h =
        let fits = writing-room out (sentence_of a) (first-passed (when (is_unsayable a) WrongList ∷ []) (room_test out (sentence_of a)) h).1 in
        let s : take (length (sentence_of a)) (after (first_of (sentence_tests a out)) out (sets out 0 (sentence_of a))) ≡ sentence_of a =
        rw h (take-sets-front (length (sentence_of a)) out (sentence_of a) refl fits) in
        record { tells = sym s; only = λ b g e. sentence-only b a g f (e ∙ s) }

    -- with 220 lent bytes
    pub sentence-roomy : Roomy a out (sentence_report a out)
    unfolding sentence_report first_behind
    sentence-roomy r = go (is_unsayable a) refl
      where
        go : (t : Bool) → is_unsayable a ≡ t
            → report_of (or_else (when (is_unsayable a) WrongList) (room_test out (sentence_of a))) (pos (length (sentence_of a)) ∷ [])
            ≡ report_of (when (is_unsayable a) WrongList) (pos (length (sentence_of a)) ∷ [])
        go true e = rw e
        go false e =
            let p = sayable a.number (length a.places) e in
            let l : length (sentence_of a) ≤ length out = omega (arith, sentence-short a f p.0 p.1, r) in
            rw (e, le-ltb (length out) (length (sentence_of a)) l)

    pub worded : (left : List ℕ) (r : Result ℕ Refusal) → written_report r ≡ sentence_report a out → left ≡ bytes_after_sentence a out → Worded a out left r
    unfolding sentence_report
    worded left r e s = record { recovered = recovered r e; roomy = λ h. e ∙ sentence-roomy h }
      where
        recovered : (r : Result ℕ Refusal) → written_report r ≡ sentence_report a out → Recovered a left r
        recovered (Ok n) q =
            let p = length-is (first_of (sentence_tests a out)) n (length (sentence_of a)) q in
            rw (p.1, s) (accepted-only p.0)
        recovered (Err w) q = tt
