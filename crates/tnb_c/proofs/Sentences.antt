-- THE PROMISE OF A SENTENCE in C (`sentence-answered`): an answer with number 0 is that of an accepted call, since every reason has a number above 0, and what
-- that wrote is the sentence of this notice alone (`accepted-only`); with 220 lent bytes only the first test is left (`sentence-roomy`).
use Prim.Native.Nat.{ℕ}
use mathlib.Core.Path.{◌≡◌, refl, ap, ◌∙◌}
use mathlib.Core.Bool.{Bool, true, false, cond}
use mathlib.Core.List.{List, [], ◌∷◌}
use lib.Dec.{ltb}
use lib.IntN.{ℤ, pos}
use lib.ListN.{length, take}
use Rattle.std.specs.Prelude.{Ok, Err}
use Rattle.verdict.specs.declared.Reason.TheVariants.{WrongList}
use Rattle.verdict.specs.Verdict.{Verdict, when, first_of}
use Rattle.verdict.specs.Report.{report_of}
use Rattle.notices.specs.Sentence.{Notice, sentence_of, is_unsayable, sentence_tests, sentence_report, bytes_after_sentence}
use Rattle.notices.specs.Promise.{Bits64, TellsOnly}
use Rattle.notices.proofs.Saying.{accepted-only, sentence-roomy}
use Rattle.tnb_c.specs.declared.Length.{Length}
use Rattle.tnb_c.specs.Answers.{number_of, length_of, SentenceAnswer}
use Rattle.tnb_c.proofs.Numbers.{numbered-accepted}

tested-number : (t : Bool) (values : List ℤ) → number_of (report_of (when t WrongList) values) ≡ cond t 9 0
tested-number true values = refl
tested-number false values = refl

module _ (a : Notice) (out : List ℕ) (f : Bits64 a) where
  recovered : (length_of (sentence_report a out)).number ≡ 0 → TellsOnly a (take (length_of (sentence_report a out)).length (bytes_after_sentence a out))
  unfolding sentence_report
  recovered z =
      let v = first_of (sentence_tests a out) in
      let values = pos (length (sentence_of a)) ∷ [] in
      let h = numbered-accepted v values z in
      let n : (length_of (report_of v values)).length ≡ length (sentence_of a) = ap (λ (w : Verdict). (length_of (report_of w values)).length) h in
      rw n (accepted-only a out f h)

  pub sentence-answered : (r : Length) (left : List ℕ) → r ≡ length_of (sentence_report a out) → left ≡ bytes_after_sentence a out → SentenceAnswer a out left r
  sentence-answered r left e s =
      rw (e, s)
      (record { recovered = recovered; roomy = λ h. ap number_of (sentence-roomy a out f h) ∙ tested-number (is_unsayable a) _ })
