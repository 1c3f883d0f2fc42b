-- An answer is put whole behind those that wait, since there is room for the longest (`line-answered`).
use Prim.Native.Nat.{ℕ, ◌+◌, ◌≤◌}
use native.Mathlib.Omega.{arith}
use mathlib.Core.Path.{◌≡◌, refl, ap, ◌∙◌}
use mathlib.Core.Bool.{Bool, true, false, cond}
use mathlib.Core.List.{List, []}
use lib.Dec.{ltb}
use lib.ListN.{length, take}
use lib.Seq.{length-take-le, length-sets}
use borrow.Author.Tests.{ltb-true}
use Rattle.lines.proofs.Text.{puts-room}
use Rattle.places.specs.Shelf.{Good}
use Rattle.replies.specs.declared.calls.Answered.{Answered}
use Rattle.replies.specs.Replies.{Replied, reply_to_line, longest_answer}
use Rattle.replies.proofs.Short.{answer-short}
use Rattle.tnb_console.specs.declared.State.{State}
use Rattle.tnb_console.specs.Session.{enough, still_waiting, after_line}
use Rattle.tnb_console.specs.Kept.{session_of, place_of, Orderly}

-- what waits is kept behind its index, and there is room for the longest answer
module _ {was : State} {out : List ℕ} (ready : Orderly was out) where
  placed : (t : Bool) → take (cond t was.waiting 0) out ≡ cond t (take was.waiting out) []
  placed true = refl
  placed false = refl

  kept-placed : take (place_of was.waiting) out ≡ still_waiting (take was.waiting out)
  kept-placed = rw (length-take-le was.waiting out ready.within) (placed (ltb was.waiting enough))

  roomy : (t : Bool) → ltb was.waiting enough ≡ t → cond t was.waiting 0 + longest_answer ≤ length out
  roomy true e = omega (arith, ltb-true was.waiting enough e, ready.whole)
  roomy false e = omega (arith, ready.whole)

  module _ (line : List ℕ) where
    abbrev answer : List ℕ
    answer = (reply_to_line was.shelf was.long line).text

    whole : place_of was.waiting + length answer ≤ length out
    whole = omega (arith, roomy (ltb was.waiting enough) refl, answer-short was.shelf ready.good was.long line)

    module _ {after : List ℕ} {r : Answered} (replied : Replied (reply_to_line was.shelf was.long line) out (place_of was.waiting) after r)
        (now : State) where
      pub line-answered : now.shelf ≡ r.shelf → now.waiting ≡ r.at → now.long ≡ false → session_of now after ≡ after_line (session_of was out) line
      unfolding after_line
      line-answered s w l =
          let put = puts-room replied.text whole in
          rw (s, w, l, replied.shelf, put.1, kept-placed)

      pub line-ready : Good now.shelf → now.waiting ≡ r.at → Orderly now after
      line-ready g w =
          let put = puts-room replied.text whole in
          let same : length after ≡ length out = ap length replied.text.bytes ∙ length-sets out (place_of was.waiting) answer in
          record { good = g; whole = same ∙ ready.whole; within = omega (arith, put.0, whole) }
