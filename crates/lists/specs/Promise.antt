-- THE PROMISE of a carry (document 02, request (b)), the variation diminishing property as rounded: a list carried through a place never has more reversals
-- than it had before. It is made in the words of the two calls: by what the count of reversals answers for the list that was lent and for the one written.
use Rattle.std.specs.Prelude.{ℕ, ◌≤◌, ◌≡◌, List, [], ◌∷◌, ℤ, pos, length, take, Ok, Err, ⊤}
use Rattle.verdict.specs.Verdict.{Verdict}
use Rattle.verdict.specs.Report.{accepted}
use Rattle.lists.specs.Lists.{reversals_call}

-- both lists are counted, and the second has no more reversals than the first
pub record NoMoreReversals (given carried : List ℤ) : Type 0 where
  pub before : ℕ
  pub after : ℕ
  pub counted-before : reversals_call given ≡ accepted (pos before ∷ [])
  pub counted-after : reversals_call carried ≡ accepted (pos after ∷ [])
  pub no_more : after ≤ before

-- of the lent output as many numbers were written as the list has; a refused carry wrote nothing, and nothing is claimed of it
abbrev pub Steady : Verdict → (given out : List ℤ) → Type 0
Steady (Ok u) given out = NoMoreReversals given (take (length given) out)
Steady (Err w) given out = ⊤
