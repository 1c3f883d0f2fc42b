-- The text of a report that has no value, one, or two, the first of which may be a mantissa, and the same text for equal reports (`puts-report`).
use Prim.Native.Nat.{ℕ}
use mathlib.Core.Path.{◌≡◌, refl, ap, ◌∙◌}
use mathlib.Core.List.{List, [], ◌∷◌, ◌++◌, append-nil, flat_map}
use lib.IntN.{ℤ, pos}
use Rattle.lines.specs.Ascii.{ascii}
use Rattle.lines.specs.Text.{Puts, decimal}
use Rattle.verdict.specs.Report.{Report, accepted}
use Rattle.answers.specs.Answers.{integer_text, values_text, report_text}

whole-text : (n : ℕ) → integer_text (pos n) ≡ decimal n
unfolding integer_text
whole-text n = refl

pub word-text : (word : List ℕ) → report_text word (accepted []) ≡ word
unfolding flat_map
word-text word = append-nil word

pub count-text : (n : ℕ) → values_text (pos n ∷ []) ≡ ascii " " ++ decimal n
unfolding flat_map
count-text n = rw (whole-text n) (ap (λ t. ascii " " ++ t) (append-nil (decimal n)))

pub pair-text : (x y : ℤ) → values_text (x ∷ y ∷ []) ≡ (ascii " " ++ integer_text x) ++ (ascii " " ++ integer_text y)
unfolding flat_map
pair-text x y = rw append-nil

pub number-text : (m : ℕ) (e : ℤ) → values_text (pos m ∷ e ∷ []) ≡ (ascii " " ++ decimal m) ++ (ascii " " ++ integer_text e)
number-text m e = pair-text (pos m) e ∙ rw (whole-text m)

-- one text was put for both of two equal reports
module _ (word : List ℕ) {a b : Report} {out out' : List ℕ} {at to : ℕ} (e : a ≡ b) where
  pub puts-report : Puts out at (report_text word a) out' to → Puts out at (report_text word b) out' to
  puts-report p = rw e at p
