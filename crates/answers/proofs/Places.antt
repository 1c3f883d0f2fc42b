-- The text of a place, by its number of rows.
use Prim.Native.Nat.{ℕ}
use borrow.Author.Tests.{eq-eqb, ne_eqb}
use mathlib.Core.Path.{◌≡◌, sym, ◌∙◌}
use mathlib.Core.List.{[], ◌∷◌, ◌++◌}
use Rattle.lines.specs.Ascii.{ascii}
use lib.IntN.{pos}
use Rattle.verdict.specs.Report.{accepted}
use Rattle.places.specs.declared.Shelf.{Shelf}
use Rattle.places.specs.Shelf.{rows_at}
use Rattle.answers.specs.Answers.{report_text}
use Rattle.answers.specs.Matrix.{factors_text, place_text}

module _ (s : Shelf) (p : ℕ) {n : ℕ} (e : n ≡ rows_at s p) where
  pub place-empty : n ≡ 0 → place_text s p ≡ ascii "empty"
  unfolding place_text
  place-empty h = rw (eq-eqb (rows_at s p) 0 (sym e ∙ h))

  pub place-held : (n ≡ 0 → ⊥) → place_text s p ≡ report_text (ascii "matrix") (accepted (pos n ∷ [])) ++ factors_text s p n
  unfolding place_text
  place-held h = rw (ne_eqb (rows_at s p) 0 (λ z. h (e ∙ z)), e)
