-- TESTS OF EACH OF SOME PLACES, as code works them: whether any holds (`each-any`); with one place more (`any_next`). So the tests of sources are three of them
-- all (`alone-any`), and with a target five (`to-any`).
use Prim.Native.Nat.{ℕ, ◌≤◌}
use native.Mathlib.Nat.{not-suc-le-zero}
use mathlib.Core.Path.{◌≡◌, refl, sym, ap, ap₂, ◌∙◌}
use mathlib.Core.Bool.{Bool, true, false, not, ◌||◌}
use mathlib.Core.List.{List, [], ◌∷◌, ◌++◌}
use lib.ListN.{length, get_or}
use borrow.Author.Tests.{eq-eqb}
use Rattle.std.specs.Prelude.{Ok}
use Rattle.verdict.specs.declared.Reason.{Reason}
use Rattle.verdict.specs.declared.Reason.TheVariants.{NoSuchPlace, SourceEmpty, TargetFull, SizesDiffer}
use Rattle.verdict.specs.Verdict.{Verdict, first_behind, first_of, or_else, when}
use Rattle.verdict.proofs.Verdicts.{or-else-accepted, or-else-assoc, first-behind, first-append}
use Rattle.conditions.specs.Conditions.{above, each_tested, any_of, empty, full, differ, alike_tests, sources_alone, sources_to}

module _ (f : ℕ → Bool) where
  pub any_next : (L : List ℕ) (p : ℕ) → any_of f (L ++ (p ∷ [])) ≡ any_of f L || f p
  any_next [] p = or-false (f p)
    where
      or-false : (b : Bool) → b || false ≡ b
      or-false true = refl
      or-false false = refl
  any_next (q ∷ L) p = ap (λ (b : Bool). f q || b) (any_next L p) ∙ assoc (f q)
    where
      assoc : (a : Bool) → a || (any_of f L || f p) ≡ (a || any_of f L) || f p
      assoc true = refl
      assoc false = refl

  each-any : (k : Reason) (v : Verdict) (L : List ℕ) → first_behind v (each_tested f k L) ≡ or_else v (when (any_of f L) k)
  unfolding first_behind
  each-any k v [] = sym (or-else-accepted v)
  each-any k v (p ∷ L) = each-any k (or_else v (when (f p) k)) L ∙ sym (or-else-assoc v _ _) ∙ ap (or_else v) (either (f p))
    where
      either : (a : Bool) → or_else (when a k) (when (any_of f L) k) ≡ when (a || any_of f L) k
      either true = refl
      either false = refl

-- THE TESTS OF SOURCES L, the first of which is p
module _ (rows : ℕ → ℕ) (p : ℕ) where
  abbrev seen : List ℕ → Verdict
  seen L = when (any_of above L) NoSuchPlace

  abbrev missed : List ℕ → Verdict
  missed L = when (any_of (empty rows) L) SourceEmpty

  abbrev unlike : List ℕ → Verdict
  unlike L = when (any_of (differ rows p) L) SizesDiffer

  -- the first has its own size
  alike-any : (L : List ℕ) → 1 ≤ length L → get_or L 0 0 ≡ p → first_of (alike_tests rows L) ≡ unlike L
  alike-any [] h e = absurd (not-suc-le-zero h)
  alike-any (q ∷ L) h e =
      ap (λ (x : ℕ). first_of (each_tested (differ rows x) SizesDiffer L)) e ∙ each-any (differ rows p) SizesDiffer (Ok tt) L
      ∙ ap (λ (b : Bool). when (b || any_of (differ rows p) L) SizesDiffer) (sym (ap not (eq-eqb (rows p) (rows q) (ap rows (sym e)))))

  pub alone-any : (L : List ℕ) → 1 ≤ length L → get_or L 0 0 ≡ p → or_else (or_else (seen L) (missed L)) (unlike L) ≡ first_of (sources_alone rows L)
  alone-any L h e =
      sym (or-else-assoc (seen L) (missed L) (unlike L))
      ∙ sym (first-append (each_tested above NoSuchPlace L) _
      ∙ ap₂ or_else (each-any above NoSuchPlace (Ok tt) L)
      (first-append (each_tested (empty rows) SourceEmpty L) _ ∙ ap₂ or_else (each-any (empty rows) SourceEmpty (Ok tt) L) (alike-any L h e)))

  pub to-any : (L : List ℕ) (t : ℕ) → 1 ≤ length L → get_or L 0 0 ≡ p
      → or_else (or_else (or_else (or_else (seen L) (when (above t) NoSuchPlace)) (missed L)) (when (full rows t) TargetFull)) (unlike L) ≡ first_of (sources_to rows L t)
  unfolding first_behind
  to-any L t h e =
      let a = seen L in
      let v = when (above t) NoSuchPlace in
      let b = missed L in
      let w = when (full rows t) TargetFull in
      let E = each_tested (empty rows) SourceEmpty L in
      sym (or-else-assoc (or_else (or_else a v) b) w (unlike L))
      ∙ sym (or-else-assoc (or_else a v) b (or_else w (unlike L)))
      ∙ sym (or-else-assoc a v (or_else b (or_else w (unlike L))))
      ∙ sym (first-append (each_tested above NoSuchPlace L) (v ∷ (E ++ (w ∷ alike_tests rows L)))
      ∙ ap₂ or_else (each-any above NoSuchPlace (Ok tt) L)
      (first-behind v (E ++ (w ∷ alike_tests rows L))
      ∙ ap (or_else v) (first-append E (w ∷ alike_tests rows L)
      ∙ ap₂ or_else (each-any (empty rows) SourceEmpty (Ok tt) L) (first-behind w (alike_tests rows L) ∙ ap (or_else w) (alike-any L h e)))))
