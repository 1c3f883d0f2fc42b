-- Dropping a place: the shelf that it makes by what was found (`dropped-turned`, `dropped-done`), its result by that (`drop-answered`), and the shelf stays
-- good (`drop-good`).
use mathlib.Core.Path.{◌≡◌, sym, ap, subst, ◌∙◌}
use Prim.Native.Nat.{ℕ}
use Rattle.places.specs.declared.Shelf.{Shelf}
use Rattle.verdict.specs.declared.Refusal.{Refusal}
use Rattle.shelf.specs.declared.Changed.{Changed}
use Rattle.std.specs.Prelude.{Ok, Err}
use Rattle.places.specs.Shelf.{without, Good}
use Rattle.verdict.specs.Verdict.{Verdict, first_of}
use Rattle.places.specs.Outcome.{Outcome}
use Rattle.places.specs.Tests.{source_tests}
use Rattle.shelf.specs.Reports.{changed_outcome}
use Rattle.shelf.specs.Calls.{drop_call}
use Rattle.shelf.specs.Changed.{behind, dropped, changed_by}
use Rattle.shelf.proofs.Loading.{changed-behind}
use Rattle.places.proofs.Holding.{fits-none, good-put}
use Rattle.places.proofs.Verdicts.{source-accepted, after-good}

module _ (s : Shelf) (p : ℕ) where
  pub dropped-turned : (w : Refusal) → first_of (source_tests s p) ≡ Err w → Err w ≡ dropped s p
  dropped-turned w e = ap (λ (v : Verdict). behind v (without s p)) (sym e)

  pub dropped-done : first_of (source_tests s p) ≡ Ok tt → Ok (without s p) ≡ dropped s p
  dropped-done e = ap (λ (v : Verdict). behind v (without s p)) (sym e)

  module _ (good : Good s) where
    pub drop-good : Good (drop_call s p).shelf
    unfolding drop_call
    drop-good = after-good s (without s p) good (first_of (source_tests s p)) (λ e. good-put s good p 0 _ (source-accepted s p e).small (fits-none _))

    pub drop-answered : (x : Changed) → x ≡ changed_by s (dropped s p) → (changed_outcome x ≡ drop_call s p) × Good x.shelf
    unfolding drop_call
    drop-answered x e =
        let f : changed_outcome x ≡ drop_call s p = ap changed_outcome e ∙ changed-behind s (without s p) (first_of (source_tests s p)) in
        (f, subst Good (sym (ap (λ (o : Outcome). o.shelf) f)) drop-good)
