-- Laws of verdicts: one list of tests behind another (`first-append`, `first-last`), and what a passed test has shown (`or-else-both`, `append-passed`,
-- `when-passed`, `first-passed`, `when-accepted`, `report-accepted`); the first test of a list, by its condition (`when-refused`, `when-left`).
-- All by cases on a verdict: behind a refusal nothing changes.
use Prim.Native.Nat.{ℕ}
use native.Mathlib.Omega.{arith}
use mathlib.Core.Path.{◌≡◌, refl, sym, ap, ◌∙◌}
use mathlib.Core.Bool.{Bool, true, false}
use mathlib.Core.List.{List, [], ◌∷◌, ◌++◌}
use lib.IntN.{ℤ}
use Rattle.std.specs.Prelude.{Ok, Err}
use Rattle.verdict.specs.declared.Reason.{Reason}
use Rattle.verdict.specs.Report.{accepted, report_of}
use Rattle.verdict.specs.Verdict.{Verdict, refused_at, first_behind, first_of, or_else, when}

pub or-else-assoc : (u v w : Verdict) → or_else u (or_else v w) ≡ or_else (or_else u v) w
or-else-assoc (Ok tt) v w = refl
or-else-assoc (Err r) v w = refl

pub or-else-accepted : (v : Verdict) → or_else v (Ok tt) ≡ v
or-else-accepted (Ok tt) = refl
or-else-accepted (Err r) = refl

-- a verdict before the tests of a list
pub first-behind : (v : Verdict) (L : List Verdict) → first_behind v L ≡ or_else v (first_of L)
unfolding first_behind
first-behind v [] = sym (or-else-accepted v)
first-behind v (w ∷ L) = first-behind (or_else v w) L ∙ sym (or-else-assoc v w (first_of L)) ∙ ap (or_else v) (sym (first-behind w L))

first-append-behind : (v : Verdict) (L M : List Verdict) → first_behind v (L ++ M) ≡ first_behind (first_behind v L) M
unfolding first_behind
first-append-behind v [] M = refl
first-append-behind v (w ∷ L) M = first-append-behind (or_else v w) L M

pub first-append : (L M : List Verdict) → first_of (L ++ M) ≡ or_else (first_of L) (first_of M)
first-append L M = first-append-behind (Ok tt) L M ∙ first-behind (first_of L) M

pub first-last : (L : List Verdict) (v : Verdict) → first_of (L ++ (v ∷ [])) ≡ or_else (first_of L) v
unfolding first_behind
first-last L v = first-append L (v ∷ [])

-- where nothing turned a call down, neither this nor that did
pub or-else-both : (u v : Verdict) → or_else u v ≡ (Ok tt) → (u ≡ (Ok tt)) × (v ≡ (Ok tt))
or-else-both (Ok tt) v e = (refl, e)
or-else-both (Err w) v e = absurd (let z : ◌≡◌ {A = ℕ} 0 1 = cc in omega arith)

pub append-passed : (L M : List Verdict) → first_of (L ++ M) ≡ (Ok tt) → (first_of L ≡ (Ok tt)) × (first_of M ≡ (Ok tt))
append-passed L M e = or-else-both (first_of L) (first_of M) (sym (first-append L M) ∙ e)

pub when-passed : (t : Bool) (k : Reason) → when t k ≡ (Ok tt) → t ≡ false
when-passed false k e = refl
when-passed true k e = absurd (let z : ◌≡◌ {A = ℕ} 0 1 = cc in omega arith)

pub first-passed : (L : List Verdict) (v : Verdict) → first_of (L ++ (v ∷ [])) ≡ (Ok tt) → (first_of L ≡ (Ok tt)) × (v ≡ (Ok tt))
first-passed L v e = or-else-both (first_of L) v (sym (first-last L v) ∙ e)

-- the first test passed, and the others
pub when-accepted : (c : Bool) (k : Reason) (L : List Verdict) → first_of (when c k ∷ L) ≡ (Ok tt) → (c ≡ false) × (first_of L ≡ (Ok tt))
unfolding first_behind
when-accepted true k L e =
    let h = or-else-both (when true k) (first_of L) (sym (first-behind (when true k) L) ∙ e) in
    absurd (let g : when true k ≡ (Ok tt) = h.0 in let z : ◌≡◌ {A = ℕ} 0 1 = cc in omega arith)
when-accepted false k L e = (refl, e)

-- where its condition holds, and where it does not
pub when-refused : {c : Bool} (k : Reason) (L : List Verdict) → c ≡ true → first_of (when c k ∷ L) ≡ refused_at k 0
unfolding first_behind
when-refused k L e = ap (λ (b : Bool). first_of (when b k ∷ L)) e ∙ first-behind (refused_at k 0) L

pub when-left : {c : Bool} (k : Reason) (L : List Verdict) → c ≡ false → first_of (when c k ∷ L) ≡ first_of L
unfolding first_behind
when-left k L e = ap (λ (b : Bool). first_of (when b k ∷ L)) e

-- a report says whether the call was accepted
pub report-accepted : (v : Verdict) (values : List ℤ) → report_of v values ≡ accepted values → v ≡ (Ok tt)
report-accepted (Ok tt) values e = refl
report-accepted (Err w) values e = absurd (let z : ◌≡◌ {A = ℕ} 0 1 = cc in omega arith)
