-- WHAT THE TESTS OF ACCEPTED CALLS HAVE SHOWN: every source is a place that holds a matrix of as many rows as the first (`alone-accepted`), and the target is a
-- place that is empty (`to-accepted`). Where that is so, they pass (`held-passes`): nothing else is asked. A target that is there and empty turns nothing down
-- (`apart`). Of clamped rows there is one or more, and one or more is left (`clamped`); behind the places, a choice is tested (`choice-verdict`,
-- `choice-passed`, `choice-apart`).
use Prim.Native.Nat.{ℕ, ◌≤◌, ◌<◌}
use native.Mathlib.Nat.{not-suc-le-zero}
use native.Mathlib.Omega.{arith}
use mathlib.Core.Path.{◌≡◌, refl, sym, ap, ap₂, ◌∙◌}
use mathlib.Core.Bool.{Bool, true, false, not, ◌||◌, false≢true}
use mathlib.Core.List.{List, [], ◌∷◌, ◌++◌}
use lib.Dec.{ltb, leb, eqb}
use lib.ListN.{length, get_or}
use borrow.Author.Tests.{le-ltb, ltb-false, leb-false, eq-eqb, ne_eqb, eqb-true, eqb-false, not-false}
use Rattle.std.specs.Prelude.{Ok}
use Rattle.verdict.specs.declared.Reason.{Reason}
use Rattle.verdict.specs.declared.Reason.TheVariants.{NoSuchPlace, WrongChoice, SourceEmpty, TargetFull, SizesDiffer}
use Rattle.verdict.specs.Verdict.{Verdict, first_behind, first_of, or_else, when}
use Rattle.verdict.proofs.Verdicts.{first-append, first-last, append-passed, first-passed, when-accepted, when-passed}
use Rattle.conditions.specs.Conditions.{miscounted, misclamped, above, each_tested, empty, full, differ, alike_tests}
use Rattle.conditions.specs.Conditions.{target_alone, sources_alone, sources_to, choice_to, choice_alone}

-- none of some places has a condition
module _ (f : ℕ → Bool) where
  abbrev NoneOf : List ℕ → Type 0
  NoneOf [] = Unit {0}
  NoneOf (p ∷ L) = (f p ≡ false) × NoneOf L

  each-passed : (k : Reason) (L : List ℕ) → first_of (each_tested f k L) ≡ Ok tt → NoneOf L
  each-passed k [] e = tt
  each-passed k (p ∷ L) e = let h = when-accepted (f p) k (each_tested f k L) e in (h.0, each-passed k L h.1)

  each-passes : (k : Reason) (L : List ℕ) → NoneOf L → first_of (each_tested f k L) ≡ Ok tt
  unfolding first_behind
  each-passes k [] h = refl
  each-passes k (p ∷ L) h = ap (λ (b : Bool). first_of (when b k ∷ each_tested f k L)) h.0 ∙ each-passes k L h.1

neither : (a b : Bool) → a || b ≡ false → (a ≡ false) × (b ≡ false)
neither false b e = (refl, e)
neither true b e = absurd (false≢true (sym e))

pub counted : (m : ℕ) → miscounted m ≡ false → (2 ≤ m) × (m ≤ 6)
counted m e = let c = neither (ltb m 2) (ltb 6 m) e in (ltb-false m 2 c.0, ltb-false 6 m c.1)

pub clamped : (n k : ℕ) → misclamped n k ≡ false → (1 ≤ k) × (k < n)
clamped n k e =
    let c = neither (eqb k 0) (leb n k) e in
    let z : k ≡ 0 → ⊥ = eqb-false k 0 c.0 in
    (omega arith, leb-false n k c.1)

-- behind the tests L of places
pub choice-verdict : (L : List Verdict) {wrong found : Bool} {u v : Verdict} → u ≡ first_of L → found ≡ wrong → v ≡ or_else u (when found WrongChoice)
    → v ≡ first_of (L ++ (when wrong WrongChoice ∷ []))
choice-verdict L {wrong} e f g = g ∙ ap₂ (λ (w : Verdict) (b : Bool). or_else w (when b WrongChoice)) e f ∙ sym (first-last L (when wrong WrongChoice))

pub choice-passed : (L : List Verdict) (wrong : Bool) → first_of (L ++ (when wrong WrongChoice ∷ [])) ≡ Ok tt → (first_of L ≡ Ok tt) × (wrong ≡ false)
choice-passed L wrong e = let a = first-passed L (when wrong WrongChoice) e in (a.0, when-passed wrong WrongChoice a.1)

module _ (rows : ℕ → ℕ) where
  -- a source that was accepted holds a matrix
  pub record Source (p : ℕ) : Type 0 where
    pub small : p < 8
    pub some : 0 < rows p

  pub record Target (p : ℕ) : Type 0 where
    pub small : p < 8
    pub none : rows p ≡ 0

  -- places that hold matrices of n rows
  abbrev pub Held : ℕ → List ℕ → Type 0
  Held n [] = Unit {0}
  Held n (p ∷ L) = (p < 8) × (rows p ≡ n) × Held n L

  there : (p : ℕ) → p < 8 → above p ≡ false
  there p h = le-ltb 7 p (omega arith)

  small : (p : ℕ) → above p ≡ false → p < 8
  small p e = let l : p ≤ 7 = ltb-false 7 p e in omega arith

  free : (p : ℕ) → rows p ≡ 0 → full rows p ≡ false
  free p e = ap not (eq-eqb (rows p) 0 e)

  -- A TARGET THAT IS THERE AND EMPTY turns nothing down
  without : (A B C : List Verdict) → first_of (A ++ ((Ok tt) ∷ (B ++ ((Ok tt) ∷ C)))) ≡ first_of (A ++ (B ++ C))
  unfolding first_behind
  without A B C =
      first-append A _ ∙ ap (or_else (first_of A)) (first-append B _ ∙ sym (first-append B C)) ∙ sym (first-append A (B ++ C))

  pub apart : (L : List ℕ) (t : ℕ) → t < 8 → rows t ≡ 0 → first_of (sources_to rows L t) ≡ first_of (sources_alone rows L)
  apart L t h e =
      ap₂ (λ (a b : Bool). first_of (each_tested above NoSuchPlace L ++ (when a NoSuchPlace ∷ (each_tested (empty rows) SourceEmpty L ++ (when b TargetFull ∷ alike_tests rows L)))))
      (there t h) (free t e)
      ∙ without (each_tested above NoSuchPlace L) (each_tested (empty rows) SourceEmpty L) (alike_tests rows L)

  -- A CHOICE, behind the places
  pub choice-apart : (p : ℕ) (wrong : Bool) (t : ℕ) → t < 8 → rows t ≡ 0 → first_of (choice_to rows p wrong t) ≡ first_of (choice_alone rows p wrong)
  choice-apart p wrong t h e =
      let w = when wrong WrongChoice in
      first-last (sources_to rows (p ∷ []) t) w ∙ ap (λ (v : Verdict). or_else v w) (apart (p ∷ []) t h e) ∙ sym (first-last (sources_alone rows (p ∷ [])) w)

  -- what passed shows of the target
  pub target-accepted : (t : ℕ) → first_of (target_alone rows t) ≡ Ok tt → Target t
  target-accepted t e =
      let a = when-accepted (above t) NoSuchPlace _ e in
      let b = when-accepted (full rows t) TargetFull _ a.1 in
      record { small = small t a.0; none = eqb-true (rows t) 0 (not-false (empty rows t) b.0) }

  pub to-target : (L : List ℕ) (t : ℕ) → first_of (sources_to rows L t) ≡ Ok tt → Target t
  to-target L t e =
      let a = append-passed (each_tested above NoSuchPlace L) _ e in
      let b = when-accepted (above t) NoSuchPlace _ a.1 in
      let c = append-passed (each_tested (empty rows) SourceEmpty L) _ b.1 in
      let d = when-accepted (full rows t) TargetFull _ c.1 in
      record { small = small t b.0; none = eqb-true (rows t) 0 (not-false (empty rows t) d.0) }

  -- WHAT PASSED
  held_by_lem : (n p : ℕ) → rows p ≡ n → (L : List ℕ) → NoneOf above L → NoneOf (differ rows p) L → Held n L
  held_by_lem n p e [] a d = tt
  held_by_lem n p e (q ∷ L) a d =
      (small q a.0, sym (eqb-true (rows p) (rows q) (not-false _ d.0)) ∙ e, held_by_lem n p e L a.1 d.1)

  pub alone-accepted : (L : List ℕ) → 1 ≤ length L → first_of (sources_alone rows L) ≡ Ok tt → (0 < rows (get_or L 0 0)) × Held (rows (get_or L 0 0)) L
  alone-accepted [] h e = absurd (not-suc-le-zero h)
  alone-accepted (p ∷ L) h e =
      let a = append-passed (each_tested above NoSuchPlace (p ∷ L)) _ e in
      let b = append-passed (each_tested (empty rows) SourceEmpty (p ∷ L)) _ a.1 in
      let u = each-passed above NoSuchPlace (p ∷ L) a.0 in
      let z : rows p ≡ 0 → ⊥ = eqb-false (rows p) 0 (each-passed (empty rows) SourceEmpty (p ∷ L) b.0).0 in
      (omega arith, (small p u.0, refl, held_by_lem (rows p) p refl L u.1 (each-passed (differ rows p) SizesDiffer L b.1)))

  pub to-accepted : (L : List ℕ) (t : ℕ) → 1 ≤ length L → first_of (sources_to rows L t) ≡ Ok tt
      → ((0 < rows (get_or L 0 0)) × Held (rows (get_or L 0 0)) L) × Target t
  to-accepted L t h e = let a = to-target L t e in (alone-accepted L h (sym (apart L t a.small a.none) ∙ e), a)

  -- WHAT PASSES
  module _ (n : ℕ) (some : 0 < n) where
    none_above : (L : List ℕ) → Held n L → NoneOf above L
    none_above [] h = tt
    none_above (p ∷ L) h = (there p h.0, none_above L h.2)

    none-empty : (L : List ℕ) → Held n L → NoneOf (empty rows) L
    none-empty [] h = tt
    none-empty (p ∷ L) h = (ne_eqb (rows p) 0 (λ e. omega (arith, h.1)), none-empty L h.2)

    none_differ : (p : ℕ) → rows p ≡ n → (L : List ℕ) → Held n L → NoneOf (differ rows p) L
    none_differ p e [] h = tt
    none_differ p e (q ∷ L) h = (ap not (eq-eqb (rows p) (rows q) (e ∙ sym h.1)), none_differ p e L h.2)

    pub held-passes : (L : List ℕ) → Held n L → first_of (sources_alone rows L) ≡ Ok tt
    unfolding first_behind
    held-passes [] h = refl
    held-passes (p ∷ L) h =
        first-append (each_tested above NoSuchPlace (p ∷ L)) _
        ∙ ap₂ or_else (each-passes above NoSuchPlace (p ∷ L) (none_above (p ∷ L) h))
        (first-append (each_tested (empty rows) SourceEmpty (p ∷ L)) _
        ∙ ap₂ or_else (each-passes (empty rows) SourceEmpty (p ∷ L) (none-empty (p ∷ L) h)) (each-passes (differ rows p) SizesDiffer L (none_differ p h.1 L h.2)))
