-- A STEP BY ITS NUMBER is the step that it was made from (`step-coded`), its place told by 8 where that is above 7 (`above-coded`): no step is taken for
-- another. What is left zero is a step of no place (`zero-coded`).
use Prim.Native.Nat.{ℕ, suc, ◌≤◌, ◌<◌, ◌+◌, ◌*◌, ◌/◌, ◌%◌}
use native.Mathlib.Omega.{arith}
use mathlib.Core.Path.{◌≡◌, refl, ap, ap₂, ◌∙◌}
use mathlib.Core.Bool.{Bool, cond}
use borrow.Author.Tests.{lt-ltb, le-ltb}
use Rattle.walk.specs.declared.Way.{Way}
use Rattle.walk.specs.declared.Way.TheVariants.{Plain, Inverted, Conversed, Transposed}
use Rattle.recipes.specs.Recipe.{taken}
use Rattle.recipes.specs.Codes.{way_code, way_by, up_to_eight, place_by, step_code, step_by}

way-coded : (w : Way) → way_by (way_code w) ≡ w
way-coded Plain = refl
way-coded Inverted = refl
way-coded Conversed = refl
way-coded Transposed = refl

pub way-few : (w : Way) → way_code w < 4
way-few Plain = omega arith
way-few Inverted = omega arith
way-few Conversed = omega arith
way-few Transposed = omega arith

by_number : (w : Way) (p : ℕ) → step_by (4 * (p + 1) + way_code w) ≡ taken w (up_to_eight p)
unfolding step_by
by_number w p =
    let h = way-few w in
    let d : (4 * (p + 1) + way_code w) / 4 ≡ suc p = omega arith in
    let m : (4 * (p + 1) + way_code w) % 4 ≡ way_code w = omega arith in
    ap₂ (λ (q : ℕ) (v : Way). taken v q) (ap place_by d) (ap way_by m ∙ way-coded w)

pub step-coded : (w : Way) (p : ℕ) → p < 8 → step_by (step_code w p) ≡ taken w p
unfolding step_code
step-coded w p h =
    let e : up_to_eight p ≡ p = ap (λ (b : Bool). cond b p 8) (lt-ltb p 8 h) in
    by_number w (up_to_eight p) ∙ ap (taken w) (ap up_to_eight e ∙ e)

pub above-coded : (w : Way) (p : ℕ) → 8 ≤ p → step_by (step_code w p) ≡ taken w 8
unfolding step_code
above-coded w p h =
    let e : up_to_eight p ≡ 8 = ap (λ (b : Bool). cond b p 8) (le-ltb p 8 h) in
    by_number w (up_to_eight p) ∙ ap (λ (q : ℕ). taken w (up_to_eight q)) e

-- zeros are no step that was made
pub zero-coded : step_by 0 ≡ taken Plain 8
unfolding step_by
zero-coded = refl
