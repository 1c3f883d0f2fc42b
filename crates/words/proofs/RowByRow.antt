-- The factors of k rows, one behind the other, row by row: k * k of them (row_by_row-length).
use mathlib.Core.Path.{◌≡◌, refl, ap, ◌∙◌}
use mathlib.Core.List.{List, [], ◌∷◌}
use Prim.Native.Nat.{ℕ, zero, suc, ◌-◌, ◌*◌}
use native.Mathlib.Omega.{arith}
use lib.ListN.{length, length-append}
use Rattle.words.specs.Word.{Factors, ascending}
use Rattle.words.specs.Operation.{row_by_row}

length-ascending : {A : Type 0} (a c m : ℕ) (f : ℕ → List A) → ((i : ℕ) → length (f i) ≡ m) → length (ascending a c f) ≡ c * m
unfolding ascending
length-ascending a zero m f h = omega arith
length-ascending a (suc c) m f h = length-append (f a) (ascending (suc a) c f) ∙ omega (arith, h a, length-ascending (suc a) c m f h)

pub row_by_row-length : {A : Type 0} (k : ℕ) (b : Factors A) → length (row_by_row k b) ≡ k * k
unfolding row_by_row
row_by_row-length k b =
    let z : suc k - 1 ≡ k = omega arith in
    length-ascending 1 (suc k - 1) ((suc k - 1) * 1) _ (λ i. length-ascending 1 (suc k - 1) 1 (λ j. b i j ∷ []) (λ j. refl))
    ∙ ap (λ (m : ℕ). m * (m * 1)) z ∙ omega arith
