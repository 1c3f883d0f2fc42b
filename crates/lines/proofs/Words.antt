-- The end of a word by the index of its stop (`before-first`). Sameness of words as equality (`same-is`).
use Prim.Native.Nat.{ℕ, ◌≤◌, ◌<◌}
use native.Mathlib.Omega.{arith}
use mathlib.Core.Path.{◌≡◌, refl, sym, ap}
use mathlib.Core.Bool.{Bool, true, false, cond, and-eq-true_iff}
use mathlib.Core.List.{List, [], ◌∷◌}
use lib.Dec.{eqb}
use lib.ListN.{length, take, drop_of_length-le}
use Rattle.std.specs.Prelude.{Option, MatchOption, unwrap_or, HoldsAt}
use Rattle.std.specs.List.{AllWithin}
use Rattle.std.proofs.lemmas.Iterator.{index_from_first}
use borrow.Author.Tests.{eq-eqb, ne_eqb, eqb-true}
use Rattle.lines.specs.Words.{before, word_at, same}

before-none : (stop : ℕ) → before stop [] ≡ []
unfolding before
before-none stop = refl

pub word-past : (s : List ℕ) (at : ℕ) → length s < at → word_at s at ≡ []
word-past s at h =
    let l : length s ≤ at = omega arith in
    rw (drop_of_length-le s l, before-none)

take_step : (b : ℕ) (w s : List ℕ) (t : Bool) → take (length w) s ≡ w → take (length (cond t [] (b ∷ w))) (b ∷ s) ≡ cond t [] (b ∷ w)
take_step b w s true e = refl
take_step b w s false e = ap (λ (l : List ℕ). b ∷ l) e

pub take-before : (stop : ℕ) (s : List ℕ) → take (length (before stop s)) s ≡ before stop s
unfolding before
take-before stop [] = refl
take-before stop (b ∷ s) = take_step b (before stop s) s (eqb b stop) (take-before stop s)

-- the bytes before the first stop are as many as stand before its index, all where there is none
pub before-first : (stop : ℕ) (s : List ℕ) (r : Option ℕ) → MatchOption r (AllWithin (λ b. b ≡ stop → ⊥) s 0 (length s))
    (λ i. (i < length s) × HoldsAt (λ b. b ≡ stop) s i × AllWithin (λ b. b ≡ stop → ⊥) s 0 i) → length (before stop s) ≡ unwrap_or r (length s)
unfolding before
before-first stop = index_from_first (λ s. length (before stop s)) (λ b. b ≡ stop) (λ b. b ≡ stop → ⊥) refl
    (λ b s e. rw (eq-eqb b stop e)) (λ b s n. rw (ne_eqb b stop n) (omega arith))

-- ---- whether two words are the same
pub same_refl : (s : List ℕ) → same s s ≡ true
unfolding same
same_refl [] = refl
same_refl (a ∷ s) = rw (eq-eqb a a refl) (same_refl s)

pub same-eq : (s t : List ℕ) → same s t ≡ true → s ≡ t
unfolding same
same-eq [] [] h = refl
same-eq [] (b ∷ t) h = ap (λ x. cond x (b ∷ t) []) h
same-eq (a ∷ s) [] h = ap (λ x. cond x [] (a ∷ s)) h
same-eq (a ∷ s) (b ∷ t) h = let e = (and-eq-true_iff (eqb a b) (same s t)).0 h in rw (eqb-true a b e.0, same-eq s t e.1)

true-together : (r t : Bool) → (r ≡ true → t ≡ true) → (t ≡ true → r ≡ true) → r ≡ t
true-together true true f g = refl
true-together true false f g = sym (f refl)
true-together false true f g = g refl
true-together false false f g = refl

pub same-is : (s t : List ℕ) (r : Bool) → (r ≡ true → s ≡ t) × (s ≡ t → r ≡ true) → r ≡ same s t
same-is s t r h = true-together r (same s t) (λ e. rw (h.0 e) (same_refl t)) (λ e. h.1 (same-eq s t e))
