-- The first n items of a vector as a list (`first-length`, `first-at`), those of a list of n being that list (`first_back`); and so a row that is carried as a
-- vector is carried as a list (`carries-list`).
use mathlib.Core.Path.{◌≡◌, refl, sym, ap, ◌∙◌}
use mathlib.Core.List.{List, [], ◌∷◌}
use Prim.Native.Nat.{ℕ, zero, suc, ◌+◌, ◌-◌, ◌≤◌, ◌<◌}
use native.Mathlib.Omega.{arith}
use lib.ListN.{length, get_or, take, length-take}
use lib.Seq.{ext_get_or, get_or-take}
use Rattle.number.specs.Signed.{zero_signed}
use Rattle.number.specs.declared.Number.{Number}
use Rattle.number.specs.declared.signed.Signed.{Signed}
use Rattle.words.specs.Word.{Factors, ascending}
use Rattle.words.proofs.Walks.{All}
use Rattle.items.specs.Items.{vector_of}
use Rattle.lists.specs.Lists.{signed_word, first_items, carried_vector, carried_list}
use Rattle.lists.specs.Carrying.{Carries}
use Rattle.lists.proofs.LetterReach.{RangedLetter}
use Rattle.lists.proofs.Carried.{carry-agree}

module _ {A : Type 0} (f : ℕ → A) where
  ascending-length : (a c : ℕ) → length (ascending a c (λ i. f i ∷ [])) ≡ c
  unfolding ascending
  ascending-length a zero = refl
  ascending-length a (suc c) = ap suc (ascending-length (suc a) c)

  ascending-at : (a c k : ℕ) (d : A) → k < c → get_or (ascending a c (λ i. f i ∷ [])) k d ≡ f (a + k)
  unfolding ascending
  ascending-at a zero k d h = absurd (omega arith)
  ascending-at a (suc c) zero d h = ap f (omega arith)
  ascending-at a (suc c) (suc k) d h = ascending-at (suc a) c k d (omega arith) ∙ ap f (omega arith)

pub first-length : (n : ℕ) (v : ℕ → Signed) → length (first_items n v) ≡ n
first-length n v = ascending-length v 1 (suc n - 1) ∙ (omega arith)

pub first-at : (n : ℕ) (v : ℕ → Signed) (k : ℕ) → k < n → get_or (first_items n v) k zero_signed ≡ v (k + 1)
first-at n v k h = ascending-at v 1 (suc n - 1) k zero_signed (omega arith) ∙ ap v (omega arith)

pub first_back : (n : ℕ) (L : List Signed) → length L ≡ n → first_items n (vector_of L) ≡ L
first_back n L e =
    ext_get_or zero_signed (first_items n (vector_of L)) L (first-length n (vector_of L) ∙ sym e)
    (λ k h.
    let i : k + 1 - 1 ≡ k = omega arith in
    first-at n (vector_of L) k (omega (arith, first-length n (vector_of L))) ∙ ap (λ i. get_or L i zero_signed) i)

pub carries-list : {n : ℕ} (b : Factors Number) (v u : List Signed) → n ≤ 8 → All (RangedLetter n) (signed_word n b) → Carries n (signed_word n b) v u →
    take n u ≡ carried_list n b (take n v)
unfolding carried_vector
carries-list {n} b v u few s c =
    let L : List Signed = carried_list n b (take n v) in
    ext_get_or zero_signed (take n u) L (omega (arith, c.eight, length-take n u, first-length n (carried_vector n b (vector_of (take n v)))))
    (λ k h.
    let l : k < n = omega (arith, length-take n u) in
    let e : k ≡ k + 1 - 1 = omega arith in
    get_or-take n u k zero_signed l ∙ ap (λ i. get_or u i zero_signed) e ∙ c.agrees (k + 1) (omega arith, omega arith)
    ∙ carry-agree n (signed_word n b) s (vector_of v) (vector_of (take n v)) (λ i p. sym (get_or-take n v (i - 1) zero_signed (omega (arith, p.0, p.1))))
    (k + 1) (omega arith, omega arith)
    ∙ sym (first-at n (carried_vector n b (vector_of (take n v))) k l))
