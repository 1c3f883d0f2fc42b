-- Items multiplied by the entries of D, one after the other: an entry (`entry-is`), none of them (`scaled-none`), and one more (`scaled-old`, `scaled-next`).
use mathlib.Core.Path.{◌≡◌, refl, sym, ap, ◌∙◌, subst}
use mathlib.Core.List.{List}
use Prim.Native.Nat.{ℕ, ◌+◌, ◌-◌, ◌*◌, ◌≤◌, ◌<◌}
use native.Mathlib.Decide.{ℕ_discrete}
use native.Mathlib.Omega.{arith}
use lib.ListN.{length, get_or, set, length-set}
use Rattle.number.specs.Signed.{plain, zero_signed, signed_product}
use Rattle.number.specs.declared.Number.{Number}
use Rattle.number.specs.declared.signed.Signed.{Signed}
use Rattle.words.specs.Word.{Factors}
use Rattle.arrays.proofs.Filled.{read-any}
use Rattle.table.specs.Table.{factors_of, absent}
use Rattle.table.proofs.Table.{factor-read}
use Rattle.items.specs.Items.{vector_of}
use Rattle.lists.specs.Carrying.{Scaled}
use Rattle.lists.proofs.Vectors.{vector-here, vector-other}

-- entry k + 1 of D, as the code reads it
pub entry-is : (b : List Number) (k : ℕ) → k < 8 → length b ≡ 64 → get_or b (k * 9) absent ≡ factors_of b (k + 1) (k + 1)
entry-is b k h e =
    let p : k * 9 ≡ k * 8 + k = omega arith in
    ap (λ i. get_or b i absent) p ∙ factor-read b e k k h h

module _ {b : Factors Number} {v : List Signed} where
  pub scaled-none : length v ≡ 8 → Scaled 0 b v v
  scaled-none e = record { eight = e; done = λ i p. absurd (omega (arith, p.0, p.1)); rest = λ i p. refl }

  module _ {k : ℕ} {u : List Signed} (s : Scaled k b v u) (h : k < 8) where
    -- the item that is read has not been changed yet
    pub scaled-old : (d : Signed) → get_or u k d ≡ vector_of v (k + 1)
    scaled-old d =
        let e : k ≡ k + 1 - 1 = omega arith in
        read-any u k d zero_signed (omega (arith, s.eight)) ∙ ap (λ (i : ℕ). get_or u i zero_signed) e ∙ s.rest (k + 1) (omega arith)

    pub scaled-next : (y : Signed) → y ≡ signed_product (vector_of v (k + 1)) (plain (b (k + 1) (k + 1))) → Scaled (k + 1) b v (set u k y)
    scaled-next y f =
        let e : k + 1 - 1 ≡ k = omega arith in
        subst (λ (i : ℕ). Scaled (k + 1) b v (set u i y)) e
        (record {
          eight = length-set u (k + 1 - 1) y ∙ s.eight;
          done = λ i p. elim (ℕ_discrete i (k + 1)) [
            | yes g ↦ ap (vector_of (set u (k + 1 - 1) y)) g ∙ here ∙ f ∙ ap (λ (j : ℕ). signed_product (vector_of v j) (plain (b j j))) (sym g)
            | no g ↦ other i p.0 g ∙ s.done i (p.0, omega (arith, p.1))
          ];
          rest = λ i p. other i (omega arith) (λ g. omega arith) ∙ s.rest i (omega arith);
        })
      where
        here : vector_of (set u (k + 1 - 1) y) (k + 1) ≡ y
        here = vector-here u s.eight (k + 1) (omega arith) (omega arith) y

        other : (i : ℕ) → 1 ≤ i → (i ≡ k + 1 → ⊥) → vector_of (set u (k + 1 - 1) y) i ≡ vector_of u i
        other i p g = vector-other u s.eight (k + 1) (omega arith) (omega arith) y i p g
