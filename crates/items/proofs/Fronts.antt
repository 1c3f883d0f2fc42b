-- What loops over the first n of eight items come to: what is read past the end (`unset`), ranges widened (`items-ranged-more`), an item read
-- (`ranged-front`), and items written one after the other (`write-next`).
use mathlib.Core.Path.{◌≡◌, sym, ap, ap₂, ◌∙◌, subst}
use mathlib.Core.Bool.{false}
use mathlib.Core.List.{List, ◌∷◌}
use Prim.Native.Nat.{ℕ, suc, ◌+◌, ◌-◌, ◌*◌, ◌≤◌, ◌<◌}
use native.Mathlib.Omega.{arith}
use lib.IntN.{ℤ}
use lib.ListN.{length, get_or, take, drop}
use lib.Seq.{sets, drop-cons, get_or-take}
use Rattle.arrays.proofs.Filled.{read-any}
use Rattle.number.specs.Signed.{zero_signed, SignedRanged}
use Rattle.number.specs.declared.signed.Signed.{Signed}
use Rattle.number.proofs.SignedReach.{signed-ranged-more}
use Rattle.items.specs.Items.{item_numbers, list_numbers, ItemsRanged}

-- what the code would read past the end
abbrev pub unset : Signed
unset = record { negative = false; size = record { m = 0; x = 0 } }

-- ---- ranges
pub items-ranged-more : {r s n : ℕ} {v : List Signed} → r ≤ s → ItemsRanged r n v → ItemsRanged s n v
items-ranged-more h w = record { eight = w.eight; ranged = λ i p. signed-ranged-more h (w.ranged i p) }

pub ranged-front : {r : ℕ} (v : List Signed) (n k : ℕ) (d : Signed) → k < n → n ≤ 8 → ItemsRanged r n v → SignedRanged r (get_or (take n v) k d)
ranged-front {r} v n k d h g w =
    let e : k + 1 - 1 ≡ k = omega arith in
    subst (SignedRanged r)
    (ap (λ (i : ℕ). get_or v i zero_signed) e ∙ read-any v k zero_signed d (omega (arith, w.eight)) ∙ sym (get_or-take n v k d h))
    (w.ranged (k + 1) (omega arith, omega arith))

-- ---- items written
pub write-next : (L : List Signed) (k : ℕ) (d : Signed) → k < length L → (out out' : List ℤ) → out' ≡ sets out (3 * k) (item_numbers (get_or L k d))
    → sets out (3 * k) (list_numbers (drop k L)) ≡ sets out' (3 * (k + 1)) (list_numbers (drop (k + 1) L))
unfolding list_numbers
write-next L k d h out out' e =
    let f : suc (suc (suc (3 * k))) ≡ 3 * (k + 1) = omega arith in
    let g : suc k ≡ k + 1 = omega arith in
    ap (λ (M : List Signed). sets out (3 * k) (list_numbers M)) (drop-cons L k d h ∙ ap (λ (i : ℕ). get_or L k d ∷ drop i L) g)
    ∙ ap₂ (λ (z : List ℤ) (i : ℕ). sets z i (list_numbers (drop (k + 1) L))) (sym e) f
