-- REACHING HEIGHTS, letter by letter: a letter E or Et whose weight is not zero may raise or lower the number of rows above one row (Step), and a word goes
-- from heights to heights by the steps of its letters (Reach). THE LATTICE: reaching is closed under min, max, adding and taking away a number (reach-topical).
-- Between sets a step by one is a row replaced by its neighbour (lowered-set, raised-set).
use mathlib.Core.Path.{◌≡◌, refl, sym, ap, ap₂, ◌∙◌}
use mathlib.Core.Bool.{Bool, true, false, cond}
use mathlib.Core.List.{[], ◌∷◌}
use Prim.Native.Nat.{ℕ, suc, ◌+◌, ◌-◌, ◌≤◌, min, max}
use native.Mathlib.Decide.{ℕ_discrete}
use native.Mathlib.Omega.{arith}
use lib.ListN.{length}
use Rattle.words.specs.RowSet.{RowSet, has, replaced}
use Rattle.words.specs.Word.{Letter, E, Et, D, Dinv, Word}
use Rattle.words.proofs.RowSets.{length-replaced}
use Rattle.bands.proofs.Heights.{stands, above, above-inj, one, has_above, above-replaced, Heights}

-- how far a letter may raise, and lower, the number of rows above row x; its weight says whether it is not zero
abbrev pub rise : Letter Bool → ℕ → ℕ
rise (E j w) x = cond w (stands j x - stands (j - 1) x) 0
rise (Et j w) x = 0
rise (D e) x = 0
rise (Dinv e) x = 0

abbrev pub fall : Letter Bool → ℕ → ℕ
fall (E j w) x = 0
fall (Et j w) x = cond w (stands j x - stands (j - 1) x) 0
fall (D e) x = 0
fall (Dinv e) x = 0

abbrev pub Step : Letter Bool → (f g : ℕ → ℕ) → Type 0
Step l f g = (x : ℕ) → (g x ≤ f x + rise l x) × (f x ≤ g x + fall l x)

-- from the heights f to the heights g, the letters from right to left
abbrev pub Reach : ℕ → Word Bool → (f g : ℕ → ℕ) → Type 0
Reach n [] f g = (x : ℕ) → f x ≡ g x
Reach n (l ∷ W) f g = (e : ℕ → ℕ) × Heights n e × Reach n W f e × Step l e g

-- monotone, and growing no faster than its arguments
abbrev pub Topical : (ℕ → ℕ → ℕ) → Type 0
Topical φ = (a a' b b' s : ℕ) → a ≤ a' + s → b ≤ b' + s → φ a b ≤ φ a' b' + s

pub topical-min : Topical min
topical-min a a' b b' s h g = omega arith

pub topical-max : Topical max
topical-max a a' b b' s h g = omega arith

pub topical-add : (c : ℕ) → Topical (λ a b. a + c)
topical-add c a a' b b' s h g = omega arith

pub topical-sub : (c : ℕ) → Topical (λ a b. a - c)
topical-sub c a a' b b' s h g = omega arith

module _ (φ : ℕ → ℕ → ℕ) (t : Topical φ) where
  pub heights-topical : (n : ℕ) (f g : ℕ → ℕ) → Heights n f → Heights n g → Heights n (λ x. φ (f x) (g x))
  heights-topical n f g h k = (
    λ x.
        let e : φ (f (suc x)) (g (suc x)) ≤ φ (f x) (g x) + 0 = t _ _ _ _ 0 (omega (arith, h.0 x)) (omega (arith, k.0 x)) in
        (omega arith, t _ _ _ _ 1 (h.0 x).1 (k.0 x).1),
    λ x l. ap₂ φ (h.1 x l) (k.1 x l),
  )

  -- THE LATTICE
  pub reach-topical : (n : ℕ) (W : Word Bool) (f g f' g' : ℕ → ℕ) → Reach n W f g → Reach n W f' g' → Reach n W (λ x. φ (f x) (f' x)) (λ x. φ (g x) (g' x))
  reach-topical n [] f g f' g' h k = λ x. ap₂ φ (h x) (k x)
  reach-topical n (l ∷ W) f g f' g' h k = (
    λ x. φ (h.0 x) (k.0 x),
    heights-topical n h.0 k.0 h.1 k.1,
    reach-topical n W f h.0 f' k.0 h.2 k.2,
    λ x. (t _ _ _ _ _ (h.3 x).0 (k.3 x).0, t _ _ _ _ _ (h.3 x).1 (k.3 x).1),
  )

-- all heights are reached from themselves
pub reach-stays : (n : ℕ) (W : Word Bool) (f : ℕ → ℕ) → Heights n f → Reach n W f f
reach-stays n [] f h = λ x. refl
reach-stays n (l ∷ W) f h = (f, h, reach-stays n W f h, λ x. (omega arith, omega arith))

-- A STEP BY ONE between two sets: their heights differ at row m alone, where U has one more row above it
pub differ-at : (m x : ℕ) → (x ≡ m → ⊥) → stands (suc m) x - stands m x ≡ 0
differ-at m x h = elim (ℕ_discrete x m) [ yes e ↦ absurd (h e) | no e ↦ off ]
  where
    off : stands (suc m) x - stands m x ≡ 0
    off = omega arith

pub differ-here : (m x : ℕ) → stands (suc m) x - stands m x ≤ 1
differ-here m x = omega arith

stands-next : (m x : ℕ) → stands m x ≤ stands (suc m) x
stands-next m x = omega arith

module _ (S U : RowSet) (m : ℕ) (same : length S ≡ length U) (low : 1 ≤ m) (high : suc m ≤ length U)
    (here : above U m ≡ suc (above S m)) (there : (x : ℕ) → (x ≡ m → ⊥) → above U x ≡ above S x) where
  pub upper-row : (has (suc m) U ≡ true) × (has (suc m) S ≡ false)
  upper-row = by (has (suc m) U) (has (suc m) S) (has_above U (suc m) (omega arith, high)) (has_above S (suc m) (omega arith, omega (arith, same)))
    where
      e : suc m - 1 ≡ m
      e = omega arith

      by : (u s : Bool) → above U (suc m - 1) ≡ above U (suc m) + one u → above S (suc m - 1) ≡ above S (suc m) + one s → (u ≡ true) × (s ≡ false)
      by true false f g = (refl, refl)
      by true true f g = absurd (omega (arith, there (suc m) (λ z. omega arith), ap (above U) e, ap (above S) e))
      by false true f g = absurd (omega (arith, there (suc m) (λ z. omega arith), ap (above U) e, ap (above S) e))
      by false false f g = absurd (omega (arith, there (suc m) (λ z. omega arith), ap (above U) e, ap (above S) e))

  pub lower-row : (has m U ≡ false) × (has m S ≡ true)
  lower-row = by (has m U) (has m S) (has_above U m (low, omega arith)) (has_above S m (low, omega (arith, same)))
    where
      by : (u s : Bool) → above U (m - 1) ≡ above U m + one u → above S (m - 1) ≡ above S m + one s → (u ≡ false) × (s ≡ true)
      by false true f g = (refl, refl)
      by true true f g = absurd (omega (arith, there (m - 1) (λ z. omega arith)))
      by true false f g = absurd (omega (arith, there (m - 1) (λ z. omega arith)))
      by false false f g = absurd (omega (arith, there (m - 1) (λ z. omega arith)))

  pub lowered-set : S ≡ replaced (suc m) m U
  lowered-set = above-inj S (replaced (suc m) m U) (same ∙ sym (length-replaced (suc m) m U)) (λ x. at x (ℕ_discrete x m))
    where
      r : (x : ℕ) → above (replaced (suc m) m U) x + stands (suc m) x ≡ above U x + stands m x
      r x = above-replaced U (suc m) m x (λ z. omega arith) (omega arith, high) (low, omega arith) upper-row.0 lower-row.0

      at : (x : ℕ) → Dec (x ≡ m) → above S x ≡ above (replaced (suc m) m U) x
      at x (yes e) = ap (above S) e ∙ (let z = r m in omega arith) ∙ ap (above (replaced (suc m) m U)) (sym e)
      at x (no e) = omega (arith, r x, there x e, differ-at m x e, differ-here m x, stands-next m x)

  pub raised-set : U ≡ replaced m (suc m) S
  raised-set = above-inj U (replaced m (suc m) S) (sym same ∙ sym (length-replaced m (suc m) S)) (λ x. at x (ℕ_discrete x m))
    where
      r : (x : ℕ) → above (replaced m (suc m) S) x + stands m x ≡ above S x + stands (suc m) x
      r x = above-replaced S m (suc m) x (λ z. omega arith) (low, omega (arith, same)) (omega arith, omega (arith, same)) lower-row.1 upper-row.1

      at : (x : ℕ) → Dec (x ≡ m) → above U x ≡ above (replaced m (suc m) S) x
      at x (yes e) = ap (above U) e ∙ (let z = r m in omega arith) ∙ ap (above (replaced m (suc m) S)) (sym e)
      at x (no e) = omega (arith, r x, there x e, differ-at m x e, differ-here m x, stands-next m x)
