-- The steps of a word as they are lent. The factors of a step, and its letters, are as they were once those of later steps are put (table_kept, spelled_kept).
-- So a step put behind those of a word is its last (put-steps), and the word can be lent again (put-prepared).
use mathlib.Core.Path.{◌≡◌, refl, sym, ap, ap₂, ◌∙◌}
use mathlib.Core.List.{List, [], ◌∷◌, ◌++◌, map}
use Prim.Native.Nat.{ℕ, zero, suc, ◌+◌, ◌*◌, ◌≤◌, ◌<◌}
use native.Mathlib.Decide.{ℕ_discrete}
use native.Mathlib.Omega.{arith}
use lib.ListN.{get_or, take, length, set, length-set}
use lib.Seq.{get_or-set_same, get_or-set_other}
use Rattle.number.specs.declared.Number.{Number}
use Rattle.words.specs.Operation as words
use Rattle.walk.specs.Steps.{step_of}
use Rattle.walk.specs.Lent.{number_in, numbers_in, table_in, Spelled, Kept, way_at, step_at, numbered, steps_of, Prepared}
use Rattle.walk.specs.declared.Way.{Way}
use Rattle.walk.specs.declared.Way.TheVariants.{Plain}
use Rattle.walk.specs.declared.Step.{Step}
use Rattle.walk.specs.declared.Joined.{Joined}
use Rattle.walk.proofs.Spelling.{middle-few}

module _ {m : ℕ} {old new : List ℕ} (K : Kept m old new) where
  number-kept : (p : ℕ) → 2 * p + 1 < m → number_in new p ≡ number_in old p
  number-kept p h = ap₂ (λ (y z : ℕ). record { m = y; x = z }) (K.same (2 * p) (omega arith)) (K.same (2 * p + 1) h)

  numbers-kept : (p k : ℕ) → 2 * (p + k) ≤ m → numbers_in new p k ≡ numbers_in old p k
  unfolding numbers_in
  numbers-kept p zero h = refl
  numbers-kept p (suc k) h = ap₂ (λ (y : Number) (l : List Number). y ∷ l) (number-kept p (omega arith)) (numbers-kept (suc p) k (omega arith))

-- the first c + 1 of some steps, where the first c are as they were
more : {S : Type 0} (f g : ℕ → S) (l : List ℕ) (c : ℕ) → c < length l → ((i : ℕ) → i < c → f (get_or l i 0) ≡ g (get_or l i 0))
    → map g (take (suc c) l) ≡ map f (take c l) ++ (g (get_or l c 0) ∷ [])
more f g [] c h e = absurd (omega arith)
more f g (x ∷ l) zero h e = refl
more f g (x ∷ l) (suc c) h e = ap₂ (λ y L. y ∷ L) (sym (e 0 (omega arith))) (more f g l c (omega arith) (λ i k. e (suc i) (omega arith)))

numbered-at : (i : ℕ) → i < 6 → get_or numbered i 0 ≡ i
numbered-at zero h = refl
numbered-at (suc zero) h = refl
numbered-at (suc (suc zero)) h = refl
numbered-at (suc (suc (suc zero))) h = refl
numbered-at (suc (suc (suc (suc zero)))) h = refl
numbered-at (suc (suc (suc (suc (suc zero))))) h = refl
numbered-at (suc (suc (suc (suc (suc (suc i)))))) h = absurd (omega arith)

-- STEP d, after a later step c was put
module _ {old new : List ℕ} (c d : ℕ) where
  pub table_kept : Kept (c * 128) old new → d < c → table_in new d ≡ table_in old d
  table_kept K l = numbers-kept K (d * 64) 64 (omega arith)

  pub spelled_kept : {n : ℕ} {way : Way} → Kept (c * 57) old new → d < c → n ≤ 8 → Spelled n way d old → Spelled n way d new
  spelled_kept {n} K l few S = record { letter = λ t h g. K.same (d * 57 + t) (omega (arith, middle-few n few)) ∙ S.letter t h g }

-- A STEP PUT BEHIND those of the word j: its way, its factors b and its letters; f and l are what was lent before, g and m after
module _ (j : Joined) (way : Way) where
  abbrev pub with_step : Joined
  with_step = record { steps = set j.steps j.count (record { way = way }); count = j.count + 1; n = j.n }

  module _ {l f : List ℕ} (P : Prepared j l f) (room : j.count < 6) where
    way-last : way_at with_step j.count ≡ way
    unfolding way_at
    way-last = ap (λ (s : Step). s.way) (get_or-set_same j.steps j.count (record { way = way }) (record { way = Plain }) (omega (arith, P.six)))

    way-before : (c : ℕ) → c < j.count → way_at with_step c ≡ way_at j c
    unfolding way_at
    way-before c h =
        ap (λ (s : Step). s.way) (get_or-set_other j.steps j.count c (record { way = way }) (record { way = Plain }) (λ e. omega arith))

    pub put-steps : {g : List ℕ} {b : List Number} → Kept (j.count * 128) f g → table_in g j.count ≡ b
        → steps_of with_step g ≡ steps_of j f ++ (step_of way b ∷ [])
    put-steps {g} {b} K e =
        ap (λ (c : ℕ). map (step_at with_step g) (take c numbered)) (let z : j.count + 1 ≡ suc j.count = omega arith in z)
        ∙ more (step_at j f) (step_at with_step g) numbered j.count room
        (λ i h. rw (numbered-at i (omega arith)) (ap₂ step_of (sym (way-before i h)) (sym (table_kept j.count i K h))))
        ∙ ap (λ (s : words.Step Number). steps_of j f ++ (s ∷ []))
        (ap (step_at with_step g) (numbered-at j.count room) ∙ ap₂ step_of way-last e)

    pub put-prepared : {m g : List ℕ} → j.n ≤ 8 → Kept (j.count * 57) l m → Spelled j.n way j.count m → length m ≡ 342 → length g ≡ 768
        → Prepared with_step m g
    put-prepared {m} few K S lm lg =
        record { six = length-set j.steps j.count (record { way = way }) ∙ P.six; letters = lm; factors = lg; spelled = record { step = go } }
      where
        go : (c : ℕ) → c < j.count + 1 → Spelled j.n (way_at with_step c) c m
        go c h = elim (ℕ_discrete c j.count) [
          | yes e ↦ rw e (rw way-last S)
          | no e ↦ rw (way-before c (omega arith)) (spelled_kept j.count c K (omega arith) few (P.spelled.step c (omega arith)))
        ]
