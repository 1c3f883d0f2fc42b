-- A LETTER IS A HOMOMORPHISM: what it makes of a wedge is the wedge of the carried vector and of what it makes of the form (act-wedge); it keeps the empty form
-- (act-empty).
use mathlib.Core.Path.{◌≡◌, refl, sym, ap, ap₂, ◌∙◌, subst, fun_ext}
use mathlib.Core.Bool.{Bool, true, false, not, ◌&&◌}
use mathlib.Core.List.{[], ◌∷◌}
use Prim.Native.Nat.{ℕ, suc, ◌-◌, ◌≤◌, ◌<◌}
use native.Mathlib.Omega.{arith}
use native.Mathlib.Decide.{ℕ_discrete}
use lib.ListN.{length}
use borrow.Author.Tests.{eq-eqb, ne_eqb}
use Rattle.fraction.specs.Arithmetic.{Arithmetic}
use Rattle.fraction.specs.Ring.{CRing, Ordered, arithmetic}
use Rattle.fraction.proofs.Ring.{ring}
use Rattle.words.specs.RowSet.{In, RowSet, has, put}
use Rattle.words.specs.Word.{Letter, E, Et, D, Dinv}
use Rattle.words.specs.Walk.{moved, moved_if, scaled, act, carry_letter}
use Rattle.words.proofs.RowSets.{put-top, put_under, length-put}
use Rattle.words.proofs.Walks.{Rows, Move, under, raised, lowered, raise-top, lower-top, act-under}
use Rattle.words.proofs.Agree.{Agree, act-agree}
use Rattle.minors.proofs.Entries.{scaled-product}
use Rattle.minors.proofs.Wedge.{SameEntries, wedge, empty, wedge-add, wedge-agree, wedge-diagonal, empty-diagonal}

module _ (K : CRing) (O : Ordered K) where
  open K use {R, 𝟘, add as ◌+◌, mul as ◌*◌, neg}

  infixl 65 ◌+◌
  infixl 70 ◌*◌
  abbrev F : Arithmetic
  F = arithmetic K O

  -- letters are linear
  moved-linear : (a o : ℕ) (w c : R) (ω η : RowSet → R) (S : RowSet)
      → moved F a o w (λ T. c * ω T + neg (η T)) S ≡ c * moved F a o w ω S + neg (moved F a o w η S)
  unfolding moved
  moved-linear a o w c ω η S = by (has a S && not (has o S))
    where
      step : (x y p q : R) → c * x + neg p + w * (c * y + neg q) ≡ c * (x + w * y) + neg (p + w * q)
      step x y p q = simp ring

      by : (t : Bool) → moved_if F t a o w (λ T. c * ω T + neg (η T)) S ≡ c * moved_if F t a o w ω S + neg (moved_if F t a o w η S)
      by true = step _ _ _ _
      by false = refl

  act-linear : (l : Letter R) → Move F l → (c : R) (ω η : RowSet → R) (S : RowSet) → act F l (λ T. c * ω T + neg (η T)) S ≡ c * act F l ω S + neg (act F l η S)
  unfolding act
  act-linear (E j w) m c ω η S = moved-linear j (j - 1) w c ω η S
  act-linear (Et j w) m c ω η S = moved-linear (j - 1) j w c ω η S
  act-linear (D _) m c ω η S = elim m [ ]
  act-linear (Dinv _) m c ω η S = elim m [ ]

  -- at the two highest rows: the wedge of a vector u and a form η that are v and ω but for what the letter adds
  module _ (w : R) (v u : ℕ → R) (ω η : RowSet → R) (S : RowSet) (same : SameEntries (length S) u v) where
    rest : (x y : Bool) (ζ : RowSet → R) → Agree (length S) (λ T. η (x ∷ y ∷ T)) ζ → wedge K u (λ T. η (x ∷ y ∷ T)) S ≡ wedge K v ζ S
    rest x y ζ h = wedge-agree K u v (λ T. η (x ∷ y ∷ T)) ζ S same h

    rest-add : (x y : Bool) (ζ ξ : RowSet → R) → Agree (length S) (λ T. η (x ∷ y ∷ T)) (λ T. ζ T + w * ξ T)
        → wedge K u (λ T. η (x ∷ y ∷ T)) S ≡ wedge K v ζ S + w * wedge K v ξ S
    rest-add x y ζ ξ h = rest x y (λ T. ζ T + w * ξ T) h ∙ wedge-add K w v ζ ξ S

    one-row : (a b x y z : R) → a * x + neg y + w * (b * x + neg z) ≡ (a + w * b) * x + neg (y + w * z)
    one-row a b x y z = simp ring

    raised-wedge : u (suc (suc (length S))) ≡ v (suc (suc (length S))) + w * v (suc (length S)) → u (suc (length S)) ≡ v (suc (length S))
        → ((x y : Bool) → Agree (length S) (λ T. η (x ∷ y ∷ T)) (raised F w ω x y))
        → (x y : Bool) → raised F w (wedge K v ω) x y S ≡ wedge K u η (x ∷ y ∷ S)
    unfolding wedge
    raised-wedge p q h true true = rw (p, q, h false true S refl, h true false S refl, rest true true _ (h true true), wedge) (both _ _ _ _ _)
      where
        both : (a b x y z : R) → a * x + neg (b * y + neg z) ≡ (a + w * b) * x + neg (b * (y + w * x) + neg z)
        both a b x y z = simp ring
    raised-wedge p q h true false = rw (p, h false false S refl, rest-add true false _ _ (h true false), wedge) (one-row _ _ _ _ _)
    raised-wedge p q h false true = rw (q, h false false S refl, rest false true _ (h false true), wedge)
    raised-wedge p q h false false = rw (rest false false _ (h false false), wedge)

    lowered-wedge : u (suc (suc (length S))) ≡ v (suc (suc (length S))) → u (suc (length S)) ≡ v (suc (length S)) + w * v (suc (suc (length S)))
        → ((x y : Bool) → Agree (length S) (λ T. η (x ∷ y ∷ T)) (lowered F w ω x y))
        → (x y : Bool) → lowered F w (wedge K v ω) x y S ≡ wedge K u η (x ∷ y ∷ S)
    unfolding wedge
    lowered-wedge p q h true true = rw (p, q, h false true S refl, h true false S refl, rest true true _ (h true true), wedge) (both _ _ _ _ _)
      where
        both : (a b x y z : R) → a * x + neg (b * y + neg z) ≡ a * (x + w * y) + neg ((b + w * a) * y + neg z)
        both a b x y z = simp ring
    lowered-wedge p q h true false = rw (p, h false false S refl, rest true false _ (h true false), wedge)
    lowered-wedge p q h false true = rw (q, h false false S refl, rest-add false true _ _ (h false true), wedge) (one-row _ _ _ _ _)
    lowered-wedge p q h false false = rw (rest false false _ (h false false), wedge)

  -- the higher of the two rows of a letter
  abbrev high_row : Letter R → ℕ
  high_row (E j w) = j
  high_row (Et j w) = j
  high_row (D e) = 0
  high_row (Dinv e) = 0

  carry-above : (l : Letter R) → Move F l → (v : ℕ → R) (n i : ℕ) → Rows n l → n < i → carry_letter F l v i ≡ v i
  unfolding carry_letter
  carry-above (E j w) m v n i h g = rw (ne_eqb i j (λ e. omega (arith, h.1)))
  carry-above (Et j w) m v n i h g = rw (ne_eqb i (j - 1) (λ e. omega (arith, h.1)))
  carry-above (D _) m v n i h g = elim m [ ]
  carry-above (Dinv _) m v n i h g = elim m [ ]

  top-wedge : (l : Letter R) → Move F l → (v : ℕ → R) (ω : RowSet → R) (x y : Bool) (S : RowSet) → high_row l ≡ suc (suc (length S))
      → act F l (wedge K v ω) (x ∷ y ∷ S) ≡ wedge K (carry_letter F l v) (act F l ω) (x ∷ y ∷ S)
  unfolding carry_letter
  top-wedge (E j w) m v ω x y S e =
      let f : j - 1 ≡ suc (length S) = omega arith in
      raise-top F j w (wedge K v ω) x y S e
      ∙ raised-wedge w v (carry_letter F (E j w) v) ω (act F (E j w) ω) S
      (λ i h. rw (ne_eqb i j (λ g. omega (arith, h.1))))
      (rw (eq-eqb (suc (suc (length S))) j (sym e), f))
      (rw (ne_eqb (suc (length S)) j (λ g. omega arith)))
      (λ p q T t. raise-top F j w ω p q T (omega arith)) x y
  top-wedge (Et j w) m v ω x y S e =
      let f : j - 1 ≡ suc (length S) = omega arith in
      lower-top F j w (wedge K v ω) x y S e
      ∙ lowered-wedge w v (carry_letter F (Et j w) v) ω (act F (Et j w) ω) S
      (λ i h. rw (ne_eqb i (j - 1) (λ g. omega (arith, h.1))))
      (rw (ne_eqb (suc (suc (length S))) (j - 1) (λ g. omega arith)))
      (rw (eq-eqb (suc (length S)) (j - 1) (sym f), e))
      (λ p q T t. lower-top F j w ω p q T (omega arith)) x y
  top-wedge (D _) m v ω x y S e = elim m [ ]
  top-wedge (Dinv _) m v ω x y S e = elim m [ ]

  under-wedge : (l : Letter R) (m : Move F l) (v : ℕ → R) (ω : RowSet → R) (x : Bool) (S : RowSet) → Rows (length S) l
      → ((η : RowSet → R) → act F l (wedge K v η) S ≡ wedge K (carry_letter F l v) (act F l η) S)
      → act F l (wedge K v ω) (x ∷ S) ≡ wedge K (carry_letter F l v) (act F l ω) (x ∷ S)
  unfolding wedge
  under-wedge l m v ω x S h g = act-under F l m (wedge K v ω) x S h ∙ by x
    where
      under-act : (y : Bool) → Agree (length S) (act F l (under y ω)) (λ T. act F l ω (y ∷ T))
      under-act y T t = sym (act-under F l m ω y T (subst (λ n. Rows n l) (sym t) h))

      rest : (y : Bool) → act F l (wedge K v (under y ω)) S ≡ wedge K (carry_letter F l v) (λ T. act F l ω (y ∷ T)) S
      rest y = g (under y ω) ∙ wedge-agree K (carry_letter F l v) (carry_letter F l v) _ _ S (λ i p. refl) (under-act y)

      by : (x : Bool) → act F l (under x (wedge K v ω)) S ≡ wedge K (carry_letter F l v) (act F l ω) (x ∷ S)
      by true =
          act-agree F (length S) l _ (λ T. v (suc (length S)) * ω (false ∷ T) + neg (wedge K v (under true ω) T))
          (λ T t. ap (λ n. v (suc n) * ω (false ∷ T) + neg (wedge K v (under true ω) T)) t) S refl
          ∙ act-linear l m (v (suc (length S))) (under false ω) (wedge K v (under true ω)) S
          ∙ ap₂ (λ p q. p + neg q)
          (ap₂ ◌*◌ (sym (carry-above l m v (length S) (suc (length S)) h (omega arith))) (under-act false S refl)) (rest true)
      by false = rest false

  move-rows : (l : Letter R) → Move F l → (n : ℕ) → Rows n l → 2 ≤ n
  move-rows (E j w) m n h = omega (arith, h.0, h.1)
  move-rows (Et j w) m n h = omega (arith, h.0, h.1)
  move-rows (D _) m n h = elim m [ ]
  move-rows (Dinv _) m n h = elim m [ ]

  rows_under : (l : Letter R) → Move F l → (n : ℕ) → Rows (suc n) l → (high_row l ≡ suc n → ⊥) → Rows n l
  rows_under (E j w) m n h g = (h.0, omega (arith, h.1))
  rows_under (Et j w) m n h g = (h.0, omega (arith, h.1))
  rows_under (D _) m n h g = elim m [ ]
  rows_under (Dinv _) m n h g = elim m [ ]

  move-wedge : (l : Letter R) → Move F l → (v : ℕ → R) (ω : RowSet → R) (S : RowSet) → Rows (length S) l
      → act F l (wedge K v ω) S ≡ wedge K (carry_letter F l v) (act F l ω) S
  move-wedge l m v ω [] h = absurd (omega (arith, move-rows l m 0 h))
  move-wedge l m v ω (x ∷ []) h = absurd (omega (arith, move-rows l m 1 h))
  move-wedge l m v ω (x ∷ y ∷ S) h = elim (ℕ_discrete (high_row l) (suc (suc (length S)))) [
    | yes e ↦ top-wedge l m v ω x y S e
    | no e ↦
        let r : Rows (suc (length S)) l = rows_under l m (suc (length S)) h e in
        under-wedge l m v ω x (y ∷ S) r (λ η. move-wedge l m v η (y ∷ S) r)
  ]

  -- a diagonal letter multiplies by e i, or by the inverse of e i
  scaled-wedge : (f : R → R) (e v : ℕ → R) (ω : RowSet → R) (S : RowSet)
      → scaled F (λ p q. p * f q) e S (wedge K v ω S) ≡ wedge K (λ i. v i * f (e i)) (λ T. scaled F (λ p q. p * f q) e T (ω T)) S
  scaled-wedge f e v ω S =
      scaled-product K O f e S (wedge K v ω S) ∙ wedge-diagonal K (λ i. f (e i)) v ω S
      ∙ ap (λ η. wedge K (λ i. v i * f (e i)) η S) (fun_ext (λ T. sym (scaled-product K O f e T (ω T))))

  pub act-wedge : (l : Letter R) (v : ℕ → R) (ω : RowSet → R) (S : RowSet) → Rows (length S) l
      → act F l (wedge K v ω) S ≡ wedge K (carry_letter F l v) (act F l ω) S
  unfolding act carry_letter
  act-wedge (E j w) v ω S h = move-wedge (E j w) tt v ω S h
  act-wedge (Et j w) v ω S h = move-wedge (Et j w) tt v ω S h
  act-wedge (D e) v ω S h = scaled-wedge (λ x. x) e v ω S
  act-wedge (Dinv e) v ω S h = scaled-wedge O.inv e v ω S

  -- a set that row o is put into is not empty
  empty-put : (o : ℕ) (S : RowSet) → In (length S) o → empty K (put o true S) ≡ 𝟘
  unfolding empty
  empty-put o [] h = absurd (omega (arith, h.0, h.1))
  empty-put o (x ∷ S) h = elim (ℕ_discrete o (suc (length S))) [
    | yes e ↦ ap (λ i. empty K (put i true (x ∷ S))) e ∙ ap (empty K) (put-top true x S)
    | no e ↦ ap (empty K) (put_under o true x S (omega (arith, h.1))) ∙ add x (empty-put o S (h.0, omega (arith, h.1)))
  ]
    where
      add : (x : Bool) → empty K (put o true S) ≡ 𝟘 → empty K (x ∷ put o true S) ≡ 𝟘
      add true g = refl
      add false g = g

  moved-empty : (a o : ℕ) (w : R) (S : RowSet) → In (length S) o → moved F a o w (empty K) S ≡ empty K S
  unfolding moved
  moved-empty a o w S h = by (has a S && not (has o S))
    where
      by : (t : Bool) → moved_if F t a o w (empty K) S ≡ empty K S
      by true = ap (λ x. empty K S + w * x) (empty-put o (put a false S) (subst (λ n. In n o) (sym (length-put a false S)) h)) ∙ simp ring
      by false = refl

  pub act-empty : (l : Letter R) (S : RowSet) → Rows (length S) l → act F l (empty K) S ≡ empty K S
  unfolding act
  act-empty (E j w) S h = moved-empty j (j - 1) w S (omega (arith, h.0), omega (arith, h.1))
  act-empty (Et j w) S h = moved-empty (j - 1) j w S (omega (arith, h.0), h.1)
  act-empty (D e) S h = scaled-product K O (λ x. x) e S (empty K S) ∙ empty-diagonal K e S
  act-empty (Dinv e) S h = scaled-product K O O.inv e S (empty K S) ∙ empty-diagonal K (λ i. O.inv (e i)) S
