-- A COMBINATION OF ROWS AND MINORS. The contraction of a form by a combination l of rows (contract) is an antiderivation (contract-wedge). So where l is row i
-- and rows of S, all before row i, and kills the columns vs, the minor of v and vs at S and i is what l makes of v times that of vs at S (combined-minor). The
-- first columns of a matrix are killed where each of them is (kills-first).
use mathlib.Core.Path.{◌≡◌, refl, sym, ap, ap₂, ◌∙◌, subst}
use mathlib.Core.Bool.{true, false}
use mathlib.Core.List.{List, [], ◌∷◌}
use Prim.Native.Nat.{ℕ, zero, suc, ◌-◌, ◌≤◌}
use native.Mathlib.Decide.{ℕ_discrete}
use native.Mathlib.Omega.{arith}
use lib.ListN.{length}
use Rattle.fraction.specs.Ring.{CRing}
use Rattle.fraction.proofs.Ring.{ring, zero-+, +-zero, zero-*, *-zero, one-*, neg-zero}
use Rattle.words.specs.RowSet.{In, RowSet, has, put, rows}
use Rattle.words.proofs.RowSets.{in-under, in_top, has-top, has-under, put-top, put_under, length-rows}
use Rattle.words.proofs.Runs.{rows_last, rows_out, rows_none}
use Rattle.words.proofs.Walks.{under}
use Rattle.words.proofs.Agree.{Agree, agree-under}
use Rattle.minors.specs.Matrix.{Matrix, sum}
use Rattle.minors.proofs.Determinant.{wedge, empty, wedges, columns}
use Rattle.minors.proofs.Wedge.{wedge-add, wedge-agree, wedge-zero}
use Rattle.bands.proofs.Heights.{stands}
use Rattle.bands.proofs.Lattice.{Before}

module _ (K : CRing) where
  open K use {R, 𝟘, 𝟙, add as ◌+◌, mul as ◌*◌, neg}

  infixl 65 ◌+◌
  infixl 70 ◌*◌
  -- the contraction of a form, the highest row first
  unfoldable pub contract : (ℕ → R) → (RowSet → R) → RowSet → R
  contract l η [] = 𝟘
  contract l η (true ∷ S) = neg (contract l (λ T. η (true ∷ T)) S)
  contract l η (false ∷ S) = contract l (λ T. η (false ∷ T)) S + l (suc (length S)) * η (true ∷ S)

  -- what a combination makes of a vector of n rows
  abbrev pub combined : ℕ → (ℕ → R) → (ℕ → R) → R
  combined n l v = sum K n (λ r. l r * v r)

  contract-agree : (l : ℕ → R) (η ζ : RowSet → R) (S : RowSet) → Agree (length S) η ζ → contract l η S ≡ contract l ζ S
  unfolding contract
  contract-agree l η ζ [] h = refl
  contract-agree l η ζ (true ∷ S) h = ap neg (contract-agree l (under true η) (under true ζ) S (agree-under true h))
  contract-agree l η ζ (false ∷ S) h =
      ap₂ (λ x y. x + l (suc (length S)) * y) (contract-agree l (under false η) (under false ζ) S (agree-under false h)) (h (true ∷ S) refl)

  contract-linear : (c : R) (l : ℕ → R) (ω η : RowSet → R) (S : RowSet) → contract l (λ T. c * ω T + neg (η T)) S ≡ c * contract l ω S + neg (contract l η S)
  unfolding contract
  contract-linear c l ω η [] = simp ring
  contract-linear c l ω η (true ∷ S) = ap neg (contract-linear c l (under true ω) (under true η) S) ∙ simp ring
  contract-linear c l ω η (false ∷ S) =
      ap (λ x. x + l (suc (length S)) * (c * ω (true ∷ S) + neg (η (true ∷ S)))) (contract-linear c l (under false ω) (under false η) S) ∙ step _ _ _ _ _ _
    where
      step : (c w x y z t : R) → (c * x + neg y) + w * (c * z + neg t) ≡ c * (x + w * z) + neg (y + w * t)
      step c w x y z t = simp ring

  wedge-neg : (v : ℕ → R) (ω : RowSet → R) (S : RowSet) → wedge K v (λ T. neg (ω T)) S ≡ neg (wedge K v ω S)
  unfolding wedge
  wedge-neg v ω [] = sym (neg-zero K)
  wedge-neg v ω (true ∷ S) = ap (λ x. v (suc (length S)) * neg (ω (false ∷ S)) + neg x) (wedge-neg v (under true ω) S) ∙ step _ _ _
    where
      step : (a x y : R) → a * neg x + neg (neg y) ≡ neg (a * x + neg y)
      step a x y = simp ring
  wedge-neg v ω (false ∷ S) = wedge-neg v (under false ω) S

  -- AN ANTIDERIVATION
  pub contract-wedge : (l v : ℕ → R) (ω : RowSet → R) (S : RowSet) → contract l (wedge K v ω) S + wedge K v (contract l ω) S ≡ combined (length S) l v * ω S
  unfolding contract wedge sum
  contract-wedge l v ω [] = simp ring
  contract-wedge l v ω (true ∷ S) =
      ap₂ (λ x y. neg x + (v (suc (length S)) * (contract l (under false ω) S + l (suc (length S)) * ω (true ∷ S)) + neg y))
      (contract-agree l _ (λ T. v (suc (length S)) * ω (false ∷ T) + neg (wedge K v (under true ω) T)) S
      (λ T t. ap (λ n. v (suc n) * ω (false ∷ T) + neg (wedge K v (under true ω) T)) t)
      ∙ contract-linear (v (suc (length S))) l (under false ω) (wedge K v (under true ω)) S)
      (wedge-neg v (contract l (under true ω)) S)
      ∙ regroup _ _ _ _ _ _ ∙ ap (λ x. x + l (suc (length S)) * v (suc (length S)) * ω (true ∷ S)) (contract-wedge l v (under true ω) S) ∙ both _ _ _
    where
      regroup : (l a t c x y : R) → neg (a * c + neg x) + (a * (c + l * t) + neg (neg y)) ≡ (x + y) + l * a * t
      regroup l a t c x y = simp ring

      both : (p q f : R) → p * f + q * f ≡ (p + q) * f
      both p q f = simp ring
  contract-wedge l v ω (false ∷ S) =
      ap (λ x. (contract l (wedge K v (under false ω)) S + l (suc (length S)) * (v (suc (length S)) * ω (false ∷ S) + neg (wedge K v (under true ω) S))) + x)
      (wedge-agree K v v _ (λ T. contract l (under false ω) T + l (suc (length S)) * ω (true ∷ T)) S (λ i p. refl)
      (λ T t. ap (λ n. contract l (under false ω) T + l (suc n) * ω (true ∷ T)) t)
      ∙ wedge-add K (l (suc (length S))) v (contract l (under false ω)) (under true ω) S)
      ∙ regroup _ _ _ _ _ _ ∙ ap (λ x. x + l (suc (length S)) * v (suc (length S)) * ω (false ∷ S)) (contract-wedge l v (under false ω) S) ∙ both _ _ _
    where
      regroup : (l a f c w x : R) → (c + l * (a * f + neg w)) + (x + l * w) ≡ (c + x) + l * a * f
      regroup l a f c w x = simp ring

      both : (p q f : R) → p * f + q * f ≡ (p + q) * f
      both p q f = simp ring

  -- where no row outside S has a part in l
  contract-none : (l : ℕ → R) (η : RowSet → R) (S : RowSet) → ((r : ℕ) → In (length S) r → has r S ≡ false → l r ≡ 𝟘) → contract l η S ≡ 𝟘
  unfolding contract
  contract-none l η [] h = refl
  contract-none l η (true ∷ S) h = ap neg (contract-none l (under true η) S (λ r p e. h r (in-under p) (has-under r true S p.1 ∙ e))) ∙ neg-zero K
  contract-none l η (false ∷ S) h =
      ap₂ (λ x y. x + y * η (true ∷ S)) (contract-none l (under false η) S (λ r p e. h r (in-under p) (has-under r false S p.1 ∙ e)))
      (h (suc (length S)) (in_top (length S)) (has-top false S)) ∙ simp ring

  -- where only row i has
  contract-one : (l : ℕ → R) (η : RowSet → R) (S : RowSet) (i : ℕ) → In (length S) i → Before i S → l i ≡ 𝟙
      → ((r : ℕ) → In (length S) r → (r ≡ i → ⊥) → has r S ≡ false → l r ≡ 𝟘) → contract l η S ≡ η (put i true S)
  unfolding contract
  contract-one l η [] i p b o h = absurd (omega (arith, p.0, p.1))
  contract-one l η (true ∷ S) i p b o h = absurd (let z : stands (suc (length S)) (i - 1) ≡ 1 = omega (arith, p.0, p.1) in omega (arith, z))
  contract-one l η (false ∷ S) i p b o h = elim (ℕ_discrete i (suc (length S))) [
    | yes e ↦
        ap₂ (λ x y. x + y * η (true ∷ S)) (contract-none l (under false η) S
        (λ r q f. h r (in-under q) (λ z. omega (arith, q.1)) (has-under r false S q.1 ∙ f))) (ap l (sym e) ∙ o)
        ∙ zero-+ K _ ∙ one-* K _ ∙ ap η (sym (ap (λ k. put k true (false ∷ S)) e ∙ put-top true false S))
    | no e ↦
        ap₂ (λ x y. x + y * η (true ∷ S)) (contract-one l (under false η) S i (p.0, omega (arith, p.1)) b o
        (λ r q f g. h r (in-under q) f (has-under r false S q.1 ∙ g)))
        (h (suc (length S)) (in_top (length S)) (λ z. e (sym z)) (has-top false S))
        ∙ ap (λ x. η (false ∷ put i true S) + x) (zero-* K _) ∙ +-zero K _ ∙ ap η (sym (put_under i true false S (omega (arith, p.1))))
  ]

  -- l kills each of the vectors
  abbrev pub Kills : ℕ → (ℕ → R) → List (ℕ → R) → Type 0
  Kills n l [] = Unit {0}
  Kills n l (v ∷ vs) = (combined n l v ≡ 𝟘) × Kills n l vs

  contract-zero : (l : ℕ → R) (S : RowSet) → contract l (λ T. 𝟘) S ≡ 𝟘
  unfolding contract
  contract-zero l [] = refl
  contract-zero l (true ∷ S) = ap neg (contract-zero l S) ∙ neg-zero K
  contract-zero l (false ∷ S) = ap (λ x. x + l (suc (length S)) * 𝟘) (contract-zero l S) ∙ simp ring

  contract-empty : (l : ℕ → R) (S : RowSet) → contract l (empty K) S ≡ 𝟘
  unfolding contract empty
  contract-empty l [] = refl
  contract-empty l (true ∷ S) = ap neg (contract-zero l S) ∙ neg-zero K
  contract-empty l (false ∷ S) = ap (λ x. x + l (suc (length S)) * 𝟘) (contract-empty l S) ∙ simp ring

  contract-next : (n : ℕ) (l v : ℕ → R) (ω : RowSet → R) (S : RowSet) → length S ≡ n → ((T : RowSet) → length T ≡ n → contract l ω T ≡ 𝟘)
      → contract l (wedge K v ω) S ≡ combined n l v * ω S
  contract-next n l v ω S s h =
      sym (+-zero K _)
      ∙ ap (λ x. contract l (wedge K v ω) S + x) (sym (wedge-zero K v (contract l ω) S (λ i T p t. ap (λ x. v i * x) (h T (t ∙ s)) ∙ *-zero K _)))
      ∙ contract-wedge l v ω S ∙ ap (λ m. combined m l v * ω S) s

  contract-killed : (n : ℕ) (l : ℕ → R) (vs : List (ℕ → R)) → Kills n l vs → (S : RowSet) → length S ≡ n → contract l (wedges K vs) S ≡ 𝟘
  unfolding wedges
  contract-killed n l [] k S s = contract-empty l S
  contract-killed n l (v ∷ vs) k S s = contract-next n l v (wedges K vs) S s (contract-killed n l vs k.1) ∙ ap (λ x. x * wedges K vs S) k.0 ∙ zero-* K _

  -- THE MINOR WITH ROW i
  pub combined-minor : (n : ℕ) (l v : ℕ → R) (vs : List (ℕ → R)) (S : RowSet) (i : ℕ) → length S ≡ n → In n i → Before i S → l i ≡ 𝟙
      → ((r : ℕ) → In n r → (r ≡ i → ⊥) → has r S ≡ false → l r ≡ 𝟘) → Kills n l vs → wedges K (v ∷ vs) (put i true S) ≡ combined n l v * wedges K vs S
  unfolding wedges
  combined-minor n l v vs S i s p b o h k =
      sym (contract-one l (wedges K (v ∷ vs)) S i (p.0, omega (arith, p.1, s)) b o (λ r q. h r (q.0, omega (arith, q.1, s))))
      ∙ contract-next n l v (wedges K vs) S s (contract-killed n l vs k)

  -- THE FIRST COLUMNS of a matrix, the highest first
  pub columns-first : (M : Matrix K) (n j : ℕ) → suc j ≤ n → columns K M (rows n 1 (suc j)) ≡ (λ i. M i (suc j)) ∷ columns K M (rows n 1 j)
  unfolding columns
  columns-first M zero j h = absurd (omega arith)
  columns-first M (suc n) j h = elim (ℕ_discrete (suc j) (suc n)) [
    | yes e ↦
        let f : j ≡ n = omega arith in
        ap (λ m. columns K M (rows (suc n) 1 (suc m))) f ∙ ap (columns K M) (rows_last n 1 (omega arith))
        ∙ ap (λ m. (λ i. M i (suc m)) ∷ columns K M (rows n 1 n)) (length-rows n 1 n)
        ∙ ap (λ vs. (λ i. M i (suc n)) ∷ vs) (sym (ap (columns K M) (rows_out n 1 n (λ p q. omega arith))))
        ∙ ap (λ m. (λ i. M i (suc m)) ∷ columns K M (rows (suc n) 1 m)) (sym f)
    | no e ↦
        ap (columns K M) (rows_out n 1 (suc j) (λ p q. e (omega arith))) ∙ columns-first M n j (omega arith)
        ∙ ap (λ vs. (λ i. M i (suc j)) ∷ vs) (sym (ap (columns K M) (rows_out n 1 j (λ p q. omega arith))))
  ]

  -- killed where each is: the combination is of n rows, the first c columns are taken of m
  pub kills-first : (n m : ℕ) (M : Matrix K) (l : ℕ → R) (c : ℕ) → c ≤ m → ((q : ℕ) → 1 ≤ q → q ≤ c → combined n l (λ r. M r q) ≡ 𝟘)
      → Kills n l (columns K M (rows m 1 c))
  unfolding columns
  kills-first n m M l zero h k = subst (Kills n l) (sym (rows_none (columns K M) (λ S. refl) m 1 0 (omega arith))) tt
  kills-first n m M l (suc c) h k =
      subst (Kills n l) (sym (columns-first M m c h))
      (k (suc c) (omega arith) (omega arith), kills-first n m M l c (omega arith) (λ q p e. k q p (omega arith)))
