-- How many letters the words have: a word of n rows has n² - n letters E and Et and one D (word-cost), and m joined words m times as many (joined-cost); where
-- each of the
-- n entries of D costs as much as a letter E or Et, m n² such costs (joined-square).
use mathlib.Core.Path.{◌≡◌, refl, sym, ap, ap₂, ◌∙◌}
use mathlib.Core.List.{List, [], ◌∷◌, ◌++◌}
use Prim.Native.Nat.{ℕ, zero, suc, ◌+◌, ◌-◌, ◌*◌, ◌≤◌, ◌<◌}
use native.Mathlib.Nat.{mul-le-mul}
use native.Mathlib.Omega.{arith}
use lib.ListN.{length}
use Rattle.words.specs.Word.{Factors, Letter, E, Et, D, Dinv, Word, ascending, descending, for_up, for_down, word, inverse_letter, inverse_word, total}
use Rattle.words.specs.Word.{converse_letter, converse_word, transposed_letter, transposed_word}
use Rattle.words.proofs.Related.{letter_cost}
use Rattle.words.specs.Operation.{plain, inverted, conversed, transposed, Step, step, step_word, joined_word}

-- twice the two halves of a word of n = k + 1 rows, and D
halves : (e d x y k n : ℕ) → n ≡ suc k → 2 * x + e * k ≡ e * k * (2 * 1 + k) → 2 * y ≡ e * k * (k + 1) → x + (d + y) ≡ e * (n * n - n) + d
halves e d x y k n f p q =
    let g : suc k * suc k - suc k ≡ k * k + k = omega arith in
    let h : e * (n * n - n) ≡ e * (k * k + k) = ap (λ (m : ℕ). e * (m * m - m)) f ∙ ap (λ (z : ℕ). e * z) g in
    omega (arith, h, p, q)

-- a sum over letters that all E and Et share, e, and all D share, d
module _ {A : Type 0} (f : Letter A → ℕ) where
  pub total-append : (U W : Word A) → total f (U ++ W) ≡ total f U + total f W
  unfolding total
  total-append [] W = omega arith
  total-append (l ∷ U) W = omega (arith, total-append U W)

  -- a step more in front
  pub total-joined : (n : ℕ) (s : Step A) (L : List (Step A)) → total f (joined_word n (s ∷ L)) ≡ total f (step_word n s) + total f (joined_word n L)
  unfolding joined_word total
  total-joined n s [] = omega arith
  total-joined n s (t ∷ L) = total-append (step_word n s) (joined_word n (t ∷ L))

  module _ (e d : ℕ) (moving : (j : ℕ) (w : A) → (f (E j w) ≡ e) × (f (Et j w) ≡ e)) (scaling : (g : ℕ → A) → (f (D g) ≡ d) × (f (Dinv g) ≡ d)) where
    -- one letter for each j
    total-ascending : (a c : ℕ) (g : ℕ → Word A) → ((j : ℕ) → total f (g j) ≡ e) → total f (ascending a c g) ≡ e * c
    unfolding ascending total
    total-ascending a zero g h = omega arith
    total-ascending a (suc c) g h = total-append (g a) (ascending (suc a) c g) ∙ omega (arith, h a, total-ascending (suc a) c g h)

    total-descending : (a c : ℕ) (g : ℕ → Word A) → ((j : ℕ) → total f (g j) ≡ e) → total f (descending a c g) ≡ e * c
    unfolding descending total
    total-descending a zero g h = omega arith
    total-descending a (suc c) g h = total-append (g a) (descending (a - 1) c g) ∙ omega (arith, h a, total-descending (a - 1) c g h)

    -- i letters for each i
    sum-ascending : (a c : ℕ) (g : ℕ → Word A) → ((i : ℕ) → a ≤ i → i < a + c → total f (g i) ≡ e * i)
        → 2 * total f (ascending a c g) + e * c ≡ e * c * (2 * a + c)
    unfolding ascending total
    sum-ascending a zero g h = omega arith
    sum-ascending a (suc c) g h =
        let p : total f (ascending a (suc c) g) ≡ total f (g a) + total f (ascending (suc a) c g) = total-append (g a) (ascending (suc a) c g) in
        omega (arith, p, h a (omega arith) (omega arith), sum-ascending (suc a) c g (λ i x y. h i (omega arith) (omega arith)))

    sum-descending : (c : ℕ) (g : ℕ → Word A) → ((i : ℕ) → i ≤ c → total f (g i) ≡ e * i) → 2 * total f (descending c c g) ≡ e * c * (c + 1)
    unfolding descending total
    sum-descending zero g h = omega arith
    sum-descending (suc c) g h =
        let z : suc c - 1 ≡ c = omega arith in
        let p : total f (descending (suc c) (suc c) g) ≡ total f (g (suc c)) + total f (descending (suc c - 1) c g) =
        total-append (g (suc c)) (descending (suc c - 1) c g) in
        let q : total f (descending (suc c - 1) c g) ≡ total f (descending c c g) = ap (λ (i : ℕ). total f (descending i c g)) z in
        omega (arith, p, q, h (suc c) (omega arith), sum-descending c g (λ i x. h i (omega arith)))

    -- E j for j = n - i + 1 to n, Et j the other way round
    total-stage : (n i : ℕ) (b : Factors A) → i ≤ n → total f (for_up (n - i + 1) n (λ j. E j (b j (i + j - n)) ∷ [])) ≡ e * i
    unfolding total
    total-stage n i b l =
        let z : suc n - (n - i + 1) ≡ i = omega arith in
        total-ascending (n - i + 1) (suc n - (n - i + 1)) (λ j. E j (b j (i + j - n)) ∷ []) (λ j. omega (arith, (moving j (b j (i + j - n))).0))
        ∙ ap (λ (c : ℕ). e * c) z

    total-stage-back : (n i : ℕ) (b : Factors A) → i ≤ n → total f (for_down n (n - i + 1) (λ j. Et j (b (i + j - n) j) ∷ [])) ≡ e * i
    unfolding total
    total-stage-back n i b l =
        let z : suc n - (n - i + 1) ≡ i = omega arith in
        total-descending n (suc n - (n - i + 1)) (λ j. Et j (b (i + j - n) j) ∷ []) (λ j. omega (arith, (moving j (b (i + j - n) j)).1))
        ∙ ap (λ (c : ℕ). e * c) z

    word_total : (n : ℕ) (b : Factors A) → 1 ≤ n → total f (word n b) ≡ e * (n * n - n) + d
    unfolding word total
    word_total n b l =
        let U : ℕ → Word A = λ i. for_up (n - i + 1) n (λ j. E j (b j (i + j - n)) ∷ []) in
        let L : ℕ → Word A = λ i. for_down n (n - i + 1) (λ j. Et j (b (i + j - n) j) ∷ []) in
        let z : suc (n - 1) - 1 ≡ n - 1 = omega arith in
        let s : 2 * total f (ascending 1 (n - 1) U) + e * (n - 1) ≡ e * (n - 1) * (2 * 1 + (n - 1)) =
        sum-ascending 1 (n - 1) U (λ i x y. total-stage n i b (omega arith)) in
        let t : 2 * total f (descending (n - 1) (n - 1) L) ≡ e * (n - 1) * ((n - 1) + 1) =
        sum-descending (n - 1) L (λ i x. total-stage-back n i b (omega arith)) in
        total-append (ascending 1 (suc (n - 1) - 1) U) (D (λ i. b i i) ∷ descending (n - 1) (suc (n - 1) - 1) L)
        ∙ ap₂ (λ (m x : ℕ). total f (ascending 1 m U) + (x + total f (descending (n - 1) m L))) z (scaling (λ i. b i i)).0
        ∙ halves e d (total f (ascending 1 (n - 1) U)) (total f (descending (n - 1) (n - 1) L)) (n - 1) n (omega arith) s t

    inverse-letter : (l : Letter A) → f (inverse_letter l) ≡ f l
    inverse-letter (E j w) = refl
    inverse-letter (Et j w) = refl
    inverse-letter (D g) = (scaling g).1 ∙ sym (scaling g).0
    inverse-letter (Dinv g) = (scaling g).0 ∙ sym (scaling g).1

    inverse-total : (W : Word A) → total f (inverse_word W) ≡ total f W
    unfolding inverse_word total
    inverse-total [] = refl
    inverse-total (l ∷ W) = total-append (inverse_word W) (inverse_letter l ∷ []) ∙ omega (arith, inverse-total W, inverse-letter l)

    converse-letter : (n : ℕ) (l : Letter A) → f (converse_letter n l) ≡ f l
    converse-letter n (E j w) = (moving (n + 2 - j) w).1 ∙ sym (moving j w).0
    converse-letter n (Et j w) = (moving (n + 2 - j) w).0 ∙ sym (moving j w).1
    converse-letter n (D g) = (scaling (λ i. g (n + 1 - i))).0 ∙ sym (scaling g).0
    converse-letter n (Dinv g) = (scaling (λ i. g (n + 1 - i))).1 ∙ sym (scaling g).1

    converse-total : (n : ℕ) (W : Word A) → total f (converse_word n W) ≡ total f W
    unfolding converse_word total
    converse-total n [] = refl
    converse-total n (l ∷ W) = omega (arith, converse-total n W, converse-letter n l)

    transposed-letter : (l : Letter A) → f (transposed_letter l) ≡ f l
    transposed-letter (E j w) = (moving j w).1 ∙ sym (moving j w).0
    transposed-letter (Et j w) = (moving j w).0 ∙ sym (moving j w).1
    transposed-letter (D g) = refl
    transposed-letter (Dinv g) = refl

    transposed-total : (W : Word A) → total f (transposed_word W) ≡ total f W
    unfolding transposed_word total
    transposed-total [] = refl
    transposed-total (l ∷ W) = total-append (transposed_word W) (transposed_letter l ∷ []) ∙ omega (arith, transposed-total W, transposed-letter l)

    step-total : (n : ℕ) (s : Step A) → 1 ≤ n → total f (step_word n s) ≡ e * (n * n - n) + d
    step-total n (step plain b) l = word_total n b l
    step-total n (step inverted b) l = inverse-total (word n b) ∙ word_total n b l
    step-total n (step conversed b) l = converse-total n (word n b) ∙ word_total n b l
    step-total n (step transposed b) l = transposed-total (word n b) ∙ word_total n b l

    joined-total : (n : ℕ) (L : List (Step A)) → 1 ≤ n → total f (joined_word n L) ≡ length L * (e * (n * n - n) + d)
    unfolding joined_word total
    joined-total n [] l = omega arith
    joined-total n (s ∷ []) l = step-total n s l ∙ omega arith
    joined-total n (s ∷ t ∷ L) l =
        total-append (step_word n s) (joined_word n (t ∷ L)) ∙ ap₂ ◌+◌ (step-total n s l) (joined-total n (t ∷ L) l) ∙ more (suc (length L)) (e * (n * n - n) + d)
      where
        more : (m y : ℕ) → y + m * y ≡ suc m * y
        more m y = omega arith

-- the costs of joined words
pub joined-cost : {A : Type 0} (a d n : ℕ) (L : List (Step A)) → 1 ≤ n → total (letter_cost a d) (joined_word n L) ≡ length L * (a * (n * n - n) + d)
joined-cost a d n L l = joined-total (letter_cost a d) a d (λ j w. (refl, refl)) (λ g. (refl, refl)) n L l

pub word-cost : {A : Type 0} (a d n : ℕ) (b : Factors A) → 1 ≤ n → total (letter_cost a d) (word n b) ≡ a * (n * n - n) + d
word-cost a d n b l = word_total (letter_cost a d) a d (λ j w. (refl, refl)) (λ g. (refl, refl)) n b l

-- n rows are at most n² cells
pub row-square : (n : ℕ) → 1 ≤ n → n ≤ n * n
row-square n l = let h : 1 * n ≤ n * n = mul-le-mul l (let z : n ≤ n = omega arith in z) in omega arith

pub joined-square : {A : Type 0} (k n : ℕ) (L : List (Step A)) → 1 ≤ n → total (letter_cost k (n * k)) (joined_word n L) ≡ k * (length L * (n * n))
joined-square k n L l = joined-cost k (n * k) n L l ∙ ap (λ (z : ℕ). length L * z) one ∙ turned k (length L) (n * n)
  where
    part : (k n z : ℕ) → k * z + n * k ≡ k * (z + n)
    part k n z = omega arith

    one : k * (n * n - n) + n * k ≡ k * (n * n)
    one = part k n (n * n - n) ∙ ap (λ (z : ℕ). k * z) (let e : n * n - n + n ≡ n * n = omega (arith, row-square n l) in e)

    turned : (k m z : ℕ) → m * (k * z) ≡ k * (m * z)
    turned k m z = omega arith
