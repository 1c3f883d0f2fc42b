-- A DECIMAL NUMBER IN FRONT OF A TEXT that goes on with no numeral: number and text are read off in only one way (`decimal-front`), since the numerals end at
-- the first other byte and equal numerals spell equal numbers. How many numerals a number has at most (`decimal-short`, and `decimal-within` whatever it is).
use Prim.Native.Nat.{ℕ, zero, suc, ◌+◌, ◌*◌, ◌/◌, ◌%◌, ◌^◌, ◌≤◌, ◌<◌}
use native.Mathlib.Nat.{pow-succ'}
use native.Mathlib.Omega.{arith}
use mathlib.Core.Path.{◌≡◌, refl, sym, ap, ◌∙◌}
use mathlib.Core.Bool.{Bool, true, false, not, cond, true≢false, and-eq-true_iff}
use mathlib.Core.List.{List, [], ◌∷◌, ◌++◌, head-eq_of_cons-eq, tail-eq_of_cons-eq, cons-eq-cons}
use lib.Dec.{ltb}
use lib.ListN.{length, length-append}
use borrow.Author.Tests.{lt-ltb}
use Rattle.lines.specs.Decimal.{is_numeral, all_numerals, value_from}
use Rattle.lines.specs.Text.{decimal_in, decimal, signed_text}
use Rattle.lines.proofs.ReadBack.{spells-decimal}

-- no numeral stands in front
abbrev pub stops : List ℕ → Bool
stops [] = true
stops (b ∷ s) = not (is_numeral b)

numerals-first : (b : ℕ) (s : List ℕ) → all_numerals (b ∷ s) ≡ true → (is_numeral b ≡ true) × (all_numerals s ≡ true)
unfolding all_numerals
numerals-first b s h = (and-eq-true_iff (is_numeral b) (all_numerals s)).0 h

-- a text cannot both go on with a numeral and stop
clash : (b : ℕ) (s t : List ℕ) {u : List ℕ} → all_numerals (b ∷ s) ≡ true → stops u ≡ true → u ≡ b ∷ t → ⊥
clash b s t h g e = true≢false (sym g ∙ ap stops e ∙ ap not (numerals-first b s h).0)

numerals-front : (s t : List ℕ) {u v : List ℕ} → all_numerals s ≡ true → all_numerals t ≡ true → stops u ≡ true → stops v ≡ true → s ++ u ≡ t ++ v
    → (s ≡ t) × (u ≡ v)
numerals-front [] [] h g f k e = (refl, e)
numerals-front [] (b ∷ t) h g f k e = absurd (clash b t _ g f e)
numerals-front (a ∷ s) [] h g f k e = absurd (clash a s _ h k (sym e))
numerals-front (a ∷ s) (b ∷ t) h g f k e =
    let r = numerals-front s t (numerals-first a s h).1 (numerals-first b t g).1 f k (tail-eq_of_cons-eq e) in
    (cons-eq-cons.1 (head-eq_of_cons-eq e, r.0), r.1)

pub decimal-front : (m n : ℕ) {u v : List ℕ} → m < 2 ^ 64 → n < 2 ^ 64 → stops u ≡ true → stops v ≡ true → decimal m ++ u ≡ decimal n ++ v
    → (m ≡ n) × (u ≡ v)
decimal-front m n a b f g e =
    let p = spells-decimal m a in
    let q = spells-decimal n b in
    let r = numerals-front (decimal m) (decimal n) p.numerals q.numerals f g e in
    (sym p.value ∙ ap (value_from 0) r.0 ∙ q.value, r.1)

short-step : (j n : ℕ) (s : List ℕ) (t : Bool) → length s ≤ j → length (cond t ((48 + n) ∷ []) (s ++ ((48 + n % 10) ∷ []))) ≤ suc j
short-step j n s true h = omega arith
short-step j n s false h = simp length-append (omega arith)

-- a number below 10 ^ (j + 1) has at most j + 1 numerals
pub decimal-short : (j k n : ℕ) → n < 10 ^ suc j → length (decimal_in k n) ≤ suc j
unfolding decimal_in
decimal-short j zero n h = omega arith
decimal-short zero (suc k) n h = rw (lt-ltb n 10 h) (omega arith)
decimal-short (suc j) (suc k) n h =
    let u : n < 10 * 10 ^ suc j = rw pow-succ' at h in
    short-step (suc j) n (decimal_in k (n / 10)) (ltb n 10) (decimal-short j k (n / 10) (omega arith))

-- and any number at most as many as there is room for
pub decimal-within : (k n : ℕ) → length (decimal_in k n) ≤ k
unfolding decimal_in
decimal-within zero n = omega arith
decimal-within (suc k) n = short-step k n (decimal_in k (n / 10)) (ltb n 10) (decimal-within k (n / 10))

pub signed-short : (negative : Bool) (n : ℕ) → length (signed_text negative n) ≤ 21
signed-short true n = omega (arith, decimal-within 20 n)
signed-short false n = omega (arith, decimal-within 20 n)
