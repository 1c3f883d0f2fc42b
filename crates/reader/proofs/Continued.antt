-- FACTORS ROW BY ROW, each behind those in front of it (`Next`, `NextCode`, `code-taken`, `code-only`). Where the one just before another in its line stands
-- (`before-below`, `before_above`). A list of which each may follow those in front of it (`Continued`) is the factors of a matrix that can be stored
-- (`storable-continued`, `continued-banded`).
use Prim.Native.Nat.{ℕ, zero, suc, ◌+◌, ◌-◌, ◌*◌, ◌/◌, ◌%◌, ◌<◌, ◌≤◌}
use native.Mathlib.Nat.{div-add-mod', mod-lt, mul-le-mul_right}
use native.Mathlib.Decide.{dec_lt}
use native.Mathlib.Omega.{arith}
use mathlib.Core.Path.{◌≡◌, sym, ap, subst, ◌∙◌}
use mathlib.Core.List.{List, [], ◌∷◌, ◌++◌, append_assoc, append-nil}
use lib.ListN.{length, get_or, take}
use lib.Seq.{length-take-le, get_or-take}
use Rattle.number.specs.declared.Number.{Number}
use Rattle.number.specs.Number.{zero_number}
use Rattle.number.proofs.Tests.{quotient-of, remainder_of}
use Rattle.words.specs.RowSet.{In}
use Rattle.words.specs.Sources.{BandedNumbers}
use Rattle.table.specs.Table.{square_of}
use Rattle.table.proofs.RowByRow.{row_below, square-below}
use Rattle.table.proofs.Square.{square-number}
use Rattle.writer.specs.Encoding.{Storable}
use Rattle.std.specs.Prelude.{Ok}
use Rattle.reader.specs.Matrix.{before_in_line, judged_code}
use Rattle.reader.proofs.Pattern.{just-above, just-left, Follows, banded-follows, follows-banded, Taken, judged-taken, judged-only, follows_same}

-- the numbers of the factor above that in row q + 1 and column r + 1, and of the one left of it
less-row : (q n r : ℕ) → 0 < q → (suc q - 1 - 1) * n + (suc r - 1) ≡ q * n + r - n
less-row zero n r h = absurd (omega arith)
less-row (suc q) n r h =
    let e : suc (suc q) - 1 - 1 ≡ q = omega arith in
    rw e (omega arith)

less-column : (q n r : ℕ) → 0 < r → (suc q - 1) * n + (suc r - 1 - 1) ≡ q * n + r - 1
less-column q n r h =
    let e : suc q - 1 ≡ q = omega arith in
    rw e (omega arith)

-- number k, counted from 0, has others above it, or left of it
module _ (n k : ℕ) where
  pub row-above : k % n < k / n → n ≤ k
  row-above h =
      let one : 1 ≤ k / n = omega arith in
      omega (arith, mul-le-mul_right n one, div-add-mod' k n)

  pub column-left : k / n < k % n → 1 ≤ k
  column-left h = omega (arith, div-add-mod' k n)

-- where the factor just before it stands
module _ (n k : ℕ) (L : List Number) where
  pub before-below : k % n < k / n → before_in_line (square_of n L) (suc (k / n)) (suc (k % n)) ≡ get_or L (k - n) zero_number
  unfolding square_of
  before-below h =
      just-above (square_of n L) (suc (k / n)) (suc (k % n)) (omega arith)
      ∙ ap (λ (i : ℕ). get_or L i zero_number) (less-row (k / n) n (k % n) (omega arith) ∙ ap (λ (x : ℕ). x - n) (div-add-mod' k n))

  pub before_above : k / n < k % n → before_in_line (square_of n L) (suc (k / n)) (suc (k % n)) ≡ get_or L (k - 1) zero_number
  unfolding square_of
  before_above h =
      just-left (square_of n L) (suc (k / n)) (suc (k % n)) (omega arith)
      ∙ ap (λ (i : ℕ). get_or L i zero_number) (less-column (k / n) n (k % n) (omega arith) ∙ ap (λ (x : ℕ). x - 1) (div-add-mod' k n))

module _ (n : ℕ) where
  -- a number may be the next factor behind those before it, and a code the next one
  abbrev pub Next : List Number → Number → Type 0
  Next before a = Follows (square_of n before) (suc (length before / n)) (suc (length before % n)) a

  abbrev pub NextCode : List Number → ℕ → Type 0
  NextCode before code = Taken (square_of n before) (suc (length before / n)) (suc (length before % n)) code

  pub code-taken : (before : List Number) (code : ℕ) → NextCode before code → judged_code n before code ≡ Ok tt
  unfolding judged_code
  code-taken before code t = judged-taken _ _ _ code t

  pub code-only : (before : List Number) (code : ℕ) → judged_code n before code ≡ Ok tt → NextCode before code
  unfolding judged_code
  code-only before code f = judged-only _ _ _ code f

  -- each of a list may follow those in front of it
  abbrev pub Continued : (before L : List Number) → Type 0
  Continued before [] = Unit {0}
  Continued before (a ∷ L) = Next before a × Continued (before ++ (a ∷ [])) L

  -- the one just before another is one of those in front
  before-front : 0 < n → (k : ℕ) (L : List Number) → (suc (k / n) ≡ suc (k % n) → ⊥)
      → before_in_line (square_of n (take k L)) (suc (k / n)) (suc (k % n)) ≡ before_in_line (square_of n L) (suc (k / n)) (suc (k % n))
  before-front some k L off =
      elim (dec_lt (k % n) (k / n)) [
        | yes h ↦
            before-below n k (take k L) h
            ∙ get_or-take k L (k - n) zero_number (omega (arith, row-above n k h))
            ∙ sym (before-below n k L h)
        | no h ↦
            let g : k / n < k % n = unequal (k / n) (k % n) off h in
            before_above n k (take k L) g
            ∙ get_or-take k L (k - 1) zero_number (omega (arith, column-left n k g))
            ∙ sym (before_above n k L g)
      ]
    where
      unequal : (q r : ℕ) → (suc q ≡ suc r → ⊥) → (r < q → ⊥) → q < r
      unequal q r h g = omega arith

  continued-list : (L before : List Number) → ((k : ℕ) → k < length L → Next (before ++ take k L) (get_or L k zero_number)) → Continued before L
  continued-list [] before h = tt
  continued-list (a ∷ L) before h = (
    subst (λ l. Next l a) (append-nil before) (h 0 (omega arith)),
    continued-list L (before ++ (a ∷ []))
        (λ k l. subst (λ u. Next u (get_or L k zero_number)) (sym (append_assoc before (a ∷ []) (take k L))) (h (suc k) (omega arith))),
  )

  -- and one more
  pub continued-more : (L before : List Number) (a : Number) → Continued before L → Next (before ++ L) a → Continued before (L ++ (a ∷ []))
  continued-more [] before a c h = (subst (λ l. Next l a) (append-nil before) h, tt)
  continued-more (x ∷ L) before a c h =
      (c.0, continued-more L (before ++ (x ∷ [])) a c.1 (subst (λ l. Next l a) (sym (append_assoc before (x ∷ []) L)) h))

  continued-at : (L before : List Number) → Continued before L → (k : ℕ) → k < length L → Next (before ++ take k L) (get_or L k zero_number)
  continued-at [] before h k l = absurd (omega arith)
  continued-at (a ∷ L) before h zero l = subst (λ l. Next l a) (sym (append-nil before)) h.0
  continued-at (a ∷ L) before h (suc k) l =
      subst (λ u. Next u (get_or L k zero_number)) (append_assoc before (a ∷ []) (take k L)) (continued-at L (before ++ (a ∷ [])) h.1 k (omega arith))

  -- number k behind those in front of it is number k of all
  module _ (some : 0 < n) (L : List Number) (k : ℕ) (h : k < length L) (a : Number) where
    number-next : Follows (square_of n L) (suc (k / n)) (suc (k % n)) a → Next (take k L) a
    number-next f =
        rw (length-take-le k L (omega arith))
        (follows_same (square_of n L) (square_of n (take k L)) (suc (k / n)) (suc (k % n)) a (λ e. sym (before-front some k L e)) f)

    next-number : Next (take k L) a → Follows (square_of n L) (suc (k / n)) (suc (k % n)) a
    next-number f =
        follows_same (square_of n (take k L)) (square_of n L) (suc (k / n)) (suc (k % n)) a (before-front some k L) (rw (length-take-le k L (omega arith)) at f)

  pub storable-continued : (L : List Number) → Storable n L → Continued [] L
  storable-continued L w =
      continued-list L []
      (λ k l.
      let m : k < n * n = omega (arith, w.square) in
      number-next w.some L k l (get_or L k zero_number)
      (subst (Follows (square_of n L) (suc (k / n)) (suc (k % n))) (square-number n L k)
      (banded-follows (square_of n L) n w.banded (suc (k / n)) (suc (k % n)) (omega arith, row_below n k m) (omega arith, mod-lt k w.some))))

  -- each of them follows those before it in its line
  pub continued-follows : 0 < n → (L : List Number) → Continued [] L → (i j : ℕ) → 1 ≤ i → In n j → (i - 1) * n + (j - 1) < length L
      → Follows (square_of n L) i j (square_of n L i j)
  unfolding square_of
  continued-follows some L c i j low y l =
      let k : ℕ = (i - 1) * n + (j - 1) in
      let r : suc (k / n) ≡ i = omega (arith, quotient-of n (i - 1) (j - 1) (omega arith)) in
      let s : suc (k % n) ≡ j = omega (arith, remainder_of n (i - 1) (j - 1) (omega arith)) in
      subst (λ q. Follows (square_of n L) q j (square_of n L i j)) r
      (subst (λ q. Follows (square_of n L) (suc (k / n)) q (square_of n L i j)) s (next-number some L k l (square_of n L i j) (continued-at L [] c k l)))

  pub continued-banded : 0 < n → (L : List Number) → length L ≡ n * n → Continued [] L → BandedNumbers n (square_of n L)
  continued-banded some L square c =
      follows-banded (square_of n L) n
      (λ i j x y.
      continued-follows some L c i j x.0 y (omega (arith, square, square-below n (i - 1) (j - 1) (omega arith) (omega arith))))
