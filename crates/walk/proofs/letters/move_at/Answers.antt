-- `move_at` meets its contract: each way by the plain word.
use mathlib.Core.Path.{◌≡◌, sym, ap, ap₂, ◌∙◌, subst}
use Prim.Native.Nat.{ℕ, ◌+◌, ◌-◌, ◌*◌, ◌≤◌, ◌<◌}
use native.Mathlib.Omega.{arith}
use Rattle.walk.specs.declared.Way.{Way}
use Rattle.walk.specs.declared.Way.TheVariants.{Plain}
use Rattle.walk.specs.declared.letters.Move.{Move}
use Rattle.walk.specs.Letters.{middle, move_at, MoveWithin}
use Rattle.walk.proofs.Spelling.{mirrored, crossed, move-within, inverse-move, converse-move, transpose-move}
use borrow.Author.Rules.{rules}
use Rattle.walk.proofs.letters.move_at.Goals as goal

-- a letter lies within
within : (n : ℕ) (way : Way) (t : ℕ) (m : Move) → m ≡ move_at n way t → 1 ≤ n → n ≤ 8 → t < 2 * middle n + 1 → (t ≡ middle n → ⊥) → MoveWithin n m
within n way t m q ln hn l e = subst (MoveWithin n) (sym q) (move-within n way ln hn t l e)

pub overflow_sub-result : goal.overflow_sub-result
overflow_sub-result c = omega (arith, (within _ _ _ _ c.plain_at-mirrored.ensures (search rules) (search rules) (search rules) (search rules)).rows.to_high)

pub overflow_sub-result-in-Conversed : goal.overflow_sub-result-in-Conversed
overflow_sub-result-in-Conversed c = omega
    (arith, (within _ _ _ _ c.plain_at-mirrored.ensures (search rules) (search rules) (search rules) (search rules)).rows.from-high)

-- the letter is the one asked for, so it lies within
answered : (n : ℕ) (way : Way) (t : ℕ) (m : Move) → 1 ≤ n → n ≤ 8 → t < 2 * middle n + 1 → (t ≡ middle n → ⊥) → m ≡ move_at n way t
    → (m ≡ move_at n way t) × MoveWithin n m
answered n way t m ln hn l e q = (q, within n way t m q ln hn l e)

pub returns-in-Plain : goal.returns-in-Plain
returns-in-Plain c =
    let a = c.args in
    record {
      value = (answered a.n a.way a.t _ (search rules) (search rules) (search rules) c.requires.3
          (c.plain_at.ensures ∙ ap (λ (w : Way). move_at a.n w a.t) (sym c.in-Plain.is))).0;
      move_within = (answered a.n a.way a.t _ (search rules) (search rules) (search rules) c.requires.3
          (c.plain_at.ensures ∙ ap (λ (w : Way). move_at a.n w a.t) (sym c.in-Plain.is))).1;
    }

pub returns-in-Inverted : goal.returns-in-Inverted
returns-in-Inverted c =
    let a = c.args in
    let q = ap (λ (h : ℕ). move_at a.n Plain (2 * h - a.t)) c.middle.ensures.value in
    record {
      value = (answered a.n a.way a.t _ (search rules) (search rules) (search rules) c.requires.3
          (c.plain_at-in-Inverted.ensures ∙ q ∙ sym (inverse-move a.n (search rules) (search rules) a.t (search rules) c.requires.3)
          ∙ ap (λ (w : Way). move_at a.n w a.t) (sym c.in-Inverted.is))).0;
      move_within = (answered a.n a.way a.t _ (search rules) (search rules) (search rules) c.requires.3
          (c.plain_at-in-Inverted.ensures ∙ q ∙ sym (inverse-move a.n (search rules) (search rules) a.t (search rules) c.requires.3)
          ∙ ap (λ (w : Way). move_at a.n w a.t) (sym c.in-Inverted.is))).1;
    }

pub returns-in-Conversed : goal.returns-in-Conversed
returns-in-Conversed c =
    let a = c.args in
    record {
      value = (answered a.n a.way a.t _ (search rules) (search rules) (search rules) c.requires.3
          (ap (mirrored a.n) c.plain_at-mirrored.ensures ∙ sym (converse-move a.n (search rules) (search rules) a.t (search rules) c.requires.3)
          ∙ ap (λ (w : Way). move_at a.n w a.t) (sym c.in-Conversed.is))).0;
      move_within = (answered a.n a.way a.t _ (search rules) (search rules) (search rules) c.requires.3
          (ap (mirrored a.n) c.plain_at-mirrored.ensures ∙ sym (converse-move a.n (search rules) (search rules) a.t (search rules) c.requires.3)
          ∙ ap (λ (w : Way). move_at a.n w a.t) (sym c.in-Conversed.is))).1;
    }

pub returns-in-Transposed : goal.returns-in-Transposed
returns-in-Transposed c =
    let a = c.args in
    let q = ap (λ (h : ℕ). move_at a.n Plain (2 * h - a.t)) c.middle.ensures.value in
    record {
      value = (answered a.n a.way a.t _ (search rules) (search rules) (search rules) c.requires.3
          (ap₂ crossed c.plain_at-m.ensures (c.plain_at-f.ensures ∙ q)
          ∙ sym (transpose-move a.n (search rules) (search rules) a.t (search rules) c.requires.3)
          ∙ ap (λ (w : Way). move_at a.n w a.t) (sym c.in-Transposed.is))).0;
      move_within = (answered a.n a.way a.t _ (search rules) (search rules) (search rules) c.requires.3
          (ap₂ crossed c.plain_at-m.ensures (c.plain_at-f.ensures ∙ q)
          ∙ sym (transpose-move a.n (search rules) (search rules) a.t (search rules) c.requires.3)
          ∙ ap (λ (w : Way). move_at a.n w a.t) (sym c.in-Transposed.is))).1;
    }
