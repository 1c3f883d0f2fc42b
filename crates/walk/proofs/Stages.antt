-- The letters of the first half of a plain word and their counterparts in the second half (lower-at, upper-at), by the stage of a letter; one computed test
-- for the numbers on the way (Stage, stage_at).
use mathlib.Core.Path.{◌≡◌, ap, ◌∙◌}
use mathlib.Core.Bool.{Bool, ◌&&◌}
use Prim.Native.Nat.{ℕ, ◌+◌, ◌-◌, ◌*◌, ◌/◌, ◌≤◌, ◌<◌}
use native.Mathlib.Omega.{arith}
use borrow.Author.Tests.{lt-ltb, le-ltb}
use lib.Dec.{T, leb, ltb, leb→le}
use Rattle.rowset.proofs.Finite.{and_left, and_right, implies, implies-at, all₂, all₂-at}
use Rattle.walk.specs.declared.Way.TheVariants.{Plain}
use Rattle.walk.specs.Letters.{middle, move_at}
use Rattle.walk.proofs.Spelling.{staged, stage_of, column_of, row_of, lower_move, upper_move, half_move, plain_move, move_by, move-by}

-- what the code's steps from a letter's number to its row and column ask
pub record Stage (n t i : ℕ) : Type 0 where
  pub low : 1 ≤ i
  pub high : i ≤ 7
  pub start : i * (i - 1) / 2 ≤ t
  pub short : column_of t i ≤ 7
  pub row_low : 2 + i ≤ n + column_of t i
  pub row-high : row_of n t i ≤ 8

stages : ℕ → ℕ → Bool
stages n t =
    let i = stage_of t in
    implies (ltb t (middle n))
    ((leb 1 i && (leb i 7 && leb (i * (i - 1) / 2) t)) && (leb (column_of t i) 7 && (leb (2 + i) (n + column_of t i) && leb (row_of n t i) 8)))

stages-all : T (all₂ 9 28 stages)
unfolding stages staged
stages-all = tt

module _ (n t : ℕ) (ln : 1 ≤ n) (hn : n ≤ 8) (l : t < middle n) where
  pub stage_at : t < 28 → Stage n t (stage_of t)
  unfolding stages
  stage_at h =
      let i : ℕ = stage_of t in
      let T' = implies-at (ltb t (middle n)) _ (all₂-at 9 28 stages stages-all n t (omega arith) h) (lt-ltb t (middle n) l) in
      let p = and_left (leb 1 i && (leb i 7 && leb (i * (i - 1) / 2) t)) _ T' in
      let q =
      and_right (leb 1 i && (leb i 7 && leb (i * (i - 1) / 2) t)) (leb (column_of t i) 7 && (leb (2 + i) (n + column_of t i) && leb (row_of n t i) 8)) T' in
      let p' = and_right (leb 1 i) (leb i 7 && leb (i * (i - 1) / 2) t) p in
      let q' = and_right (leb (column_of t i) 7) (leb (2 + i) (n + column_of t i) && leb (row_of n t i) 8) q in
      record {
        low = leb→le _ _ (and_left (leb 1 i) _ p);
        high = leb→le _ _ (and_left (leb i 7) _ p');
        start = leb→le _ _ (and_right (leb i 7) _ p');
        short = leb→le _ _ (and_left (leb (column_of t i) 7) _ q);
        row_low = leb→le _ _ (and_left (leb (2 + i) (n + column_of t i)) _ q');
        row-high = leb→le _ _ (and_right (leb (2 + i) (n + column_of t i)) _ q');
      }

  pub lower-at : move_at n Plain t ≡ lower_move (row_of n t (stage_of t)) (column_of t (stage_of t))
  unfolding move_by plain_move
  lower-at = move-by n Plain ln hn t (omega arith) (λ e. omega arith) ∙ ap (λ (b : Bool). half_move b n t) (lt-ltb t (middle n) l)

  pub upper-at : move_at n Plain (2 * middle n - t) ≡ upper_move (row_of n t (stage_of t)) (column_of t (stage_of t))
  unfolding move_by plain_move
  upper-at =
      let u : ℕ = 2 * middle n - t in
      let e : 2 * middle n - u ≡ t = omega arith in
      move-by n Plain ln hn u (omega arith) (λ e. omega arith) ∙ ap (λ (b : Bool). half_move b n u) (le-ltb u (middle n) (omega arith))
      ∙ ap (λ (k : ℕ). upper_move (row_of n k (stage_of k)) (column_of k (stage_of k))) e
