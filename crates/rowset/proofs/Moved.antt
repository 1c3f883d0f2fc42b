-- A letter's move on masks, row o in place of row a: as many rows (replaced-count), and never a set that the same letter changes (replaced-stays).
use mathlib.Core.Path.{◌≡◌}
use mathlib.Core.Bool.{Bool, true, false, not, ◌&&◌}
use Prim.Native.Nat.{ℕ, ◌≤◌, ◌<◌}
use native.Mathlib.Omega.{arith}
use borrow.Author.Tests.{not-true}
use lib.Dec.{T, eqb, eqb→eq}
use Rattle.rowset.specs.Mask.{mask_has, mask_put, mask_replaced, mask_moves, count_to, mask_count}
use Rattle.rowset.proofs.Finite.{and_left, and_right, T_true, implies, implies-at, all₃, all₃-at}

same_count : ℕ → ℕ → ℕ → Bool
same_count s a o = eqb (mask_count (mask_replaced a o s)) (mask_count s)

stays : ℕ → ℕ → ℕ → Bool
stays s a o = not (mask_moves a o (mask_replaced a o s))

right : ℕ → ℕ → ℕ → Bool
right s a o = implies (mask_moves a o s) (same_count s a o && stays s a o)

right-all : T (all₃ 256 9 9 right)
unfolding right same_count stays mask_moves mask_replaced mask_put mask_has mask_count count_to
right-all = tt

module _ (s a o : ℕ) (b : s < 256) (la : a ≤ 8) (lo : o ≤ 8) (m : mask_moves a o s ≡ true) where
  moved : T (same_count s a o && stays s a o)
  unfolding right
  moved = implies-at _ _ (all₃-at 256 9 9 right right-all s a o b (omega arith) (omega arith)) m

  pub replaced-count : mask_count (mask_replaced a o s) ≡ mask_count s
  unfolding same_count
  replaced-count = eqb→eq _ _ (and_left (same_count s a o) (stays s a o) moved)

  pub replaced-stays : mask_moves a o (mask_replaced a o s) ≡ false
  unfolding stays
  replaced-stays = not-true _ (T_true _ (and_right (same_count s a o) (stays s a o) moved))
