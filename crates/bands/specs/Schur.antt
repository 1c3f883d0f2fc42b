-- THE SCHUR COMPLEMENT (document 02, (l)) by block arithmetic, of a matrix of k + m rows over any ring.
use Rattle.std.specs.Prelude.{ℕ, ◌+◌}
use Rattle.fraction.specs.Ring.{CRing}
use Rattle.minors.specs.Matrix.{Matrix, Equal, identity, times}

module _ (K : CRing) where
  open K use {add, neg}

  -- the blocks of A behind its first k rows, behind its first k columns, and behind both. For the leading block stands A itself: no more than its first k rows
  -- and columns are looked at
  abbrev pub lower_left : ℕ → Matrix K → Matrix K
  lower_left k A i j = A (k + i) j

  abbrev pub upper_right : ℕ → Matrix K → Matrix K
  upper_right k A i j = A i (k + j)

  abbrev pub lower_right : ℕ → Matrix K → Matrix K
  lower_right k A i j = A (k + i) (k + j)

  -- the lower right block minus the lower left one times Y times the upper right one
  abbrev pub schur_by : ℕ → Matrix K → Matrix K → Matrix K
  schur_by k Y A i j = add (lower_right k A i j) (neg (times K k (times K k (lower_left k A) Y) (upper_right k A) i j))

  -- X, of m rows, is the SCHUR COMPLEMENT of the leading k rows and columns of A: the leading block has an inverse, on both sides, and X is the lower right
  -- block minus the lower left one times that inverse times the upper right one
  pub record SchurComplement (k m : ℕ) (A X : Matrix K) : Type 0 where
    pub inverse : Matrix K
    pub left : Equal K k (times K k inverse A) (identity K)
    pub right : Equal K k (times K k A inverse) (identity K)
    pub entries : Equal K m X (schur_by k inverse A)
