-- What a call does (`Outcome`): the shelf after it, what it returns, and what the lent bytes and items then hold. A refused call leaves shelf, bytes and items
-- as they were.
use Rattle.std.specs.Prelude.{ℕ, List, [], ℤ}
use Rattle.verdict.specs.Report.{Report}
use Rattle.places.specs.declared.Shelf.{Shelf}

pub record Outcome : Type 0 where
  pub shelf : Shelf
  pub report : Report
  pub bytes : List ℕ
  pub items : List ℤ

-- of a call that is lent nothing
abbrev pub outcome : Shelf → Report → Outcome
outcome s r = record { shelf = s; report = r; bytes = []; items = [] }
