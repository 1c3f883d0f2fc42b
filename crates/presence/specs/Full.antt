-- Steps without a zero among their factors (NoZero, Full): where the code walks nothing to tell which minors are zero.
use Rattle.std.specs.Prelude.{◌≡◌, true, List, ℕ, ◌≤◌, length}
use Rattle.number.specs.declared.Number.{Number}
use Rattle.words.specs.Word.{Factors}
use Rattle.words.specs.Operation.{Step}
use Rattle.words.specs.Sources.{Each, Sources}
use Rattle.presence.specs.Presence.{nonzero}

-- no factor of n rows is zero
abbrev pub NoZero : ℕ → Factors Number → Type 0
NoZero = Each (λ a. nonzero a ≡ true)

-- one step or more, each of n rows and without a factor zero
pub record Full (n : ℕ) (L : List (Step Number)) : Type 0 where
  pub some : 1 ≤ length L
  pub factors : Sources (NoZero n) L
