-- The numbers of a list of whole numbers (`spelled_wholes`), one to a word: stamps, places, or the codes of steps.
use Rattle.std.specs.Prelude.{ℕ, ◌-◌, ◌^◌, List, [], ◌∷◌, Option, Some, None}
use Rattle.lines.specs.Decimal.{spelled_whole}
use Rattle.requests.specs.declared.wholes.Member.{Member}
use Rattle.requests.specs.declared.wholes.Member.TheVariants.{Stamp, Place, Step}
use Rattle.requests.specs.Lists.{spelled_list}
use Rattle.requests.specs.Steps.{spelled_step}

abbrev pub single_number : Option ℕ → Option (List ℕ)
single_number (Some n) = Some (n ∷ [])
single_number None = None

-- the number that a word spells
abbrev pub spelled_member : Member → List ℕ → Option ℕ
spelled_member Stamp w = spelled_whole w (2 ^ 64 - 1)
spelled_member Place w = spelled_whole w (2 ^ 32 - 1)
spelled_member Step w = spelled_step w

abbrev pub whole_number : Member → List ℕ → Option (List ℕ)
whole_number member w = single_number (spelled_member member w)

-- each word is such a number, and there are at most n
abbrev pub spelled_wholes : Member → ℕ → List (List ℕ) → Option (List ℕ)
spelled_wholes member n ws = spelled_list (whole_number member) n ws
