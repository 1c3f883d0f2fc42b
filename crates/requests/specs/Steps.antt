-- The steps of a recipe, `P,WAY` each, as codes (`spelled_step`).
use Rattle.std.specs.Prelude.{ℕ, ◌-◌, ◌^◌, cond, List, Option, Some, None}
use Rattle.walk.specs.declared.Way.{Way}
use Rattle.walk.specs.declared.Way.TheVariants.{Plain, Inverted, Conversed, Transposed}
use Rattle.recipes.specs.Codes.{step_code}
use Rattle.lines.specs.Ascii.{ascii}
use Rattle.lines.specs.Decimal.{spelled_whole}
use Rattle.lines.specs.Words.{before, same}
use Rattle.requests.specs.Items.{behind_comma}

unfoldable pub spelled_way : List ℕ → Option Way
spelled_way w =
    cond (same w (ascii "plain")) (Some Plain)
    (cond (same w (ascii "inverse")) (Some Inverted)
    (cond (same w (ascii "converse")) (Some Conversed) (cond (same w (ascii "transpose")) (Some Transposed) None)))

abbrev pub code_by : Option ℕ → Option Way → Option ℕ
code_by (Some p) (Some w) = Some (step_code w p)
code_by (Some p) None = None
code_by None w = None

-- the place before the first comma, and the way behind it
unfoldable pub spelled_step : List ℕ → Option ℕ
spelled_step w = code_by (spelled_whole (before 44 w) (2 ^ 32 - 1)) (spelled_way (behind_comma w))
