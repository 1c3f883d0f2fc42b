-- The tables of the order hold, by computing them.
use mathlib.Core.Path.{◌≡◌, refl}
use mathlib.Core.List.{map}
use Rattle.verdict.specs.Verdict.{first_behind}
use Rattle.conditions.specs.Examples.{order_table, judged, clamp_table, clamp_judged}

pub order-examples : map judged order_table ≡ order_table
unfolding first_behind
order-examples = refl

pub clamp-examples : map clamp_judged clamp_table ≡ clamp_table
unfolding first_behind
clamp-examples = refl
