-- `item_of` meets its contract: by its patterns.
use mathlib.Core.Path.{sym, ap, ◌∙◌}
use native.Mathlib.Omega.{arith}
use Rattle.std.specs.Prelude.{Some}
use Rattle.std.proofs.lemmas.Int.{ints}
use mir.Facts.{to_z-of_z}
use Rattle.number.proofs.Integers.{below-zero}
use Rattle.items.proofs.ItemForms.{item-zero, item-stored}
use Rattle.items.proofs.item_of.Goals as goal

pub returns-in-0-eq0-eq0 : goal.returns-in-0-eq0-eq0
returns-in-0-eq0-eq0 c =
    ap Some c.zero.ensures ∙ sym (item-zero c.args.s c.args.m c.args.e (omega (arith, ints)) (omega (arith, ints)) (omega (arith, ints)))

pub returns-in-minus1-2147483648-to-4294967295-minus1000-to-1000 : goal.returns-in-minus1-2147483648-to-4294967295-minus1000-to-1000
returns-in-minus1-2147483648-to-4294967295-minus1000-to-1000 c =
    rw (c.biased.ensures, to_z-of_z c.ranges.s, to_z-of_z c.ranges.m, to_z-of_z c.ranges.e, below-zero c.args.s)
    (sym (item-stored c.args.s c.args.m c.args.e (omega (arith, ints)) (omega (arith, ints)) (omega (arith, ints)) (omega (arith, ints))))
