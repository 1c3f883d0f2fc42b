-- `middle` meets its contract: n (n - 1) / 2, at most 28 for eight rows (middle-few).
use mathlib.Core.Path.{refl}
use native.Mathlib.Omega.{arith}
use Rattle.walk.proofs.Spelling.{middle-few}
use borrow.Author.Rules.{rules}
use Rattle.walk.proofs.letters.middle.Goals as goal

pub overflow_mul-result : goal.overflow_mul-result
overflow_mul-result c = omega (arith, middle-few c.args.n (search rules))

pub returns : goal.returns
returns c = record { value = refl; upper_bound = omega (arith, middle-few c.args.n (search rules)) }
