-- The invariant in `requests::request::read_numbers`: the numbers of the letters passed are read.
use Rattle.requests.proofs.Numbers.{Numbered}
use Rattle.requests.proofs.request.read_numbers.Given as goal

abbrev pub invariant-loop-k : goal.invariant-loop-k
invariant-loop-k l = Numbered l.line l.letters l.at l.values l.next l.k
