-- `requests::request::start` meets its contract.
use Rattle.requests.proofs.request.start.Goals as goal

pub returns-in-Foretold : goal.returns-in-Foretold
returns-in-Foretold c = rw c.in-Foretold.is c.next_word.ensures
