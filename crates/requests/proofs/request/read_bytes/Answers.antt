-- `requests::request::read_bytes` meets its contract.
use Rattle.requests.proofs.Tails.{last-more, last-read}
use Rattle.requests.proofs.request.read_bytes.Goals as goal

pub returns-then-next_word-line : goal.returns-then-next_word-line
returns-then-next_word-line c = last-more c.args.line.now c.args.at (rw c.next_word.ensures at c.if-next_word-line.true)

pub returns : goal.returns
returns c =
    rw (c.read_bytes.ensures.value, c.read_bytes.ensures.out_after, c.word.ensures)
    (last-read c.args.line.now c.args.at (rw c.next_word.ensures at c.if-next_word-line.false) c.args.bytes.now c.requires)
