-- `lines::put_pair` meets its contract.
use Rattle.lines.proofs.writing.put_pair.Goals as goal

pub returns : goal.returns
returns c = record { index = cc; bytes = cc }
