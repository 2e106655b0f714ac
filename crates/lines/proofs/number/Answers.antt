-- `lines::number` meets its contract. Assumes nothing.
use Rattle.lines.proofs.WrittenInRoom.{and_then}
use Rattle.lines.proofs.number.Goals as goal

pub returns : goal.returns
returns c = and_then c.put-past.ensures c.digits.ensures
