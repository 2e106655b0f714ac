-- `lines::counted` meets its contract: its parts are written one after the other. Assumes nothing.
use Rattle.lines.specs.Lines.{spaced}
use Rattle.lines.proofs.WrittenInRoom.{and_then}
use Rattle.lines.proofs.counted.Goals as goal

pub returns : goal.returns
unfolding spaced
returns c = and_then c.number-past.ensures c.numbers.ensures
