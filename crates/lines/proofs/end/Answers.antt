-- `lines::end` meets its contract: its parts are written one after the other. Assumes nothing.
use Rattle.lines.specs.Lines.{end_line, spaced}
use Rattle.lines.proofs.WrittenInRoom.{nothing, and_then}
use Rattle.lines.proofs.end.Goals as goal

pub returns : goal.returns
unfolding end_line spaced
returns c = and_then (and_then c.word-worded.ensures (and_then c.number-first.ensures (nothing _ _))) c.put.ensures
