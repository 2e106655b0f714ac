-- `lines::sentence` meets its contract: its parts are written one after the other. Assumes nothing.
use Rattle.lines.specs.Lines.{sentence_line}
use Rattle.lines.proofs.WrittenInRoom.{and_then}
use Rattle.lines.proofs.sentence.Goals as goal

pub returns : goal.returns
unfolding sentence_line
returns c =
    and_then (and_then (and_then c.digits-first.ensures c.counted-second.ensures) c.counted-third.ensures) c.put.ensures
