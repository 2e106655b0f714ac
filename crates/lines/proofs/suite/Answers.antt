-- `lines::suite` meets its contract: its parts are written one after the other. Assumes nothing.
use Rattle.lines.specs.Lines.{suite_line, spaced}
use Rattle.lines.proofs.WrittenInRoom.{nothing, and_then}
use Rattle.lines.proofs.suite.Goals as goal

pub returns : goal.returns
unfolding suite_line spaced
returns c =
    let numbers =
    and_then c.number-first.ensures (and_then c.number-second.ensures (and_then c.number-third.ensures (nothing _ _))) in
    and_then (and_then c.word-worded.ensures numbers) c.put.ensures
