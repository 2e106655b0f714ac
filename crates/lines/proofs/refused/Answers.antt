-- `lines::refused` meets its contract: its parts are written one after the other. Assumes nothing.
use Rattle.lines.specs.Lines.{refused_line, spaced}
use Rattle.lines.proofs.WrittenInRoom.{nothing, and_then}
use Rattle.lines.proofs.refused.Goals as goal

pub returns : goal.returns
unfolding refused_line spaced
returns c =
    let number = rw c.from.ensures at c.number-first.ensures in
    let numbers = and_then number (and_then c.number-second.ensures (nothing _ _)) in
    and_then (and_then c.word-worded.ensures numbers) c.put.ensures
