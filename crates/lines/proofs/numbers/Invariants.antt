-- `lines::numbers` meets its contract. The loop's invariant: the numbers so far are written. Assumes nothing.
use Rattle.std.proofs.Common.{take}
use Rattle.lines.specs.Lines.{spaced}
use Rattle.lines.specs.Room.{LineWritten}
use Rattle.lines.proofs.numbers.Given as goal

abbrev pub invariant-loop-n : goal.invariant-loop-n
invariant-loop-n l = LineWritten (spaced (take l.n-index l.list)) l.initial.text l.at l.text l.past
