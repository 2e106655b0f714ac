-- `lines::word` meets its contract. The loop's invariant: the octets so far are written. Assumes nothing.
use Rattle.std.proofs.Common.{take}
use Rattle.lines.specs.Room.{LineWritten}
use Rattle.lines.proofs.word.Given as goal

abbrev pub invariant-loop-octet : goal.invariant-loop-octet
invariant-loop-octet l = LineWritten (take l.octet-index l.octets) l.initial.text l.at l.text l.past
