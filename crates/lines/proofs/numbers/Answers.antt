-- `lines::numbers` meets its contract: each turn writes one number more. Assumes nothing.
use Rattle.std.proofs.Common.{arith}
use Rattle.lines.specs.Lines.{spaced}
use Rattle.lines.proofs.WrittenInRoom.{nothing}
use Rattle.lines.proofs.NumbersSpaced.{next_number}
use Rattle.lines.proofs.numbers.Goals as goal

pub loop-n-init : goal.loop-n-init
unfolding spaced
loop-n-init c = nothing _ _

pub loop-n-preserved : goal.loop-n-preserved
loop-n-preserved c =
    let number = rw c.from.ensures at c.number-past.ensures in
    next_number c.args.list.now c.loop-n.n-index (omega arith) c.loop-n.invariant number
