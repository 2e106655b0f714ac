-- `lines::word` meets its contract: each turn writes one octet more. Assumes nothing.
use Rattle.std.proofs.Common.{arith}
use Rattle.lines.proofs.WrittenInRoom.{one_more}
use Rattle.lines.proofs.word.Goals as goal

pub loop-octet-preserved : goal.loop-octet-preserved
loop-octet-preserved c =
    one_more c.args.octets.now c.loop-octet.octet-index (omega arith) c.loop-octet.invariant c.put-past.ensures
