-- `handout::next` meets its contract: what the words or the table are refused with, where it is not the grammar's own. Assumes nothing.
use Rattle.handout.proofs.NextOutcomes.{refuses_untabled}
use Rattle.handout.proofs.next.Goals as goal

pub returns-in_default : goal.returns-in_default
returns-in_default c = rw c.from.ensures (refuses_untabled (rw c.in_default.is at c.tested_reading.ensures) c.without_table.ensures)
