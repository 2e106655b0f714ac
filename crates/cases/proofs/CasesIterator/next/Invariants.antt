-- `next` ends: at each line without a case less is left to read. Assumes nothing.
use Rattle.std.proofs.Common.{◌≤◌, length}
use Rattle.cases.proofs.CasesIterator.next.Given as goal

abbrev pub invariant-loop-case : goal.invariant-loop-case
invariant-loop-case l = length l.self.rest.now ≤ length l.initial.self.rest.now

abbrev pub decreases-loop-case : goal.decreases-loop-case
decreases-loop-case l = length l.self.rest.now
