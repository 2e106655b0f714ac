-- `marks::first_unused` meets its contract. The loop's invariant: no mark passed is 0. Assumes nothing.
use Rattle.marks.specs.Marks.{UsedBelow}
use Rattle.marks.proofs.first_unused.Given as goal

abbrev pub invariant-loop-r : goal.invariant-loop-r
invariant-loop-r l = UsedBelow l.marks l.r
