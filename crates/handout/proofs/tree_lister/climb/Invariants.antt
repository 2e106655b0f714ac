-- `handout::tree_lister::climb` meets its contract: the loop's invariant is `OnWay`. The measure is the context of the nonterminal,
-- which falls from each to the left side of its context rule. Assumes nothing.
use Rattle.entries.specs.Table.{context_in}
use Rattle.handout.proofs.PathSteps.{OnWay}
use Rattle.handout.proofs.tree_lister.climb.Given as goal

abbrev pub invariant-loop-a : goal.invariant-loop-a
invariant-loop-a l = OnWay l.tabled l.from l.path l.a l.steps

abbrev pub decreases-loop-a : goal.decreases-loop-a
decreases-loop-a l = context_in l.tabled.table.now l.a
