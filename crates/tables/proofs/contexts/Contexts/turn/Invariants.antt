-- `tables::contexts::Contexts::turn` meets its contract: the loop's invariant is `Followed`. The measure is the sum of the figures,
-- which falls with each rule but the last. Assumes nothing.
use Rattle.figures.specs.Weights.{weight}
use Rattle.tables.proofs.ContextRounds.{Followed}
use Rattle.tables.proofs.contexts.Contexts.turn.Given as goal

abbrev pub invariant-loop-next : goal.invariant-loop-next
invariant-loop-next l = Followed l.chains.found.now l.first l.initial.self l.self l.fell l.next

abbrev pub decreases-loop-next : goal.decreases-loop-next
decreases-loop-next l = weight l.self.figures
