-- `tables::contexts::contexts_of` meets its contract: what is known of the contexts stays known. The measure is the sum of the
-- figures: a round takes from it at least what it counts. Assumes nothing.
use Rattle.figures.specs.Weights.{weight}
use Rattle.tables.specs.ContextFigures.{Grown}
use Rattle.tables.specs.ContextSteps.{KnownOf}
use Rattle.tables.proofs.contexts.contexts_of.Given as goal

abbrev pub invariant-loop-chains : goal.invariant-loop-chains
invariant-loop-chains l = (grown : Grown l.fn.found) → KnownOf grown l.contexts

abbrev pub decreases-loop-chains : goal.decreases-loop-chains
decreases-loop-chains l = weight l.contexts.figures
