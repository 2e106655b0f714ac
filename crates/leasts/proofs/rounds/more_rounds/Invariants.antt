-- `leasts::rounds::more_rounds` meets its contract: after each round the leasts are `Rounded`. The measure is the sum of the
-- figures and how many fell in the last round: each round takes from the sum at least what it counts. Assumes nothing.
use Prim.Native.Nat.{◌+◌}
use Rattle.grammar.specs.Words.{Grammar}
use Rattle.layout.specs.Read.{ReadsAs}
use Rattle.figures.specs.Weights.{weight}
use Rattle.leasts.specs.LeastRounding.{Rounded}
use Rattle.leasts.proofs.rounds.more_rounds.Given as goal

abbrev pub invariant-loop-fell : goal.invariant-loop-fell
invariant-loop-fell l =
    (g : Grammar) → ReadsAs l.chains.reading.now g → Rounded g l.chains.reading.now.rules l.initial.leasts l.initial.fell →
    Rounded g l.chains.reading.now.rules l.leasts l.fell

abbrev pub decreases-loop-fell : goal.decreases-loop-fell
decreases-loop-fell l = weight l.leasts + l.fell
