-- `leasts::rounds::least_turn` meets its contract: the loop's invariant is `Followed`, and the rule that is next is of the same
-- reading. The measure is the sum of the figures, which falls with each rule but the last. Assumes nothing.
use mathlib.Core.Path.{◌≡◌}
use Rattle.std.specs.Option.{ForSome}
use Rattle.figures.specs.Weights.{weight}
use Rattle.leasts.proofs.LeastTurns.{Followed}
use Rattle.leasts.proofs.rounds.least_turn.Given as goal

abbrev pub invariant-loop-next : goal.invariant-loop-next
invariant-loop-next l =
    ForSome l.next (λ rule. rule.reading ≡ l.chains.reading) × Followed l.chains.reading.now l.fn.leasts l.leasts

abbrev pub decreases-loop-next : goal.decreases-loop-next
decreases-loop-next l = weight l.leasts
