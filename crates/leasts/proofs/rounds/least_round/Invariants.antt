-- `leasts::rounds::least_round` meets its contract: the loop's invariant is `SoFar`. Assumes nothing.
use Rattle.leasts.proofs.RoundSoFar.{SoFar}
use Rattle.leasts.proofs.rounds.least_round.Given as goal

abbrev pub invariant-loop-i : goal.invariant-loop-i
invariant-loop-i l = SoFar l.chains.reading.now l.up l.i l.initial.leasts l.leasts l.fell
