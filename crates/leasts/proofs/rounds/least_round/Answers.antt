-- What the check leaves of `leasts::rounds::least_round`; the argument stands in Invariants.antt. Assumes nothing.
use native.Mathlib.Omega.{arith}
use Rattle.leasts.proofs.RoundSoFar.{all_so_far}
use Rattle.leasts.proofs.rounds.least_round.Goals as goal

pub returns-clause-round : goal.returns-clause-round
returns-clause-round c = all_so_far c.args.chains.now.reading.now c.loop-i.invariant (omega arith)
