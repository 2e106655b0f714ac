-- `leasts::chains::Chains::of` meets its contract: the rules noted are below. Assumes nothing.
use Rattle.leasts.specs.Noted.{NotedBelow}
use Rattle.leasts.proofs.chains.Chains.of.Given as goal

abbrev pub invariant-loop-number : goal.invariant-loop-number
invariant-loop-number l = NotedBelow l.reading.rules l.users
