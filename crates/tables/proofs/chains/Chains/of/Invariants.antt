-- `tables::chains::Chains::of` meets its contract: the rules noted are below. Assumes nothing.
use Rattle.leasts.specs.Noted.{NotedBelow}
use Rattle.tables.proofs.chains.Chains.of.Given as goal

abbrev pub invariant-loop-r : goal.invariant-loop-r
invariant-loop-r l = NotedBelow l.found.reading.rules l.owned
