-- `tables::contexts::Contexts::round` meets its contract: the loop's invariant is `SeenTurns`. Assumes nothing.
use Rattle.tables.proofs.SeenRounds.{SeenTurns}
use Rattle.tables.proofs.contexts.Contexts.round.Given as goal

abbrev pub invariant-loop-i : goal.invariant-loop-i
invariant-loop-i l = SeenTurns l.chains.found.now l.up l.i l.initial.self l.self l.fell
