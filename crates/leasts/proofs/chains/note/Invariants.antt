-- `leasts::chains::note` meets its contract: the rules noted stay below. Assumes nothing.
use Rattle.leasts.specs.Noted.{NotedBelow}
use Rattle.leasts.proofs.chains.note.Given as goal

abbrev pub invariant-loop-s : goal.invariant-loop-s
invariant-loop-s l = NotedBelow l.rule.reading.now.rules l.initial.users → NotedBelow l.rule.reading.now.rules l.users
