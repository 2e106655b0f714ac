-- `leasts::sizes::rule_size` meets its contract: the loop's invariant is `Summed`. Assumes nothing.
use Rattle.leasts.proofs.RuleSummed.{Summed}
use Rattle.leasts.proofs.sizes.rule_size.Given as goal

abbrev pub invariant-loop-s : goal.invariant-loop-s
invariant-loop-s l = Summed l.rule l.leasts l.s-index l.sum
