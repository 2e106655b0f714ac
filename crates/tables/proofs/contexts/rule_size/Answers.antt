-- `tables::contexts::rule_size` meets its contract: there is a size for each rule. Assumes nothing.
use native.Mathlib.Omega.{arith}
use Rattle.layout.proofs.ReadingBounds.{rules_few}
use Rattle.tables.proofs.contexts.rule_size.Goals as goal

pub bounds-found-from : goal.bounds-found-from
bounds-found-from c = omega (arith, rules_few c.args.found.now.reading)
