-- What the check leaves of `FoundLeasts::of`: of a grammar's words the arrays hold the figures after the rounds. Assumes nothing.
use borrow.Author.Rules.{rules}
use Rattle.leasts.proofs.Outcomes.{figures_found}
use Rattle.leasts.proofs.FoundLeasts.of.Goals as goal

pub returns : goal.returns
returns c = figures_found _ c.in_ok-reading.ensures (search rules) (search rules) c.least_rounds.ensures
