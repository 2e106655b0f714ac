-- What the check leaves of `tables::contexts::Contexts::round`; the argument stands in Invariants.antt. Assumes nothing.
use mathlib.Core.Path.{◌≡◌}
use native.Mathlib.Omega.{arith}
use Rattle.tables.proofs.SeenRounds.{turns_all}
use Rattle.tables.proofs.contexts.Contexts.round.Goals as goal

pub returns : goal.returns
returns c =
    let end : c.loop-i.i ≡ c.args.chains.now.found.now.reading.rules = omega arith in
    turns_all (rw end at c.loop-i.invariant)
