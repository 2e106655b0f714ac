-- What the check leaves of `tables::contexts::contexts_of`; the argument stands in Invariants.antt. Assumes nothing.
use mathlib.Core.Path.{◌≡◌}
use native.Mathlib.Omega.{arith}
use Rattle.layout.proofs.ReadingBounds.{nonterminals_few, start_below}
use Rattle.tables.proofs.SeenRounds.{outset, at_rest}
use Rattle.tables.proofs.contexts.contexts_of.Goals as goal

pub bounds-contexts-from : goal.bounds-contexts-from
bounds-contexts-from c = let v = c.args.found.now.reading in omega (arith, start_below v, nonterminals_few v)

pub loop-chains-init : goal.loop-chains-init
loop-chains-init c grown = rw c.from.ensures (outset grown)

pub loop-chains-preserved : goal.loop-chains-preserved
loop-chains-preserved c grown = (rw c.of-chains.ensures at c.round.ensures).keeps grown (c.loop-chains.invariant grown)

pub returns : goal.returns
returns c grown =
    let none : c.round.result ≡ 0 = omega arith in
    at_rest grown (c.loop-chains.invariant grown) (rw (none, c.of-chains.ensures) at c.round.ensures)
