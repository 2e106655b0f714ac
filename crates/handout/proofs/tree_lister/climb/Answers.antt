-- `handout::tree_lister::climb` meets its contract: the path is shorter than the nonterminals are many. Assumes nothing.
use Rattle.std.proofs.Common.{arith, ap, ◌∙◌}
use Rattle.handout.specs.TreeListing.{left_of}
use Rattle.handout.proofs.PathSteps.{way_begins, way_on, few_steps}
use Rattle.handout.proofs.tree_lister.climb.Goals as goal

pub loop-a-init : goal.loop-a-init
loop-a-init c = way_begins c.args.tabled.now c.args.from c.args.path.now c.requires.nonterminal

pub loop-a-preserved : goal.loop-a-preserved
loop-a-preserved c =
    let few = few_steps c.args.tabled.now c.requires.nonterminal c.loop-a.invariant in
    let up = c.left-a.ensures ∙ ap (left_of c.args.tabled.now) c.rule.ensures in
    rw up
    (way_on c.args.tabled.now c.requires.nonterminal c.loop-a.invariant c.loop-a-test.true (omega (arith, few, c.requires.room)))
