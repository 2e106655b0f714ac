-- `handout::tree_lister::list_tree` meets its contract: the path leads up from the target's left side; what lies before it, the
-- target, what lies after. Assumes nothing.
use Rattle.handout.proofs.PathSteps.{path_holds}
use Rattle.handout.proofs.TreeWrites.{tree_listed}
use Rattle.handout.proofs.tree_lister.list_tree.Goals as goal

pub climb-steps-requires-clause-room : goal.climb-steps-requires-clause-room
climb-steps-requires-clause-room c = path_holds c.args.tabled.now

pub returns-clause-listed : goal.returns-clause-listed
returns-clause-listed c =
    let leads = rw c.left.ensures at c.climb-steps.ensures.leads in
    tree_listed c.args.tabled.now c.args.target c.requires.number c.requires.few leads c.list_before.ensures.listed
    c.list_rule.ensures.listed c.list_after.ensures.listed
