-- `handout::tree_lister::list_after` meets its contract: the loop's invariant is `WayAfter`. Assumes nothing.
use Rattle.std.proofs.Common.{drop}
use Rattle.handout.specs.Listing.{SameParts}
use Rattle.handout.proofs.PathSteps.{WayAfter}
use Rattle.handout.proofs.tree_lister.list_after.Given as goal

abbrev pub invariant-loop-a : goal.invariant-loop-a
invariant-loop-a l =
    SameParts l.initial.out l.out × WayAfter l.tabled l.way (drop l.a-index l.way) l.initial.out l.out
