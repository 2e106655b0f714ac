-- `handout::tree_lister::list_before` meets its contract. The loop's invariant: what lies before the nonterminal where the rest of the
-- way begins is listed. Assumes nothing.
use Rattle.std.proofs.Common.{◌-◌, length, drop}
use Rattle.handout.specs.Listing.{SameParts}
use Rattle.handout.specs.TreeListing.{before, WayListed}
use Rattle.handout.proofs.tree_lister.list_before.Given as goal

abbrev pub invariant-loop-a : goal.invariant-loop-a
invariant-loop-a l =
    SameParts l.initial.out l.out ×
    WayListed before l.tabled (drop (length l.way - length l.yielded) l.way) l.initial.out l.out
