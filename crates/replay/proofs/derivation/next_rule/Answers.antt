-- `replay::derivation::next_rule` meets its contract: a reading has a place for each rule's number, inside its words.
-- Assumes nothing.
use Rattle.std.proofs.Common.{◌<◌, arith}
use Rattle.layout.proofs.WordsRead.{begun_of, view_few}
use Rattle.layout.proofs.RulesInside.{inside}
use Rattle.replay.proofs.derivation.next_rule.Goals as goal

pub bounds-reading-from : goal.bounds-reading-from
bounds-reading-from c = omega (arith, (view_few (begun_of c.args.list.now.reading.now).view).1)

pub bounds-reading-at : goal.bounds-reading-at
bounds-reading-at c =
    let v = c.args.list.now.reading.now in
    let below : c.from.result < v.rules = omega arith in
    inside (begun_of v).view below c.from-at.ensures
