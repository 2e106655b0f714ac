-- `handout::answer::write_out` meets its contract: what was listed is the sentence, and its rules are marked. Assumes nothing.
use Rattle.std.proofs.Common.{rules, refl}
use Rattle.handout.specs.Next.{Lent}
use Rattle.handout.proofs.NextOutcomes.{hands_out}
use Rattle.handout.proofs.answer.write_out.Goals as goal

pub returns : goal.returns
returns c =
    let lent : Lent = record { marks = c.args.marks.now; tokens = c.args.sentence.now; rules = c.args.derivation.now } in
    rw c.from.ensures
    (hands_out c.args.tabled.now lent c.requires.wanted refl refl refl refl c.requires.fits c.list_tree.ensures.listed (search rules)
    (search rules) c.mark_rules.ensures)
