-- `handout::answer::decide` meets its contract: 9, Finished, or what the target comes to. Assumes nothing.
use Rattle.answers.proofs.HandedOn.{handed_on}
use Rattle.handout.proofs.NextOutcomes.{wants, refuses_room}
use Rattle.handout.proofs.answer.decide.Goals as goal

pub returns-in_err-find_room : goal.returns-in_err-find_room
returns-in_err-find_room c =
    let w = wants c.args.tabled.now c.from-rules.ensures c.if-marks-rules.false c.in-Some.ensures c.narrow-target.ensures.1 in
    rw (handed_on c.from_residual.result c.from_residual.ensures.1)
    (refuses_room c.args.tabled.now _ w c.in_err-find_room.ensures)
