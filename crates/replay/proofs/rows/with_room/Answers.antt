-- `replay::rows::with_room` meets its contract: the run says the row; what it kept aside is written, or a second run writes.
-- Assumes nothing.
use Rattle.std.proofs.lemmas.List.{length-replicate}
use Rattle.answers.proofs.HandedOn.{handed_on}
use Rattle.layout.proofs.WordsRead.{begun_of}
use Rattle.replay.proofs.ReplayRun.{answers_11, answers_3, answers_aside, answers_again}
use Rattle.replay.proofs.rows.with_room.Goals as goal

pub returns-in_err-tokens : goal.returns-in_err-tokens
returns-in_err-tokens g c =
    let l = c.args.list.now in
    rw (handed_on c.from_residual.result c.from_residual.ensures.1)
    (answers_11 l c.args.sentence.now (c.in_err-tokens.ensures _ (begun_of l.reading.now).view))

pub returns-then-sentence-tokens : goal.returns-then-sentence-tokens
returns-then-sentence-tokens g c =
    let l = c.args.list.now in
    answers_3 l c.args.sentence.now (c.in_ok-tokens.ensures _ (begun_of l.reading.now).view) c.if-sentence-tokens.true

pub returns-then-tokens : goal.returns-then-tokens
returns-then-tokens g c =
    let l = c.args.list.now in
    let view = (begun_of l.reading.now).view in
    let second = c.run-then-tokens in
    answers_again l c.args.sentence.now (c.in_ok-tokens.ensures _ view) second.result c.if-sentence-tokens.false
    (second.ensures _ view)

pub returns : goal.returns
returns g c =
    let l = c.args.list.now in
    let whole = c.in_ok-tokens.ensures _ (begun_of l.reading.now).view in
    rw c.copy_from_slice.ensures.after
    (answers_aside l c.args.sentence.now whole (rw length-replicate c.if-tokens.false) c.if-sentence-tokens.false)
