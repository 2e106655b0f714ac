-- What the check leaves of `layout::head::note`: the rest of the words is the promise of the rules. Assumes nothing.
use Rattle.layout.proofs.AnswerJudged.{head_passed, rules_shaped, rules_noted}
use Rattle.layout.proofs.head.note.Goals as goal

pub returns-clause-places_after : goal.returns-clause-places_after
returns-clause-places_after c =
    let words = c.args.words in
    let r = c.judge_rules in
    let head = head_passed words c.judge.result _ c.judge.ensures c.in_ok-judge.was in
    let told = rw head.same at r.ensures.places_told in
    let numbered = rw head.same at r.ensures.rules_numbered in
    rules_noted words.now _ _ r.result told c.requires (rules_shaped words _ r.result head numbered)
