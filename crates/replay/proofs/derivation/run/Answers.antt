-- What the check leaves of `replay::derivation::run`; the argument stands in Invariants.antt. Assumes nothing.
use Rattle.answers.proofs.HandedOn.{handed_on}
use Rattle.replay.proofs.ReplayStepped.{passes_kept, passes_low}
use Rattle.replay.proofs.ReplayRun.{held_start, low_start, kept_start, held_on, held_passed, held_end, held_stop}
use Rattle.replay.proofs.derivation.run.Goals as goal

pub loop-more-init : goal.loop-more-init
loop-more-init c = record {
  kept = kept_start c.args.list.now c.args.stack.now c.requires;
  low = λ _. low_start c.args.list.now c.args.stack.now;
  held = λ g view. held_start c.args.list.now c.args.stack.now view c.args.sentence.now;
}

pub returns-in_err-more : goal.returns-in_err-more
returns-in_err-more c =
    let inv = c.loop-more.invariant in
    λ g view. rw (handed_on c.from_residual.result c.from_residual.ensures.1)
    (held_stop (inv.held g view) (c.in_err-more.ensures.turned g view inv.low))

pub loop-more-preserved : goal.loop-more-preserved
loop-more-preserved c =
    let inv = c.loop-more.invariant in
    let on = rw c.in-Some.is at c.in_ok-more.ensures in
    let kept = on.bounded.kept in
    let passed = c.pass_tokens-form.ensures in
    record {
      kept = passes_kept kept passed;
      low = passes_low kept passed;
      held = λ g view. held_passed (held_on (inv.held g view) (on.turned g view inv.low)) kept view passed;
    }

pub returns : goal.returns
returns c =
    let inv = c.loop-more.invariant in
    let end = rw c.in_default.is at c.in_ok-more.ensures in
    λ g view. held_end (inv.held g view) (end.turned g view inv.low)
