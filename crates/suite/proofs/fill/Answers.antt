-- What the check leaves of `suite::fill`; the argument stands in Invariants.antt. Assumes nothing.
use mathlib.Core.Path.{refl}
use borrow.Author.Tests.{not-true, not-false}
use Rattle.suite.proofs.MoreLines.{true_not_false, count_few, sentence_more, filling_begins, filling_goes_on, filling_ends}
use Rattle.suite.proofs.MoreLines.{room_left, no_room_left, turns_fall}
use borrow.Author.Rules.{rules}
use Rattle.suite.proofs.fill.Goals as goal

pub loop-so-init : goal.loop-so-init
loop-so-init c =
    let large = c.requires.large in
    (refl, refl, search rules, search rules, (large.0, search rules, search rules), filling_begins c.requires.waits)

pub answered-so-requires : goal.answered-so-requires
answered-so-requires c = count_few c.loop-so.invariant.5.waits.so_far (not-true _ c.loop-so-test.true)

pub loop-so-smaller : goal.loop-so-smaller
loop-so-smaller c =
    let inv = c.loop-so.invariant in
    let on = not-true _ c.loop-so-test.true in
    let room = room_left inv.5.waits.within c.if-text-so-ge-MOST_LINE.true in
    turns_fall _ _ _ _ on (count_few inv.5.waits.so_far on)
    (sentence_more on room inv.4 c.answered-so.ensures)

pub loop-so-preserved : goal.loop-so-preserved
loop-so-preserved c =
    let inv = c.loop-so.invariant in
    let on = not-true _ c.loop-so-test.true in
    let room = room_left inv.5.waits.within c.if-text-so-ge-MOST_LINE.true in (
      search rules,
      search rules,
      search rules,
      search rules,
      (search rules, search rules, search rules),
      filling_goes_on inv.5 on room inv.4 c.answered-so.ensures,
    )

pub returns-else-text-so-ge-MOST_LINE : goal.returns-else-text-so-ge-MOST_LINE
returns-else-text-so-ge-MOST_LINE c =
    let inv = c.loop-so.invariant in
    filling_ends inv.5 inv.1 (λ is. no_room_left inv.5.waits.within c.if-text-so-ge-MOST_LINE.false)

pub returns-after-loop-so : goal.returns-after-loop-so
returns-after-loop-so c =
    let inv = c.loop-so.invariant in
    filling_ends inv.5 inv.1 (λ is. absurd (true_not_false (not-false _ c.loop-so-test.false) is))
