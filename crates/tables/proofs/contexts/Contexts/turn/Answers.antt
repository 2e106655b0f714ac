-- What the check leaves of `tables::contexts::Contexts::turn`; the argument stands in Invariants.antt. Assumes nothing.
use native.Mathlib.Omega.{arith}
use Rattle.tables.proofs.ContextsFall.{context_fallen}
use Rattle.tables.proofs.ContextRounds.{followed_more, followed_turn}
use Rattle.tables.proofs.contexts.Contexts.turn.Goals as goal

pub returns-then-try_rule-eq0 : goal.returns-then-try_rule-eq0
returns-then-try_rule-eq0 c =
    followed_turn (rw c.in-Some.is at c.loop-next.invariant) (omega (arith, c.loop-next.invariant.same_length))
    c.try_rule.ensures c.if-try_rule-eq0.true

pub loop-next-smaller : goal.loop-next-smaller
loop-next-smaller c = omega (arith, context_fallen c.try_rule.ensures, c.if-try_rule-eq0.false)

pub loop-next-preserved : goal.loop-next-preserved
loop-next-preserved c =
    followed_more (rw c.in-Some.is at c.loop-next.invariant) (omega (arith, c.loop-next.invariant.same_length))
    c.try_rule.ensures c.if-try_rule-eq0.false
    c.next-next.ensures
