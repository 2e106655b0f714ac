-- What the check leaves of `leasts::sizes::rule_size`; the argument stands in Invariants.antt. Assumes nothing.
use Rattle.leasts.proofs.RuleSummed.{nonterminal_summed, terminal_summed}
use Rattle.leasts.proofs.sizes.rule_size.Goals as goal
use Rattle.leasts.proofs.sizes.rule_size.Goals.{then-s-rule+else-size, else-s-rule}

pub loop-s-preserved : goal.loop-s-preserved
loop-s-preserved c =
    let loop = c.loop-s in
    let inside = c.loop-s-test.true in
    elim c.if-s-rule.branch [
      | then-s-rule+else-size w ↦
          let has = rw w.from.ensures at w.if-size.false in
          rw (w.sum-is, w.from-sum.ensures, w.from.ensures)
          (nonterminal_summed _ _ inside c.told-leasts w.if-s-rule.true has (c.fits-leasts _) loop.invariant)
      | else-s-rule w ↦ rw w.sum-is (terminal_summed _ _ inside w.if-s-rule.false loop.invariant)
    ]
