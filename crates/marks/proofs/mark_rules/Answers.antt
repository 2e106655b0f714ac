-- What the check leaves of `marks::mark_rules`; the argument stands in Invariants.antt. Assumes nothing.
use Rattle.std.proofs.Common.{◌≡◌, arith}
use Rattle.std.proofs.lemmas.Iterator.{YieldsList-from_slice, YieldsList-from_take}
use Rattle.std.proofs.lemmas.Iterator.Consumers.{YieldsList-end}
use Rattle.std.proofs.lemmas.List.{map-append}
use Rattle.marks.proofs.MarksMet.{marked_then}
use Rattle.marks.proofs.mark_rules.Goals as goal

pub loop-rule-preserved : goal.loop-rule-preserved
loop-rule-preserved c =
    let one = rw c.from.ensures at c.mark_one.ensures in
    rw map-append (marked_then c.loop-rule.invariant one)

pub returns : goal.returns
returns c =
    let number : c.take-rule-items.result.n ≡ c.args.count = omega (arith, c.take-rule-items.ensures.count) in
    let all = YieldsList-from_take c.args.count (YieldsList-from_slice c.args.derivation.now cc) (cc number) in
    let passed = YieldsList-end all c.loop-rule.yielded _ c.loop-rule.yielded_by _ _ c.in-None.is c.next.ensures.steps in
    rw passed.0 at c.loop-rule.invariant
