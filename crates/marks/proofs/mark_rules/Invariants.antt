-- `marks::mark_rules` meets its contract. The loop's invariant: the numbers passed are marked. Assumes nothing.
use mathlib.Core.List.{map}
use Rattle.marks.specs.Marks.{Marked}
use Rattle.marks.proofs.mark_rules.Given as goal

abbrev pub invariant-loop-rule : goal.invariant-loop-rule
invariant-loop-rule l = Marked (map (λ rule. rule.now) l.yielded) l.initial.marks l.marks
