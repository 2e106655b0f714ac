-- `table_test::passes::rules_pass` meets its contract: each rule that the loop has passed is right. Assumes nothing.
use Prim.Native.Nat.{ℕ, ◌<◌}
use Rattle.grammar.specs.Words.{Grammar}
use Rattle.layout.specs.Read.{ReadsAs}
use Rattle.table_test.specs.Passes.{RulePassesAt}
use Rattle.table_test.proofs.passes.rules_pass.Given as goal

abbrev pub invariant-loop-number : goal.invariant-loop-number
invariant-loop-number l = (k : ℕ) → k < l.number → (g : Grammar) → ReadsAs l.reading g → RulePassesAt g l.table k
