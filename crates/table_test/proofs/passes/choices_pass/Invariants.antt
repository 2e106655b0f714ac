-- `table_test::passes::choices_pass` meets its contract: the choices of each nonterminal that the loop has passed are right.
-- Assumes nothing.
use Prim.Native.Nat.{ℕ, ◌<◌}
use Rattle.grammar.specs.Words.{Grammar}
use Rattle.layout.specs.Read.{ReadsAs}
use Rattle.table_test.specs.Passes.{ChoicePasses}
use Rattle.table_test.proofs.passes.choices_pass.Given as goal

abbrev pub invariant-loop-a : goal.invariant-loop-a
invariant-loop-a l = (b : ℕ) → b < l.a → (g : Grammar) → ReadsAs l.reading g → ChoicePasses g l.table b
