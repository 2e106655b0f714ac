-- `tables::choices::choose_rules` meets its contract: of the rules that the loop has passed the first that fit stand, whatever
-- the grammar. Assumes nothing.
use Rattle.grammar.specs.Words.{Grammar}
use Rattle.layout.specs.Read.{ReadsAs}
use Rattle.tables.specs.Choices.{ChosenOf}
use Rattle.tables.proofs.choices.choose_rules.Given as goal

abbrev pub invariant-loop-r : goal.invariant-loop-r
invariant-loop-r l = (g : Grammar) → ReadsAs l.found.reading g → ChosenOf g l.found.leasts l.found.sizes l.chosen l.r
