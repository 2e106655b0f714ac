-- `tables::choices::choose_leads` meets its contract: of the places of the rules that the loop has passed the first that fit
-- stand, whatever the grammar. Assumes nothing.
use Rattle.grammar.specs.Words.{Grammar}
use Rattle.layout.specs.Read.{ReadsAs}
use Rattle.tables.specs.Choices.{LeadsBelow}
use Rattle.tables.proofs.choices.choose_leads.Given as goal

abbrev pub invariant-loop-r : goal.invariant-loop-r
invariant-loop-r l = (g : Grammar) → ReadsAs l.figures.reading.now g → LeadsBelow l.figures g l.leads l.r
