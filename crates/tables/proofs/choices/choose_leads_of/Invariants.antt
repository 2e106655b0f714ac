-- `tables::choices::choose_leads_of` meets its contract: of the places that the loop has passed the first that fit stand, whatever
-- the grammar. Assumes nothing.
use Prim.Native.Nat.{◌+◌, ◌*◌, ◌≤◌}
use lib.ListN.{length}
use Rattle.grammar.specs.Words.{Grammar}
use Rattle.layout.specs.Read.{ReadsAs}
use Rattle.tables.specs.Choices.{LeadsBelow, LeadsOf}
use Rattle.tables.proofs.choices.choose_leads_of.Given as goal

abbrev pub invariant-loop-place : goal.invariant-loop-place
invariant-loop-place l =
    (g : Grammar) → ReadsAs l.reading g → 128 ≤ length l.initial.leads → LeadsBelow l.figures g l.initial.leads l.r →
    LeadsOf g l.leasts l.contexts l.figures.totals.now l.leads (32 * l.r + l.place)
