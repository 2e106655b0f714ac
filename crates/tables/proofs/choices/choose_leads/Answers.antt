-- What the check leaves of `tables::choices::choose_leads`; the argument stands in Invariants.antt. Assumes nothing.
use Rattle.tables.proofs.LeadsChosen.{none_lead}
use Rattle.tables.proofs.choices.choose_leads.Goals as goal

pub loop-r-init : goal.loop-r-init
loop-r-init c g view =
    let f = c.args.figures in
    none_lead f.reading.now view f.leasts.now f.contexts.now f.totals.now
