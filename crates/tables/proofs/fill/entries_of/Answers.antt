-- `tables::fill::entries_of` meets its contract. Assumes nothing.
use mathlib.Core.Path.{ap, ◌∙◌}
use Prim.Native.Nat.{ℕ}
use native.Mathlib.Omega.{arith}
use Rattle.figures.specs.Figures.{figure}
use Rattle.figures.proofs.FiguresFall.{figure_is}
use Rattle.tables.specs.Choices.{choice}
use Rattle.tables.specs.Filling.{rule_or_none, lead_or_none, found_in}
use Rattle.tables.proofs.fill.entries_of.Goals as goal

pub returns : goal.returns
unfolding found_in
returns c =
    let x = c.args in
    let at = c.from-a.ensures in
    let least = figure_is x.leasts.now c.from-a.result 0 (omega arith) ∙ ap (figure x.leasts.now) at in
    let context = figure_is x.contexts.now c.from-a.result 0 (omega arith) ∙ ap (figure x.contexts.now) at in
    let chosen = c.unwrap_or.ensures ∙ ap (λ (a : ℕ). rule_or_none (choice x.choices.chosen.now a)) at in
    let lead = c.unwrap_or-lead.ensures ∙ ap (λ (a : ℕ). lead_or_none (choice x.choices.leads.now a)) at in
    λ i. record { least = least i; chosen = chosen i; context = context i; rule = (lead i).rule; place = (lead i).place }
