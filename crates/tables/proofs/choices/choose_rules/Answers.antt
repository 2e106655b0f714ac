-- What the check leaves of `tables::choices::choose_rules`; the argument stands in Invariants.antt. Assumes nothing.
use mathlib.Core.Path.{sym, ap, ◌∙◌}
use native.Mathlib.Omega.{arith}
use Rattle.figures.specs.Figures.{figure}
use Rattle.tables.proofs.RulesChosen.{none_chosen, rule_noted, rule_passed}
use Rattle.tables.proofs.choices.choose_rules.Goals.{then-figure_at-rule_size, else-figure_at-rule_size}
use Rattle.tables.proofs.choices.choose_rules.Goals as goal

pub loop-r-init : goal.loop-r-init
loop-r-init c g view = none_chosen c.args.found.now.reading view c.args.found.now.leasts c.args.found.now.sizes

pub loop-r-preserved : goal.loop-r-preserved
loop-r-preserved c g view =
    let f = c.args.found.now in
    let so_far = c.loop-r.invariant g view in
    let left = c.from-left.ensures ∙ c.left.ensures in
    let least = c.figure_at.ensures.value ∙ ap (figure f.leasts) left in
    let size = c.rule_size.ensures.0 in
    elim c.if-figure_at-rule_size.branch [
      | then-figure_at-rule_size w ↦
          rw w.chosen-is (rule_noted f.reading view f.leasts f.sizes c.loop-r.r (omega arith) c.loop-r.chosen so_far
          (sym least ∙ w.if-figure_at-rule_size.true ∙ size) (rw left at w.note.ensures) (omega arith))
      | else-figure_at-rule_size w ↦
          rw w.chosen-is (rule_passed f.reading view f.leasts f.sizes c.loop-r.r (omega arith) c.loop-r.chosen so_far
          (λ e. w.if-figure_at-rule_size.false (least ∙ e ∙ sym size)))
    ]
