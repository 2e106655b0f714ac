-- What the check leaves of `tables::choices::choose_leads_of`; the argument stands in Invariants.antt. Assumes nothing.
use mathlib.Core.Path.{◌≡◌, ap, ◌∙◌}
use mathlib.Core.List.{List}
use Prim.Native.Nat.{ℕ}
use native.Mathlib.Omega.{arith}
use lib.ListN.{length, get_or}
use Rattle.layout.proofs.ReadingBounds.{rules_few}
use Rattle.tables.proofs.LeadsChosen.{place_noted, place_passed, places_end}
use Rattle.tables.proofs.choices.choose_leads_of.Goals.{then-s-reading+then-figure_at-total}
use Rattle.tables.proofs.choices.choose_leads_of.Goals.{then-s-reading+else-figure_at-total, else-s-reading}
use Rattle.tables.proofs.choices.choose_leads_of.Goals as goal

pub bounds-totals-from : goal.bounds-totals-from
bounds-totals-from c = omega (arith, rules_few c.args.figures.reading.now)

pub loop-place-preserved : goal.loop-place-preserved
loop-place-preserved c g view room before =
    let f = c.args.figures in
    let r = c.args.r in
    let loop = c.loop-place in
    let so_far = loop.invariant g view room before in
    let right = c.right-s-items.ensures.result_value in
    let below = rw right at c.loop-place-test.true in
    let s = ap (λ (w : List ℕ). get_or w loop.place 0) right in
    let total = c.from-total.ensures ∙ ap (λ (k : ℕ). get_or f.totals.now k 0) c.from.ensures in
    elim c.if-s-reading.branch [
      | then-s-reading+then-figure_at-total w ↦
          rw w.leads-is (place_noted f.reading.now view f.leasts.now f.contexts.now f.totals.now r c.requires loop.leads
          loop.place so_far _ below
          (w.from-a.ensures ∙ s) (omega (arith, total, w.figure_at.ensures.value, w.figure_at-then-s-reading.ensures.value))
          w.note.ensures (omega (arith, loop.auto.leads)))
      | then-s-reading+else-figure_at-total w ↦
          rw w.leads-is (place_passed f.reading.now view f.leasts.now f.contexts.now f.totals.now r c.requires loop.leads
          loop.place so_far _ below
          (w.from-a.ensures ∙ s) (λ p. w.if-figure_at-total.false
          (omega (arith, p.1, total, w.figure_at.ensures.value, w.figure_at-then-s-reading.ensures.value))))
      | else-s-reading w ↦
          rw w.leads-is (place_passed f.reading.now view f.leasts.now f.contexts.now f.totals.now r c.requires loop.leads
          loop.place so_far _ below s
          (λ p. omega (arith, p.0, w.if-s-reading.false, view.nonterminals)))
    ]

pub returns : goal.returns
returns c g view room before =
    let f = c.args.figures in
    let r = c.args.r in
    let loop = c.loop-place in
    let end : loop.place ≡ length c.right-s-items.result.now = omega arith in
    places_end f.reading.now view f.leasts.now f.contexts.now f.totals.now r c.requires loop.leads loop.place
    (loop.invariant g view room before) (rw c.right-s-items.ensures.result_value at end)
