-- `tables::build::of_leasts` meets its contract: what is answered at each step is a row of document 01, by Outcomes. Assumes
-- nothing.
use mathlib.Core.List.{List}
use Prim.Native.Nat.{ℕ}
use native.Mathlib.Omega.{arith}
use Rattle.std.specs.Borrow.{Bor}
use Rattle.leasts.specs.Promise.{FiguresFound}
use Rattle.tables.specs.ContextFigures.{Grown, ContextsDone}
use Rattle.tables.proofs.Outcomes.{refuses_5, grown, refuses_6, placed, refuses_7, refuses_3, finishes}
use Rattle.tables.proofs.build.of_leasts.Goals.{After-rule_totals-totals}
use Rattle.tables.proofs.build.of_leasts.Goals as goal

-- 5 is passed, and 6
six : {words : Bor (List ℕ)} (c : After-rule_totals-totals) → FiguresFound words c.args.found.now →
    (known : Grown c.args.found.now) × ContextsDone known.grammar c.args.found.now.leasts c.contexts_of-contexts.result
six c of_words =
    let known = grown of_words (rw (c.from-n.ensures, c.from-over.ensures) at c.in_default.ensures) in
    let none = rw (c.from-n.ensures, c.from-over.ensures) at c.in_default-first_above.ensures in
    (known, placed of_words known _ (c.contexts_of-contexts.ensures known) none)

pub returns-in-Some : goal.returns-in-Some
returns-in-Some c words of_words = refuses_5 of_words (rw (c.from-n.ensures, c.from-over.ensures) at c.in-Some.ensures)

pub returns-in-Some-first_above : goal.returns-in-Some-first_above
returns-in-Some-first_above c words of_words =
    let known = grown of_words (rw (c.from-n.ensures, c.from-over.ensures) at c.in_default.ensures) in
    refuses_6 of_words known _ (c.contexts_of-contexts.ensures known)
    (rw (c.from-n.ensures, c.from-over.ensures) at c.in-Some-first_above.ensures)

pub returns-in-Some-first_above-2 : goal.returns-in-Some-first_above-2
returns-in-Some-first_above-2 c words of_words =
    let (known, done) = six (goal.at.returns-in-Some-first_above-2 c).After-rule_totals-totals of_words in
    refuses_7 of_words known _ _ done (c.rule_totals-totals.ensures known.grammar known.view) (omega arith)
    (rw c.from.ensures at c.in-Some-first_above-2.ensures)

pub returns-then-table-needed : goal.returns-then-table-needed
returns-then-table-needed c words of_words =
    let (known, done) = six (goal.at.returns-then-table-needed c).After-rule_totals-totals of_words in
    refuses_3 of_words known _ _ done (c.rule_totals-totals.ensures known.grammar known.view) (omega arith)
    (rw c.from.ensures at c.in_default-first_above-2.ensures) c.length-needed.ensures c.if-table-needed.true

pub returns : goal.returns
returns c words of_words =
    let (known, done) = six (goal.at.returns c).After-rule_totals-totals of_words in
    finishes of_words known _ _ done (c.rule_totals-totals.ensures known.grammar known.view) (omega arith)
    (rw c.from.ensures at c.in_default-first_above-2.ensures) c.length-needed.ensures c.if-table-needed.false _ _
    (c.choose_rules.ensures known.grammar known.view) (c.choose_leads.ensures known.grammar known.view) c.fill.ensures
