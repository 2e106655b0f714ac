-- `table_test::passes::rule_passes` meets its contract: past the limit, by the places, and by the left side. Assumes nothing.
use native.Mathlib.Omega.{arith}
use Rattle.table_test.proofs.RulesRead.{rule_tests}
use Rattle.table_test.proofs.passes.rule_passes.Goals as goal

pub returns-then-total-gt-LIMIT : goal.returns-then-total-gt-LIMIT
returns-then-total-gt-LIMIT c g view =
    let a = c.args in
    let tests = rule_tests a.reading.now view a.table.now a.number c.total-total.result c.requires c.total-total.ensures.0 in
    grind arith

pub returns-in_default : goal.returns-in_default
returns-in_default c g view =
    let a = c.args in
    let tests = rule_tests a.reading.now view a.table.now a.number c.total-total.result c.requires c.total-total.ensures.0 in
    let fails = rw c.in_default.is at c.size_passes.ensures.size in
    grind arith

pub returns : goal.returns
returns c g view =
    let a = c.args in
    let tests = rule_tests a.reading.now view a.table.now a.number c.total-total.result c.requires c.total-total.ensures.0 in
    let (places, size) = c.in-Some.ensures.size in
    let same = size g view.nonterminals in
    let left = rw (c.left.ensures, same) at c.left_passes.ensures in
    (λ e. tests.1 (omega arith, places, left.0 e), λ p. left.1 (tests.0 p).2)
