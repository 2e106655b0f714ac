-- `table_test::passes::chosen_passes` meets its contract: what is read for the chosen rule is that rule. Assumes nothing.
use native.Mathlib.Omega.{arith}
use Rattle.table_test.proofs.RulesRead.{chosen_tests}
use Rattle.table_test.proofs.passes.chosen_passes.Goals as goal

pub returns-then-reading-chosen : goal.returns-then-reading-chosen
returns-then-reading-chosen c g view =
    let a = c.args in
    let tests = chosen_tests a.reading.now view a.table.now a.a c.chosen-chosen.result c.chosen-chosen.ensures in
    grind arith

pub returns-then-left-a : goal.returns-then-left-a
returns-then-left-a c g view =
    let a = c.args in
    let tests = chosen_tests a.reading.now view a.table.now a.a c.chosen-chosen.result c.chosen-chosen.ensures in
    grind arith

pub returns-else-left-a : goal.returns-else-left-a
returns-else-left-a c g view =
    let a = c.args in
    let tests = chosen_tests a.reading.now view a.table.now a.a c.chosen-chosen.result c.chosen-chosen.ensures in
    grind arith
