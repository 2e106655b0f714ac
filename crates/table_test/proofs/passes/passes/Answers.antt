-- What the check leaves of `table_test::passes::passes`: it makes all the tests, and they are exact. Assumes nothing.
use native.Mathlib.Omega.{arith}
use Rattle.table_test.proofs.RulesRead.{table_tests}
use Rattle.table_test.proofs.passes.passes.Goals as goal

pub returns-then-choices_pass : goal.returns-then-choices_pass
returns-then-choices_pass c g view =
    let tests = table_tests c.args.reading.now view c.args.table.now in
    let choices = c.choices_pass.ensures g view in
    let rules = c.rules_pass.ensures g view in
    (λ e. tests.1 (omega arith, choices.0 c.if-choices_pass.true, rules.0 e), λ own. rules.1 (tests.0 own).2)

pub returns-else-choices_pass : goal.returns-else-choices_pass
returns-else-choices_pass c g view =
    let tests = table_tests c.args.reading.now view c.args.table.now in
    let choices = c.choices_pass.ensures g view in
    grind arith
