-- What the check leaves of `table_test::passes::rules_pass`; the argument stands in Invariants.antt. Assumes nothing.
use native.Mathlib.Omega.{arith}
use mathlib.Core.Path.{◌≡◌, refl}
use borrow.Author.Count.{below_more}
use Rattle.table_test.proofs.RulesRead.{below_rules}
use Rattle.table_test.proofs.passes.rules_pass.Goals as goal

pub returns-then-not-rule_passes : goal.returns-then-not-rule_passes
returns-then-not-rule_passes c g view =
    (λ e. cc, λ all. let passes = (c.rule_passes.ensures g view).1 (all c.loop-number.number) in cc)

pub loop-number-preserved : goal.loop-number-preserved
loop-number-preserved c =
    below_more _ _ c.loop-number.invariant (λ g view. (c.rule_passes.ensures g view).0 (cc))

pub returns : goal.returns
returns c g view =
    let all : c.loop-number.number ≡ c.args.reading.now.rules = omega arith in
    (λ e k A w r. c.loop-number.invariant k (omega (arith, below_rules c.args.reading.now view r)) g view A w r, λ p. refl)
