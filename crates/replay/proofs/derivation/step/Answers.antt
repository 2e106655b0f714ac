-- `replay::derivation::step` meets its contract: it opens a symbol, or goes back, or nothing is left. Assumes nothing.
use Rattle.std.proofs.Common.{ℕ, ◌≡◌, Option, None, Result, Ok, refl, ap, ◌∙◌, arith}
use Rattle.std.specs.Result.{result_ok}
use Rattle.answers.proofs.HandedOn.{handed_on}
use Rattle.answers.specs.declared.Refusal.{Refusal}
use Rattle.answers.specs.declared.Refusal.TheVariants.{NoDerivation}
use Rattle.replay.specs.ReplaySteps.{NextRule, Named}
use Rattle.replay.specs.declared.forms.Open.{Open}
use Rattle.replay.specs.declared.rule_list.RuleList.{RuleList}
use Rattle.replay.proofs.ReplayStepped.{openable, opens, opens_bounded, stuck, back, back_bounded, nothing_stops, nothing_ends}
use Rattle.replay.proofs.derivation.step.Goals as goal

-- where there is a rule
named : {l : RuleList} {o : Open} {at : ℕ} (r : Option ℕ) {z : Result ℕ Refusal} → NextRule l o r → r ≡ result_ok z → z ≡ Ok at →
    Named l o at
named r next same ok = rw (same ∙ ap result_ok ok) at next

pub returns-in_err-rule-clause-turned : goal.returns-in_err-rule-clause-turned
returns-in_err-rule-clause-turned c =
    let none : c.next_rule.result ≡ None = c.ok_or.ensures.ok_part ∙ ap result_ok c.in_err-rule.was in
    let refused = rw none at c.ok_or.ensures.value in
    let stopped : c.in_err-rule.field-0.0 ≡ NoDerivation c.args.form.next = cc (refused, c.in_err-rule.was) in
    let next = rw none at c.next_rule.ensures in
    let some = c.if-form-gt0.true in
    λ g view low. rw (handed_on c.from_residual.result c.from_residual.ensures.1, stopped)
    (refl, stuck c.requires some view (low some) next)

pub open_rule-requires : goal.open_rule-requires
open_rule-requires c =
    let rule = named c.next_rule.result c.next_rule.ensures c.ok_or.ensures.ok_part c.in_ok-rule.was in
    openable c.requires c.if-form-gt0.true rule

pub returns-then-form-gt0-clause-bounded : goal.returns-then-form-gt0-clause-bounded
returns-then-form-gt0-clause-bounded c =
    let rule = named c.next_rule.result c.next_rule.ensures c.ok_or.ensures.ok_part c.in_ok-rule.was in
    opens_bounded c.requires c.if-form-gt0.true rule c.open_rule.ensures

pub returns-then-form-gt0-clause-turned : goal.returns-then-form-gt0-clause-turned
returns-then-form-gt0-clause-turned c =
    let rule = named c.next_rule.result c.next_rule.ensures c.ok_or.ensures.ok_part c.in_ok-rule.was in
    let some = c.if-form-gt0.true in
    λ g view low. opens c.requires some view (low some) rule c.open_rule.ensures

pub returns-then-form-gt0-2-clause-bounded : goal.returns-then-form-gt0-2-clause-bounded
returns-then-form-gt0-2-clause-bounded c = back_bounded c.requires (omega arith) c.if-form-gt0-2.true c.above.ensures

pub returns-then-form-gt0-2-clause-turned : goal.returns-then-form-gt0-2-clause-turned
returns-then-form-gt0-2-clause-turned c = λ g view low. back c.requires (omega arith) c.if-form-gt0-2.true c.above.ensures g

pub returns-then-form-list-clause-turned : goal.returns-then-form-list-clause-turned
returns-then-form-list-clause-turned c =
    λ g view low. (refl, nothing_stops c.requires g (omega arith) (omega arith) (omega arith))

pub returns-clause-turned : goal.returns-clause-turned
returns-clause-turned c = λ g view low. nothing_ends c.requires g (omega arith) (omega arith) (omega arith)
