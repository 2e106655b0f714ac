-- What the check leaves of `layout::head::Head::judge_rules`; the argument stands in Invariants.antt. Assumes nothing.
use mathlib.Core.Path.{◌≡◌, sym, ◌∙◌}
use native.Mathlib.Omega.{arith}
use Rattle.std.specs.Prelude.{Ok}
use Rattle.answers.proofs.HandedOn.{handed_on}
use Rattle.layout.specs.JudgeParts.{RuleEnds}
use Rattle.layout.proofs.TableJudged.{table_ends, table_full, rule_faulted, rule_passed}
use Rattle.layout.proofs.PlacesNoted.{one_noted, all_noted}
use Rattle.layout.proofs.head.Head.judge_rules.Goals as goal

pub returns-then-self-at : goal.returns-then-self-at
returns-then-self-at c =
    let a = c.args in
    let l = c.loop-rules in
    record {
      rules_numbered = l.invariant.0 ∙ table_ends a.self.words.now a.self.nonterminals a.self.terminals l.at l.rules (omega arith);
      places_told = sym (l.invariant.2 ∙ all_noted a.self.words.now l.places l.at l.rules (omega arith));
      few = omega arith;
    }

pub returns-in_err-at-clause-rules_numbered : goal.returns-in_err-at-clause-rules_numbered
returns-in_err-at-clause-rules_numbered c =
    let a = c.args in
    let l = c.loop-rules in
    let faulted = rule_faulted a.self.words.now a.self.nonterminals a.self.terminals l.at l.rules in
    let broken = l.invariant.0 ∙ faulted _ c.judge_rule.result (omega arith) c.judge_rule.ensures.ruled c.in_err-at.was in
    rw (handed_on c.from_residual.result c.from_residual.ensures.1) broken

pub loop-rules-preserved : goal.loop-rules-preserved
loop-rules-preserved c =
    let a = c.args in
    let l = c.loop-rules in
    let j = c.judge_rule in
    let e = c.in_ok-at.was in
    let q = c.in_ok-at.at in
    let passed = rule_passed a.self.words.now a.self.nonterminals a.self.terminals l.at l.rules in
    let ends : RuleEnds a.self.words.now l.at (Ok q) = rw e at j.ensures.rule_ends in
    let noted = one_noted a.self.words.now l.places l.at l.rules q j.result (omega arith) (omega arith) j.ensures.rule_ends e in
    (l.invariant.0 ∙ passed _ j.result (omega arith) j.ensures.ruled e, omega (arith, ends.2), l.invariant.2 ∙ noted)

pub returns-then-at-self-clause-rules_numbered : goal.returns-then-at-self-clause-rules_numbered
returns-then-at-self-clause-rules_numbered c =
    let a = c.args in
    let l = c.loop-rules in
    l.invariant.0 ∙ table_full a.self.words.now a.self.nonterminals a.self.terminals l.at l.rules (omega arith) (omega arith)

pub returns : goal.returns
returns c =
    let a = c.args in
    let l = c.loop-rules in
    let all : l.rules ≡ 256 = omega arith in
    let numbered = l.invariant.0 ∙ table_ends a.self.words.now a.self.nonterminals a.self.terminals l.at l.rules (omega arith) in
    record {
      rules_numbered = rw all at numbered;
      places_told = sym (l.invariant.2 ∙ all_noted a.self.words.now l.places l.at l.rules (omega arith));
      few = omega arith;
    }
