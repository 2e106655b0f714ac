-- `layout::head::Head::judge_rule` meets its contract: each test that faults a word is one of the layout's, in its order.
-- Assumes nothing.
use native.Mathlib.Omega.{arith}
use Rattle.layout.proofs.RuleJudged.{left_unfit, count_missing, count_unfit, rule_judged, rule_ends}
use Rattle.layout.proofs.head.Head.judge_rule.Goals as goal

pub returns-then-self-word : goal.returns-then-self-word
returns-then-self-word c =
    let a = c.args in
    record {
      ruled = left_unfit a.self.words.now a.self.nonterminals a.self.terminals a.at (omega arith) (omega arith);
      rule_ends = tt;
    }

pub returns-then-len-first : goal.returns-then-len-first
returns-then-len-first c =
    let a = c.args in
    record {
      ruled = count_missing a.self.words.now a.self.nonterminals a.self.terminals a.at (omega arith) (omega arith) (omega arith);
      rule_ends = tt;
    }

pub returns-then-count-gt-MOST_SYMBOLS : goal.returns-then-count-gt-MOST_SYMBOLS
returns-then-count-gt-MOST_SYMBOLS c =
    let a = c.args in
    record {
      ruled = count_unfit a.self.words.now a.self.nonterminals a.self.terminals a.at (omega arith) (omega arith) (omega arith);
      rule_ends = tt;
    }

pub returns : goal.returns
returns c =
    let a = c.args in
    let k = c.word-count in
    let s = c.judge_symbols in
    let judged = rule_judged a.self.words.now a.self.nonterminals a.self.terminals a.at k.result in
    record {
      ruled = judged (omega arith) (omega arith) k.ensures (omega arith) s.result s.ensures.symbols;
      rule_ends = rule_ends a.self.words.now a.at k.result k.ensures (omega arith) s.result s.ensures.symbols_end;
    }
