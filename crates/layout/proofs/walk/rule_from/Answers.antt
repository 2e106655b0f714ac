-- `layout::walk::rule_from` meets its contract: at each `return` the tests that led there say which case of `step_at` holds.
-- Assumes nothing.
use mathlib.Core.Path.{sym}
use native.Mathlib.Omega.{arith}
use Rattle.layout.specs.Walk.{place}
use Rattle.layout.proofs.WalkSteps.{step_past_256, step_cut, step_rule}
use Rattle.layout.proofs.walk.rule_from.Goals as goal

pub returns-then-number-ge-MOST_RULES : goal.returns-then-number-ge-MOST_RULES
returns-then-number-ge-MOST_RULES c = let a = c.args in sym (step_past_256 a.words.now (place a.at a.number) (omega arith))

pub returns-then-len-lt2 : goal.returns-then-len-lt2
returns-then-len-lt2 c =
    let a = c.args in
    sym (step_cut a.words.now (place a.at a.number) (omega arith) (omega arith))

pub returns-then-len-at : goal.returns-then-len-at
returns-then-len-at c =
    let a = c.args in
    sym (step_cut a.words.now (place a.at a.number) (omega arith) (omega arith))

pub returns-then-len-first : goal.returns-then-len-first
returns-then-len-first c =
    let a = c.args in
    sym (step_cut a.words.now (place a.at a.number) (omega arith) (omega arith))

pub returns : goal.returns
returns c =
    let a = c.args in
    let stepped = step_rule a.words.now (place a.at a.number) (omega arith) (omega arith) in
    simp (stepped, ← c.word-left.ensures, ← c.word-count.ensures)
