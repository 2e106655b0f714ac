-- `layout::rules::right` meets its contract: at each `return` the tests that led there say whether the rule stands whole, and a
-- count is a word, so below 65,536. Assumes nothing.
use mathlib.Core.Path.{◌≡◌, sym}
use Prim.Native.Nat.{◌+◌, ◌-◌}
use native.Mathlib.Omega.{arith}
use borrow.Author.Rules.{rules}
use lib.ListN.{length-take}
use Rattle.layout.proofs.RulesByNumber.{right_cut, right_whole}
use Rattle.layout.proofs.rules.right.Goals as goal

pub returns-then-len-lt2 : goal.returns-then-len-lt2
returns-then-len-lt2 c =
    let a = c.args in
    record { result_value = sym (right_cut a.words.now a.at (omega arith)); result_len_bound = search rules }

pub returns-then-len-at : goal.returns-then-len-at
returns-then-len-at c =
    let a = c.args in
    record { result_value = sym (right_cut a.words.now a.at (omega arith)); result_len_bound = search rules }

pub returns-then-len-first : goal.returns-then-len-first
returns-then-len-first c =
    let a = c.args in
    record { result_value = sym (right_cut a.words.now a.at (omega arith)); result_len_bound = search rules }

pub returns : goal.returns
returns c =
    let a = c.args in
    let counted = c.word-count in
    let size : a.at + 2 + counted.result - (a.at + 2) ≡ counted.result = omega arith in
    let word = c.type_inv.words (a.at + 1) in
    let whole = sym (right_whole a.words.now a.at (omega arith)) in
    record { result_value = rw (size, counted.ensures) whole; result_len_bound = simp length-take (omega (arith, word)) }
