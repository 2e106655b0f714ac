-- `layout::head::Head::judge_rules` meets its contract. The loop's invariant: the number of all rules is that of those passed, at most
-- 256, and of those to come; and what places is to hold in the end is what it holds with those to come noted. Assumes nothing.
use mathlib.Core.Path.{◌≡◌}
use Prim.Native.Nat.{◌+◌, ◌*◌, ◌≤◌}
use lib.ListN.{drop}
use Rattle.answers.specs.Buffers.{over}
use Rattle.grammar.specs.Words.{lefts}
use Rattle.layout.specs.Walk.{walk_start}
use Rattle.layout.specs.Rules.{places_from}
use Rattle.layout.specs.JudgeParts.{number_of}
use Rattle.layout.proofs.TableJudged.{whole}
use Rattle.layout.proofs.PlacesNoted.{finally}
use Rattle.layout.proofs.head.Head.judge_rules.Given as goal

abbrev pub invariant-loop-rules : goal.invariant-loop-rules
invariant-loop-rules l =
    (number_of (lefts (drop 3 l.self.words.now) 3 256 l.self.nonterminals l.self.terminals) ≡ whole l.self.words.now l.self.nonterminals l.self.terminals l.at l.rules) ×
    (l.at ≤ 3 + 34 * l.rules) ×
    (over (places_from 256 l.self.words.now walk_start) l.initial.places ≡ finally l.self.words.now l.places l.at l.rules)
