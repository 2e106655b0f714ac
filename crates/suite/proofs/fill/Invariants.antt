-- `suite::fill` meets its contract. The loop's invariant: the buffers keep their lengths, and what waits is the text so far behind
-- whatever was it at first (`Filling`). Each turn leaves one less (`turns`). Assumes nothing.
use mathlib.Core.Path.{◌≡◌}
use lib.ListN.{length}
use Rattle.suite.proofs.MoreLines.{Filling}
use Rattle.suite.proofs.MoreLines.{LineRoom, turns}
use Rattle.grammar.specs.Terms.{limit}
use Rattle.suite.proofs.fill.Given as goal

abbrev pub invariant-loop-so : goal.invariant-loop-so
invariant-loop-so l =
    (length l.marks ≡ length l.initial.marks) × (length l.text ≡ length l.initial.text) × (limit ≡ length l.sentence) × (limit ≡ length l.derivation) ×
    LineRoom l.marks l.sentence l.derivation × Filling l.words l.table l.initial.marks l.marks l.initial.text l.text l.initial.so l.so

abbrev pub decreases-loop-so : goal.decreases-loop-so
decreases-loop-so l = turns l.so.over l.so.count
