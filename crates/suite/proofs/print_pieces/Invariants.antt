-- `suite::print_pieces` meets what the pieces require, writes each that was made, and ends. The loop's invariant: the pieces of
-- successive calls for the file lead to here (`Pieces`). Each turn leaves one less (`turns`). Assumes nothing.
use Prim.Native.Nat.{ℕ, ◌≤◌}
use mathlib.Core.Path.{◌≡◌}
use mathlib.Core.List.{List}
use lib.ListN.{length}
use Rattle.lines.specs.Lines.{most_line}
use Rattle.suite.specs.Pieces.{Pieces}
use Rattle.suite.proofs.MoreLines.{turns}
use Rattle.suite.proofs.print_pieces.Given as goal

abbrev pub invariant-loop-is_written : goal.invariant-loop-is_written
invariant-loop-is_written l =
    (length l.text ≡ length l.initial.text) × (256 ≡ length l.marks) × (most_line ≤ length l.text) ×
    ((calls : ℕ) × (out : List ℕ) × Pieces l.file l.words l.table calls out l.marks l.so)

abbrev pub decreases-loop-is_written : goal.decreases-loop-is_written
decreases-loop-is_written l =
    turns l.so.over l.so.count
