-- `tables::fill::fill_totals` meets its contract: the totals of the rules that the loop has passed stand in the table. Assumes
-- nothing.
use mathlib.Core.List.{List}
use Prim.Native.Nat.{ℕ}
use Rattle.tables.specs.Filling.{HasRoom, TotalledTo}
use Rattle.tables.specs.declared.choices.Choices.{Choices}
use Rattle.tables.proofs.fill.fill_totals.Given as goal

abbrev pub invariant-loop-r : goal.invariant-loop-r
invariant-loop-r l =
    (choices : Choices) (before : List ℕ) → HasRoom l.figures before → TotalledTo l.figures choices 0 before l.initial.table →
    TotalledTo l.figures choices l.r before l.table
