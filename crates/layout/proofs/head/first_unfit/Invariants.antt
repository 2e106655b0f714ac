-- `layout::head::first_unfit` meets its contract. The loop's invariant: every word passed is below the limit.
-- Assumes nothing.
use Prim.Native.Nat.{ℕ, ◌≤◌, ◌<◌}
use lib.ListN.{get_or}
use Rattle.layout.proofs.head.first_unfit.Given as goal

abbrev pub invariant-loop-i : goal.invariant-loop-i
invariant-loop-i l = (j : ℕ) → l.from ≤ j → j < l.i → get_or l.words j 0 < l.limit
