-- `figures::first_above` meets its contract: no figure that the loop has passed is above most. Assumes nothing.
use Prim.Native.Nat.{ℕ, ◌≤◌, ◌<◌}
use Rattle.figures.specs.Figures.{figure}
use Rattle.figures.proofs.first_above.Given as goal

abbrev pub invariant-loop-a : goal.invariant-loop-a
invariant-loop-a l = (b : ℕ) → b < l.a → figure l.figures b ≤ l.most
