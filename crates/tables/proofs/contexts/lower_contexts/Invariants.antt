-- `tables::contexts::lower_contexts` meets its contract. The loop's invariant: what the symbols to come do, after what those passed
-- did, is what all do; and no symbol lowers more than one figure. Assumes nothing.
use mathlib.Core.List.{List}
use Prim.Native.Nat.{ℕ, ◌+◌, ◌≤◌}
use lib.ListN.{drop}
use Rattle.tables.specs.ContextSteps.{PlacesStep}
use Rattle.tables.proofs.contexts.lower_contexts.Given as goal

abbrev pub invariant-loop-s : goal.invariant-loop-s
invariant-loop-s l =
    (l.fell ≤ l.s-index) ×
    ((us : List ℕ) (f : ℕ) →
    PlacesStep l.found.reading.nonterminals l.whole l.found.leasts (drop l.s-index l.symbols) l.contexts us f →
    PlacesStep l.found.reading.nonterminals l.whole l.found.leasts l.symbols l.initial.contexts us (l.fell + f))
