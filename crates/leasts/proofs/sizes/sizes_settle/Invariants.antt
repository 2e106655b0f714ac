-- `leasts::sizes::sizes_settle` meets its contract: the rules that the loop has passed are quiet, and have their sizes. Assumes
-- nothing.
use mathlib.Core.Bool.{true}
use Rattle.grammar.specs.Words.{Grammar}
use Rattle.layout.specs.Read.{ReadsAs}
use Rattle.leasts.specs.LeastSteps.{Settled, KeptFrom}
use Rattle.leasts.proofs.sizes.sizes_settle.Given as goal

abbrev pub invariant-loop-number : goal.invariant-loop-number
invariant-loop-number l =
    ((g : Grammar) → ReadsAs l.reading g → Settled g l.leasts l.sizes l.number true) ×
    KeptFrom l.reading.rules l.initial.sizes l.sizes
