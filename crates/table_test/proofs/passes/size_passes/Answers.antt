-- What the check leaves of `table_test::passes::size_passes`; the argument stands in Invariants.antt. Assumes nothing.
use native.Mathlib.Omega.{arith}
use lib.ListN.{get_or}
use Rattle.grammar.proofs.ContextsExist.{holds_there}
use Rattle.table_test.proofs.PlacesSummed.{summed_nonterminal, summed_terminal, summed_all}
use Rattle.table_test.proofs.passes.size_passes.Goals as goal
use Rattle.table_test.proofs.passes.size_passes.Goals.{then-reading-symbol, else-reading-symbol+then-place_passes}

pub returns-else-place_passes-clause-size : goal.returns-else-place_passes-clause-size
returns-else-place_passes-clause-size c all =
    let symbols = c.right-symbols.result.now in
    let i = c.loop-place.place in
    let places = rw (← c.right-symbols.ensures.result_value) at all in
    let passes = c.place_passes.ensures.1 (places i (get_or symbols i 0) (holds_there symbols i (omega arith)) (omega arith)) in
    cc

pub loop-place-preserved : goal.loop-place-preserved
loop-place-preserved c =
    let symbols = c.right-symbols.result.now in
    let so_far = c.loop-place.invariant in
    elim c.if-reading-symbol.branch [
      | then-reading-symbol w ↦ rw w.size-is (summed_terminal symbols (omega arith) so_far (omega arith))
      | else-reading-symbol+then-place_passes w ↦
          let least = w.least-size in
          rw w.size-is
          (summed_nonterminal symbols (omega arith) so_far least.result least.ensures.0 least.ensures.1 (omega arith)
          (w.place_passes.ensures.0 w.if-place_passes.true))
    ]

pub returns-clause-size : goal.returns-clause-size
returns-clause-size c =
    rw c.right-symbols.ensures.result_value at (summed_all c.right-symbols.result.now (omega arith) c.loop-place.invariant)
