-- What the check leaves of `leasts::sizes::sizes_settle`; the argument stands in Invariants.antt. Assumes nothing.
use native.Mathlib.Omega.{arith}
use mathlib.Core.Path.{◌≡◌, ap}
use Prim.Native.Nat.{ℕ, ◌<◌}
use lib.ListN.{length, length-set}
use mathlib.Core.Bool.{true}
use Rattle.figures.proofs.WrittenInOrder.{written_more}
use Rattle.leasts.specs.LeastSteps.{SettledAt}
use Rattle.leasts.proofs.RuleSizes.{kept_set}
use Rattle.leasts.proofs.sizes.sizes_settle.Goals as goal

pub loop-number-preserved : goal.loop-number-preserved
loop-number-preserved c =
    let a = c.args in
    let l = c.loop-number in
    let (x, noted, settled) = rw (c.of.ensures.read_there, c.of.ensures.numbered) at c.if-not-size_settles.ensures in
    let room : l.number < length l.sizes = omega (arith, c.of.result.few, ap length noted, length-set {A = ℕ}) in
    rw noted (
      λ g view. written_more (λ k y. SettledAt g a.leasts.now k y true) l.sizes room (settled g view) (l.invariant.0 g view),
      kept_set l.sizes l.number x (omega arith) l.invariant.1,
    )

pub returns-clause-settled : goal.returns-clause-settled
returns-clause-settled c g view =
    let end : c.loop-number.number ≡ c.args.reading.now.rules = omega arith in
    rw end at (c.loop-number.invariant.0 g view)
