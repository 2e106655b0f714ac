-- `leasts::rounds::least_rounds` meets its contract: where the sizes settle after the first round all rules are quiet, and after
-- more rounds they cannot but settle. Assumes nothing.
use mathlib.Core.Path.{refl}
use Rattle.layout.specs.Read.{ReadsAs}
use Rattle.leasts.proofs.RoundSoFar.{rounded}
use Rattle.leasts.proofs.RuleSizes.{settled_rested, quiet_rested, kept_both}
use Rattle.leasts.proofs.rounds.least_rounds.Goals as goal

pub returns-then-not-sizes_settle : goal.returns-then-not-sizes_settle
returns-then-not-sizes_settle c g view sound =
    let same = c.of-chains.ensures in
    let viewed : ReadsAs c.of-chains.result.reading.now g = rw same view in
    let first = rounded (c.least_round-fell.ensures.round g viewed) sound in
    let rest = c.more_rounds.ensures g viewed first in
    let again = c.sizes_settle-then-not-sizes_settle in
    let kept = kept_both c.sizes_settle.ensures.kept_from again.ensures.kept_from in
    let quiet = rw same at (rest.rests refl) in
    quiet_rested c.args.reading.now again.result view rest.sound quiet (again.ensures.settled g view) kept

pub returns-else-not-sizes_settle : goal.returns-else-not-sizes_settle
returns-else-not-sizes_settle c g view sound =
    let viewed : ReadsAs c.of-chains.result.reading.now g = rw c.of-chains.ensures view in
    let first = rounded (c.least_round-fell.ensures.round g viewed) sound in
    let sizes = c.if-not-sizes_settle.ensures in
    settled_rested c.args.reading.now view first.sound (sizes.settled g view) sizes.kept_from
