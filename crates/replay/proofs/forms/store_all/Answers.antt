-- What the check leaves of `replay::forms::store_all`; the argument stands in Invariants.antt. Assumes nothing.
use Rattle.std.proofs.Common.{arith}
use Rattle.std.proofs.lemmas.Grind.{common_steps}
use Rattle.replay.proofs.TokensStored.{stored_more}
use Rattle.replay.proofs.forms.store_all.Goals as goal

pub loop-i-preserved : goal.loop-i-preserved
loop-i-preserved c = grind (arith, common_steps, stored_more)
