-- What the check leaves of `leasts::chains::Chains::of`: at the outset no rule is noted. Assumes nothing.
use Rattle.std.proofs.Common.{◌<◌, None}
use Rattle.std.specs.Option.{ForSome}
use Rattle.std.proofs.lemmas.List.Elements.{All-replicate}
use Rattle.leasts.proofs.chains.Chains.of.Goals as goal

pub loop-number-init : goal.loop-number-init
loop-number-init c = All-replicate (λ user. ForSome user (λ r. r < c.args.reading.now.rules)) 128 None (λ r e. cc)
