-- What the check leaves of `tables::chains::Chains::of`: there is room for a rule of each nonterminal, and at the outset none is
-- noted. Assumes nothing.
use native.Mathlib.Omega.{arith}
use Rattle.std.proofs.Common.{◌<◌, None}
use Rattle.std.specs.Option.{ForSome}
use Rattle.std.proofs.lemmas.List.Elements.{All-replicate}
use Rattle.layout.proofs.ReadingBounds.{nonterminals_few, left_is_nonterminal}
use Rattle.tables.proofs.chains.Chains.of.Goals as goal

pub bounds-owned-from : goal.bounds-owned-from
bounds-owned-from c =
    let v = c.args.found.now.reading in
    omega (arith, left_is_nonterminal v c.loop-r.r c.loop-r-test.true, nonterminals_few v)

pub loop-r-init : goal.loop-r-init
loop-r-init c = All-replicate (λ user. ForSome user (λ r. r < c.args.found.now.reading.rules)) 128 None (λ r e. cc)
