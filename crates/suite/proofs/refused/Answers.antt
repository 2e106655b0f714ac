-- `suite::refused` meets its contract. Assumes nothing.
use native.Mathlib.Omega.{arith}
use Rattle.suite.proofs.FirstLines.{one_line}
use Rattle.suite.proofs.refused.Goals as goal

pub returns : goal.returns
returns c =
    one_line c.requires _ _ (omega (arith, c.ranges.number)) (omega (arith, c.ranges.place)) c.refused.ensures
