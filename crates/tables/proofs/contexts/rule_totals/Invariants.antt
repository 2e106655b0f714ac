-- `tables::contexts::rule_totals` meets its contract: the totals of the rules passed stand. Assumes nothing.
use mathlib.Core.Path.{◌≡◌}
use Prim.Native.Nat.{ℕ, ◌<◌}
use lib.ListN.{length, get_or}
use Rattle.tables.proofs.RuleTotals.{total_at}
use Rattle.tables.proofs.contexts.rule_totals.Given as goal

abbrev pub invariant-loop-r : goal.invariant-loop-r
invariant-loop-r l =
    (length l.totals ≡ 256) × ((k : ℕ) → k < l.r → get_or l.totals k 0 ≡ total_at l.found l.contexts k)
