-- `packed::read_each` meets its contract. The invariant of its loop: each word so far is the one that its octets spell.
-- Assumes nothing.
use Rattle.std.proofs.Common.{◌≡◌, ◌+◌, ◌*◌, ◌<◌, get_or, ℕ}
use Rattle.packed.specs.File.{word_of}
use Rattle.packed.proofs.read_each.Given as goal

abbrev pub invariant-loop-i : goal.invariant-loop-i
invariant-loop-i l =
    (k : ℕ) → k < l.i → get_or l.words k 0 ≡ word_of (get_or l.octets (2 * k) 0) (get_or l.octets (2 * k + 1) 0)
