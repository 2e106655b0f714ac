-- `packed::write_each` meets its contract. The invariant of its loop: each word so far has its octets written. Assumes nothing.
use Rattle.std.proofs.Common.{◌≡◌, ◌+◌, ◌*◌, ◌/◌, ◌%◌, ◌<◌, get_or, ℕ}
use Rattle.packed.proofs.write_each.Given as goal

abbrev pub invariant-loop-i : goal.invariant-loop-i
invariant-loop-i l =
    (k : ℕ) → k < l.i →
    (get_or l.octets (2 * k) 0 ≡ get_or l.words k 0 / 256) × (get_or l.octets (2 * k + 1) 0 ≡ get_or l.words k 0 % 256)
