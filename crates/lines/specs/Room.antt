-- Text in a lent buffer, from an index on, as far as there is room: what a buffer holds after a line was written into it, and the
-- index past the line. It is said of every buffer and every index. Assumes nothing.
use Rattle.std.specs.Prelude.{ℕ, ◌+◌, ◌-◌, min, ◌≡◌, List, length}
use Rattle.std.proofs.lemmas.List.Edits.{sets}

pub record LineWritten (text buffer : List ℕ) (at : ℕ) (after : List ℕ) (past : ℕ) : Type 0 where
  -- the octets stand at the indexes from `at` on, one after the other; past the buffer's end a store changes nothing
  pub holds : after ≡ sets buffer at text
  -- past as many octets as there was room for: below the buffer's length this is past the whole text (`room_told`)
  pub index : past ≡ at + min (length text) (length buffer - at)
