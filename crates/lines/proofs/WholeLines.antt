-- Where there is room for all of a text: the buffer holds it, between what stood before and behind it, and the index is past it.
-- An index below the buffer's length says that there was room. Assumes nothing.
use Prim.Native.Nat.{ℕ, ◌+◌, ◌≤◌, ◌<◌}
use native.Mathlib.Omega.{arith}
use native.Mathlib.Nat.{zero-add}
use mathlib.Core.Path.{◌≡◌, ◌∙◌}
use mathlib.Core.List.{List, ◌++◌}
use lib.ListN.{length, take, drop}
use lib.Seq.{sets-eq, take-append_seam}
use Rattle.lines.specs.Room.{LineWritten}
use Rattle.lines.proofs.WrittenInRoom.{kept}

module _ {text buffer after : List ℕ} {at past : ℕ} (w : LineWritten text buffer at after past) where
  -- WHOLE: the whole text, in its place, and nothing else has changed
  pub with_room : at + length text ≤ length buffer →
      (past ≡ at + length text) × (after ≡ take at buffer ++ text ++ drop (at + length text) buffer)
  with_room h = (omega (arith, w.index), w.holds ∙ sets-eq text buffer at h)

  -- WHOLE: an index below the buffer's length is past the whole text
  pub room_told : past < length buffer → at + length text ≤ length buffer
  room_told h = omega (arith, w.index)

  -- the index stays within the buffer
  pub within : at ≤ length buffer → past ≤ length after
  within h = let l = kept w in omega (arith, w.index)

-- WHOLE: the front of the buffer is the text
pub front : {text buffer after : List ℕ} {past : ℕ} → LineWritten text buffer 0 after past → length text ≤ length buffer →
    take past after ≡ text
front {text} {buffer} w h =
    let all = with_room w (omega arith) in
    rw (all.0, all.1, zero-add (length text)) (take-append_seam text (drop (length text) buffer))
