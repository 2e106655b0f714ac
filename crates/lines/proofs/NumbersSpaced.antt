-- Numbers with a space before each, one after the other. Assumes nothing.
use Prim.Native.Nat.{ℕ, ◌+◌, ◌<◌}
use native.Mathlib.Numerals.{add-one}
use mathlib.Core.Path.{◌≡◌, refl}
use mathlib.Core.List.{List, [], ◌∷◌, ◌++◌, append_assoc, append-nil}
use lib.ListN.{length, take, get_or}
use lib.Seq.{take-suc}
use Rattle.lines.specs.Digits.{decimal}
use Rattle.lines.specs.Lines.{space, spaced}
use Rattle.lines.specs.Room.{LineWritten}
use Rattle.lines.proofs.WrittenInRoom.{and_then}

pub spaced_append : (u v : List ℕ) → spaced (u ++ v) ≡ spaced u ++ spaced v
unfolding spaced
spaced_append [] v = refl
spaced_append (n ∷ u) v = rw (spaced_append u v, append_assoc (space ∷ decimal n) (spaced u) (spaced v))

pub spaced_one : (n : ℕ) → spaced (n ∷ []) ≡ space ∷ decimal n
unfolding spaced
spaced_one n = append-nil (space ∷ decimal n)

-- a list's first i numbers, and then the next
pub next_number : (l : List ℕ) {a b c : List ℕ} {p q r : ℕ} (i : ℕ) → i < length l → LineWritten (spaced (take i l)) a p b q →
    LineWritten (space ∷ decimal (get_or l i 0)) b q c r → LineWritten (spaced (take (i + 1) l)) a p c r
next_number l i h w v =
    rw (add-one, take-suc l i 0, spaced_append (take i l) (get_or l i 0 ∷ []), spaced_one (get_or l i 0)) (and_then w v)
