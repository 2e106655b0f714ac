-- Document 01's sample files, and what it says of empty and of long ones, of the promises themselves. Assumes nothing.
use mathlib.Core.Path.{◌≡◌, refl}
use mathlib.Core.List.{List, [], ◌∷◌}
use mathlib.Core.Logic.{◌⊎◌, inl, inr}
use Prim.Native.Nat.{ℕ, ◌≤◌, zero-le}
use native.Mathlib.Omega.{arith}
use lib.Dec.{lit≤}
use lib.ListN.{length}
use Rattle.packed.specs.declared.FileAnswer.{FileAnswer}
use Rattle.packed.specs.declared.FileAnswer.TheVariants.{Done, Refused}
use Rattle.packed.specs.File.{octets_of, file_of}
use Rattle.packed.specs.SampleFile.{deck, deck_octets}
use Rattle.answers.specs.Buffers.{over}
use Rattle.packed.specs.Answers.{answer, not_version_one, bad_length}
use Rattle.packed.specs.Promise.{Unpacked}
use Rattle.packed.specs.Promise.NotVersionOne.{empty}
use Rattle.packed.specs.Promise.Unpacked.{wrong_version, wrong_length, no-room-for-words, all_words}
use Rattle.packed.proofs.GoodFile.{good}
use Rattle.packed.proofs.RoundTrip.{unpack_file_of}

-- "unpack 01 00 00": "zero words"
pub zero_words : (words : List ℕ) → Unpacked (1 ∷ 0 ∷ 0 ∷ []) words (Done 0) words
unfolding file_of octets_of over
zero_words words = unpack_file_of [] words (lit≤ tt) zero-le

-- "For D the input is 01 00 2E followed by the 46 octets of the words."
pub deck_file : (file_of deck ≡ 1 ∷ 0 ∷ 0x2e ∷ deck_octets) × (length deck_octets ≡ 46)
unfolding file_of octets_of
deck_file = (refl, refl)

-- with room for its 23 words it is read
pub deck_read : (words : List ℕ) → 23 ≤ length words → Unpacked (1 ∷ 0 ∷ 0x2e ∷ deck_octets) words (Done 23) (over deck words)
unfolding file_of octets_of
deck_read words h = unpack_file_of deck words (lit≤ tt) h

-- "empty input gives `refused 1 0`"
pub empty_refused : (words : List ℕ) → Unpacked [] words (Refused 1 0) words
empty_refused words = wrong_version (empty refl)

-- "The program reads at most 17,418 octets, so a longer file meets 2 (or 1, by its first octet)."
pub long_refused : {file words after : List ℕ} {r : FileAnswer} → 17418 ≤ length file → Unpacked file words r after →
    (r ≡ answer not_version_one) ⊎ (r ≡ answer bad_length)
long_refused h (wrong_version k) = inl refl
long_refused h (wrong_length v k) = inr refl
long_refused {file} h (no-room-for-words v l k) = let g = good file v l in absurd (omega arith)
long_refused {file} h (all_words v l k) = let g = good file v l in absurd (omega arith)
