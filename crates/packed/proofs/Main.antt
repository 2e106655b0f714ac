-- The final statements of this crate, each by one citation. A reader who believes specs/ and reads this page is done.
-- Assumes nothing.
use Prim.Native.Nat.{ℕ, ◌≤◌, ◌<◌}
use mathlib.Core.Path.{◌≡◌}
use mathlib.Core.Logic.{◌↔◌, ◌⊎◌}
use mathlib.Core.List.{List, [], ◌∷◌}
use lib.ListN.{length, take}
use Rattle.packed.specs.declared.FileAnswer.{FileAnswer}
use Rattle.packed.specs.declared.FileAnswer.TheVariants.{Done, Refused}
use Rattle.packed.specs.File.{file_of, words_in, Octets, GoodFile}
use Rattle.packed.specs.SampleFile.{deck, deck_octets}
use Rattle.answers.specs.Buffers.{over, Written}
use Rattle.packed.specs.Answers.{answer, done, not_version_one, bad_length, too_many_words, too_short}
use Rattle.packed.specs.Promise.{NotVersionOne, BadLength, Unpacked, Packed}
use Rattle.packed.proofs.GoodFile as GoodFile
use Rattle.packed.proofs.Settles as Settles
use Rattle.packed.proofs.Meets as Meets
use Rattle.packed.proofs.GivenExactly as Given
use Rattle.packed.proofs.AfterAnswer as After
use Rattle.packed.proofs.RoundTrip as RoundTrip
use Rattle.packed.proofs.Samples as Samples

-- SETTLED. Any two outcomes that a promise allows for the same input coincide: the answer, and the whole of the lent buffer.
pub unpack_settles : {file words a b : List ℕ} {r s : FileAnswer} →
    Unpacked file words r a → Unpacked file words s b → (r ≡ s) × (a ≡ b)
unpack_settles = Settles.unpack_settles

pub pack_settles : {words file a b : List ℕ} {r s : FileAnswer} →
    Packed words file r a → Packed words file s b → (r ≡ s) × (a ≡ b)
pack_settles = Settles.pack_settles

-- MET. For each input there is an answer and a buffer afterwards that a promise allows.
pub unpack_met : (file words : List ℕ) → (r : FileAnswer) × (after : List ℕ) × Unpacked file words r after
unpack_met = Meets.unpack_met

pub pack_met : (words file : List ℕ) → (r : FileAnswer) × (after : List ℕ) × Packed words file r after
pack_met = Meets.pack_met

-- EXACTLY. Each answer is given exactly when document 01 says so, in its order.
pub unpack_not_version_one : {file words after : List ℕ} {r : FileAnswer} → Unpacked file words r after →
    (r ≡ answer not_version_one) ↔ NotVersionOne file
unpack_not_version_one = Given.unpack_not_version_one

pub unpack_bad_length : {file words after : List ℕ} {r : FileAnswer} → Unpacked file words r after →
    (r ≡ answer bad_length) ↔ (¬ NotVersionOne file × BadLength file)
unpack_bad_length = Given.unpack_bad_length

pub unpack_too_short : {file words after : List ℕ} {r : FileAnswer} → Unpacked file words r after → (n : ℕ) →
    (r ≡ answer (too_short n)) ↔ (¬ NotVersionOne file × ¬ BadLength file × (n ≡ length (words_in file)) × (length words < n))
unpack_too_short = Given.unpack_too_short

pub unpack_done : {file words after : List ℕ} {r : FileAnswer} → Unpacked file words r after → (n : ℕ) →
    (r ≡ answer (done n)) ↔ (¬ NotVersionOne file × ¬ BadLength file × (n ≡ length (words_in file)) × (n ≤ length words))
unpack_done = Given.unpack_done

pub pack_too_many_words : {words file after : List ℕ} {r : FileAnswer} → Packed words file r after →
    (r ≡ answer too_many_words) ↔ (8707 < length words)
pack_too_many_words = Given.pack_too_many_words

pub pack_too_short : {words file after : List ℕ} {r : FileAnswer} → Packed words file r after → (n : ℕ) →
    (r ≡ answer (too_short n)) ↔ ((length words ≤ 8707) × (n ≡ length (file_of words)) × (length file < n))
pack_too_short = Given.pack_too_short

pub pack_done : {words file after : List ℕ} {r : FileAnswer} → Packed words file r after → (n : ℕ) →
    (r ≡ answer (done n)) ↔ ((length words ≤ 8707) × (n ≡ length (file_of words)) × (n ≤ length file))
pack_done = Given.pack_done

-- WHAT PASSES rows 1 and 2: version 1, and a header that says the octets that follow, two for each of at most 8,707 words. Of
-- octets, these are the files of at most 8,707 words, and no others.
pub passes_exactly : (file : List ℕ) → (¬ NotVersionOne file × ¬ BadLength file) ↔ GoodFile file
passes_exactly = GoodFile.passes_exactly

pub good_exactly : (file : List ℕ) → Octets file → GoodFile file ↔ ((ws : List ℕ) × (length ws ≤ 8707) × (file ≡ file_of ws))
good_exactly = GoodFile.good_exactly

-- FOR CALLERS. After Done n the n numbers stand at the front of the buffer, within it, and past them it keeps its content;
-- after a refusal it is as it was.
pub after_unpack : {file words after : List ℕ} {r : FileAnswer} → Unpacked file words r after → {n : ℕ} → r ≡ Done n →
    GoodFile file × Written (words_in file) words n after
after_unpack = After.after_unpack

pub after_unpack_refused : {file words after : List ℕ} {r : FileAnswer} → Unpacked file words r after → {number place : ℕ} →
    r ≡ Refused number place → after ≡ words
after_unpack_refused = After.after_unpack_refused

pub after_pack : {words file after : List ℕ} {r : FileAnswer} → Packed words file r after → {n : ℕ} → r ≡ Done n →
    (length words ≤ 8707) × Written (file_of words) file n after
after_pack = After.after_pack

pub after_pack_refused : {words file after : List ℕ} {r : FileAnswer} → Packed words file r after → {number place : ℕ} →
    r ≡ Refused number place → after ≡ file
after_pack_refused = After.after_pack_refused

-- ROUND TRIPS. The file of at most 8,707 words is unpacked to them.
pub unpack_file_of : (ws room : List ℕ) → length ws ≤ 8707 → length ws ≤ length room →
    Unpacked (file_of ws) room (Done (length ws)) (over ws room)
unpack_file_of = RoundTrip.unpack_file_of

-- Unpacking what pack wrote gives the words back, and packing what unpack gave writes the same file.
pub unpack_of_pack : {ws buf after : List ℕ} {n : ℕ} → Packed ws buf (Done n) after → {room then : List ℕ} {r : FileAnswer} →
    length ws ≤ length room → Unpacked (take n after) room r then → (r ≡ Done (length ws)) × (then ≡ over ws room)
unpack_of_pack = RoundTrip.unpack_of_pack

pub pack_of_unpack : {file buf after : List ℕ} {n : ℕ} → Octets file → Unpacked file buf (Done n) after →
    {room then : List ℕ} {r : FileAnswer} →
    length file ≤ length room → Packed (take n after) room r then → (r ≡ Done (length file)) × (then ≡ over file room)
pack_of_unpack = RoundTrip.pack_of_unpack

-- SAMPLES of document 01: 01 00 00 is zero words; D's file is 01 00 2E and 46 octets, and is read; the empty file meets 1 at 0;
-- one of 17,418 octets or more meets 1 or 2.
pub zero_words : (words : List ℕ) → Unpacked (1 ∷ 0 ∷ 0 ∷ []) words (Done 0) words
zero_words = Samples.zero_words

pub deck_file : (file_of deck ≡ 1 ∷ 0 ∷ 0x2e ∷ deck_octets) × (length deck_octets ≡ 46)
deck_file = Samples.deck_file

pub deck_read : (words : List ℕ) → 23 ≤ length words → Unpacked (1 ∷ 0 ∷ 0x2e ∷ deck_octets) words (Done 23) (over deck words)
deck_read = Samples.deck_read

pub empty_refused : (words : List ℕ) → Unpacked [] words (Refused 1 0) words
empty_refused = Samples.empty_refused

pub long_refused : {file words after : List ℕ} {r : FileAnswer} → 17418 ≤ length file → Unpacked file words r after →
    (r ≡ answer not_version_one) ⊎ (r ≡ answer bad_length)
long_refused = Samples.long_refused
