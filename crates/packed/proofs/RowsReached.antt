-- Where code comes to a row: what its tests have found, and what it wrote, is what the row says. Each of the three functions that
-- come to rows has a set, by which the check proves it. Assumes nothing.
use Rattle.std.proofs.Common.{◌≡◌, ℕ, ◌+◌, ◌-◌, ◌*◌, ◌/◌, ◌%◌, ◌≤◌, ◌<◌, List, [], ◌∷◌, ◌++◌}
use Rattle.std.proofs.Common.{length, get_or, drop, drop-drop, ap, ◌∙◌, arith}
use Rattle.std.proofs.lemmas.Grind.{common_steps}
use borrow.Rule.Slice.PartMut.{put_mid}
use Rattle.packed.specs.declared.FileAnswer.TheVariants.{Done, Refused}
use Rattle.packed.specs.File.{octets_of, file_of, said, words_in}
use Rattle.answers.specs.Buffers.{over}
use Rattle.packed.specs.Answers.{answer, too_short}
use Rattle.packed.specs.Promise.{Unpacked, Packed}
use Rattle.packed.specs.Promise.NotVersionOne.{first_not_one}
use Rattle.packed.specs.Promise.BadLength.{under_three, odd, above, not_following}
use Rattle.packed.specs.Promise.Unpacked.{wrong_version, wrong_length, no-room-for-words, all_words}
use Rattle.packed.specs.Promise.Packed.{too_many, no-room-for-file, whole-file}
use Rattle.packed.specs.Judged.{Judged}
use Rattle.packed.specs.Judged.Judged.{judged_version, judged_length, judged_good}
use Rattle.packed.proofs.WordsAndOctets.{length-octets_of, length-file_of}
use Rattle.packed.proofs.GoodFile.{counted, good}

-- JUDGE
pub passed : (file : List ℕ) (n : ℕ) → get_or file 0 0 ≡ 1 → 3 ≤ length file → said file % 2 ≡ 0 → said file ≤ 17414 →
    said file ≡ length file - 3 → n ≡ said file / 2 → Judged file (Done n)
passed file n version three even most follow e =
    rw (e, ← counted file three even follow) (judged_good (grind (arith, common_steps)) (grind (arith, common_steps)))

pub ruleset judge_rows =
    (common_steps, judged_version, judged_length, first_not_one, under_three, odd, above, not_following, passed)

-- READ_FILE. A refusal of `judge` stands as it is, and a file that passes leaves row 3 and Done.
pub refusal_stands : {file : List ℕ} {number place : ℕ} (words : List ℕ) → Judged file (Refused number place) →
    Unpacked file words (Refused number place) words
refusal_stands words (judged_version h) = wrong_version h
refusal_stands words (judged_length v h) = wrong_length v h

pub good_length : {file : List ℕ} {n : ℕ} → Judged file (Done n) → length file ≡ 3 + 2 * n
good_length {file} (judged_good v l) = (good file v l).all

pub good_no_room : {file : List ℕ} {n : ℕ} (words : List ℕ) → Judged file (Done n) → length words < n →
    Unpacked file words (answer (too_short n)) words
good_no_room words (judged_good v l) h = no-room-for-words v l h

pub good_done : {file : List ℕ} {n : ℕ} (words : List ℕ) → Judged file (Done n) → n ≤ length words →
    Unpacked file words (Done n) (words_in file ++ drop n words)
unfolding over
good_done words (judged_good v l) h = all_words v l h

pub ruleset read_file_rows = (common_steps, refusal_stands, good_length, good_no_room, good_done)

-- WRITE_FILE, with the length needed as code has it
pub no_room : (words file : List ℕ) → length words ≤ 8707 → length file < 3 + 2 * length words →
    Packed words file (Refused 3 (3 + 2 * length words)) file
no_room words file g h = let e = length-file_of words in rw (← e) (no-room-for-file g (omega arith))

-- the header in front, and the words behind it, are the file over what was there
written : (words file header : List ℕ) (k : ℕ) → header ≡ 1 ∷ 2 * length words / 256 ∷ 2 * length words % 256 ∷ [] →
    k ≡ 2 * length words → put_mid 3 k (header ++ drop 3 file) (octets_of words) ≡ over (file_of words) file
unfolding over file_of octets_of
written words file header k e m =
    let all : 3 + k ≡ length (file_of words) = omega (arith, length-file_of words) in
    let past : drop k (drop 3 file) ≡ drop (length (file_of words)) file = drop-drop k 3 file ∙ ap (λ (n : ℕ). drop n file) all in
    rw (e, past, length-octets_of words)

pub whole : (words file header : List ℕ) (k : ℕ) → length words ≤ 8707 → 3 + 2 * length words ≤ length file →
    header ≡ 1 ∷ 2 * length words / 256 ∷ 2 * length words % 256 ∷ [] → k ≡ 2 * length words →
    Packed words file (Done (3 + 2 * length words)) (put_mid 3 k (header ++ drop 3 file) (octets_of words))
whole words file header k g h e m =
    let long = length-file_of words in
    rw (written words file header k e m, ← long) (whole-file g (omega arith))

pub ruleset write_file_rows = (common_steps, too_many, no_room, whole)
