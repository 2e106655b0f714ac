-- What `unpack` and `pack` promise, from document 01, "What each call does" and "Refused, number by number": a table each, one
-- constructor to a row, in the order in which the document judges the rows. Each relates the input, the lent buffer as it was,
-- the answer, and the buffer afterwards. Assumes nothing.
use Rattle.std.specs.Prelude.{ℕ, ◌%◌, ◌≤◌, ◌<◌, ◌≡◌, List, length, get_or}
use Rattle.packed.specs.declared.FileAnswer.{FileAnswer}
use Rattle.packed.specs.File.{file_of, words_in, said, following}
use Rattle.packed.specs.Answers.{answer, done, not_version_one, bad_length, too_many_words, too_short}
use Rattle.answers.specs.Buffers.{over}

-- when 1 is given: "file empty or first octet not 1"
pub data NotVersionOne (file : List ℕ) : Type 0 where
  empty : length file ≡ 0 → NotVersionOne file
  first_not_one : ¬ (get_or file 0 0 ≡ 1) → NotVersionOne file

-- when unpack gives 2: "under 3 octets, or the length is odd, above 17,414, or not the octets that follow"
pub data BadLength (file : List ℕ) : Type 0 where
  under_three : length file < 3 → BadLength file
  odd : said file % 2 ≡ 1 → BadLength file
  above : 17414 < said file → BadLength file
  not_following : ¬ (said file ≡ length (following file)) → BadLength file

-- "file to words". "Unpack: 1, 2, 3."; where a row refuses, "no buffer changes".
pub data Unpacked (file words : List ℕ) : FileAnswer → List ℕ → Type 0 where
  -- | 1 | file empty or first octet not 1 | 0 |
  wrong_version : NotVersionOne file → Unpacked file words (answer not_version_one) words
  -- | 2 | unpack: under 3 octets, or the length is odd, above 17,414, or not the octets that follow | 1 |
  wrong_length : ¬ NotVersionOne file → BadLength file → Unpacked file words (answer bad_length) words
  -- | 3 | words .. buffer too short | length needed |
  no-room-for-words :
      ¬ NotVersionOne file → ¬ BadLength file → length words < length (words_in file) →
      Unpacked file words (answer (too_short (length (words_in file)))) words
  -- "Done carries the length written."
  all_words :
      ¬ NotVersionOne file → ¬ BadLength file → length (words_in file) ≤ length words →
      Unpacked file words (answer (done (length (words_in file)))) (over (words_in file) words)

-- "words to file". "Pack: 2, 3."
pub data Packed (words file : List ℕ) : FileAnswer → List ℕ → Type 0 where
  -- | 2 | pack: over 8,707 words | pack 8,707 |
  too_many : 8707 < length words → Packed words file (answer too_many_words) file
  -- | 3 | file .. buffer too short | length needed |
  no-room-for-file :
      length words ≤ 8707 → length file < length (file_of words) →
      Packed words file (answer (too_short (length (file_of words)))) file
  -- "Done carries the length written."
  whole-file :
      length words ≤ 8707 → length (file_of words) ≤ length file →
      Packed words file (answer (done (length (file_of words)))) (over (file_of words) file)
