-- Each answer is given exactly when document 01 says so. One way, only that answer's row has the answer; the other way, the row
-- allows it, and what is allowed is settled. Assumes nothing.
use Rattle.std.proofs.Common.{◌≡◌, ℕ, ◌≤◌, ◌<◌, ◌↔◌, List, length, arith}
use Rattle.packed.specs.declared.FileAnswer.{FileAnswer}
use Rattle.packed.specs.File.{file_of, words_in}
use Rattle.packed.specs.Answers.{answer, done, not_version_one, bad_length, too_many_words, too_short}
use Rattle.packed.specs.Promise.{NotVersionOne, BadLength, Unpacked, Packed}

module _ {file words after : List ℕ} {r : FileAnswer} (p : Unpacked file words r after) where
  pub unpack_not_version_one : (r ≡ answer not_version_one) ↔ NotVersionOne file
  unpack_not_version_one = grind arith

  pub unpack_bad_length : (r ≡ answer bad_length) ↔ (¬ NotVersionOne file × BadLength file)
  unpack_bad_length = grind arith

  pub unpack_too_short : (n : ℕ) →
      (r ≡ answer (too_short n)) ↔ (¬ NotVersionOne file × ¬ BadLength file × (n ≡ length (words_in file)) × (length words < n))
  unpack_too_short n = grind arith

  pub unpack_done : (n : ℕ) →
      (r ≡ answer (done n)) ↔ (¬ NotVersionOne file × ¬ BadLength file × (n ≡ length (words_in file)) × (n ≤ length words))
  unpack_done n = grind arith

module _ {words file after : List ℕ} {r : FileAnswer} (p : Packed words file r after) where
  pub pack_too_many_words : (r ≡ answer too_many_words) ↔ (8707 < length words)
  pack_too_many_words = grind arith

  pub pack_too_short : (n : ℕ) →
      (r ≡ answer (too_short n)) ↔ ((length words ≤ 8707) × (n ≡ length (file_of words)) × (length file < n))
  pack_too_short n = grind arith

  pub pack_done : (n : ℕ) → (r ≡ answer (done n)) ↔ ((length words ≤ 8707) × (n ≡ length (file_of words)) × (n ≤ length file))
  pack_done n = grind arith
