-- What a caller that matches on the answer has: after Done, what stands in the buffer (`Written`), and what the input was; after
-- a refusal, the buffer as it was. Assumes nothing.
use Rattle.std.proofs.Common.{◌≡◌, ℕ, ◌≤◌, List, length, arith}
use Rattle.packed.specs.declared.FileAnswer.{FileAnswer}
use Rattle.packed.specs.declared.FileAnswer.TheVariants.{Done, Refused}
use Rattle.packed.specs.File.{file_of, words_in, GoodFile}
use Rattle.packed.specs.Promise.{Unpacked, Packed}
use Rattle.packed.specs.Promise.Unpacked.{all_words}
use Rattle.packed.specs.Promise.Packed.{whole-file}
use Rattle.answers.specs.Buffers.{Written}
use Rattle.answers.proofs.WrittenFromFront.{written}
use Rattle.packed.proofs.GoodFile.{good}

unpack_was_done : {file words after : List ℕ} {n : ℕ} → Unpacked file words (Done n) after →
    GoodFile file × Written (words_in file) words n after
unpack_was_done {file} {words} (all_words v l h) = (good file v l, written (words_in file) words h)

pack_was_done : {words file after : List ℕ} {n : ℕ} → Packed words file (Done n) after →
    (length words ≤ 8707) × Written (file_of words) file n after
pack_was_done {words} {file} (whole-file g h) = (g, written (file_of words) file h)

module _ {file words after : List ℕ} {r : FileAnswer} (p : Unpacked file words r after) where
  pub after_unpack : {n : ℕ} → r ≡ Done n → GoodFile file × Written (words_in file) words n after
  after_unpack e = unpack_was_done (rw e at p)

  pub after_unpack_refused : {number place : ℕ} → r ≡ Refused number place → after ≡ words
  after_unpack_refused e = grind arith

module _ {words file after : List ℕ} {r : FileAnswer} (p : Packed words file r after) where
  pub after_pack : {n : ℕ} → r ≡ Done n → (length words ≤ 8707) × Written (file_of words) file n after
  after_pack e = pack_was_done (rw e at p)

  pub after_pack_refused : {number place : ℕ} → r ≡ Refused number place → after ≡ file
  after_pack_refused e = grind arith
