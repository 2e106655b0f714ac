-- No input falls between the rows of a promise: each row can be decided, so that there is an answer and a buffer afterwards that
-- the promise allows. Assumes nothing.
use Rattle.std.proofs.Common.{ℕ, ◌%◌, List, length, get_or, arith}
use Rattle.std.proofs.lemmas.Grind.{common_steps}
use native.Mathlib.Decide.{dec_lt, ℕ_discrete}
use Rattle.packed.specs.declared.FileAnswer.{FileAnswer}
use Rattle.packed.specs.File.{file_of, said, following, words_in}
use Rattle.packed.specs.Promise.{NotVersionOne, BadLength, Unpacked, Packed}
use Rattle.packed.specs.Promise.NotVersionOne.{first_not_one}
use Rattle.packed.specs.Promise.BadLength.{under_three, odd, above, not_following}
use Rattle.packed.specs.Promise.Unpacked.{wrong_version, wrong_length, no-room-for-words, all_words}
use Rattle.packed.specs.Promise.Packed.{too_many, no-room-for-file, whole-file}

module _ (file : List ℕ) where
  version? : Dec (NotVersionOne file)
  version? = elim (ℕ_discrete (get_or file 0 0) 1) [
    | yes e ↦ no (λ refused. grind (arith, common_steps))
    | no ne ↦ yes (first_not_one ne)
  ]

  length? : Dec (BadLength file)
  length? = elim (dec_lt (length file) 3) [
    | yes h ↦ yes (under_three h)
    | no three ↦ elim (ℕ_discrete (said file % 2) 1) [
      | yes h ↦ yes (odd h)
      | no even ↦ elim (dec_lt 17414 (said file)) [
        | yes h ↦ yes (above h)
        | no most ↦ elim (ℕ_discrete (said file) (length (following file))) [
          | yes e ↦ no (λ bad. grind arith)
          | no ne ↦ yes (not_following ne)
        ]
      ]
    ]
  ]

  -- AT LEAST ONE
  pub unpack_met : (words : List ℕ) → (r : FileAnswer) × (after : List ℕ) × Unpacked file words r after
  unpack_met words = elim version? [
    | yes h ↦ (_, _, wrong_version h)
    | no v ↦ elim length? [
      | yes h ↦ (_, _, wrong_length v h)
      | no l ↦ elim (dec_lt (length words) (length (words_in file))) [
        | yes h ↦ (_, _, no-room-for-words v l h)
        | no h ↦ (_, _, all_words v l (omega arith))
      ]
    ]
  ]

pub pack_met : (words file : List ℕ) → (r : FileAnswer) × (after : List ℕ) × Packed words file r after
pack_met words file = elim (dec_lt 8707 (length words)) [
  | yes h ↦ (_, _, too_many h)
  | no few ↦ elim (dec_lt (length file) (length (file_of words))) [
    | yes h ↦ (_, _, no-room-for-file (omega arith) h)
    | no h ↦ (_, _, whole-file (omega arith) (omega arith))
  ]
]
