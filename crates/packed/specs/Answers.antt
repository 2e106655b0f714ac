-- What `unpack` and `pack` answer: every case of document 01, with its number and values. Row 2 of "Refused, number by number" is
-- two cases here, for it has one place for unpack and another for pack. When a case is given is said by the promises.
-- Assumes nothing.
use Rattle.std.specs.Prelude.{ℕ, Result, Ok, Err}
use Rattle.answers.specs.declared.Refusal.{Refusal}
use Rattle.answers.specs.Refusals.{number_of, place_of}
use Rattle.packed.specs.declared.FileAnswer.{FileAnswer}
use Rattle.packed.specs.declared.FileAnswer.TheVariants.{Done, Refused}

pub data Case : Type 0 where
  -- "Done carries the length written."
  done : (written : ℕ) → Case
  -- "file empty or first octet not 1"
  not_version_one : Case
  -- "unpack: under 3 octets, or the length is odd, above 17,414, or not the octets that follow"
  bad_length : Case
  -- "pack: over 8,707 words"
  too_many_words : Case
  -- "words, file .. buffer too short"
  too_short : (needed : ℕ) → Case

-- "Every row returns its number and the place shown"
abbrev pub answer : Case → FileAnswer
answer (done written) = Done written
answer not_version_one = Refused 1 0
answer bad_length = Refused 2 1
answer too_many_words = Refused 2 8707
answer (too_short needed) = Refused 3 needed

-- the answer that tells an outcome: how much was written, or the refusal's number and place
abbrev pub told : Result ℕ Refusal → FileAnswer
told (Ok written) = Done written
told (Err refusal) = Refused (number_of refusal) (place_of refusal)
