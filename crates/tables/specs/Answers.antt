-- What `tables` answers: every case of document 01, with its number and values. Rows 4 to 7 are those of every call that asks for a
-- grammar and its figures, with the numbers and places of crate answers. When a case is given is said by the promise. Assumes
-- nothing.
use Rattle.std.specs.Prelude.{ℕ, Result, Ok, Err}
use Rattle.answers.specs.GrammarRefusals.{GrammarRefusal, number, place}
use Rattle.answers.specs.Refusals.{number_of, place_of}
use Rattle.answers.specs.declared.Refusal.{Refusal}
use Rattle.tables.specs.declared.TableAnswer.{TableAnswer}
use Rattle.tables.specs.declared.TableAnswer.TheVariants.{Done, Refused}

pub data Case : Type 0 where
  -- "Done carries the length written."
  done : (written : ℕ) → Case
  -- rows 4 to 7
  of_words : GrammarRefusal → Case
  -- "table buffer too short"
  too_short : (needed : ℕ) → Case

-- "Every row returns its number and the place shown"
abbrev pub answer : Case → TableAnswer
answer (done written) = Done written
answer (of_words x) = Refused (number x) (place x)
answer (too_short needed) = Refused 3 needed

-- the answer that tells how many words were written, or what was refused
abbrev pub told : Result ℕ Refusal → TableAnswer
told (Ok written) = Done written
told (Err refusal) = Refused (number_of refusal) (place_of refusal)
