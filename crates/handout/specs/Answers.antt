-- What `next` answers: every case of document 01, with its number and values. Rows 4 to 7 are those of every call that asks for a
-- grammar and its figures, with the numbers and places of crate answers. When a case is given is said by the promise.
-- Assumes nothing.
use Rattle.std.specs.Prelude.{ℕ}
use Rattle.answers.specs.GrammarRefusals.{GrammarRefusal, number, place}
use Rattle.answers.specs.Refusals.{number_of, place_of}
use Rattle.answers.specs.declared.Refusal.{Refusal}
use Rattle.handout.specs.declared.NextAnswer.{NextAnswer}
use Rattle.handout.specs.declared.NextAnswer.TheVariants.{Next, Finished, Refused}

pub data Case : Type 0 where
  -- "It returns the target and both lengths."
  next : (target tokens rules : ℕ) → Case
  -- "With no rule unused it answers Finished"
  finished : Case
  -- rows 4 to 7
  of_words : GrammarRefusal → Case
  -- "next: the first 5N + R table words are missing or are not this grammar's table"
  not_its_table : Case
  -- "fewer marks than rules"
  few_marks : (rules : ℕ) → Case
  -- "sentence buffer too short"
  too_short : (needed : ℕ) → Case
  -- "derivation buffer too short"
  derivation_short : (needed : ℕ) → Case

-- "Every row returns its number and the place shown"
abbrev pub answer : Case → NextAnswer
answer (next target tokens rules) = Next target tokens rules
answer finished = Finished
answer (of_words x) = Refused (number x) (place x)
answer not_its_table = Refused 8 0
answer (few_marks rules) = Refused 9 rules
answer (too_short needed) = Refused 3 needed
answer (derivation_short needed) = Refused 10 needed

-- the answer that tells what was refused
abbrev pub told : Refusal → NextAnswer
told x = Refused (number_of x) (place_of x)
