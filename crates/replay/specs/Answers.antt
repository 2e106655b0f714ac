-- What `replay` answers: every case of document 01, with its number and values. Of the rows that speak of words alone it has 4
-- only: it "accepts grammars that 5, 6 or 7 would refuse". When a case is given is said by the promise. Assumes nothing.
use Rattle.std.specs.Prelude.{ℕ, Result, Ok, Err}
use Rattle.answers.specs.Refusals.{number_of, place_of}
use Rattle.answers.specs.declared.Refusal.{Refusal}
use Rattle.replay.specs.declared.ReplayAnswer.{ReplayAnswer}
use Rattle.replay.specs.declared.ReplayAnswer.TheVariants.{Done, Refused}

pub data Case : Type 0 where
  -- "Done carries the length written."
  done : (written : ℕ) → Case
  -- "words break the grammar layout"
  broken_layout : (place : ℕ) → Case
  -- "replayed list over 4,096 numbers"
  long_list : Case
  -- "list is no complete leftmost derivation"
  no_derivation : (place : ℕ) → Case
  -- "sentence buffer too short"
  too_short : (needed : ℕ) → Case

-- "Every row returns its number and the place shown"
abbrev pub answer : Case → ReplayAnswer
answer (done written) = Done written
answer (broken_layout p) = Refused 4 p
answer long_list = Refused 12 4096
answer (no_derivation p) = Refused 11 p
answer (too_short needed) = Refused 3 needed

-- an outcome as an answer
abbrev pub told : Result ℕ Refusal → ReplayAnswer
told (Ok written) = Done written
told (Err e) = Refused (number_of e) (place_of e)
