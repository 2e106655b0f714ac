-- An answer as four numbers, for callers in other languages: its kind, then the values that document 01 has it carry, in the
-- document's order, then zeros. "For every call an answer is one of Done, Next, Finished or Refused."
--
--   | Answer | Numbers |
--   |---|---|
--   | Done | 0, length written, 0, 0 |
--   | Next | 1, target, tokens, rule numbers |
--   | Finished | 2, 0, 0, 0 |
--   | Refused | 3, number, place, 0 |
--
-- Assumes nothing.
use Rattle.std.specs.Prelude.{ℕ, List, [], ◌∷◌}
use Rattle.packed.specs.declared.FileAnswer.{FileAnswer}
use Rattle.packed.specs.declared.FileAnswer.TheVariants as file
use Rattle.tables.specs.declared.TableAnswer.{TableAnswer}
use Rattle.tables.specs.declared.TableAnswer.TheVariants as table
use Rattle.handout.specs.declared.NextAnswer.{NextAnswer}
use Rattle.handout.specs.declared.NextAnswer.TheVariants as sentence
use Rattle.replay.specs.declared.ReplayAnswer.{ReplayAnswer}
use Rattle.replay.specs.declared.ReplayAnswer.TheVariants as replay

-- the four kinds of answer, whichever call gives them
abbrev pub done : ℕ → List ℕ
done length = 0 ∷ length ∷ 0 ∷ 0 ∷ []

abbrev pub next : ℕ → ℕ → ℕ → List ℕ
next target tokens rules = 1 ∷ target ∷ tokens ∷ rules ∷ []

abbrev pub finished : List ℕ
finished = 2 ∷ 0 ∷ 0 ∷ 0 ∷ []

abbrev pub refused : ℕ → ℕ → List ℕ
refused number place = 3 ∷ number ∷ place ∷ 0 ∷ []

-- unpack and pack
abbrev pub of_file : FileAnswer → List ℕ
of_file (file.Done length) = done length
of_file (file.Refused number place) = refused number place

abbrev pub of_table : TableAnswer → List ℕ
of_table (table.Done length) = done length
of_table (table.Refused number place) = refused number place

abbrev pub of_next : NextAnswer → List ℕ
of_next (sentence.Next target tokens rules) = next target tokens rules
of_next sentence.Finished = finished
of_next (sentence.Refused number place) = refused number place

abbrev pub of_replay : ReplayAnswer → List ℕ
of_replay (replay.Done length) = done length
of_replay (replay.Refused number place) = refused number place
