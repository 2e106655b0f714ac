-- What the private function `judge` promises `read_file`: the rows that speak of the file alone, with the number of its words
-- where it passes. Assumes nothing.
use Rattle.std.specs.Prelude.{List, ℕ, length}
use Rattle.packed.specs.declared.FileAnswer.{FileAnswer}
use Rattle.packed.specs.File.{words_in}
use Rattle.packed.specs.Answers.{answer, done, not_version_one, bad_length}
use Rattle.packed.specs.Promise.{NotVersionOne, BadLength}

pub data Judged (file : List ℕ) : FileAnswer → Type 0 where
  judged_version : NotVersionOne file → Judged file (answer not_version_one)
  judged_length : ¬ NotVersionOne file → BadLength file → Judged file (answer bad_length)
  judged_good : ¬ NotVersionOne file → ¬ BadLength file → Judged file (answer (done (length (words_in file))))
