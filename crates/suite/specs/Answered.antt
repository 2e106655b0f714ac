-- For the private function `answered`: one call of `next`, and the line for what it answers. Nobody has to believe this file; the
-- promises of the pieces do not cite it. Assumes nothing.
use Rattle.std.specs.Prelude.{ℕ, ◌+◌, ◌≡◌, Bool, true, false, List, take}
use Rattle.handout.specs.Next.{Lent, NextPromise}
use Rattle.handout.specs.declared.NextAnswer.{NextAnswer}
use Rattle.handout.specs.declared.NextAnswer.TheVariants.{Next, Finished, Refused}
use Rattle.lines.specs.Lines.{sentence_line, end_line, refused_line}
use Rattle.lines.specs.Room.{LineWritten}
use Rattle.suite.specs.declared.Piece.{Piece}

-- the line, of the buffers after the call and of the number of sentences before it
abbrev pub line_of : NextAnswer → Lent → ℕ → List ℕ
line_of (Next r n m) after count = sentence_line r (take n after.tokens) (take m after.rules)
line_of Finished after count = end_line count
line_of (Refused k p) after count = refused_line k p

-- the number of sentences after it, and whether it is the last line
abbrev pub counted : NextAnswer → ℕ → ℕ
counted (Next r n m) count = count + 1
counted Finished count = count
counted (Refused k p) count = count

abbrev pub is_last : NextAnswer → Bool
is_last (Next r n m) = false
is_last Finished = true
is_last (Refused k p) = true

-- the last line written behind what waits in the text
abbrev pub LineEnded : List ℕ → List ℕ → Piece → Piece → Type 0
LineEnded text text' so then =
    LineWritten (end_line so.count) text so.length text' then.length × (then.words ≡ so.words) ×
    (then.count ≡ so.count) × (then.over ≡ true)

-- one call of `next`, and its line written behind what waits in the text
pub record Answered (words table : List ℕ) (before after : Lent) (text text' : List ℕ) (so then : Piece) : Type 0 where
  pub answer : NextAnswer
  pub promise : NextPromise words table before answer after
  pub line : LineWritten (line_of answer after so.count) text so.length text' then.length
  pub same_words : then.words ≡ so.words
  pub count : then.count ≡ counted answer so.count
  pub last : then.over ≡ is_last answer
