-- For the private function `fill`, which puts lines behind what waits in the text. Nobody has to believe this file; the promises of
-- the pieces do not cite it. Assumes nothing.
use Rattle.std.specs.Prelude.{ℕ, ◌+◌, ◌≤◌, ◌<◌, ◌≡◌, false, List, ◌++◌, length, take}
use Rattle.lines.specs.Lines.{most_line}
use Rattle.suite.specs.declared.Piece.{Piece}
use Rattle.suite.specs.Pieces.{SoFar}

-- behind some text, what waits is the text so far of some file
pub record Waits (words table marks text : List ℕ) (so : Piece) : Type 0 where
  pub within : so.length ≤ length text
  pub file : List ℕ
  pub out : List ℕ
  pub so_far : SoFar file words table marks so.count so.over (out ++ take so.length text)

-- Behind whatever text: if what waited was the text so far, what waits now is. Where there was room for a line, there is one more
-- sentence, or it is over.
pub record Filled (words table marks marks' text text' : List ℕ) (so then : Piece) : Type 0 where
  pub same_words : then.words ≡ so.words
  pub within : then.length ≤ length text'
  pub behind : (file out : List ℕ) → SoFar file words table marks so.count so.over (out ++ take so.length text) →
      SoFar file words table marks' then.count then.over (out ++ take then.length text')
  pub more : so.over ≡ false → so.length + most_line ≤ length text → then.over ≡ false → so.count < then.count
