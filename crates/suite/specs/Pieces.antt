-- The pieces of a file's text, by what `first_piece` and `next_piece` promise, and the pieces of successive calls, joined.
-- Assumes nothing.
use Rattle.std.specs.Prelude.{ℕ, ◌+◌, ◌≤◌, ◌<◌, ◌≡◌, Bool, true, false, List, ◌++◌, length, take}
use Rattle.packed.specs.File.{words_in}
use Rattle.grammar.specs.Words.{Grammar, layout, reads}
use Rattle.handout.specs.Next.{AllUnused}
use Rattle.handout.specs.Night.{Handout, Night}
use Rattle.lines.specs.Lines.{most_line}
use Rattle.suite.specs.declared.Piece.{Piece}
use Rattle.suite.specs.Text.{sentence_lines, first_line, Accepts, Text}

-- clear marks: those of the rules of the file's grammar are 0; what lies past them is not looked at
abbrev pub Clear : List ℕ → List ℕ → Type 0
Clear file marks = (g : Grammar) → layout (words_in file) ≡ reads g → AllUnused g marks

-- marks for all rules, room for the longest line
abbrev pub Large : List ℕ → List ℕ → Type 0
Large marks text = (256 ≤ length marks) × (most_line ≤ length text)

-- The text of a file so far: all of it where it is over; else the first line and the lines of a night that goes on, of which the
-- marks and the number of sentences are these.
pub data SoFar (file words table marks : List ℕ) (count : ℕ) (over : Bool) (out : List ℕ) : Type 0 where
  going : {g : Grammar} (hs : List Handout) → over ≡ false → Accepts file words table g → Night words table hs marks →
      count ≡ length hs → out ≡ first_line g ++ sentence_lines hs → SoFar file words table marks count over out
  whole : over ≡ true → Text file out → SoFar file words table marks count over out

-- What `first_piece` promises, of the file and of the buffers after it: the front of the text is the file's text so far.
pub record FirstPiece (file words table marks text : List ℕ) (so : Piece) : Type 0 where
  pub words_within : so.words ≤ length words
  pub within : so.length ≤ length text
  pub so_far : SoFar file (take so.words words) table marks so.count so.over (take so.length text)

-- What `next_piece` promises, of the marks before and after it and of the text after it: whatever file's text so far was out, with
-- the front of the text behind it it is again the text so far; and but for the last there is a sentence more.
pub record NextPiece (words table marks marks' text : List ℕ) (so then : Piece) : Type 0 where
  pub same_words : then.words ≡ so.words
  pub within : then.length ≤ length text
  pub behind : (file out : List ℕ) → SoFar file (take so.words words) table marks so.count so.over out →
      SoFar file (take so.words words) table marks' then.count then.over (out ++ take then.length text)
  pub more : then.over ≡ false → so.count < then.count

-- The pieces of successive calls, joined: of `first_piece` and then n times `next_piece`, while it was not over.
pub data Pieces (file words table : List ℕ) : ℕ → List ℕ → List ℕ → Piece → Type 0 where
  first : {marks text : List ℕ} {so : Piece} → FirstPiece file words table marks text so →
      Pieces file words table 0 (take so.length text) marks so
  next : {n : ℕ} {out marks marks' text : List ℕ} {so then : Piece} → Pieces file words table n out marks so →
      so.over ≡ false → NextPiece words table marks marks' text so then →
      Pieces file words table (n + 1) (out ++ take then.length text) marks' then

-- calls lead to here
pub record PieceReached (words table marks : List ℕ) (so : Piece) : Type 0 where
  pub file : List ℕ
  pub calls : ℕ
  pub out : List ℕ
  pub pieces : Pieces file words table calls out marks so

-- this is the piece that the last of some successive calls made
pub record Made (piece : List ℕ) : Type 0 where
  pub file : List ℕ
  pub words : List ℕ
  pub table : List ℕ
  pub marks : List ℕ
  pub calls : ℕ
  pub so : Piece
  pub before : List ℕ
  pub pieces : Pieces file words table calls (before ++ piece) marks so
