-- For the private functions that make the first line. Nobody has to believe this file; the promises of the pieces do not cite it.
-- Assumes nothing.
use Rattle.std.specs.Prelude.{ℕ, ◌≤◌, ◌≡◌, true, false, List, length, take}
use Rattle.answers.specs.GrammarRefusals.{number, broken_layout}
use Rattle.grammar.specs.Words.{Grammar, layout, reads, faults}
use Rattle.grammar.specs.Refusals.{Accepted}
use Rattle.grammar.specs.Terms.{limit}
use Rattle.entries.specs.Table.{most_table, HasTable}
use Rattle.tables.specs.Promise.{Tables}
use Rattle.tables.specs.declared.TableAnswer.TheVariants.{Refused}
use Rattle.lines.specs.Lines.{refused_line}
use Rattle.suite.specs.declared.Piece.{Piece}
use Rattle.suite.specs.Text.{first_line}
use Rattle.suite.specs.Pieces.{Clear, SoFar}

-- the front of the text is the line of a refusal, and it is over
pub record OneLine (number place : ℕ) (text : List ℕ) (so : Piece) : Type 0 where
  pub words : so.words ≡ 0
  pub over : so.over ≡ true
  pub within : so.length ≤ length text
  pub front : take so.length text ≡ refused_line number place

-- the front of the text is the first line of a grammar of n words
pub record SuiteLine (g : Grammar) (n : ℕ) (text : List ℕ) (so : Piece) : Type 0 where
  pub words : so.words ≡ n
  pub count : so.count ≡ 0
  pub over : so.over ≡ false
  pub within : so.length ≤ length text
  pub front : take so.length text ≡ first_line g

-- of words, by what they are
pub data FirstLine (words text : List ℕ) (so : Piece) : Type 0 where
  of_grammar : {g : Grammar} → layout words ≡ reads g → SuiteLine g (length words) text so → FirstLine words text so
  of_fault : {p : ℕ} → layout words ≡ faults p → OneLine (number (broken_layout p)) p text so → FirstLine words text so

-- of words, by what `tables` answers
pub data OfWords (words table text : List ℕ) (so : Piece) : Type 0 where
  refused_words : {before : List ℕ} {number place : ℕ} → most_table ≤ length before → Tables words before (Refused number place) table →
      OneLine number place text so → OfWords words table text so
  accepted : {g : Grammar} → layout words ≡ reads g → Accepted limit g → HasTable g table → SuiteLine g (length words) text so →
      OfWords words table text so

-- of a file: with whatever clear marks, the front of the text is the text so far
pub record TextBegun (file words table text : List ℕ) (so : Piece) : Type 0 where
  pub words_within : so.words ≤ length words
  pub within : so.length ≤ length text
  pub so_far : (marks : List ℕ) → Clear file marks →
      SoFar file (take so.words words) table marks so.count so.over (take so.length text)
