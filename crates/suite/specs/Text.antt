-- The text that the program is to print for a file. Document 01: "The first line has N, T, R. Each next line has target, token
-- count, tokens, rule count, rule numbers. The last has the sentence count. A refused file prints the one line `refused`, number,
-- place". The refusals are those of `unpack` into a buffer with room for all that it can write, and rows 4 to 7 of the words; the
-- sentences are those of a night that is over (crates/handout, specs/Night). Assumes nothing.
use Rattle.std.specs.Prelude.{ℕ, ◌≤◌, ◌≡◌, List, [], ◌∷◌, ◌++◌, length}
use Rattle.packed.specs.File.{words_in}
use Rattle.packed.specs.Promise.{NotVersionOne, BadLength, Unpacked}
use Rattle.packed.specs.declared.FileAnswer.TheVariants as file-answer
use Rattle.answers.specs.GrammarRefusals as row
use Rattle.answers.specs.GrammarRefusals.{GrammarRefusal}
use Rattle.grammar.specs.Words.{Grammar, R, layout, reads}
use Rattle.grammar.specs.Rows.{GrammarRefused}
use Rattle.grammar.specs.Refusals.{Accepted}
use Rattle.grammar.specs.Terms.{limit}
use Rattle.entries.specs.Table.{HasTable}
use Rattle.handout.specs.Night.{Handout, handout, Over}
use Rattle.lines.specs.Lines.{suite_line, sentence_line, end_line, refused_line}

-- the lines of a night's handouts, of which the last stands first
unfoldable pub sentence_lines : List Handout → List ℕ
sentence_lines [] = []
sentence_lines (handout r t ks ∷ hs) = sentence_lines hs ++ sentence_line r t ks

-- the first line, a line for each handout, the last line
abbrev pub first_line : Grammar → List ℕ
first_line g = suite_line g.N g.T (R g)

unfoldable pub suite_text : Grammar → List Handout → List ℕ
suite_text g hs = first_line g ++ sentence_lines hs ++ end_line (length hs)

-- neither 1 nor 2 is given, and these are the words of the file
pub record Unpacks (file words : List ℕ) : Type 0 where
  pub version : ¬ NotVersionOne file
  pub long : ¬ BadLength file
  pub are : words ≡ words_in file

-- the words of the file are an accepted grammar, and this is its table
pub record Accepts (file words table : List ℕ) (g : Grammar) : Type 0 where
  pub unpacks : Unpacks file words
  pub grammar : layout words ≡ reads g
  pub accepted : Accepted limit g
  pub tabled : HasTable g table

-- THE TEXT of a file, which has at most 8,707 words.
pub data Text (file : List ℕ) : List ℕ → Type 0 where
  refused_file : {before after : List ℕ} {number place : ℕ} → 8707 ≤ length before →
      Unpacked file before (file-answer.Refused number place) after → Text file (refused_line number place)
  refused_words : {words : List ℕ} {x : GrammarRefusal} → Unpacks file words → GrammarRefused limit words x →
      Text file (refused_line (row.number x) (row.place x))
  suite : {words table : List ℕ} {g : Grammar} {hs : List Handout} → Accepts file words table g → Over words table hs →
      Text file (suite_text g hs)
