-- "Tables: words to table." What `tables` promises: of words and a buffer, the answer and the buffer afterwards.
-- Rows 4 to 7 and then one row a constructor, in document 01's order: 4, 5, 6, 7, 3. "Every row returns its number and the place
-- shown; no buffer changes." Assumes nothing.
use Rattle.std.specs.Prelude.{ℕ, ◌≤◌, ◌<◌, ◌≡◌, List, length}
use Rattle.answers.specs.GrammarRefusals.{GrammarRefusal}
use Rattle.answers.specs.Buffers.{over}
use Rattle.grammar.specs.Words.{Grammar, layout, reads}
use Rattle.grammar.specs.Refusals.{Accepted}
use Rattle.grammar.specs.Rows.{GrammarRefused}
use Rattle.grammar.specs.Terms.{limit}
use Rattle.entries.specs.Table.{table_length, IsTable}
use Rattle.tables.specs.Answers.{answer, done, of_words, too_short}
use Rattle.tables.specs.declared.TableAnswer.{TableAnswer}

pub data Tables (words before : List ℕ) : TableAnswer → List ℕ → Type 0 where
  -- 4, 5, 6 and 7
  row_4_7 : {x : GrammarRefusal} → GrammarRefused limit words x →
      Tables words before (answer (of_words x)) before
  -- "table buffer too short", at the "length needed"
  row_3 : {g : Grammar} → layout words ≡ reads g → Accepted limit g → length before < table_length g →
      Tables words before (answer (too_short (table_length g))) before
  -- "Done carries the length written."
  row_done : {g : Grammar} {table : List ℕ} → layout words ≡ reads g → Accepted limit g → table_length g ≤ length before →
      IsTable g table →
      Tables words before (answer (done (table_length g))) (over table before)
