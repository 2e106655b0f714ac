-- "Replay: words and a list of rule numbers to the sentence of that leftmost derivation, starting from the start symbol." What
-- `replay` promises: of words, a list and a buffer, the answer and the buffer afterwards. One row a constructor, in document 01's
-- order: 4, 12, 11, 3. "Every row returns its number and the place shown; no buffer changes." "Replay asks for no table and
-- accepts grammars that 5, 6 or 7 would refuse." Assumes nothing.
use Rattle.std.specs.Prelude.{ℕ, ◌≤◌, ◌<◌, ◌≡◌, List, length}
use Rattle.answers.specs.Buffers.{over}
use Rattle.grammar.specs.Words.{Grammar, layout, reads, faults}
use Rattle.grammar.specs.Derivation.{Derives, StopsAt}
use Rattle.replay.specs.declared.ReplayAnswer.{ReplayAnswer}
use Rattle.replay.specs.Answers.{answer, done, broken_layout, long_list, no_derivation, too_short}

-- of refusal 12, whatever a grammar is limited to: "replayed list over 4,096 numbers"
abbrev pub most_numbers : ℕ
most_numbers = 4096

pub data Replay (words list before : List ℕ) : ReplayAnswer → List ℕ → Type 0 where
  -- "words break the grammar layout"
  row_4 : {p : ℕ} → layout words ≡ faults p →
      Replay words list before (answer (broken_layout p)) before
  -- "replayed list over 4,096 numbers"
  row_12 : {g : Grammar} → layout words ≡ reads g → most_numbers < length list →
      Replay words list before (answer long_list) before
  -- "list is no complete leftmost derivation", at the "first number that does not apply, or list length if nonterminals remain"
  row_11 : {g : Grammar} {p : ℕ} → layout words ≡ reads g → length list ≤ most_numbers → StopsAt g list p →
      Replay words list before (answer (no_derivation p)) before
  -- "sentence buffer too short", at the "length needed"
  row_3 : {g : Grammar} {t : List ℕ} → layout words ≡ reads g → length list ≤ most_numbers → Derives g list t →
      length before < length t →
      Replay words list before (answer (too_short (length t))) before
  -- "Done carries the length written."
  row_done : {g : Grammar} {t : List ℕ} → layout words ≡ reads g → length list ≤ most_numbers → Derives g list t →
      length t ≤ length before →
      Replay words list before (answer (done (length t))) (over t before)
