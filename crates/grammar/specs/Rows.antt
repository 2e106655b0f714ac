-- Document 01, "Refused, number by number": when rows 4 to 7 are given, of words. Every call that asks for a grammar and its
-- figures begins with them, in this order ("Tables: 4, 5, 6, 7, 3. Next: 4, 5, 6, 7, 8, .."), and its promise includes this
-- relation. Number and place of each are crates/answers, specs/GrammarRefusals; what a row says of a grammar is Refusals.antt,
-- and what row 7 compares with is a parameter here as there. Assumes nothing.
use Rattle.std.specs.Prelude.{ℕ, ◌≡◌, List}
use Rattle.answers.specs.GrammarRefusals.{GrammarRefusal, broken_layout, no_tree, unreached, oversize}
use Rattle.grammar.specs.Words.{Grammar, layout, reads, faults}
use Rattle.grammar.specs.Refusals.{Lowest, NoTree, AllTrees, Unreached, AllReached, Oversize}

pub data GrammarRefused (limit : ℕ) (words : List ℕ) : GrammarRefusal → Type 0 where
  -- | 4 | words break the grammar layout | first offending word, or word count if they end early |
  row_4 : {p : ℕ} → layout words ≡ faults p →
      GrammarRefused limit words (broken_layout p)
  -- | 5 | a nonterminal has no complete tree | lowest such |
  row_5 : {g : Grammar} {A : ℕ} → layout words ≡ reads g → Lowest (NoTree g) A →
      GrammarRefused limit words (no_tree A)
  -- | 6 | a nonterminal occurs in no form derived from the start | lowest such |
  row_6 : {g : Grammar} {A : ℕ} → layout words ≡ reads g → AllTrees g → Lowest (Unreached g) A →
      GrammarRefused limit words (unreached A)
  -- | 7 | some Total is above 4,096 | lowest such rule |
  row_7 : {g : Grammar} {r : ℕ} → layout words ≡ reads g → AllTrees g → AllReached g → Lowest (Oversize limit g) r →
      GrammarRefused limit words (oversize r)
