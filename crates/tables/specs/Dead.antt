-- "A grammar met by 5 or 6 is what demand 3 calls dead; tables and next both say so." Said of trees alone, with no word of how
-- it is found out: some declared nonterminal stands in no complete tree of the start. That `tables` answers 5 or 6 to exactly the
-- dead grammars is a law (proofs/DeadGrammars). Assumes nothing.
use Rattle.std.specs.Prelude.{ℕ, ◌<◌, ◌≡◌, ◌⊎◌}
use Rattle.answers.specs.GrammarRefusals.{no_tree, unreached}
use Rattle.grammar.specs.Words.{Grammar}
use Rattle.grammar.specs.Tree.{Tree, StandsIn}
use Rattle.tables.specs.Answers.{answer, of_words}
use Rattle.tables.specs.declared.TableAnswer.{TableAnswer}

pub record Dead (g : Grammar) : Type 0 where
  pub A : ℕ
  pub nonterminal : A < g.N
  pub nowhere : (t : Tree g g.start) → ¬ StandsIn g A t

-- the answer is 5, or 6
abbrev pub SaysDead : TableAnswer → Type 0
SaysDead a = (A : ℕ) × ((a ≡ answer (of_words (no_tree A))) ⊎ (a ≡ answer (of_words (unreached A))))
