-- When `next` gives each of its answers, and what it then says of the buffers: document 01's table of refusals, "Given exactly
-- when", and its sentences on Finished and on what is written. The laws of proofs/NextExact say that the promise comes to this.
-- Assumes nothing.
use Rattle.std.specs.Prelude.{ℕ, ◌≤◌, ◌<◌, ◌≡◌, ◌⊎◌, List, length}
use Rattle.answers.specs.GrammarRefusals.{no_tree, unreached}
use Rattle.answers.specs.Buffers.{Written}
use Rattle.grammar.specs.Words.{Grammar, R, Are}
use Rattle.grammar.specs.Tree.{Tree, sentence, derivation}
use Rattle.grammar.specs.Refusals.{Accepted}
use Rattle.grammar.specs.Rows.{GrammarRefused}
use Rattle.grammar.specs.Terms.{limit}
use Rattle.entries.specs.Table.{HasTable, Own}
use Rattle.handout.specs.Answers.{Case, answer, next, finished, of_words, not_its_table, few_marks, too_short}
use Rattle.handout.specs.Answers.{derivation_short}
use Rattle.handout.specs.Next.{AllUsed, Marked, Wanted, Lent}
use Rattle.handout.specs.declared.NextAnswer.{NextAnswer}

module _ (words table : List ℕ) (before : Lent) where
  -- there is a target, and P holds of it, its sentence and its derivation
  pub record Target (P : ℕ → List ℕ → List ℕ → Type 0) : Type 0 where
    pub g : Grammar
    pub r : ℕ
    pub t : Tree g g.start
    pub wanted : Wanted words table before.marks g r t
    pub holds : P r (sentence t) (derivation t)

  -- Finished, and Next r n m
  abbrev pub GivenFinished : Type 0
  GivenFinished = Are words (λ g. Own table g × (R g ≤ length before.marks) × AllUsed g before.marks)

  abbrev pub GivenNext : ℕ → ℕ → ℕ → Type 0
  GivenNext r n m =
      Target (λ k s d.
      (r ≡ k) × (n ≡ length s) × (m ≡ length d) × (n ≤ length before.tokens) × (m ≤ length before.rules))

  -- "Given exactly when", of every answer
  abbrev pub Given : Case → Type 0
  Given (of_words x) = GrammarRefused limit words x
  Given not_its_table = Are words (λ g. Accepted limit g × ¬ HasTable g table)
  Given (few_marks n) = Are words (λ g. Own table g × (n ≡ R g) × (length before.marks < n))
  Given finished = GivenFinished
  Given (too_short n) = Target (λ k s d. (n ≡ length s) × (length before.tokens < n))
  Given (derivation_short n) =
      Target (λ k s d. (length s ≤ length before.tokens) × (n ≡ length d) × (length before.rules < n))
  Given (next r n m) = GivenNext r n m

  -- what Next r n m says of the buffers: the sentence and the derivation in front, what lay behind them, and the marks set
  pub record Handed (after : Lent) (r n m : ℕ) (g : Grammar) : Type 0 where
    pub t : Tree g g.start
    pub wanted : Wanted words table before.marks g r t
    pub tokens : Written (sentence t) before.tokens n after.tokens
    pub rules : Written (derivation t) before.rules m after.rules
    pub marks : Marked (derivation t) before.marks after.marks

-- the answer is 5, or 6: "A grammar met by 5 or 6 is what demand 3 calls dead; tables and next both say so."
abbrev pub SaysDead : NextAnswer → Type 0
SaysDead a = (A : ℕ) × ((a ≡ answer (of_words (no_tree A))) ⊎ (a ≡ answer (of_words (unreached A))))
