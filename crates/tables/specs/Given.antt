-- When each answer of `tables` is given, and what it says of the buffer, without the order of the rows. proofs/Main says of each
-- that it is given exactly then. Assumes nothing.
use Rattle.std.specs.Prelude.{ℕ, ◌≤◌, ◌<◌, ◌≡◌, List, length, drop}
use Rattle.grammar.specs.Words.{Grammar, Are}
use Rattle.grammar.specs.Refusals.{Accepted}
use Rattle.grammar.specs.Rows.{GrammarRefused}
use Rattle.grammar.specs.Terms.{limit}
use Rattle.entries.specs.Table.{table_length, HasTable}
use Rattle.tables.specs.Answers.{Case, done, of_words, too_short}

-- "Given exactly when"
abbrev pub Given : (words before : List ℕ) → Case → Type 0
Given words before (of_words x) = GrammarRefused limit words x
Given words before (too_short n) = Are words (λ g. Accepted limit g × (n ≡ table_length g) × (length before < n))
Given words before (done n) = Are words (λ g. Accepted limit g × (n ≡ table_length g) × (n ≤ length before))

-- what Done says of the buffer: the grammar's table in front, and what lay behind it
pub record TableInFront (before after : List ℕ) (g : Grammar) : Type 0 where
  pub table : HasTable g after
  pub behind : drop (table_length g) after ≡ drop (table_length g) before
