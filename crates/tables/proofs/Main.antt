-- The final statements of this crate, each by one citation: what the promise of `tables` comes to. A reader who believes specs/ and
-- reads this page is done; what a table is, is crate entries' page. Assumes nothing.
use Prim.Native.Nat.{ℕ}
use mathlib.Core.Path.{◌≡◌}
use mathlib.Core.Logic.{◌⊎◌, ◌↔◌}
use mathlib.Core.List.{List, [], ◌∷◌}
use Rattle.answers.specs.GrammarRefusals.{broken_layout, no_tree, unreached}
use Rattle.grammar.specs.Words.{Grammar, layout, reads, Are, FaultAt}
use Rattle.grammar.specs.Refusals.{Lowest, NoTree, AllTrees, Unreached}
use Rattle.entries.specs.Table.{Own}
use Rattle.tables.specs.Answers.{Case, answer, of_words}
use Rattle.tables.specs.Dead.{Dead, SaysDead}
use Rattle.tables.specs.Given.{Given, TableInFront}
use Rattle.tables.specs.Promise.{Tables}
use Rattle.tables.specs.declared.TableAnswer.{TableAnswer}
use Rattle.tables.specs.declared.TableAnswer.TheVariants.{Done, Refused}
use Rattle.tables.proofs.ASampleOfTables as ASampleOfTables
use Rattle.tables.proofs.TablesSettles as TablesSettles
use Rattle.tables.proofs.TablesExact as TablesExact
use Rattle.tables.proofs.DeadGrammars as DeadGrammars

-- TABLES. Its promise allows exactly one outcome, answer and buffer, for each words and each buffer before.
pub tables_settles : (words before : List ℕ) {a a' : TableAnswer} {after after' : List ℕ} →
    Tables words before a after → Tables words before a' after' → (a ≡ a') × (after ≡ after')
tables_settles = TablesSettles.tables_settles

pub tables_met : (words before : List ℕ) → (a : TableAnswer) × (after : List ℕ) × Tables words before a after
tables_met = TablesSettles.tables_met

-- Each answer is given exactly when document 01 says so; `Given` says it of each case.
pub tables_exactly : {words before after : List ℕ} {a : TableAnswer} → Tables words before a after →
    (x : Case) → (a ≡ answer x) ↔ Given words before x
tables_exactly = TablesExact.tables_exactly

pub tables_first_offence : {words before after : List ℕ} {a : TableAnswer} → Tables words before a after →
    (p : ℕ) → (a ≡ answer (of_words (broken_layout p))) ↔ FaultAt words p
tables_first_offence = TablesExact.tables_first_offence

-- At a refusal the buffer keeps its content; at Done the table stands in front, and the rest keeps its content.
pub tables_keeps : {words before after : List ℕ} {a : TableAnswer} → Tables words before a after →
    (k p : ℕ) → a ≡ Refused k p → after ≡ before
tables_keeps = TablesExact.tables_keeps

pub tables_writes : {words before after : List ℕ} {a : TableAnswer} → Tables words before a after →
    (n : ℕ) → a ≡ Done n → Are words (TableInFront before after)
tables_writes = TablesExact.tables_writes

-- What it wrote is the own table of an accepted grammar.
pub tables_own : {words before after : List ℕ} {a : TableAnswer} → Tables words before a after →
    (n : ℕ) → a ≡ Done n → Are words (Own after)
tables_own = TablesExact.tables_own

-- DEAD. Of words that are a grammar it answers 5 or 6 exactly where some nonterminal stands in no complete tree of the start.
pub tables_dead : (words : List ℕ) {g : Grammar} → layout words ≡ reads g → {before after : List ℕ} {a : TableAnswer} →
    Tables words before a after → SaysDead a ↔ Dead g
tables_dead = DeadGrammars.tables_dead

-- What meets 5 or 6 is dead, and a dead grammar meets 5, or else 6.
pub no_tree_dead : {g : Grammar} {A : ℕ} → NoTree g A → Dead g
no_tree_dead = DeadGrammars.no_tree_dead

pub unreached_dead : {g : Grammar} {A : ℕ} → Unreached g A → Dead g
unreached_dead = DeadGrammars.unreached_dead

pub dead_meets : {g : Grammar} → Dead g →
    ((A : ℕ) × Lowest (NoTree g) A) ⊎ (AllTrees g × ((A : ℕ) × Lowest (Unreached g) A))
dead_meets = DeadGrammars.dead_meets

-- SAMPLES. "words 1 0 0: 5 at 0", "words 2 0 0 0 0: 5 at 1", "words 2 0 0 0 0 1 0: 6 at 1"
pub no_tree_at_0 : Tables (1 ∷ 0 ∷ 0 ∷ []) [] (answer (of_words (no_tree 0))) []
no_tree_at_0 = ASampleOfTables.no_tree_at_0

pub no_tree_at_1 : Tables (2 ∷ 0 ∷ 0 ∷ 0 ∷ 0 ∷ []) [] (answer (of_words (no_tree 1))) []
no_tree_at_1 = ASampleOfTables.no_tree_at_1

pub unreached_at_1 : Tables (2 ∷ 0 ∷ 0 ∷ 0 ∷ 0 ∷ 1 ∷ 0 ∷ []) [] (answer (of_words (unreached 1))) []
unreached_at_1 = ASampleOfTables.unreached_at_1
