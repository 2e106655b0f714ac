-- `tables` says of exactly the dead grammars that they are: of words that are a grammar it answers 5 or 6 exactly where some
-- nonterminal stands in no complete tree of the start. One way, what has no tree, or is in no form derived from the start, stands
-- in no tree of the start. The other way: rows 5 and 6 are decided, and a grammar that meets neither has a tree for each
-- nonterminal. Assumes nothing.
use Prim.Native.Nat.{ℕ}
use mathlib.Core.Path.{◌≡◌, subst}
use mathlib.Core.Logic.{◌⊎◌, inl, inr, ◌↔◌}
use mathlib.Core.List.{List}
use Rattle.answers.specs.GrammarRefusals.{no_tree, unreached}
use Rattle.grammar.specs.Rows.{GrammarRefused, row_5, row_6}
use Rattle.grammar.specs.Terms.{limit}
use Rattle.tables.specs.Answers.{of_words}
use Rattle.grammar.specs.Words.{Grammar, layout, reads}
use Rattle.grammar.specs.Refusals.{Lowest, NoTree, Unreached, AllTrees, AllReached}
use Rattle.grammar.proofs.Dead.{dead, open_reached}
use Rattle.grammar.proofs.Decided.{trees?, all_reached?}
use Rattle.tables.specs.Dead.{Dead, SaysDead}
use Rattle.tables.specs.Promise.{Tables}
use Rattle.tables.specs.declared.TableAnswer.{TableAnswer}
use Rattle.grammar.proofs.LayoutExact.{reads_unique}
use Rattle.tables.proofs.TablesExact.{tables_exactly}

pub no_tree_dead : {g : Grammar} {A : ℕ} → NoTree g A → Dead g
no_tree_dead {A = A} z = record { A = A; nonterminal = z.nonterminal; nowhere = λ t s. z.none s.below }

pub unreached_dead : {g : Grammar} {A : ℕ} → Unreached g A → Dead g
unreached_dead {A = A} z = record { A = A; nonterminal = z.nonterminal; nowhere = λ t s. z.never (open_reached s.above) }

-- a dead grammar meets row 5, or else row 6
pub dead_meets : {g : Grammar} → Dead g →
    ((A : ℕ) × Lowest (NoTree g) A) ⊎ (AllTrees g × ((A : ℕ) × Lowest (Unreached g) A))
dead_meets {g} d = five (trees? g)
  where
    six : (t : AllTrees g) → AllReached g ⊎ ((A : ℕ) × Lowest (Unreached g) A) → (A : ℕ) × Lowest (Unreached g) A
    six t (inl u) = let (w, stands) = (dead g).0 (t, u) d.A d.nonterminal in absurd (d.nowhere w stands)
    six t (inr z) = z

    five : AllTrees g ⊎ ((A : ℕ) × Lowest (NoTree g) A) →
        ((A : ℕ) × Lowest (NoTree g) A) ⊎ (AllTrees g × ((A : ℕ) × Lowest (Unreached g) A))
    five (inl t) = inr (t, six t (all_reached? g t))
    five (inr z) = inl z

module _ (words : List ℕ) {g : Grammar} (e : layout words ≡ reads g) {before after : List ℕ} {a : TableAnswer} where
  -- DEAD
  pub tables_dead : Tables words before a after → SaysDead a ↔ Dead g
  tables_dead p = (to, λ d. from (dead_meets d))
    where
      five : {A : ℕ} → GrammarRefused limit words (no_tree A) → Dead g
      five (row_5 read low) = subst Dead (reads_unique words read e) (no_tree_dead low.such)

      six : {A : ℕ} → GrammarRefused limit words (unreached A) → Dead g
      six (row_6 read t low) = subst Dead (reads_unique words read e) (unreached_dead low.such)

      to : SaysDead a → Dead g
      to (A, inl z) = five ((tables_exactly p (of_words (no_tree A))).0 z)
      to (A, inr z) = six ((tables_exactly p (of_words (unreached A))).0 z)

      from : ((A : ℕ) × Lowest (NoTree g) A) ⊎ (AllTrees g × ((A : ℕ) × Lowest (Unreached g) A)) → SaysDead a
      from (inl (A, low)) = (A, inl ((tables_exactly p (of_words (no_tree A))).1 (row_5 e low)))
      from (inr (t, (A, low))) = (A, inr ((tables_exactly p (of_words (unreached A))).1 (row_6 e t low)))
