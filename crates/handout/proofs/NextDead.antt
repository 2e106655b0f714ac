-- `next` says of exactly the dead grammars that they are, as `tables` does: of words that are a grammar it answers 5 or 6 exactly
-- where some nonterminal stands in no complete tree of the start. Assumes nothing.
use Prim.Native.Nat.{ℕ}
use mathlib.Core.Path.{◌≡◌, subst}
use mathlib.Core.Logic.{◌⊎◌, inl, inr, ◌↔◌}
use mathlib.Core.List.{List}
use Rattle.answers.specs.GrammarRefusals.{no_tree, unreached}
use Rattle.grammar.specs.Words.{Grammar, layout, reads}
use Rattle.grammar.specs.Refusals.{Lowest, NoTree, Unreached, AllTrees}
use Rattle.grammar.specs.Rows.{GrammarRefused, row_5, row_6}
use Rattle.grammar.specs.Terms.{limit}
use Rattle.tables.specs.Dead.{Dead}
use Rattle.grammar.proofs.LayoutExact.{reads_unique}
use Rattle.tables.proofs.Main.{no_tree_dead, unreached_dead, dead_meets}
use Rattle.handout.specs.Answers.{of_words}
use Rattle.handout.specs.Next.{NextPromise, Lent}
use Rattle.handout.specs.Given.{SaysDead}
use Rattle.handout.specs.declared.NextAnswer.{NextAnswer}
use Rattle.handout.proofs.NextExact.{next_exactly}

module _ (words : List ℕ) {g : Grammar} (e : layout words ≡ reads g) {table : List ℕ} {before after : Lent} {a : NextAnswer} where
  -- DEAD
  pub next_dead : NextPromise words table before a after → SaysDead a ↔ Dead g
  next_dead p = (to, λ d. from (dead_meets d))
    where
      five : {A : ℕ} → GrammarRefused limit words (no_tree A) → Dead g
      five (row_5 read low) = subst Dead (reads_unique words read e) (no_tree_dead low.such)

      six : {A : ℕ} → GrammarRefused limit words (unreached A) → Dead g
      six (row_6 read t low) = subst Dead (reads_unique words read e) (unreached_dead low.such)

      to : SaysDead a → Dead g
      to (A, inl z) = five ((next_exactly p (of_words (no_tree A))).0 z)
      to (A, inr z) = six ((next_exactly p (of_words (unreached A))).0 z)

      from : ((A : ℕ) × Lowest (NoTree g) A) ⊎ (AllTrees g × ((A : ℕ) × Lowest (Unreached g) A)) → SaysDead a
      from (inl (A, low)) = (A, inl ((next_exactly p (of_words (no_tree A))).1 (row_5 e low)))
      from (inr (t, (A, low))) = (A, inr ((next_exactly p (of_words (unreached A))).1 (row_6 e t low)))
