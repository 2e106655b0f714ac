-- The promise of `tables` settles its answer and its buffer: for each words and each buffer before there is exactly one outcome
-- that it allows. At most one: rows 4 to 7 settle by what they say of the grammar, row 3 because there is room or not, and the
-- last row because a grammar has one table. At least one: each row is decided, and an accepted grammar has a table.
-- Assumes nothing.
use Prim.Native.Nat.{ℕ, ◌≤◌, ◌<◌}
use native.Mathlib.Omega.{arith}
use native.Mathlib.Decide.{dec_lt}
use mathlib.Core.Path.{◌≡◌, refl, sym, ap, ◌∙◌}
use mathlib.Core.List.{List}
use lib.ListN.{length}
use Rattle.answers.specs.GrammarRefusals.{GrammarRefusal}
use Rattle.answers.specs.Buffers.{over}
use Rattle.grammar.specs.Words.{Grammar, InBounds, layout, reads}
use Rattle.grammar.specs.Refusals.{Accepted}
use Rattle.grammar.specs.Terms.{limit}
use Rattle.entries.specs.Table.{table_length, IsTable}
use Rattle.tables.specs.Answers.{answer, done, of_words, too_short}
use Rattle.tables.specs.Promise.{Tables, row_4_7, row_3, row_done}
use Rattle.tables.specs.declared.TableAnswer.{TableAnswer}
use Rattle.answers.proofs.Gates.{Gate, stop, go, Settles, gate_settles}
use Rattle.grammar.proofs.FirstRows.{OfAccepted, refused, accepted, accepted_settle}
use Rattle.grammar.proofs.FirstRowsMet.{accepted_met}
use Rattle.entries.proofs.TableIsOne.{table_unique}
use Rattle.entries.proofs.TableExists.{table_exists}

module _ (words before : List ℕ) where
  -- the answer and the buffer afterwards
  abbrev Out : Type 0
  Out = TableAnswer × List ℕ

  abbrev refuse : GrammarRefusal → Out
  refuse x = (answer (of_words x), before)

  data Whole (g : Grammar) : Out → Type 0 where
    whole : {table : List ℕ} → IsTable g table → Whole g (answer (done (table_length g)), over table before)

  abbrev Rows : Grammar → Out → Type 0
  Rows g =
      Gate (λ (n : ℕ). (n ≡ table_length g) × (length before < n)) (table_length g ≤ length before)
      (λ n. (answer (too_short n), before)) (Whole g)

  whole_settles : (g : Grammar) → Settles (Whole g)
  whole_settles g _ _ (whole a) (whole b) = ap (λ t. (answer (done (table_length g)), over t before)) (table_unique a b)

  rows_settle : (g : Grammar) → Settles (Rows g)
  rows_settle g =
      gate_settles (λ n. (answer (too_short n), before)) (λ x y a b. a.0 ∙ sym b.0) (λ x a b. omega (arith, a.0, a.1))
      (whole_settles g)

  rows : {a : TableAnswer} {after : List ℕ} → Tables words before a after → OfAccepted limit words refuse Rows (a, after)
  rows (row_4_7 x) = refused x
  rows (row_3 e a l) = accepted e a (stop (refl, l))
  rows (row_done e a l table) = accepted e a (go l (whole table))

  -- AT MOST ONE
  pub tables_settles : {a a' : TableAnswer} {after after' : List ℕ} →
      Tables words before a after → Tables words before a' after' → (a ≡ a') × (after ≡ after')
  tables_settles {a} {a'} {after} {after'} x y =
      let e = accepted_settle limit words refuse Rows rows_settle (a, after) (a', after') (rows x) (rows y) in
      (ap (λ (o : Out). o.0) e, ap (λ (o : Out). o.1) e)

  of_whole : {g : Grammar} {o : Out} → layout words ≡ reads g → Accepted limit g → table_length g ≤ length before → Whole g o →
      Tables words before o.0 o.1
  of_whole e a l (whole table) = row_done e a l table

  row : {o : Out} → OfAccepted limit words refuse Rows o → Tables words before o.0 o.1
  row (refused x) = row_4_7 x
  row (accepted e a (stop (same, l))) = rw same (row_3 e a (rw same at l))
  row (accepted e a (go l z)) = of_whole e a l z

  rows_met : (g : Grammar) → InBounds g → Accepted limit g → (o : Out) × Rows g o
  rows_met g ok a = room? (dec_lt (length before) (table_length g))
    where
      room? : Dec (length before < table_length g) → (o : Out) × Rows g o
      room? (yes l) = (_, stop (refl, l))
      room? (no l) = let (table, is) = table_exists g ok a.trees a.reached in (_, go (omega arith) (whole is))

  -- AT LEAST ONE
  pub tables_met : (a : TableAnswer) × (after : List ℕ) × Tables words before a after
  tables_met = let (o, z) = accepted_met limit words refuse Rows rows_met in (o.0, o.1, row z)
