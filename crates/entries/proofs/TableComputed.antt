-- The tests of a table, computed: words that pass are the grammar's table. So a sample table is checked by computing it.
-- Assumes nothing.
use Prim.Native.Nat.{ℕ}
use mathlib.Core.Bool.{So, and-eq-true_iff}
use mathlib.Core.List.{List}
use lib.Dec.{eqb}
use lib.ListN.{length}
use borrow.Author.Tests.{eqb-true}
use Rattle.grammar.specs.Words.{Grammar, InBounds}
use Rattle.grammar.proofs.FigureTest.{figures_certified}
use Rattle.entries.specs.Table.{table_length, rule_in, place_in, no_choice, IsTable}
use Rattle.entries.specs.TableCertificates.{figures_of, Passes, start_words?, passes?}
use Rattle.entries.proofs.TableTests.{table_tests}

pub passes?_sound : (g : Grammar) (ws : List ℕ) → So (passes? g ws) → Passes g ws
passes?_sound g ws t =
    let (long, others) = (and-eq-true_iff (eqb (length ws) (table_length g)) _).0 t in
    let (places, figures) = (and-eq-true_iff (start_words? g ws) _).0 others in
    let (rule, place) = (and-eq-true_iff (eqb (rule_in ws g.start) no_choice) _).0 places in
    record {
      long = eqb-true (length ws) (table_length g) long;
      figures = figures_certified g (figures_of g ws) figures;
      start_rule = eqb-true (rule_in ws g.start) no_choice rule;
      start_place = eqb-true (place_in ws g.start) no_choice place;
    }

pub computed_table : {g : Grammar} → InBounds g → (ws : List ℕ) → So (passes? g ws) → IsTable g ws
computed_table {g} ok ws t = (table_tests g ok ws).0 (passes?_sound g ws t)
