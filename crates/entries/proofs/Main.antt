-- The final statements of this crate, each by one citation: what a table is. A reader who believes specs/Table and reads this
-- page is done. Assumes nothing.
use Prim.Native.Nat.{ℕ, ◌+◌, ◌≤◌, ◌<◌}
use mathlib.Core.Path.{◌≡◌}
use mathlib.Core.Bool.{So}
use mathlib.Core.Logic.{◌↔◌}
use mathlib.Core.List.{List, [], ◌∷◌}
use lib.ListN.{get_or, take}
use Rattle.grammar.specs.Words.{Grammar, R, InBounds}
use Rattle.grammar.specs.Terms.{measure, limit}
use Rattle.grammar.specs.Refusals.{AllTrees, AllReached, AllFit, Accepted}
use Rattle.grammar.specs.Certificates.{Leasts, Contexts}
use Rattle.grammar.specs.Samples.{D, empty_rule, D_table, loop}
use Rattle.entries.specs.Table.{table_length, most_table, IsTable, HasTable}
use Rattle.entries.specs.Table.{least_in, chosen_in, context_in, rule_in, place_in, total_in}
use Rattle.entries.specs.TableCertificates.{Passes, passes?, WorkedOut}
use Rattle.entries.specs.Writing.{with_entries, with_total}
use Rattle.entries.specs.declared.Entries.{Entries}
use Rattle.entries.proofs.ASampleOfTables as ASampleOfTables
use Rattle.entries.proofs.TableSamples as TableSamples
use Rattle.entries.proofs.TablePlaces as TablePlaces
use Rattle.entries.proofs.TableIsOne as TableIsOne
use Rattle.entries.proofs.TableExists as TableExists
use Rattle.entries.proofs.TableFits as TableFits
use Rattle.entries.proofs.TableTests as TableTests
use Rattle.entries.proofs.TableComputed as TableComputed
use Rattle.entries.proofs.TableWorkedOut as TableWorkedOut
use Rattle.entries.proofs.EntriesSettle as EntriesSettle

-- THE TABLE. A grammar has one at most, and one where all nonterminals have trees and are reached.
pub table_unique : {g : Grammar} {ws vs : List ℕ} → IsTable g ws → IsTable g vs → ws ≡ vs
table_unique = TableIsOne.table_unique

pub table_exists : (g : Grammar) → InBounds g → AllTrees g → AllReached g → (ws : List ℕ) × IsTable g ws
table_exists = TableExists.table_exists

-- Words are the table exactly where they pass the tests of `Passes`, which speak of the words and the rules alone. What passes
-- when computed passes.
pub table_tests : (g : Grammar) → InBounds g → (ws : List ℕ) → Passes g ws ↔ IsTable g ws
table_tests = TableTests.table_tests

pub passes?_sound : (g : Grammar) (ws : List ℕ) → So (passes? g ws) → Passes g ws
passes?_sound = TableComputed.passes?_sound

-- So words that pass when computed are the table.
pub computed_table : {g : Grammar} → InBounds g → (ws : List ℕ) → So (passes? g ws) → IsTable g ws
computed_table = TableComputed.computed_table

-- Whether a lent table is the grammar's is decided.
pub tabled? : (table : List ℕ) (g : Grammar) → InBounds g → Accepted limit g → Dec (HasTable g table)
tabled? = TableExists.tabled?

-- What is read of a lent table at the places of an entry or a total is what its first 5N + R words have there.
pub least_front : (g : Grammar) (ws : List ℕ) (A : ℕ) → A < g.N → least_in (take (table_length g) ws) A ≡ least_in ws A
least_front = TablePlaces.least_front

pub chosen_front : (g : Grammar) (ws : List ℕ) (A : ℕ) → A < g.N → chosen_in (take (table_length g) ws) A ≡ chosen_in ws A
chosen_front = TablePlaces.chosen_front

pub context_front : (g : Grammar) (ws : List ℕ) (A : ℕ) → A < g.N → context_in (take (table_length g) ws) A ≡ context_in ws A
context_front = TablePlaces.context_front

pub rule_front : (g : Grammar) (ws : List ℕ) (A : ℕ) → A < g.N → rule_in (take (table_length g) ws) A ≡ rule_in ws A
rule_front = TablePlaces.rule_front

pub place_front : (g : Grammar) (ws : List ℕ) (A : ℕ) → A < g.N → place_in (take (table_length g) ws) A ≡ place_in ws A
place_front = TablePlaces.place_front

pub total_front : (g : Grammar) (ws : List ℕ) (r : ℕ) → r < R g → total_in g.N (take (table_length g) ws) r ≡ total_in g.N ws r
total_front = TablePlaces.total_front

-- It has 896 words at most.
pub table_few : (g : Grammar) → InBounds g → table_length g ≤ most_table
table_few = TablePlaces.table_few

-- Words worked out from leasts and contexts, each choice the first that comes to its figure, are the table.
pub worked_out : (g : Grammar) (v u : ℕ → ℕ) → InBounds g → Leasts measure g v → Contexts measure g v u →
    {ws : List ℕ} → WorkedOut g v u ws → IsTable g ws
worked_out = TableWorkedOut.worked_out

-- If no Total is above 4,096, its words are 16-bit words; a least and a context of one nonterminal are together 4,096 at most.
pub table_words_fit : {g : Grammar} {ws : List ℕ} → InBounds g → AllFit limit g → IsTable g ws → (i : ℕ) → get_or ws i 0 < 65536
table_words_fit = TableFits.table_words_fit

pub sizes_fit : {g : Grammar} {ws : List ℕ} → InBounds g → AllFit limit g → IsTable g ws →
    (A : ℕ) → A < g.N → least_in ws A + context_in ws A ≤ limit
sizes_fit = TableFits.sizes_fit

pub total_fits : {g : Grammar} {ws : List ℕ} → InBounds g → AllFit limit g → IsTable g ws →
    (r : ℕ) → r < R g → total_in g.N ws r ≤ limit
total_fits = TableFits.total_fits

-- THE CODE. Each promise settles its answer, and what `write` and `write_total` leave.
pub entry_settles : (entry : ℕ) {r s : ℕ} → r ≡ entry → s ≡ entry → r ≡ s
entry_settles = EntriesSettle.entry_settles

pub figure_settles : (figure : ℕ) {r s : ℕ} → (r ≡ figure) × (r < 65536) → (s ≡ figure) × (s < 65536) → r ≡ s
figure_settles = EntriesSettle.figure_settles

pub write_settles : (before : List ℕ) (A : ℕ) (e : Entries) {after after' : List ℕ} →
    after ≡ with_entries before A e → after' ≡ with_entries before A e → after ≡ after'
write_settles = EntriesSettle.write_settles

pub write_total_settles : (before : List ℕ) (n r x : ℕ) {after after' : List ℕ} →
    after ≡ with_total before n r x → after' ≡ with_total before n r x → after ≡ after'
write_total_settles = EntriesSettle.write_total_settles

-- SAMPLES. The tables that document 01 prints.
pub D_has_table : IsTable D D_table
D_has_table = ASampleOfTables.D_has_table

pub empty_has_table : IsTable empty_rule (1 ∷ 0 ∷ 0 ∷ 65535 ∷ 65535 ∷ 1 ∷ [])
empty_has_table = TableSamples.empty_has_table

pub loop_has_table : IsTable loop (2 ∷ 1 ∷ 0 ∷ 65535 ∷ 65535 ∷ 3 ∷ 2 ∷ [])
loop_has_table = TableSamples.loop_has_table
