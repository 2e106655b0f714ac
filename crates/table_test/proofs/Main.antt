-- The final statements of this crate, each by one citation: what the promises of `test` and `tested_reading` come to. A reader who
-- believes entries' specs/Table, layout's specs/Judge and specs/Promise and reads this page is done. Assumes nothing.
use Prim.Native.Nat.{ℕ}
use mathlib.Core.Path.{◌≡◌}
use mathlib.Core.Logic.{◌↔◌}
use mathlib.Core.List.{List, [], ◌∷◌, ◌++◌}
use lib.ListN.{replicate}
use denote.Ref.{Bor}
use Rattle.std.specs.Prelude.{Option, Some, None}
use Rattle.grammar.specs.Words.{R, layout, Are}
use Rattle.grammar.specs.Samples.{D_words, D_table}
use Rattle.layout.specs.Judge.{shape, places_of}
use Rattle.layout.specs.Read.{placed_in}
use Rattle.layout.specs.declared.judge.Placed.{Placed}
use Rattle.layout.specs.declared.reading.Reading.{Reading}
use Rattle.entries.specs.Table.{Own}
use Rattle.table_test.specs.Promise.{TestPromise, Tested}
use Rattle.table_test.proofs.ASampleOfTests as ASampleOfTests
use Rattle.table_test.proofs.TestSettles as TestSettles

-- TEST. Its promise allows exactly one outcome for each words and each table.
pub test_settles : (ws table : List ℕ) {r s : Option Placed} → TestPromise ws table r → TestPromise ws table s → r ≡ s
test_settles = TestSettles.test_settles

pub test_met : (ws table : List ℕ) → (r : Option Placed) × TestPromise ws table r
test_met = TestSettles.test_met

-- These numbers are given exactly when they are those of the grammar and `Own` holds, which says that the grammar is accepted and the
-- table is its own; none exactly when not.
pub test_its : (ws table : List ℕ) {r : Option Placed} → TestPromise ws table r → (n s k : ℕ) →
    ((p : Placed) × (r ≡ Some p) × (p.shape.nonterminals ≡ n) × (p.shape.start ≡ s) × (p.shape.rules ≡ k)) ↔
    Are ws (λ g. (n ≡ g.N) × (s ≡ g.start) × (k ≡ R g) × Own table g)
test_its = TestSettles.test_its

pub test_not_its : (ws table : List ℕ) {r : Option Placed} → TestPromise ws table r → (r ≡ None) ↔ ¬ Are ws (Own table)
test_not_its = TestSettles.test_not_its

-- With them stand the places of the grammar's rules, as `layout::judge::read` tells them.
pub test_places : (ws table : List ℕ) {r : Option Placed} → TestPromise ws table r → (p : Placed) → r ≡ Some p →
    p.places ≡ places_of (layout ws)
test_places = TestSettles.test_places

-- THE SAME WITH A READING, of `tested_reading`.
pub tested_settles : (words : Bor (List ℕ)) (table : List ℕ) {r s : Option Reading} → Tested words table r → Tested words table s →
    r ≡ s
tested_settles = TestSettles.tested_settles

pub tested_met : (words : Bor (List ℕ)) (table : List ℕ) → (r : Option Reading) × Tested words table r
tested_met = TestSettles.tested_met

pub tested_its : (words : Bor (List ℕ)) (table : List ℕ) {r : Option Reading} → Tested words table r → (n s k : ℕ) →
    ((v : Reading) × (r ≡ Some v) × (v.nonterminals ≡ n) × (v.start ≡ s) × (v.rules ≡ k)) ↔
    Are words.now (λ g. (n ≡ g.N) × (s ≡ g.start) × (k ≡ R g) × Own table g)
tested_its = TestSettles.tested_its

pub tested_not_its : (words : Bor (List ℕ)) (table : List ℕ) {r : Option Reading} → Tested words table r →
    (r ≡ None) ↔ ¬ Are words.now (Own table)
tested_not_its = TestSettles.tested_not_its

-- The reading is of these words, and has the places of the grammar's rules.
pub tested_places : (words : Bor (List ℕ)) (table : List ℕ) {r : Option Reading} → Tested words table r →
    (v : Reading) → r ≡ Some v → (v.words ≡ words) × (v.places ≡ places_of (layout words.now))
tested_places = TestSettles.tested_places

-- Without the words it is what `test` answers of them.
pub tested_placed : (words : Bor (List ℕ)) (table : List ℕ) (v : Reading) → Tested words table (Some v) →
    TestPromise words.now table (Some (placed_in v))
tested_placed = TestSettles.tested_placed

-- SAMPLES. Document 01's table of D, with a word behind it, and twenty words.
pub D_table_its : (p : Placed) × TestPromise D_words (D_table ++ 9 ∷ []) (Some p) × (p.shape ≡ shape 3 4 0 6)
D_table_its = ASampleOfTests.D_table_its

pub twenty_not_its : TestPromise D_words (replicate 20 9) None
twenty_not_its = ASampleOfTests.twenty_not_its

pub D_table_tested : (words : Bor (List ℕ)) → words.now ≡ D_words →
    (v : Reading) × Tested words (D_table ++ 9 ∷ []) (Some v) × (v.nonterminals ≡ 3) × (v.start ≡ 0) × (v.rules ≡ 6)
D_table_tested = ASampleOfTests.D_table_tested

pub twenty_not_tested : (words : Bor (List ℕ)) → words.now ≡ D_words → Tested words (replicate 20 9) None
twenty_not_tested = ASampleOfTests.twenty_not_tested
