-- The table that document 01 prints for D, of the definitions themselves, so that a promise that says otherwise is refused here:
-- with a word behind it it is D's own, and twenty words are not. Assumes nothing.
use native.Mathlib.Omega.{arith}
use mathlib.Core.Path.{◌≡◌, refl, ◌∙◌, ap}
use mathlib.Core.List.{List, [], ◌∷◌, ◌++◌}
use Prim.Native.Nat.{ℕ}
use lib.ListN.{replicate}
use denote.Ref.{Bor}
use Rattle.std.specs.Prelude.{Some, None}
use Rattle.grammar.specs.Words.{layout, Are}
use Rattle.grammar.specs.Samples.{D_words, D_table}
use Rattle.grammar.proofs.ASampleOfWords.{D_reads}
use Rattle.grammar.proofs.LayoutExact.{reads_unique}
use Rattle.entries.proofs.ASampleOfTables.{D_accepted, D_has_table}
use Rattle.entries.specs.Table.{Own}
use Rattle.layout.specs.Judge.{shape}
use Rattle.layout.specs.declared.judge.Placed.{Placed}
use Rattle.layout.specs.declared.reading.Reading.{Reading}
use Rattle.table_test.specs.Promise.{TestPromise, Tested, its, not_its}
use Rattle.layout.proofs.ReadingMade.{reading_of}

pub D_table_its : (p : Placed) × TestPromise D_words (D_table ++ 9 ∷ []) (Some p) × (p.shape ≡ shape 3 4 0 6)
D_table_its = (_, (_, D_reads, (refl, (D_accepted, D_has_table))), refl)

not_own : (ws : List ℕ) → ws ≡ D_words → ¬ Are ws (Own (replicate 20 9))
not_own ws are (g, e, own) =
    let long = (rw (reads_unique ws e (ap layout are ∙ D_reads)) at own).1.long in
    omega arith

pub twenty_not_its : TestPromise D_words (replicate 20 9) None
twenty_not_its = not_own D_words refl

pub D_table_tested : (words : Bor (List ℕ)) → words.now ≡ D_words →
    (v : Reading) × Tested words (D_table ++ 9 ∷ []) (Some v) × (v.nonterminals ≡ 3) × (v.start ≡ 0) × (v.rules ≡ 6)
D_table_tested words are =
    let is = ap layout are ∙ D_reads in
    (reading_of words _ is, its is (D_accepted, D_has_table) refl, refl, refl, refl)

pub twenty_not_tested : (words : Bor (List ℕ)) → words.now ≡ D_words → Tested words (replicate 20 9) None
twenty_not_tested words are = not_its (not_own words.now are)
