-- Document 01's rows on tables, of the definitions themselves: what `tables` answers to which words. Proved from the definitions
-- and from laws on grammars alone, so that a promise that says otherwise is refused here. Assumes nothing.
use Prim.Native.Nat.{ℕ, zero, suc, ◌≤◌}
use native.Mathlib.Omega.{arith}
use mathlib.Core.Path.{◌≡◌, refl}
use mathlib.Core.List.Memᴰ
use mathlib.Core.List.{List, [], ◌∷◌, ◌++◌}
use lib.ListN.{replicate}
use Rattle.answers.specs.GrammarRefusals.{broken_layout, no_tree, unreached}
use Rattle.answers.specs.Buffers.{over}
use Rattle.grammar.specs.Words.{Grammar, ◌⟶◌, RuleAt, layout, lefts, reads}
use Rattle.grammar.specs.Tree.{Tree, node, nil}
use Rattle.grammar.specs.Derivation.{none}
use Rattle.grammar.specs.Refusals.{NoTree, Unreached, AllTrees}
use Rattle.grammar.specs.Rows.{row_4, row_5, row_6}
use Rattle.grammar.proofs.Dead.{closed_reached}
use Rattle.grammar.specs.Samples.{D_words, D_table}
use Rattle.grammar.proofs.ASampleOfWords.{D_reads, no_words, ends_early, no_rules}
use Rattle.entries.proofs.ASampleOfTables.{D_accepted, D_has_table}
use Rattle.tables.specs.Answers.{answer, done, of_words, too_short}
use Rattle.tables.specs.Promise.{Tables, row_4_7, row_3, row_done}

-- into 22 words it is written, and the last of them keeps its content; into 20 it does not fit
pub D_written : Tables D_words (replicate 22 9) (answer (done 21)) (D_table ++ 9 ∷ [])
unfolding over
D_written = row_done D_reads D_accepted (omega arith) D_has_table

pub D_too_long : Tables D_words (replicate 20 9) (answer (too_short 21)) (replicate 20 9)
D_too_long = row_3 D_reads D_accepted (omega arith)

-- "words 3 4: 4 at 2"; "zero words; tables of them: 4 at 0"
pub breaks_at_2 : Tables (3 ∷ 4 ∷ []) [] (answer (of_words (broken_layout 2))) []
breaks_at_2 = row_4_7 (row_4 ends_early)

pub breaks_at_0 : Tables [] [] (answer (of_words (broken_layout 0))) []
breaks_at_0 = row_4_7 (row_4 no_words)

-- "words 2 0 0 0 0: 5 at 1": 1 has no tree and is not reached, and 5 comes before 6
abbrev half : Grammar
half = record { N = 2; T = 0; start = 0; rules = (0 ⟶ []) ∷ [] }

half-reads : layout (2 ∷ 0 ∷ 0 ∷ 0 ∷ 0 ∷ []) ≡ reads half
unfolding layout lefts
half-reads = refl

no_tree_of_1 : Tree half 1 → ⊥
no_tree_of_1 (node zero r f) = let s = r.stands in let z : ◌≡◌ {A = ℕ} 0 1 = cc in omega arith
no_tree_of_1 (node (suc k) r f) = let s = r.stands in let z : ◌≡◌ {A = ℕ} 0 1 = cc in omega arith

half_lowest : (m : ℕ) → NoTree half m → 1 ≤ m
half_lowest zero z = absurd (z.none (node 0 (record { stands = refl; left = omega arith }) nil))
half_lowest (suc m) z = omega arith

pub no_tree_at_1 : Tables (2 ∷ 0 ∷ 0 ∷ 0 ∷ 0 ∷ []) [] (answer (of_words (no_tree 1))) []
no_tree_at_1 =
    let such : NoTree half 1 = record { nonterminal = omega arith; none = no_tree_of_1 } in
    row_4_7 (row_5 half-reads (record { such = such; lowest = half_lowest }))

-- "words 1 0 0: 5 at 0"
abbrev ruleless : Grammar
ruleless = record { N = 1; T = 0; start = 0; rules = [] }

no_tree_of_0 : Tree ruleless 0 → ⊥
no_tree_of_0 (node k r f) = let s = r.stands in let z : ◌≡◌ {A = ℕ} 0 1 = cc in omega arith

pub no_tree_at_0 : Tables (1 ∷ 0 ∷ 0 ∷ []) [] (answer (of_words (no_tree 0))) []
no_tree_at_0 =
    let such : NoTree ruleless 0 = record { nonterminal = omega arith; none = no_tree_of_0 } in
    row_4_7 (row_5 no_rules (record { such = such; lowest = λ m z. omega arith }))

-- "words 2 0 0 0 0 1 0: 6 at 1"
abbrev apart : Grammar
apart = record { N = 2; T = 0; start = 0; rules = (0 ⟶ []) ∷ (1 ⟶ []) ∷ [] }

apart-reads : layout (2 ∷ 0 ∷ 0 ∷ 0 ∷ 0 ∷ 1 ∷ 0 ∷ []) ≡ reads apart
unfolding layout lefts
apart-reads = refl

apart_trees : AllTrees apart
apart_trees zero lt = node 0 (record { stands = refl; left = lt }) nil
apart_trees (suc zero) lt = node 1 (record { stands = refl; left = lt }) nil
apart_trees (suc (suc A)) lt = absurd (omega arith)

all_empty : (k B : ℕ) (w : List ℕ) → RuleAt apart k B w → w ≡ []
all_empty zero B w r = let s = r.stands in cc
all_empty (suc zero) B w r = let s = r.stands in cc
all_empty (suc (suc k)) B w r = absurd (let s = r.stands in let z : ◌≡◌ {A = ℕ} 0 1 = cc in omega arith)

apart_unreached : Unreached apart 1
apart_unreached = record {
  nonterminal = omega arith;
  never = λ z.
      let zero-only = closed_reached apart (λ A. A ≡ 0) (record {
        start = refl;
        names = λ k B w A r e m lt. absurd (Memᴰ.not-nil (rw (all_empty k B w r) at m));
      }) z (omega arith) in
      omega arith;
}

apart_lowest : (m : ℕ) → Unreached apart m → 1 ≤ m
apart_lowest zero z = absurd (z.never (record { γ = []; β = []; derived = none }))
apart_lowest (suc m) z = omega arith

pub unreached_at_1 : Tables (2 ∷ 0 ∷ 0 ∷ 0 ∷ 0 ∷ 1 ∷ 0 ∷ []) [] (answer (of_words (unreached 1))) []
unreached_at_1 =
    row_4_7 (row_6 apart-reads apart_trees (record { such = apart_unreached; lowest = apart_lowest }))
