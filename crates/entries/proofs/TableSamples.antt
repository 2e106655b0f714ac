-- Tables that document 01 prints, and that of the grammar in which everything ties, by computing. Assumes nothing.
use Prim.Native.Nat.{ℕ}
use mathlib.Core.Path.{refl}
use mathlib.Core.List.{List, [], ◌∷◌}
use Rattle.grammar.specs.Words.{layout, lefts}
use Rattle.grammar.proofs.LayoutExact.{in_bounds}
use Rattle.grammar.specs.Certificates.{symbol_size, word_size, others_size}
use Rattle.grammar.specs.Samples.{empty_rule, loop}
use Rattle.grammar.proofs.ASampleOfTies.{ties}
use Rattle.entries.specs.Table.{IsTable}
use Rattle.entries.proofs.TableComputed.{computed_table}

-- "words 1 0 0 0 0: table 1 0 0 65535 65535 1"
pub empty_has_table : IsTable empty_rule (1 ∷ 0 ∷ 0 ∷ 65535 ∷ 65535 ∷ 1 ∷ [])
unfolding layout lefts word_size symbol_size others_size
empty_has_table = computed_table (in_bounds (1 ∷ 0 ∷ 0 ∷ 0 ∷ 0 ∷ []) refl) _ refl

-- "words 1 1 0 0 1 0 0 1 1: table 2 1 0 65535 65535 3 2"
pub loop_has_table : IsTable loop (2 ∷ 1 ∷ 0 ∷ 65535 ∷ 65535 ∷ 3 ∷ 2 ∷ [])
unfolding layout lefts word_size symbol_size others_size
loop_has_table = computed_table (in_bounds (1 ∷ 1 ∷ 0 ∷ 0 ∷ 1 ∷ 0 ∷ 0 ∷ 1 ∷ 1 ∷ []) refl) _ refl

-- the lowest rule, then the leftmost place, wherever there is a tie
abbrev pub ties_words : List ℕ
ties_words = 2 ∷ 2 ∷ 0 ∷ 0 ∷ 2 ∷ 1 ∷ 1 ∷ 1 ∷ 1 ∷ 2 ∷ 1 ∷ 1 ∷ 3 ∷ 0 ∷ 2 ∷ 1 ∷ 1 ∷ []

pub ties_has_table : IsTable ties (5 ∷ 0 ∷ 0 ∷ 65535 ∷ 65535 ∷ 2 ∷ 1 ∷ 3 ∷ 0 ∷ 0 ∷ 5 ∷ 5 ∷ 5 ∷ 5 ∷ [])
unfolding layout lefts word_size symbol_size others_size
ties_has_table = computed_table (in_bounds ties_words refl) _ refl
