-- Document 01's sample tables and replays, of the definitions: each table by the test of figures, each replay by computing it.
-- Assumes nothing.
use Prim.Native.Nat.{ℕ}
use native.Mathlib.Omega.{arith}
use mathlib.Core.Path.{◌≡◌, refl}
use mathlib.Core.List.{List, [], ◌∷◌}
use lib.ListN.{get_or}
use Rattle.grammar.specs.Words.{layout, lefts, reads}
use Rattle.grammar.specs.Derivation.{StopsAt}
use Rattle.grammar.specs.Terms.{measure}
use Rattle.grammar.specs.Least.{Least, Chosen}
use Rattle.grammar.proofs.LayoutExact.{in_bounds}
use Rattle.grammar.specs.Replaying.{replay, replayed, stepped, complete?}
use Rattle.grammar.proofs.Replay.{replay_stops}
use Rattle.grammar.specs.Certificates.{symbol_size, word_size, others_size, Figures, AreFigures}
use Rattle.grammar.proofs.FigureTest.{figures}
use Rattle.grammar.specs.Samples.{D, D_words, empty_rule, loop}
use Rattle.grammar.proofs.ASampleOfWords.{D_reads}

-- figures, each kind a list
abbrev pub listed : (leasts chosen contexts rules places totals : List ℕ) → Figures measure
listed leasts chosen contexts rules places totals = record {
  least = λ A. get_or leasts A 0;
  chosen = λ A. get_or chosen A 0;
  context = λ A. get_or contexts A 0;
  rule = λ A. get_or rules A 0;
  place = λ A. get_or places A 0;
  total = λ r. get_or totals r 0;
}

-- "tables of D: 3 0 0 65535 65535, 2 3 1 0 0, 1 4 3 2 0, then 3 7 4 3 4 5"
abbrev pub D_listed : Figures measure
D_listed =
    listed (3 ∷ 2 ∷ 1 ∷ []) (0 ∷ 3 ∷ 4 ∷ []) (0 ∷ 1 ∷ 3 ∷ []) (65535 ∷ 0 ∷ 2 ∷ []) (65535 ∷ 0 ∷ 0 ∷ [])
    (3 ∷ 7 ∷ 4 ∷ 3 ∷ 4 ∷ 5 ∷ [])

pub D_figures : AreFigures measure D D_listed
unfolding word_size symbol_size others_size
D_figures = figures D D_listed refl (in_bounds D_words D_reads)

-- "words 1 0 0 0 0: table 1 0 0 65535 65535 1"
empty_reads : layout (1 ∷ 0 ∷ 0 ∷ 0 ∷ 0 ∷ []) ≡ reads empty_rule
unfolding layout lefts
empty_reads = refl

abbrev pub empty_listed : Figures measure
empty_listed = listed (1 ∷ []) (0 ∷ []) (0 ∷ []) (65535 ∷ []) (65535 ∷ []) (1 ∷ [])

pub empty_figures : AreFigures measure empty_rule empty_listed
unfolding word_size symbol_size others_size
empty_figures = figures empty_rule empty_listed refl (in_bounds _ empty_reads)

-- "words 1 1 0 0 1 0 0 1 1: table 2 1 0 65535 65535 3 2"
-- "Choosing the lowest rule by tokens alone: S gives S, S gives a, then opens S for ever."
loop-reads : layout (1 ∷ 1 ∷ 0 ∷ 0 ∷ 1 ∷ 0 ∷ 0 ∷ 1 ∷ 1 ∷ []) ≡ reads loop
unfolding layout lefts
loop-reads = refl

abbrev pub loop_listed : Figures measure
loop_listed = listed (2 ∷ []) (1 ∷ []) (0 ∷ []) (65535 ∷ []) (65535 ∷ []) (3 ∷ 2 ∷ [])

pub loop_figures : AreFigures measure loop loop_listed
unfolding word_size symbol_size others_size
loop_figures = figures loop loop_listed refl (in_bounds _ loop-reads)

pub loop_least : Least measure loop 0 2
loop_least = loop_figures.leasts 0 (omega arith)

pub loop_chosen : Chosen measure loop 0 1
loop_chosen = loop_figures.chosens 0 (omega arith)

-- "replay 0 2 over D: 11 at 2", "replay 0 3 3 over D: 11 at 2", "replay of the empty list over D: 11 at 0"
pub ends_open : StopsAt D (0 ∷ 2 ∷ []) 2
unfolding replay replayed stepped complete?
ends_open = (replay_stops D (0 ∷ 2 ∷ []) 2).0 refl

pub goes_past : StopsAt D (0 ∷ 3 ∷ 3 ∷ []) 2
unfolding replay replayed stepped complete?
goes_past = (replay_stops D (0 ∷ 3 ∷ 3 ∷ []) 2).0 refl

pub never_begins : StopsAt D [] 0
unfolding replay replayed stepped complete?
never_begins = (replay_stops D [] 0).0 refl
