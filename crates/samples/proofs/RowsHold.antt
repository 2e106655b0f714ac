-- Every row of the table holds: by the test of rows where there is one; by the samples of crates/tables for 5 and 6, where a
-- nonterminal has no tree or is not reached; and by SampleNights for the two nights. Assumes nothing.
use native.Mathlib.Omega.{arith}
use mathlib.Core.Path.{refl}
use mathlib.Core.Logic.{inl, inr}
use Rattle.packed.specs.File.{octets_of, file_of}
use Rattle.grammar.specs.Words.{layout, lefts}
use Rattle.grammar.specs.Replaying.{replay, replayed, stepped, complete?}
use Rattle.grammar.specs.Certificates.{symbol_size, word_size, others_size}
use Rattle.tables.proofs.Main.{no_tree_at_0, no_tree_at_1, unreached_at_1}
use Rattle.samples.specs.Row.{Holds, Settled, All, no_more, ◌and◌}
use Rattle.samples.specs.Rows.{rows}
use Rattle.samples.proofs.RowsTested.{Shown, all_hold}
use Rattle.samples.proofs.AnyBuffer.{refused_of_any}
use Rattle.samples.proofs.RowsSettled.{all_settled}
use Rattle.samples.proofs.SampleNights.{empty_night, loop_night}

-- a line each, in the order of the table
shown : All Shown rows
unfolding layout lefts word_size symbol_size others_size replay replayed stepped complete? file_of octets_of
shown =
    -- the table of D
    inl refl and
    -- replays over D
    inl refl and
    inl refl and
    inl refl and
    inl refl and
    -- 1 0 0 0 0: its table, and its night
    inl refl and
    inr empty_night and
    -- 1 1 0 0 1 0 0 1 1: the same
    inl refl and
    inr loop_night and
    -- 5 at 0, 5 at 1, 6 at 1
    inr (refused_of_any no_tree_at_0 refl (omega arith)) and
    inr (refused_of_any no_tree_at_1 refl (omega arith)) and
    inr (refused_of_any unreached_at_1 refl (omega arith)) and
    -- 3 4
    inl refl and
    -- zero words, and the tables of them
    inl refl and
    inl refl and
    no_more

pub every_row_holds : All Holds rows
every_row_holds = all_hold shown

-- and is settled
pub every_row_settled : All Settled rows
every_row_settled = all_settled every_row_holds
