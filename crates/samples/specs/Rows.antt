-- Document 01, "Sample grammars": "Rows marked P are proved of the definitions themselves, all in a single table under one
-- statement". Its rows marked P, in its order and with its words; a row with two results is two here, side by side. What a row
-- means is specs/Row. Stricter than the document in two points: a night has its targets too, and that of 1 0 0 0 0 ends with
-- Finished. Assumes nothing.
use Rattle.std.specs.Prelude.{ℕ, List, [], ◌∷◌}
use Rattle.handout.specs.Night.{handout}
use Rattle.samples.specs.Row.{Row, unpack_of, tables_of, replay_of, refusal_of, night_of, writes, refuses}

-- "The deck grammar D: nonterminals 0 List, 1 Value, 2 Sign; terminals 3 comma, 4 number, 5 nan, 6 minus.
-- Words: 3 4 0, 0 1 1, 0 3 1 3 0, 1 2 2 4, 1 1 5, 2 0, 2 1 6 (23 words)."
abbrev pub D : List ℕ
D = 3 ∷ 4 ∷ 0 ∷ 0 ∷ 1 ∷ 1 ∷ 0 ∷ 3 ∷ 1 ∷ 3 ∷ 0 ∷ 1 ∷ 2 ∷ 2 ∷ 4 ∷ 1 ∷ 1 ∷ 5 ∷ 2 ∷ 0 ∷ 2 ∷ 1 ∷ 6 ∷ []

abbrev pub D_table : List ℕ
D_table = 3 ∷ 0 ∷ 0 ∷ 65535 ∷ 65535 ∷ 2 ∷ 3 ∷ 1 ∷ 0 ∷ 0 ∷ 1 ∷ 4 ∷ 3 ∷ 2 ∷ 0 ∷ 3 ∷ 7 ∷ 4 ∷ 3 ∷ 4 ∷ 5 ∷ []

-- S gives nothing, and S gives S or a, with their tables
abbrev pub empty_words : List ℕ
empty_words = 1 ∷ 0 ∷ 0 ∷ 0 ∷ 0 ∷ []

abbrev pub empty_table : List ℕ
empty_table = 1 ∷ 0 ∷ 0 ∷ 65535 ∷ 65535 ∷ 1 ∷ []

abbrev pub loop_words : List ℕ
loop_words = 1 ∷ 1 ∷ 0 ∷ 0 ∷ 1 ∷ 0 ∷ 0 ∷ 1 ∷ 1 ∷ []

abbrev pub loop_table : List ℕ
loop_table = 2 ∷ 1 ∷ 0 ∷ 65535 ∷ 65535 ∷ 3 ∷ 2 ∷ []

abbrev pub rows : List Row
rows =
    -- "tables of D": "3 0 0 65535 65535, 2 3 1 0 0, 1 4 3 2 0, then 3 7 4 3 4 5"
    tables_of D (writes D_table) ∷
    -- "replay 0 2 4 over D": "sentence 4"
    replay_of (0 ∷ 2 ∷ 4 ∷ []) D (writes (4 ∷ [])) ∷
    -- "replay 0 2 over D": "11 at 2"
    replay_of (0 ∷ 2 ∷ []) D (refuses 11 2) ∷
    -- "replay 0 3 3 over D": "11 at 2"
    replay_of (0 ∷ 3 ∷ 3 ∷ []) D (refuses 11 2) ∷
    -- "replay of the empty list over D": "11 at 0"
    replay_of [] D (refuses 11 0) ∷
    -- "words 1 0 0 0 0": "table 1 0 0 65535 65535 1; sentence empty, derivation 0"
    tables_of empty_words (writes empty_table) ∷
    night_of empty_words empty_table (handout 0 [] (0 ∷ []) ∷ []) ∷
    -- "words 1 1 0 0 1 0 0 1 1": "table 2 1 0 65535 65535 3 2; one sentence 1, derivation 0 1, then Finished"
    tables_of loop_words (writes loop_table) ∷
    night_of loop_words loop_table (handout 0 (1 ∷ []) (0 ∷ 1 ∷ []) ∷ []) ∷
    -- "words 1 0 0": "5 at 0"
    refusal_of (1 ∷ 0 ∷ 0 ∷ []) 5 0 ∷
    -- "words 2 0 0 0 0": "5 at 1"
    refusal_of (2 ∷ 0 ∷ 0 ∷ 0 ∷ 0 ∷ []) 5 1 ∷
    -- "words 2 0 0 0 0 1 0": "6 at 1"
    refusal_of (2 ∷ 0 ∷ 0 ∷ 0 ∷ 0 ∷ 1 ∷ 0 ∷ []) 6 1 ∷
    -- "words 3 4": "4 at 2"
    refusal_of (3 ∷ 4 ∷ []) 4 2 ∷
    -- "unpack 01 00 00": "zero words; tables of them: 4 at 0"
    unpack_of (1 ∷ 0 ∷ 0 ∷ []) (writes []) ∷
    tables_of [] (refuses 4 0) ∷
    []
