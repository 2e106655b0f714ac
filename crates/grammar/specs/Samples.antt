-- Document 01's sample grammars, as grammars, and the table of D that it prints.
-- Assumes nothing.
use Rattle.std.specs.Prelude.{ℕ, List, [], ◌∷◌}
use Rattle.grammar.specs.Words.{Grammar, ◌⟶◌}

-- "The deck grammar D: nonterminals 0 List, 1 Value, 2 Sign; terminals 3 comma, 4 number, 5 nan, 6 minus."
abbrev pub D_words : List ℕ
D_words = 3 ∷ 4 ∷ 0 ∷ 0 ∷ 1 ∷ 1 ∷ 0 ∷ 3 ∷ 1 ∷ 3 ∷ 0 ∷ 1 ∷ 2 ∷ 2 ∷ 4 ∷ 1 ∷ 1 ∷ 5 ∷ 2 ∷ 0 ∷ 2 ∷ 1 ∷ 6 ∷ []

abbrev pub D : Grammar
D = record {
  N = 3;
  T = 4;
  start = 0;
  rules = (0 ⟶ 1 ∷ []) ∷ (0 ⟶ 1 ∷ 3 ∷ 0 ∷ []) ∷ (1 ⟶ 2 ∷ 4 ∷ []) ∷ (1 ⟶ 5 ∷ []) ∷ (2 ⟶ []) ∷ (2 ⟶ 6 ∷ []) ∷ [];
}

-- "tables of D: 3 0 0 65535 65535, 2 3 1 0 0, 1 4 3 2 0, then 3 7 4 3 4 5"
abbrev pub D_table : List ℕ
D_table = 3 ∷ 0 ∷ 0 ∷ 65535 ∷ 65535 ∷ 2 ∷ 3 ∷ 1 ∷ 0 ∷ 0 ∷ 1 ∷ 4 ∷ 3 ∷ 2 ∷ 0 ∷ 3 ∷ 7 ∷ 4 ∷ 3 ∷ 4 ∷ 5 ∷ []

-- "words 1 0 0 0 0"
abbrev pub empty_rule : Grammar
empty_rule = record { N = 1; T = 0; start = 0; rules = (0 ⟶ []) ∷ [] }

-- "words 1 1 0 0 1 0 0 1 1": "S gives S, S gives a"
abbrev pub loop : Grammar
loop = record { N = 1; T = 1; start = 0; rules = (0 ⟶ 0 ∷ []) ∷ (0 ⟶ 1 ∷ []) ∷ [] }
