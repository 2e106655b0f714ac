-- Document 01, "Refused, number by number": rows 4 to 7, which every call gives that asks for a grammar and its figures, by name,
-- with number and place. When they are given is said of words in crates/grammar, specs/Rows. The rows that a family of calls has
-- for itself stand in its own specs, with the other cases of its answer. Assumes nothing.
use Rattle.std.specs.Prelude.{ℕ}

pub data GrammarRefusal : Type 0 where
  -- "words break the grammar layout"
  broken_layout : (place : ℕ) → GrammarRefusal
  -- "a nonterminal has no complete tree"
  no_tree : (A : ℕ) → GrammarRefusal
  -- "a nonterminal occurs in no form derived from the start"
  unreached : (A : ℕ) → GrammarRefusal
  -- "some Total is above 4,096"
  oversize : (r : ℕ) → GrammarRefusal

-- the column "No."
abbrev pub number : GrammarRefusal → ℕ
number (broken_layout p) = 4
number (no_tree A) = 5
number (unreached A) = 6
number (oversize r) = 7

-- the column "Place"
abbrev pub place : GrammarRefusal → ℕ
place (broken_layout p) = p
place (no_tree A) = A
place (unreached A) = A
place (oversize r) = r
