-- The terms of document 01: what a grammar is measured by, and what it is limited to. Where it speaks of sizes, figures and trees
-- it means `measure`; where it refuses what is too large it means `limit`. All that is said of a grammar says these two names.
-- Assumes nothing.
use Rattle.std.specs.Prelude.{ℕ}
use Rattle.grammar.specs.Measure.{Cost, plain}

-- "The size of a tree is its terminal leaves plus its rule uses."
abbrev pub measure : Cost
measure = plain

-- "some Total is above 4,096"; "In the suite no sentence and its derivation together exceed 4,096 numbers."
abbrev pub limit : ℕ
limit = 4096
