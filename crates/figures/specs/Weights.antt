-- For the private functions of the crates above, which lower figures until nothing falls: each change lowers the weight. Nobody has
-- to believe this file; no promise cites it. Assumes nothing.
use Rattle.std.specs.Prelude.{ℕ, ◌+◌, ◌≤◌, List, sum}

-- the sum of an array's words; and that so many fell, at least
abbrev pub weight : List ℕ → ℕ
weight xs = sum xs

abbrev pub Fallen : List ℕ → List ℕ → ℕ → Type 0
Fallen before after n = weight after + n ≤ weight before
