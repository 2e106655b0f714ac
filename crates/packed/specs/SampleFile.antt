-- Document 01's sample file. Assumes nothing.
use Rattle.std.specs.Prelude.{ℕ, List, [], ◌∷◌}

-- "The deck grammar D .. (23 words)"
abbrev pub deck : List ℕ
deck = 3 ∷ 4 ∷ 0 ∷ 0 ∷ 1 ∷ 1 ∷ 0 ∷ 3 ∷ 1 ∷ 3 ∷ 0 ∷ 1 ∷ 2 ∷ 2 ∷ 4 ∷ 1 ∷ 1 ∷ 5 ∷ 2 ∷ 0 ∷ 2 ∷ 1 ∷ 6 ∷ []

-- "the 46 octets of the words"
abbrev pub deck_octets : List ℕ
deck_octets =
    0 ∷ 3 ∷ 0 ∷ 4 ∷ 0 ∷ 0 ∷ 0 ∷ 0 ∷ 0 ∷ 1 ∷ 0 ∷ 1 ∷ 0 ∷ 0 ∷ 0 ∷ 3 ∷ 0 ∷ 1 ∷ 0 ∷ 3 ∷ 0 ∷ 0 ∷ 0 ∷ 1 ∷
    0 ∷ 2 ∷ 0 ∷ 2 ∷ 0 ∷ 4 ∷ 0 ∷ 1 ∷ 0 ∷ 1 ∷ 0 ∷ 5 ∷ 0 ∷ 2 ∷ 0 ∷ 0 ∷ 0 ∷ 2 ∷ 0 ∷ 1 ∷ 0 ∷ 6 ∷ []
