-- The rules of words by number: where each stands, as a walk hands them out, and the right side of the one at an index. Of any
-- words, whether they are a grammar or not.
-- Assumes nothing.
use Rattle.std.specs.Prelude.{Bool, true, false, List, [], ◌∷◌, ℕ, zero, suc, ◌+◌, leb, length, take, drop, Option, Some, None}
use Rattle.layout.specs.Walk.{WalkPlace, count_at, step_at, past_rule}
use Rattle.layout.specs.declared.walk.RuleSpan.{RuleSpan}

-- the index of the rule that a step hands out, and those after it
abbrev pub places_by : Option RuleSpan → ℕ → (WalkPlace → List ℕ) → List ℕ
places_by None at after = []
places_by (Some s) at after = at ∷ after (past_rule s)

-- the indexes of the rules that a walk from a place on hands out, so many at most
unfoldable pub places_from : ℕ → List ℕ → WalkPlace → List ℕ
places_from zero ws v = []
places_from (suc room) ws v = places_by (step_at ws v) v.at (λ u. places_from room ws u)

abbrev pub or_none : Bool → List ℕ → List ℕ
or_none true w = w
or_none false w = []

-- the symbols of the rule at an index, where it stands there whole
abbrev pub right_at : List ℕ → ℕ → List ℕ
right_at ws at = or_none (leb (at + 2 + count_at ws at) (length ws)) (take (count_at ws at) (drop (at + 2) ws))
