-- When `replay` gives each of its answers, from document 01, "Refused, number by number": "Given exactly when". proofs/Main says of
-- each that it is given exactly then. Assumes nothing.
use Rattle.std.specs.Prelude.{ℕ, ◌≤◌, ◌<◌, ◌≡◌, List, length}
use Rattle.grammar.specs.Words.{layout, faults, Are}
use Rattle.grammar.specs.Derivation.{Derives, StopsAt}
use Rattle.replay.specs.Answers.{Case, done, broken_layout, long_list, no_derivation, too_short}
use Rattle.replay.specs.Replay.{most_numbers}

-- Done with the sentence t
abbrev pub GivenDone : (words list before t : List ℕ) → Type 0
GivenDone words list before t = Are words (λ g. (length list ≤ most_numbers) × Derives g list t × (length t ≤ length before))

-- each answer
abbrev pub Given : (words list before : List ℕ) → Case → Type 0
-- "words break the grammar layout"
Given words list before (broken_layout p) = layout words ≡ faults p
-- "replayed list over 4,096 numbers"
Given words list before long_list = Are words (λ g. most_numbers < length list)
-- "list is no complete leftmost derivation"
Given words list before (no_derivation p) = Are words (λ g. (length list ≤ most_numbers) × StopsAt g list p)
-- "sentence buffer too short", at the "length needed"
Given words list before (too_short n) =
    Are words (λ g. (length list ≤ most_numbers) × ((t : List ℕ) × Derives g list t × (n ≡ length t) × (length before < n)))
-- "Done carries the length written."
Given words list before (done n) = (t : List ℕ) × GivenDone words list before t × (n ≡ length t)
