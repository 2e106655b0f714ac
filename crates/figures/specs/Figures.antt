-- What the calls of this crate promise, for any words and any numbers. A figure is a word of an array, one for each nonterminal:
-- the least or the context found so far, cut at document 01's limit and one more, or `no_figure` where none is found yet. That is
-- no figure, and no cut makes one of it. Past the end of the array there is none either. Assumes nothing.
use Rattle.std.specs.Prelude.{ℕ, ◌-◌, ◌≤◌, ◌<◌, min, ◌≡◌, Bool, true, false, Option, Some, None, List, length, get_or, set}
use Rattle.grammar.specs.Caps.{ceiling}

-- stands where there is no figure
abbrev pub no_figure : ℕ
no_figure = 65535

abbrev pub figure : List ℕ → ℕ → ℕ
figure xs A = get_or xs A no_figure

abbrev pub Has : List ℕ → ℕ → Type 0
Has xs A = ¬ (figure xs A ≡ no_figure)

abbrev pub capped : ℕ → ℕ
capped x = min x ceiling

-- a figure lowered to a number that is smaller, or left, as it is where the array has no place for it; how many fell
pub data Lowered (before : List ℕ) (a to : ℕ) : List ℕ → ℕ → Type 0 where
  fell : a < length before → to < figure before a → Lowered before a to (set before a to) 1
  stayed : (a < length before → figure before a ≤ to) → Lowered before a to before 0

-- the lowest place below n whose word is above most, or nothing where there is none
pub data FirstAbove (xs : List ℕ) (n most : ℕ) : Option ℕ → Type 0 where
  found_at : {a : ℕ} → a < n → most < figure xs a → ((b : ℕ) → b < a → figure xs b ≤ most) → FirstAbove xs n most (Some a)
  found_none : ((b : ℕ) → b < n → figure xs b ≤ most) → FirstAbove xs n most None

-- the rule that a round visits in its turn i, from the first to the last or back
abbrev pub turn : Bool → ℕ → ℕ → ℕ
turn true rules i = i
turn false rules i = rules - 1 - i
