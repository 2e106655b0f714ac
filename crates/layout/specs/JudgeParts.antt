-- What the parts of the judge promise each other. Nothing here is part of what the judge answers: that is Judge.antt.
-- A part says how `lefts`, the meaning of the rules, goes on behind it: the number of rules alone, as the answer has no more.
-- Assumes nothing.
use Rattle.std.specs.Prelude.{◌≡◌, List, ℕ, zero, suc, ◌+◌, ◌≤◌, ◌<◌, length, drop, get_or, Result, Ok, Err}
use Rattle.answers.specs.Buffers.{over}
use Rattle.layout.specs.Walk.{count_at, walk_start}
use Rattle.layout.specs.Rules.{places_from}
use Rattle.grammar.specs.Words.{Rule, Judged, reads, faults, Body, body, no_symbol, lefts, symbols}
use Rattle.layout.specs.Judge.{shape}
use Rattle.layout.specs.declared.judge.Shape.{Shape}
use Rattle.layout.specs.declared.judge.Fault.{Fault}

-- what a part of the words is: fit, with a number that says where it ends or how many rules it has, or faulted at a place
abbrev pub Part : Type 0
Part = Result ℕ Fault

-- the answer, of the words and of how many rules they have
abbrev pub shaped : List ℕ → Part → Result Shape Fault
shaped ws (Ok n) = Ok (shape (get_or ws 0 0) (get_or ws 1 0) (get_or ws 2 0) n)
shaped ws (Err e) = Err e

-- how many rules
abbrev pub number_of : Judged (List Rule) → Judged ℕ
number_of (reads rs) = reads (length rs)
number_of (faults p) = faults p

-- how many rules stand after a right side
abbrev pub number_after : Judged Body → Judged ℕ
number_after (reads (body w rs)) = reads (length rs)
number_after (faults p) = faults p

-- n more
abbrev pub more : ℕ → Judged ℕ → Judged ℕ
more n (reads m) = reads (n + m)
more n (faults p) = faults p

-- at a right side of k symbols
unfoldable pub rights : List ℕ → ℕ → ℕ → ℕ → ℕ → ℕ → Judged Body
rights ws zero p room N T = no_symbol (lefts ws p room N T)
rights ws (suc k) p room N T = symbols ws k p room N T

-- i is the first index, from one index up to another, whose word is not below the limit, or the other
pub record FirstUnfit (ws : List ℕ) (limit from end i : ℕ) : Type 0 where
  pub not_before : from ≤ i
  pub not_after : i ≤ end
  pub fit : (j : ℕ) → from ≤ j → j < i → get_or ws j 0 < limit
  pub unfit : i < end → limit ≤ get_or ws i 0

-- the right side of k symbols from an index on ends at q
abbrev pub Symbols : List ℕ → ℕ → ℕ → ℕ → ℕ → Part → Type 0
Symbols ws N T first k (Ok q) =
    (room : ℕ) → number_after (rights (drop first ws) k first room N T) ≡ number_of (lefts (drop q ws) q room N T)
Symbols ws N T first k (Err e) = (room : ℕ) → rights (drop first ws) k first room N T ≡ faults e.place

-- there are so many, and the words go on to there
abbrev pub SymbolsEnd : List ℕ → ℕ → ℕ → Part → Type 0
SymbolsEnd ws first k (Ok q) = (q ≡ first + k) × (q ≤ length ws)
SymbolsEnd ws first k (Err e) = Unit {0}

-- the rule at an index ends at q
abbrev pub Ruled : List ℕ → ℕ → ℕ → ℕ → Part → Type 0
Ruled ws N T at (Ok q) =
    (room : ℕ) → number_of (lefts (drop at ws) at (suc room) N T) ≡ more 1 (number_of (lefts (drop q ws) q room N T))
Ruled ws N T at (Err e) = (room : ℕ) → lefts (drop at ws) at (suc room) N T ≡ faults e.place

-- it has as many symbols as its count says, which are few, and the words go on to there
abbrev pub RuleEnds : List ℕ → ℕ → Part → Type 0
RuleEnds ws at (Ok q) = (q ≡ at + 2 + count_at ws at) × (q ≤ length ws) × (q ≤ at + 34)
RuleEnds ws at (Err e) = Unit {0}

-- the rules from an index on are n
abbrev pub RulesNumbered : List ℕ → ℕ → ℕ → ℕ → Part → Type 0
RulesNumbered ws N T at (Ok n) = number_of (lefts (drop at ws) at 256 N T) ≡ reads n
RulesNumbered ws N T at (Err e) = number_of (lefts (drop at ws) at 256 N T) ≡ faults e.place

-- where each stands is noted
abbrev pub PlacesTold : List ℕ → List ℕ → Part → List ℕ → Type 0
PlacesTold ws before (Ok n) after = after ≡ over (places_from 256 ws walk_start) before
PlacesTold ws before (Err e) after = Unit {0}
