-- What a walk over the rules of words hands out, at any place of any words: "the table it reads and its place are kept together".
-- Assumes nothing.
use Rattle.std.specs.Prelude.{Bool, true, false, List, ℕ, ◌+◌, ltb, leb, length, get_or, Option, Some, None}
use Rattle.std.specs.Borrow.{Bor}
use Rattle.layout.specs.declared.walk.RuleSpan.{RuleSpan}
use Rattle.layout.specs.declared.walk.RuleWalk.{RuleWalk}

-- a walk's place: the index and the number of the rule that comes next
pub record WalkPlace : Type 0 where
  pub at : ℕ
  pub number : ℕ

abbrev pub place : ℕ → ℕ → WalkPlace
place at number = record { at = at; number = number }

-- before the first rule, which stands after N, T and the start
abbrev pub walk_start : WalkPlace
walk_start = place 3 0

-- the rule's count, which stands after its left side, and 0 past the end
abbrev pub count_at : List ℕ → ℕ → ℕ
count_at ws at = get_or ws (at + 1) 0

-- the rule at a place
abbrev pub span_at : List ℕ → WalkPlace → RuleSpan
span_at ws v =
    record {
      number = v.number;
      left = get_or ws v.at 0;
      count = count_at ws v.at;
      first = v.at + 2;
      end = v.at + 2 + count_at ws v.at;
    }

abbrev pub or_end : Bool → Option RuleSpan → Option RuleSpan
or_end true s = s
or_end false s = None

-- "at most 256" rules, each whole: else the walk is at its end
abbrev pub step_at : List ℕ → WalkPlace → Option RuleSpan
step_at ws v =
    or_end (ltb v.number 256) (or_end (leb (v.at + 2 + count_at ws v.at) (length ws)) (Some (span_at ws v)))

-- the place past a rule, which is the next rule's
abbrev pub past_rule : RuleSpan → WalkPlace
past_rule s = place s.end (s.number + 1)

abbrev pub past_step : Option RuleSpan → WalkPlace → WalkPlace
past_step (Some s) v = past_rule s
past_step None v = v

-- the place after what stands at a place: at its end a walk stays
abbrev pub place_after : List ℕ → WalkPlace → WalkPlace
place_after ws v = past_step (step_at ws v) v

-- a walk is lent words and a place in them
abbrev pub walk_at : Bor (List ℕ) → WalkPlace → RuleWalk
walk_at words v = record { words = words; at = v.at; number = v.number }

abbrev pub place_in : RuleWalk → WalkPlace
place_in w = place w.at w.number

-- the walk goes on over the same words
abbrev pub walk_past : RuleWalk → RuleWalk
walk_past w = walk_at w.words (place_after w.words.now (place_in w))

-- what a walk hands out, and the walk after it
pub record Taken : Type 0 where
  pub step : Option RuleSpan
  pub walk : RuleWalk

-- the rule that comes next, and the walk after it
abbrev pub taken_from : RuleWalk → Taken
taken_from w = record { step = step_at w.words.now (place_in w); walk = walk_past w }
