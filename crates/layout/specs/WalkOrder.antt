-- "A walk over the rule table, the words after the first three, hands out rules in order": what that says of a grammar's rules.
-- Assumes nothing.
use Rattle.std.specs.Prelude.{◌≡◌, List, [], ◌∷◌, ℕ, ◌+◌, ◌<◌, length, get_or, take, drop, Some, None}
use Rattle.grammar.specs.Words.{Rule, ◌⟶◌}
use Rattle.layout.specs.Walk.{WalkPlace, step_at, past_rule, taken_from}
use Rattle.layout.specs.declared.walk.RuleSpan.{RuleSpan}
use Rattle.layout.specs.declared.walk.RuleWalk.{RuleWalk}

-- the span says of the rule of number k, A ⟶ w, what stands in the words: its symbols are the words from `first` up to `end`
pub record SpanOf (ws : List ℕ) (k A : ℕ) (w : List ℕ) (s : RuleSpan) : Type 0 where
  pub number : s.number ≡ k
  pub left : s.left ≡ A
  pub count : s.count ≡ length w
  pub end : s.end ≡ s.first + s.count
  pub symbols : take s.count (drop s.first ws) ≡ w
  pub each : (i : ℕ) → i < length w → get_or ws (s.first + i) 0 ≡ get_or w i 0

-- from the place v on these rules are handed out one after the other, numbered from k, and then no more
pub data HandsOut (ws : List ℕ) : ℕ → WalkPlace → List Rule → Type 0 where
  ended : {k : ℕ} {v : WalkPlace} → step_at ws v ≡ None → HandsOut ws k v []
  handed : {k A : ℕ} {w : List ℕ} {rs : List Rule} {v : WalkPlace} {s : RuleSpan} → step_at ws v ≡ Some s →
      SpanOf ws k A w s → HandsOut ws (k + 1) (past_rule s) rs → HandsOut ws k v ((A ⟶ w) ∷ rs)

-- `next` on the walk, and then on each walk that it hands on, hands out these rules, numbered from k, and then ends
pub data NextHandsOut : ℕ → RuleWalk → List Rule → Type 0 where
  ended : {k : ℕ} {v : RuleWalk} → (taken_from v).step ≡ None → NextHandsOut k v []
  handed : {k A : ℕ} {w : List ℕ} {rs : List Rule} {v : RuleWalk} {s : RuleSpan} → (taken_from v).step ≡ Some s →
      SpanOf v.words.now k A w s → NextHandsOut (k + 1) (taken_from v).walk rs → NextHandsOut k v ((A ⟶ w) ∷ rs)
