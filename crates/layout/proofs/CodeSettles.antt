-- Any two outcomes that a promise of the code allows coincide. None of the functions is lent what it could write. Assumes nothing.
use mathlib.Core.Path.{◌≡◌, sym, ◌∙◌}
use mathlib.Core.List.{List}
use Prim.Native.Nat.{ℕ}
use lib.ListN.{get_or}
use denote.Ref.{Bor}
use Rattle.grammar.specs.Words.{layout}
use Rattle.layout.specs.Judge.{answer_of, placed_of}
use Rattle.layout.specs.Walk.{WalkPlace, Taken, walk_start, step_at, walk_at, taken_from}
use Rattle.std.specs.Prelude.{Option, Result}
use Rattle.layout.specs.declared.judge.Shape.{Shape}
use Rattle.layout.specs.declared.judge.Placed.{Placed}
use Rattle.layout.specs.declared.judge.Fault.{Fault}
use Rattle.layout.specs.declared.walk.RuleSpan.{RuleSpan}
use Rattle.layout.specs.declared.walk.RuleWalk.{RuleWalk}

pub judge_settles : (ws : List ℕ) {r s : Result Shape Fault} → r ≡ answer_of (layout ws) → s ≡ answer_of (layout ws) → r ≡ s
judge_settles ws p q = p ∙ sym q

pub read_settles : (ws : List ℕ) {r s : Result Placed Fault} → r ≡ placed_of (layout ws) → s ≡ placed_of (layout ws) → r ≡ s
read_settles ws p q = p ∙ sym q

pub walk_start_settles : (words : Bor (List ℕ)) {r s : RuleWalk} → r ≡ walk_at words walk_start → s ≡ walk_at words walk_start → r ≡ s
walk_start_settles words p q = p ∙ sym q

-- of `stands_at` and of `rule_from`
pub walk_step_settles : (ws : List ℕ) (v : WalkPlace) {r s : Option RuleSpan} → r ≡ step_at ws v → s ≡ step_at ws v → r ≡ s
walk_step_settles ws v p q = p ∙ sym q

pub walk_next_settles : (w : RuleWalk) {r s : Taken} → r ≡ taken_from w → s ≡ taken_from w → r ≡ s
walk_next_settles w p q = p ∙ sym q

pub word_settles : (ws : List ℕ) (i : ℕ) {r s : ℕ} → r ≡ get_or ws i 0 → s ≡ get_or ws i 0 → r ≡ s
word_settles ws i p q = p ∙ sym q

pub index_settles : (places : List ℕ) (k : ℕ) {r s : ℕ} → r ≡ get_or places k 0 → s ≡ get_or places k 0 → r ≡ s
index_settles places k p q = p ∙ sym q
