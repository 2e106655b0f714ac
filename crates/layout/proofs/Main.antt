-- The final statements of this crate, each by one citation. A reader who believes specs/ and reads this page is done.
-- Assumes nothing.
use Prim.Native.Nat.{ℕ}
use mathlib.Core.Path.{◌≡◌}
use mathlib.Core.Logic.{◌↔◌}
use mathlib.Core.List.{List}
use lib.ListN.{get_or}
use denote.Ref.{Bor}
use Rattle.std.specs.Prelude.{Option, Result, Ok, Err}
use Rattle.grammar.specs.Words.{Grammar, RuleAt, place_of, layout, reads, FaultAt}
use Rattle.layout.specs.Judge.{shape, fault, answer_of, places_of, placed_of, WordsOf}
use Rattle.layout.specs.Walk.{WalkPlace, Taken, walk_start, step_at, walk_at, taken_from}
use Rattle.layout.specs.WalkOrder.{HandsOut, NextHandsOut}
use Rattle.layout.specs.Rules.{right_at}
use Rattle.layout.specs.Read.{ReadOf, placed_in}
use Rattle.layout.specs.declared.judge.Shape.{Shape}
use Rattle.layout.specs.declared.judge.Placed.{Placed}
use Rattle.layout.specs.declared.judge.Fault.{Fault}
use Rattle.layout.specs.declared.reading.Reading.{Reading}
use Rattle.layout.specs.declared.walk.RuleSpan.{RuleSpan}
use Rattle.layout.specs.declared.walk.RuleWalk.{RuleWalk}
use Rattle.layout.proofs.JudgeExact as JudgeExact
use Rattle.layout.proofs.WalkInOrder as WalkInOrder
use Rattle.layout.proofs.RulesByNumber as RulesByNumber
use Rattle.layout.proofs.CodeSettles as CodeSettles
use Rattle.layout.proofs.ReadingsSame as ReadingsSame
use Rattle.layout.proofs.ReadingMade as ReadingMade

-- Each promise settles its answer, that of `read` where the rules stand too.
pub judge_settles : (ws : List ℕ) {r s : Result Shape Fault} → r ≡ answer_of (layout ws) → s ≡ answer_of (layout ws) → r ≡ s
judge_settles = CodeSettles.judge_settles

pub word_settles : (ws : List ℕ) (i : ℕ) {r s : ℕ} → r ≡ get_or ws i 0 → s ≡ get_or ws i 0 → r ≡ s
word_settles = CodeSettles.word_settles

pub walk_start_settles : (words : Bor (List ℕ)) {r s : RuleWalk} → r ≡ walk_at words walk_start → s ≡ walk_at words walk_start → r ≡ s
walk_start_settles = CodeSettles.walk_start_settles

pub walk_step_settles : (ws : List ℕ) (v : WalkPlace) {r s : Option RuleSpan} → r ≡ step_at ws v → s ≡ step_at ws v → r ≡ s
walk_step_settles = CodeSettles.walk_step_settles

pub walk_next_settles : (w : RuleWalk) {r s : Taken} → r ≡ taken_from w → s ≡ taken_from w → r ≡ s
walk_next_settles = CodeSettles.walk_next_settles

pub read_settles : (ws : List ℕ) {r s : Result Placed Fault} → r ≡ placed_of (layout ws) → s ≡ placed_of (layout ws) → r ≡ s
read_settles = CodeSettles.read_settles

pub index_settles : (places : List ℕ) (k : ℕ) {r s : ℕ} → r ≡ get_or places k 0 → s ≡ get_or places k 0 → r ≡ s
index_settles = CodeSettles.index_settles

pub right_settles : (ws : List ℕ) (at : ℕ) {r s : List ℕ} → r ≡ right_at ws at → s ≡ right_at ws at → r ≡ s
right_settles = RulesByNumber.right_settles

-- That of `Reading::of` settles the reading, and allows an outcome for any words.
pub reading_settles : (words : Bor (List ℕ)) {r s : Result Reading Fault} → ReadOf words r → ReadOf words s → r ≡ s
reading_settles = ReadingsSame.reading_settles

pub reading_met : (words : Bor (List ℕ)) → (r : Result Reading Fault) × ReadOf words r
reading_met = ReadingMade.reading_met

-- A reading of words says what the judge answers of them, and where the rules stand; so without its words it is what `read` answers.
pub reading_answers : (words : Bor (List ℕ)) (v : Reading) → ReadOf words (Ok v) →
    (Ok (shape v.nonterminals v.terminals v.start v.rules) ≡ answer_of (layout words.now)) × (v.places ≡ places_of (layout words.now))
reading_answers = ReadingsSame.reading_answers

pub reading_placed : (words : Bor (List ℕ)) (v : Reading) → ReadOf words (Ok v) → Ok (placed_in v) ≡ placed_of (layout words.now)
reading_placed = ReadingsSame.reading_placed

-- The judge answers Err exactly at the first offending word or the early end, and Ok exactly of a grammar's words.
pub judge_fault_exact : (ws : List ℕ) {r : Result Shape Fault} → r ≡ answer_of (layout ws) → (p : ℕ) → (r ≡ Err (fault p)) ↔ FaultAt ws p
judge_fault_exact ws e = JudgeExact.judge_fault_exact ws e

pub judge_grammar_exact : (ws : List ℕ) {r : Result Shape Fault} → r ≡ answer_of (layout ws) → (N T S n : ℕ) →
    (r ≡ Ok (shape N T S n)) ↔ WordsOf ws N T S n
judge_grammar_exact ws e = JudgeExact.judge_grammar_exact ws e

-- Over a grammar's words the walk hands out its rules in order and then ends, place by place and by `next`; what `read` tells
-- is the index of the left side of each, and `right` gives the right side of the rule there.
pub walk_in_order : (ws : List ℕ) (g : Grammar) → layout ws ≡ reads g → HandsOut ws 0 walk_start g.rules
walk_in_order ws g e = WalkInOrder.walk_in_order ws g e

pub walk_next_in_order : (words : Bor (List ℕ)) (g : Grammar) → layout words.now ≡ reads g →
    NextHandsOut 0 (walk_at words walk_start) g.rules
walk_next_in_order words g e = WalkInOrder.walk_next_in_order words g e

pub left_of_rule : (ws : List ℕ) (g : Grammar) → layout ws ≡ reads g → {k A : ℕ} {w : List ℕ} → RuleAt g k A w →
    get_or ws (place_of g k) 0 ≡ A
left_of_rule = RulesByNumber.left_of_rule

pub right_of_rule : (ws : List ℕ) (g : Grammar) → layout ws ≡ reads g → {k A : ℕ} {w : List ℕ} → RuleAt g k A w →
    right_at ws (place_of g k) ≡ w
right_of_rule = RulesByNumber.right_of_rule
