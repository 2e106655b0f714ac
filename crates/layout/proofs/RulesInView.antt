-- What functions of the layers above know of words and read of a rule by its number, where the words are a grammar's and the
-- places are its rules' places: the rule's left side and its right side. Assumes nothing.
use mathlib.Core.Path.{◌≡◌, ap, ◌∙◌}
use mathlib.Core.List.{List}
use Prim.Native.Nat.{ℕ, ◌≤◌, ◌<◌}
use native.Mathlib.Omega.{arith}
use lib.ListN.{get_or}
use Rattle.grammar.specs.Words.{Grammar, RuleAt}
use Rattle.layout.specs.Rules.{right_at}
use Rattle.layout.specs.View.{View}
use Rattle.grammar.proofs.LayoutExact.{in_bounds, rule_at}
use Rattle.grammar.proofs.RuleNumbers.{rule_number}
use Rattle.layout.proofs.RulesByNumber.{left_of_rule, right_of_rule}

module _ {ws places : List ℕ} {n rules : ℕ} {g : Grammar} (view : View ws places n rules g) where
  pub viewed_rule : (k : ℕ) → k < rules → (A : ℕ) × (w : List ℕ) × RuleAt g k A w
  viewed_rule k h = rule_at (in_bounds ws view.is) k (omega (arith, view.all_rules))

  pub viewed_left : {k A : ℕ} {w : List ℕ} → RuleAt g k A w → get_or ws (get_or places k 0) 0 ≡ A
  viewed_left {k} r = ap (λ (p : ℕ). get_or ws p 0) (view.begin k (rule_number r)) ∙ left_of_rule ws g view.is r

  pub viewed_right : {k A : ℕ} {w : List ℕ} → RuleAt g k A w → right_at ws (get_or places k 0) ≡ w
  viewed_right {k} r = ap (λ (p : ℕ). right_at ws p) (view.begin k (rule_number r)) ∙ right_of_rule ws g view.is r

  -- an array of 128 has a place for each nonterminal
  pub viewed_room : {m : ℕ} → 128 ≤ m → g.N ≤ m
  viewed_room h = omega (arith, (in_bounds ws view.is).nonterminals)
