-- Where the words are a grammar's, each rule's left side stands inside them, and it is a nonterminal: so an array with a place
-- for each nonterminal has one for it. Assumes nothing.
use mathlib.Core.Path.{◌≡◌}
use mathlib.Core.List.{List}
use Prim.Native.Nat.{ℕ, ◌≤◌, ◌<◌}
use native.Mathlib.Omega.{arith}
use lib.ListN.{length, get_or}
use Rattle.grammar.specs.Words.{Grammar}
use Rattle.layout.proofs.RulePlaces.{rule_within}
use Rattle.grammar.proofs.RuleNumbers.{rule_number}
use Rattle.layout.specs.View.{View}
use Rattle.layout.proofs.RulesInView.{viewed_rule, viewed_left, viewed_room}

pub nonterminals_within : {ws places : List ℕ} {n rules m : ℕ} {g : Grammar} → View ws places n rules g → 128 ≤ m → n ≤ m
nonterminals_within view h = omega (arith, view.nonterminals, viewed_room view h)

module _ {ws places : List ℕ} {n rules : ℕ} {g : Grammar} (view : View ws places n rules g) {k at : ℕ} (below : k < rules)
    (found : at ≡ get_or places k 0) where
  pub inside : at < length ws
  inside =
      let (A, w, r) = viewed_rule view k below in
      omega (arith, found, view.begin k (rule_number r), rule_within ws g view.is k A w r.stands)

  pub left_below : get_or ws at 0 < n
  left_below =
      let (A, w, r) = viewed_rule view k below in
      rw (found, viewed_left view r) (omega (arith, r.left, view.nonterminals))

  pub left_within : {m : ℕ} → 128 ≤ m → get_or ws at 0 < m
  left_within h = omega (arith, left_below, nonterminals_within view h)
