-- What the table says of sizes, against what a listing takes: a nonterminal's is no less than that of its chosen rule, a context
-- no less than what lies on both sides of the open leaf, a total no less than what lies there and the rule. This file alone asks
-- what a figure of the table is made of; who counts by the table goes by the ≤ that it states. Assumes nothing.
use Prim.Native.Nat.{ℕ, suc, ◌+◌, ◌≤◌, ◌<◌}
use native.Mathlib.Omega.{arith}
use mathlib.Core.Path.{◌≡◌, refl, ap}
use mathlib.Core.List.{List}
use lib.ListN.{length, take, drop}
use borrow.Author.Tests.{lt-ltb, le-ltb}
use Rattle.grammar.specs.Words.{Grammar, R, RuleAt}
use Rattle.grammar.specs.Tree.{Tree, Open, root, down, sentence, derivation}
use Rattle.grammar.specs.Terms.{measure, limit}
use Rattle.grammar.specs.Least.{Least, Sizes, no_symbols, terminal, nonterminal, Chosen, Context, ContextChoice, TreeOf}
use Rattle.grammar.specs.Least.{Beside, at_place, past_terminal, past_nonterminal, ChosenOpen}
use Rattle.grammar.proofs.Dead.{gap_nonterminal}
use Rattle.grammar.proofs.LayoutExact.{in_bounds}
use Rattle.grammar.proofs.RuleNumbers.{rule_left, rule_right, rule_number}
use Rattle.grammar.proofs.SizeIsLength.{size_is_length}
use Rattle.grammar.proofs.Totals.{tree_of_total}
use Rattle.grammar.proofs.Unique.{least_unique, context_unique, total_unique}
use Rattle.entries.specs.Table.{least_in, chosen_in, context_in, rule_in, place_in, total_in}
use Rattle.entries.proofs.Main.{least_front, chosen_front, context_front, rule_front, place_front, total_front, total_fits}
use Rattle.layout.proofs.RulesInView.{viewed_right}
use Rattle.handout.specs.declared.tabled.Tabled.{Tabled}
use Rattle.handout.specs.Listing.{grammar_of, size_by, sizes_by, right_of}
use Rattle.handout.specs.TreeListing.{before, after, size_on, total_by}
use Rattle.handout.proofs.OwnTable.{view_of, accepted_of, has_table}

module _ (t : Tabled) where
  abbrev g : Grammar
  g = grammar_of t

  abbrev table : List ℕ
  table = t.table.now

  terminal_size : (s : ℕ) → t.reading.now.nonterminals ≤ s → size_by t s ≡ 1
  unfolding size_by
  terminal_size s h = rw (le-ltb s t.reading.now.nonterminals h)

  pub terminal_takes_one : (s : ℕ) → t.reading.now.nonterminals ≤ s → 1 ≤ size_by t s
  terminal_takes_one s h = omega (arith, terminal_size s h)

  nonterminal_size : (s : ℕ) → s < t.reading.now.nonterminals → size_by t s ≡ least_in table s
  unfolding size_by
  nonterminal_size s h = rw (lt-ltb s t.reading.now.nonterminals h)

  -- what stands in the table
  known_least : (A : ℕ) → A < g.N → Least measure g A (least_in table A)
  known_least A lt = rw (least_front g table A lt) at ((has_table t).leasts A lt)

  known_context : (A : ℕ) → A < g.N → Context measure g A (context_in table A)
  known_context A lt = rw (context_front g table A lt) at ((has_table t).contexts A lt)

  pub known_choice : (A : ℕ) → A < g.N → ¬ (A ≡ g.start) → ContextChoice measure g A (rule_in table A) (place_in table A)
  known_choice A lt d = rw (rule_front g table A lt, place_front g table A lt) at ((has_table t).choices A lt d)

  -- what a symbol takes
  terminal_within : {s : ℕ} → g.N ≤ s → size_by t s ≤ 1
  terminal_within {s} p =
      let le : t.reading.now.nonterminals ≤ s = omega (arith, (view_of t).nonterminals) in
      omega (arith, terminal_size s le)

  least_within : {s y : ℕ} → s < g.N → Least measure g s y → size_by t s ≤ y
  least_within {s} lt h =
      let low : s < t.reading.now.nonterminals = omega (arith, (view_of t).nonterminals) in
      omega (arith, nonterminal_size s low, least_unique h (known_least s lt))

  -- what some symbols take, and those before and after a place
  symbols_within : {w : List ℕ} {x : ℕ} → Sizes measure g w x → sizes_by t w ≤ x
  unfolding sizes_by
  symbols_within no_symbols = omega arith
  symbols_within (terminal p h) = omega (arith, terminal_within p, symbols_within h)
  symbols_within (nonterminal lt y h) = omega (arith, least_within lt y, symbols_within h)

  beside_within : {w : List ℕ} {i A x : ℕ} → Beside measure g w i A x →
      sizes_by t (take i w) + sizes_by t (drop (suc i) w) ≤ x
  unfolding sizes_by
  beside_within (at_place p h) = omega (arith, symbols_within h)
  beside_within (past_terminal p h) = omega (arith, terminal_within p, beside_within h)
  beside_within (past_nonterminal lt y h) = omega (arith, least_within lt y, beside_within h)

  -- LEAST: the chosen rule of s, with its right side as the lister reads it
  pub record ChosenRule (s k : ℕ) : Type 0 where
    pub rule : RuleAt g k s (right_of t k)
    pub chosen : Chosen measure g s k
    pub size : 1 + sizes_by t (right_of t k) ≤ size_by t s

  pub chosen_rule : (s k : ℕ) → s < t.reading.now.nonterminals → k ≡ chosen_in table s → ChosenRule s k
  chosen_rule s k h e =
      let lt : s < g.N = omega (arith, (view_of t).nonterminals) in
      let c : Chosen measure g s k = rw (← e) at (rw (chosen_front g table s lt) at ((has_table t).chosen s lt)) in
      let a = c.attains in
      let right = viewed_right (view_of t) a.rule in
      let figure = least_unique c.least (known_least s lt) in
      record {
        rule = rw right a.rule;
        chosen = c;
        size = omega (arith, nonterminal_size s h, figure, a.is, symbols_within a.sizes, ap (sizes_by t) right);
      }

  -- CONTEXT: that of the left side of the context rule, and the rule's symbols beside the leaf
  pub choice_within : {A B k i : ℕ} {w : List ℕ} → A < g.N → RuleAt g k B w → ContextChoice measure g A k i →
      context_in table B + (1 + (sizes_by t (take i w) + sizes_by t (drop (suc i) w))) ≤ context_in table A
  choice_within {A} {B} {k} {i} {w} lt r h =
      let c = h.attains in
      let left : B ≡ c.B = rule_left refl r c.rule in
      let right : w ≡ c.w = rule_right refl r c.rule in
      let outer : context_in table B ≡ c.outer = context_unique (known_context B r.left) (rw (← left) at c.context) in
      let figure : context_in table A ≡ h.figure = context_unique (known_context A lt) h.context in
      let others = rw (← right) at (beside_within c.beside) in
      omega (arith, outer, figure, c.is, others)

  pub open_within : {A : ℕ} (x : Open g A) → ChosenOpen measure g x →
      size_on t before x + size_on t after x ≤ context_in table A
  open_within root h = omega arith
  open_within (down k r x a) h = omega (arith, choice_within (gap_nonterminal a) r h.0, open_within x h.1)

  -- TOTAL: the context of the left side, and the rule
  known_total : (r : ℕ) → total_by t r ≡ total_in g.N table r
  known_total r = ap (λ (m : ℕ). total_in m table r) (view_of t).nonterminals

  pub total_within : {r A : ℕ} {w : List ℕ} → RuleAt g r A w → context_in table A + (1 + sizes_by t w) ≤ total_by t r
  total_within {r} {A} {w} rule =
      let l = rule_number rule in
      let x = (has_table t).totals r l in
      let left : A ≡ x.A = rule_left refl rule x.rule.rule in
      let right : w ≡ x.rule.w = rule_right refl rule x.rule.rule in
      let outer : context_in table A ≡ x.outer = context_unique (known_context A rule.left) (rw (← left) at x.context) in
      let size = rw (← right) at (symbols_within x.rule.sizes) in
      omega (arith, known_total r, total_front g table r l, x.is, outer, x.rule.is, size)

  -- and the tree of the rule has no more numbers, which are at most 4,096
  pub tree_within : {r : ℕ} {u : Tree g g.start} → TreeOf measure g r u →
      length (sentence u) + length (derivation u) ≤ total_by t r
  tree_within {r} {u} tree =
      let l = rule_number tree.rule in
      let is = total_unique (tree_of_total measure tree) ((has_table t).totals r l) in
      omega (arith, known_total r, total_front g table r l, is, size_is_length u)

  pub total_few : {r : ℕ} → r < t.reading.now.rules → total_by t r ≤ limit
  total_few {r} h =
      let l : r < R g = omega (arith, (view_of t).all_rules) in
      let few = total_fits (in_bounds t.reading.now.words.now (view_of t).is) (accepted_of t).fit (has_table t) r l in
      omega (arith, known_total r, total_front g table r l, few)
