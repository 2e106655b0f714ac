-- What the tests of passes are where a reading is of the grammar g: for rule k the functions read rule k. So each test is one of
-- single entries and of what is read. Assumes nothing.
use Prim.Native.Nat.{ℕ, ◌≤◌, ◌<◌}
use native.Mathlib.Omega.{arith}
use mathlib.Core.Path.{◌≡◌, ap, sym, ◌∙◌}
use mathlib.Core.Logic.{◌↔◌}
use mathlib.Core.List.{List}
use lib.ListN.{length, get_or}
use Rattle.grammar.specs.Words.{Grammar, RuleAt}
use Rattle.grammar.specs.Terms.{limit}
use Rattle.grammar.specs.Certificates.{Holds}
use Rattle.grammar.proofs.ContextsExist.{holds_below, holds_there, held_there}
use Rattle.grammar.proofs.LayoutExact.{in_bounds}
use Rattle.grammar.proofs.RuleNumbers.{rule_number}
use Rattle.entries.specs.Table.{length_for, chosen_in, rule_in, place_in, total_in, Own}
use Rattle.layout.specs.Read.{ReadsAs}
use Rattle.layout.specs.declared.reading.Reading.{Reading}
use Rattle.layout.proofs.RulesInView.{viewed_rule, viewed_left, viewed_right}
use Rattle.table_test.specs.Passes.{left_of, right_of, size_in, PlacesPass, LeftPasses, RulePasses, RulePassesAt, RulesPass}
use Rattle.table_test.specs.Passes.{ComesTo, ChosenPasses, ContextPasses, ChoicesPass}
use Rattle.table_test.proofs.TestsExact.{tests_exact}

-- what symbols hold at a place is what is read there
abbrev ReadAt : List ℕ → ℕ → ℕ → Type 0
ReadAt w i a = (i < length w) × (get_or w i 0 ≡ a)

holds_read : (w : List ℕ) (i a : ℕ) → Holds w i a ↔ ReadAt w i a
holds_read w i a = (λ h. (holds_below w i a h, held_there w i a h), λ (l, e). rw e at (holds_there w i l))

module _ (v : Reading) (table : List ℕ) where
  -- the choice k of a, and where it is a context rule the place i
  abbrev ChosenRead : ℕ → ℕ → Type 0
  ChosenRead a k = (k < v.rules) × (left_of v k ≡ a) × ComesTo v.nonterminals table k a

  abbrev ContextRead : ℕ → ℕ → ℕ → Type 0
  ContextRead a k i = (k < v.rules) × ReadAt (right_of v k) i a × ComesTo v.nonterminals table k a

  -- rule k, whose total is t
  abbrev RuleRead : Grammar → ℕ → ℕ → Type 0
  RuleRead g k t =
      (t ≤ limit) × PlacesPass table v.nonterminals k t (right_of v k) ×
      LeftPasses table (left_of v k) k (size_in g table (right_of v k)) t

  abbrev TableRead : Grammar → Type 0
  TableRead g = (length_for v.nonterminals v.rules ≤ length table) × ChoicesPass g table × RulesPass g table

module _ (v : Reading) {g : Grammar} (view : ReadsAs v g) where
  pub below_rules : {k A : ℕ} {w : List ℕ} → RuleAt g k A w → k < v.rules
  below_rules r = omega (arith, rule_number r, view.all_rules)

  rule_read : (k : ℕ) → k < v.rules → RuleAt g k (left_of v k) (right_of v k)
  rule_read k l = let (A, w, r) = viewed_rule view k l in rw (viewed_left view r, viewed_right view r) r

  module _ (table : List ℕ) where
    total_read : (k : ℕ) → total_in v.nonterminals table k ≡ total_in g.N table k
    total_read k = ap (λ (m : ℕ). total_in m table k) view.nonterminals

    pub chosen_tests : (a k : ℕ) → k ≡ chosen_in table a → ChosenPasses g table a ↔ ChosenRead v table a k
    chosen_tests a k is = (to, from)
      where
        to : ChosenPasses g table a → ChosenRead v table a k
        to p = rw is (below_rules p.rule, viewed_left view p.rule, total_read _ ∙ p.total)

        from : ChosenRead v table a k → ChosenPasses g table a
        from (l, left, comes) = record {
          w = right_of v (chosen_in table a);
          rule = rw (left, is) at (rule_read k l);
          total = rw is at (sym (total_read k) ∙ comes);
        }

    pub context_tests : (a k i : ℕ) → k ≡ rule_in table a → i ≡ place_in table a →
        ContextPasses g table a ↔ ContextRead v table a k i
    context_tests a k i is at = (to, from)
      where
        to : ContextPasses g table a → ContextRead v table a k i
        to p =
            let read = (holds_read _ _ a).0 p.holds in
            rw (is, at, viewed_right view p.rule) (below_rules p.rule, read, total_read _ ∙ p.total)

        from : ContextRead v table a k i → ContextPasses g table a
        from (l, read, comes) = record {
          B = left_of v (rule_in table a);
          w = right_of v (rule_in table a);
          rule = rw is at (rule_read k l);
          holds = rw (is, at) at ((holds_read (right_of v k) i a).1 read);
          total = rw is at (sym (total_read k) ∙ comes);
        }

    pub rule_tests : (k t : ℕ) → k < v.rules → t ≡ total_in v.nonterminals table k → RulePassesAt g table k ↔ RuleRead v table g k t
    rule_tests k t l is = (to, from)
      where
        same : t ≡ total_in g.N table k
        same = is ∙ total_read k

        to : RulePassesAt g table k → RuleRead v table g k t
        to p = let here = p _ _ (rule_read k l) in rw (same, view.nonterminals) (here.fits, here.places, here.left)

        from : RuleRead v table g k t → RulePassesAt g table k
        from (fits, places, left) A w r =
            let here : RulePasses g table k t (left_of v k) (right_of v k) =
            record { fits = fits; places = rw view.nonterminals at places; left = left } in
            rw (same, viewed_left view r, viewed_right view r) at here

    -- ALL TESTS
    pub table_tests : Own table g ↔ TableRead v table g
    table_tests = (to, from)
      where
        to : Own table g → TableRead v table g
        to own =
            let tests = (tests_exact g (in_bounds v.words.now view.is) table).1 own in
            (omega (arith, tests.long, view.nonterminals, view.all_rules), tests.choices, tests.rules)

        from : TableRead v table g → Own table g
        from (long, choices, rules) =
            (tests_exact g (in_bounds v.words.now view.is) table).0
            (record { long = omega (arith, view.nonterminals, view.all_rules); choices = choices; rules = rules })
