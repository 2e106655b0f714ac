-- What listing the tree of a rule needs and leaves: its parts are what lies before the rule's left side, the rule's listing, and
-- what lies after, and their sizes by the table are together no more than the rule's total. Assumes nothing.
use Prim.Native.Nat.{ℕ, ◌+◌, ◌≤◌, ◌<◌}
use native.Mathlib.Omega.{arith}
use mathlib.Core.List.{List, ◌∷◌, ◌++◌}
use mathlib.Core.Path.{◌≡◌, ap, sym, ◌∙◌}
use Rattle.grammar.specs.Words.{Grammar, R, RuleAt}
use Rattle.grammar.specs.Tree.{Tree, Forest, node, sentence, sentences, derivation, derivations}
use Rattle.grammar.specs.Terms.{measure}
use Rattle.grammar.specs.Least.{ChosenForest, TreeOf}
use Rattle.grammar.proofs.LayoutExact.{in_bounds}
use Rattle.grammar.proofs.SameListing.{same_forest}
use Rattle.grammar.proofs.TreeOfExists.{tree_of_exists}
use Rattle.layout.proofs.RulesInView.{viewed_left, viewed_right}
use Rattle.handout.specs.declared.tabled.Tabled.{Tabled}
use Rattle.handout.specs.declared.listing.Listing.{Listing}
use Rattle.handout.specs.Listing.{grammar_of, sizes_by, right_of, Few, Wrote, RuleListed}
use Rattle.handout.specs.TreeListing.{left_of, Leads, before, after, tokens_on, rules_on, size_on, WayReady, SideWrote}
use Rattle.handout.specs.TreeListing.{WayListed, total_by, TreeListed}
use Rattle.handout.proofs.Listings.{and_then}
use Rattle.handout.proofs.OwnTable.{view_of, accepted_of}
use Rattle.handout.proofs.OpenListings.{plug_tokens, plug_rules}
use Rattle.handout.proofs.SizesByTable.{open_within, total_within}
use Rattle.handout.proofs.TreeListerSteps.{wrote_as}

-- a tree's listing in three parts
module _ {g : Grammar} {r : ℕ} {t : Tree g g.start} (z : TreeOf measure g r t) where
  tokens_are : sentence t ≡ tokens_on before z.above ++ (sentences z.under ++ tokens_on after z.above)
  tokens_are = ap sentence z.whole ∙ plug_tokens z.above (node r z.rule z.under)

  rules_are : derivation t ≡ rules_on before z.above ++ (derivation (node r z.rule z.under) ++ rules_on after z.above)
  rules_are = ap derivation z.whole ∙ plug_rules z.above (node r z.rule z.under)

module _ (t : Tabled) (r : ℕ) where
  abbrev g : Grammar
  g = grammar_of t

  -- of a rule its number is written, and every chosen forest of its symbols: all such are listed alike
  rule_written : {A : ℕ} {w : List ℕ} {p q : Listing} → RuleListed t r p q → RuleAt g r A w → (f : Forest g w) →
      ChosenForest measure g f → Wrote (sentences f) (r ∷ derivations f) p q
  rule_written h rule f chosen =
      let m = h.lists.symbols in
      let same = same_forest measure m.forest (viewed_right (view_of t) rule) f m.chosen chosen in
      rw (← same.sentences_same, ← same.derivations_same, ← m.tokens, ← m.rules, ← h.lists.is) h.wrote

  module _ (number : r < t.reading.now.rules) where
    pub the_tree : (u : Tree g g.start) × TreeOf measure g r u
    the_tree =
        let ok = accepted_of t in
        let low : r < R g = omega (arith, (view_of t).all_rules) in
        tree_of_exists measure g (in_bounds t.reading.now.words.now (view_of t).is) ok.trees ok.reached r low

    is_left : left_of t r ≡ the_tree.1.A
    is_left = viewed_left (view_of t) the_tree.1.rule

    pub left_below : left_of t r < t.reading.now.nonterminals
    left_below = omega (arith, is_left, the_tree.1.rule.left, (view_of t).nonterminals)

    -- the three parts together
    parts : size_on t before the_tree.1.above + (1 + sizes_by t (right_of t r)) + size_on t after the_tree.1.above ≤ total_by t r
    parts =
        let z = the_tree.1 in
        let beside = open_within t z.above z.follows in
        let whole = total_within t z.rule in
        let right = ap (sizes_by t) (viewed_right (view_of t) z.rule) in
        omega (arith, beside, whole, right)

    module _ {p : Listing} (few : Few p (total_by t r)) {way : List ℕ} (leads : Leads t (left_of t r) t.reading.now.start way) where
      pub way_before : WayReady before t way p
      way_before = record {
        A = the_tree.1.A;
        leads = rw is_left at leads;
        ready = record {
          above = the_tree.1.above;
          follows = the_tree.1.follows;
          few = omega (arith, few, parts);
        };
      }

      module _ {q : Listing} (first : WayListed before t way p q) where
        so_far : SideWrote t before the_tree.1.above p q
        so_far = (first.from the_tree.1.A (rw is_left at leads)).by the_tree.1.above the_tree.1.follows

        pub rule_few : Few q (1 + sizes_by t (right_of t r))
        rule_few = omega (arith, few, parts, so_far.counted)

        module _ {s : Listing} (rule : RuleListed t r q s) where
          pub way_after : WayReady after t way s
          way_after = record {
            A = the_tree.1.A;
            leads = rw is_left at leads;
            ready = record {
              above = the_tree.1.above;
              follows = the_tree.1.follows;
              few = omega (arith, few, parts, so_far.counted, rule.counted);
            };
          }

          -- TREE: the sentence and the derivation of the rule's tree are written
          pub tree_listed : {u : Listing} → WayListed after t way s u → TreeListed t r p u
          tree_listed last = record {
            of_tree = λ u z.
                let begins = rw (viewed_left (view_of t) z.rule) at leads in
                let head = ((first.from z.A begins).by z.above z.follows).wrote in
                let tail = ((last.from z.A begins).by z.above z.follows).wrote in
                let middle = rule_written rule z.rule z.under z.opens in
                wrote_as (sym (tokens_are z)) (sym (rules_are z)) (and_then head (and_then middle tail));
          }
