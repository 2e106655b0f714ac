-- What each step of the lister leaves: a token, a rule's number, one more of some symbols, a nonterminal by its chosen rule.
-- Assumes nothing.
use Prim.Native.Nat.{ℕ, ◌+◌, ◌≤◌, ◌<◌}
use native.Mathlib.Numerals.{add-one}
use native.Mathlib.Omega.{arith}
use mathlib.Core.List.{List, [], ◌∷◌, ◌++◌}
use mathlib.Core.Path.{◌≡◌, refl}
use lib.ListN.{length, get_or, take}
use lib.Seq.{take-suc}
use Rattle.grammar.specs.Tree.{node, nil}
use Rattle.entries.specs.Table.{chosen_in}
use Rattle.handout.specs.declared.tabled.Tabled.{Tabled}
use Rattle.handout.specs.declared.listing.Listing.{Listing}
use Rattle.handout.specs.Listing.{grammar_of, size_by, sizes_by, right_of, of_terminal, of_nonterminal, Wrote}
use Rattle.handout.specs.Listing.{SymbolListed, SymbolsListed, NumberListed, RuleListed}
use Rattle.handout.proofs.Listings.{and_then, nothing, one_more, sizes_more}
use Rattle.handout.proofs.OwnTable.{view_of}
use Rattle.handout.proofs.SizesByTable.{terminal_takes_one, ChosenRule, chosen_rule}

module _ (t : Tabled) where
  -- no symbols, and one more
  pub none_listed : (p : Listing) → SymbolsListed t [] p p
  unfolding sizes_by
  none_listed p = record {
    us = [];
    vs = [];
    lists = record { forest = nil; chosen = tt; tokens = refl; rules = refl };
    wrote = nothing p;
    counted = omega arith;
  }

  pub more_listed : (w : List ℕ) (i : ℕ) {p q r : Listing} → SymbolsListed t (take i w) p q → i < length w →
      SymbolListed t (get_or w i 0) q r → SymbolsListed t (take (i + 1) w) p r
  more_listed w i so h last =
      let both = one_more so.lists.forest so.lists.chosen last.lists in
      record {
        us = so.us ++ last.us;
        vs = so.vs ++ last.vs;
        lists = rw (add-one i, take-suc w i 0 h, so.lists.tokens, so.lists.rules) both;
        wrote = and_then so.wrote last.wrote;
        counted = omega (arith, so.counted, last.counted, sizes_more t w i h);
      }

  -- a rule's number before some symbols
  pub numbered : {k : ℕ} {w : List ℕ} {p q r : Listing} → Wrote [] (k ∷ []) p q → SymbolsListed t w q r → NumberListed t k w p r
  numbered {k} number so = record {
    us = so.us;
    vs = k ∷ so.vs;
    lists = record { after = so.vs; symbols = so.lists; is = refl };
    wrote = and_then {us = []} {vs = k ∷ []} number so.wrote;
    counted = omega (arith, number.more_tokens, number.more_rules, so.counted);
  }

  -- a terminal
  pub token_listed : {s : ℕ} {p q : Listing} → t.reading.now.nonterminals ≤ s → Wrote (s ∷ []) [] p q → SymbolListed t s p q
  token_listed {s} h token =
      let le : (grammar_of t).N ≤ s = omega (arith, (view_of t).nonterminals) in
      record {
        us = s ∷ [];
        vs = [];
        lists = of_terminal le;
        wrote = token;
        counted = omega (arith, token.more_tokens, token.more_rules, terminal_takes_one t s h);
      }

  -- a nonterminal by its chosen rule
  module _ {s k : ℕ} (h : s < t.reading.now.nonterminals) (e : k ≡ chosen_in t.table.now s) where
    chosen : ChosenRule t s k
    chosen = chosen_rule t s k h e

    pub rule_smaller : 1 + sizes_by t (right_of t k) ≤ size_by t s
    rule_smaller = chosen.size

    pub chosen_listed : {p q : Listing} → RuleListed t k p q → SymbolListed t s p q
    chosen_listed so =
        let f = so.lists.symbols in
        let tree = of_nonterminal (node k chosen.rule f.forest) (chosen.chosen, f.chosen) in
        record {
          us = so.us;
          vs = so.vs;
          lists = rw (so.lists.is, f.rules, f.tokens) tree;
          wrote = so.wrote;
          counted = omega (arith, so.counted, chosen.size);
        }
