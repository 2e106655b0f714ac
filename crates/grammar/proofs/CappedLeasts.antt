-- A table of leasts that saturates: figures v are the caps of the leasts exactly where v(A) is at most the cap of the size of
-- each rule of A, and is the cap of what some tree of A costs. That v(A) is the capped size of some rule of A would not do: A ⟶ A
-- attains the top figure by itself, and no tree need cost it; so an engine carries the trees along, as facts. Assumes nothing.
use Prim.Native.Nat.{ℕ, ◌≤◌, ◌<◌}
use native.Mathlib.Omega.{arith}
use native.Mathlib.Decide.{dec_lt}
use mathlib.Core.Path.{◌≡◌, refl, sym, ap, ◌∙◌}
use mathlib.Core.Logic.{◌↔◌}
use mathlib.Core.List.{List, [], ◌∷◌}
use Rattle.grammar.specs.Words.{Grammar, RuleAt}
use Rattle.grammar.specs.Tree.{Tree, Forest, node, nil, leaf, child}
use Rattle.grammar.specs.Measure.{Cost, tree_cost, forest_cost}
use Rattle.grammar.specs.Least.{Least}
use Rattle.grammar.specs.Refusals.{AllTrees}
use Rattle.grammar.proofs.SameListing.{tree_nonterminal}
use Rattle.grammar.proofs.Totals.{le_of_eq}
use Rattle.grammar.specs.Certificates.{symbol_size, word_size, Leasts}
use Rattle.grammar.proofs.Certificate.{symbol_nonterminal, symbol_terminal, least_certificate}
use Rattle.grammar.specs.Caps.{Cap, CappedCertificate, Caps}
use Rattle.grammar.proofs.Cap.{cap-cap, cap_same, cap_below}

module _ (c : Cost) (κ : Cap c) (g : Grammar) where
  open c use {C, 𝟎, ◌⊕◌, ◌≼◌, once, le_refl, le_trans, le_antisym}
  open κ use {cap, cap_mono}

  infixl 60 ◌⊕◌
  infix 40 ◌≼◌
  -- then so are the sizes by v of those by x
  pub symbol_caps : (v x : ℕ → C) → Caps c κ g v x → (s : ℕ) → cap (symbol_size c g v s) ≡ cap (symbol_size c g x s)
  symbol_caps v x caps s = go (dec_lt s g.N)
    where
      go : Dec (s < g.N) → cap (symbol_size c g v s) ≡ cap (symbol_size c g x s)
      go (yes lt) = cc (symbol_nonterminal c g v s lt, symbol_nonterminal c g x s lt, caps s lt, cap-cap κ (x s))
      go (no ge) = let le : g.N ≤ s = omega arith in cc (symbol_terminal c g v s le, symbol_terminal c g x s le)

  pub word_caps : (v x : ℕ → C) → Caps c κ g v x → (w : List ℕ) → cap (word_size c g v w) ≡ cap (word_size c g x w)
  unfolding word_size
  word_caps v x caps [] = refl
  word_caps v x caps (s ∷ w) = cap_same κ (symbol_caps v x caps s) (word_caps v x caps w)

  -- No tree of A costs less than v(A), after the cap: by induction on the tree. v(A) is at most the cap of the size by v of the
  -- tree's top rule; that grows with the caps of the rule's symbols, and these are, by induction, at most those of the trees
  -- under it. So v(A) is at most the cap of the least cost. It is the cap of some tree's cost, which is at least the least, so it
  -- is at least that.
  module _ (v : ℕ → C) (cert : CappedCertificate c κ g v) where
    mutual
      unfolding tree_cost word_size

      tree_above : {A : ℕ} (t : Tree g A) → v A ≼ cap (tree_cost c t)
      tree_above (node {A} {w} k r f) = le_trans (cert.below k A w r) (cap_below κ (le_refl (cap once)) (forest_above f))

      forest_above : {w : List ℕ} (f : Forest g w) → cap (word_size c g v w) ≼ cap (forest_cost c f)
      forest_above nil = le_refl (cap 𝟎)
      forest_above (leaf {s} p f) = cap_below κ (le_of_eq c (ap cap (symbol_terminal c g v s p))) (forest_above f)
      forest_above (child {s} t f) =
          let e = symbol_nonterminal c g v s (tree_nonterminal t) in
          let h : cap (v s) ≼ cap (tree_cost c t) = le_trans (cap_mono (tree_above t)) (le_of_eq c (cap-cap κ _)) in
          cap_below κ (le_trans (le_of_eq c (ap cap e)) h) (forest_above f)

    -- CAPPED LEASTS
    pub capped_least : {A : ℕ} {x : C} → Least c g A x → v A ≡ cap x
    capped_least {A} {x} l =
        let (t, e) = cert.of_tree A (tree_nonterminal l.tree) in
        let up : v A ≼ cap x = le_trans (tree_above l.tree) (le_of_eq c (ap cap l.costs)) in
        le_antisym up (le_trans (cap_mono (l.smallest t)) (le_of_eq c (sym e)))

    pub certificate_trees : AllTrees g
    certificate_trees A lt = (cert.of_tree A lt).0

  -- THE CERTIFICATE, both ways
  module _ (x : ℕ → C) (leasts : Leasts c g x) where
    rule_below : (v : ℕ → C) → Caps c κ g v x → (k A : ℕ) (w : List ℕ) → RuleAt g k A w → v A ≼ cap (once ⊕ word_size c g v w)
    rule_below v caps k A w r =
        let h : cap (x A) ≼ cap (once ⊕ word_size c g x w) = cap_mono (((least_certificate c g x).1 leasts).below k A w r) in
        le_trans (le_of_eq c (caps A r.left)) (le_trans h (le_of_eq c (cap_same κ refl (sym (word_caps v x caps w)))))

    certifies : (v : ℕ → C) → Caps c κ g v x → CappedCertificate c κ g v
    certifies v caps = record {
      below = rule_below v caps;
      of_tree = λ A lt. ((leasts A lt).tree, caps A lt ∙ ap cap (sym (leasts A lt).costs));
    }

    pub capped_certificate : (v : ℕ → C) → CappedCertificate c κ g v ↔ Caps c κ g v x
    capped_certificate v = (λ cert A lt. capped_least v cert (leasts A lt), certifies v)
