-- Total(r) is the least cost of a complete tree of the start that uses r, and the tree of r costs it: the sentences that the
-- program hands out are as small as any that use their rules.
-- Below: cut a tree that uses r at r; what lies above costs at least the context, and what lies under at least the sizes of the
-- right side. Attained: a tree of chosen rules costs the least, for the chosen rule has the least size and the trees under it, by
-- induction, the least of their symbols; an open tree of context choices costs the context in the same way.
-- Assumes nothing.
use Prim.Native.Nat.{ℕ}
use native.Mathlib.Omega.{arith}
use mathlib.Core.Path.{◌≡◌, refl, sym, ap, ◌∙◌}
use mathlib.Core.List.Memᴰ
use mathlib.Core.List.{List}
use Rattle.grammar.specs.Words.{Grammar}
use Rattle.grammar.specs.Tree.{Tree, Forest, node, nil, leaf, child, Gap, here, past_leaf, past_child, Open, root, down}
use Rattle.grammar.specs.Tree.{Uses}
use Rattle.grammar.specs.Measure.{Cost, tree_cost, forest_cost, gap_cost, open_cost}
use Rattle.grammar.specs.Least.{Least, Sizes, no_symbols, terminal, nonterminal, Context, Beside, at_place, past_terminal}
use Rattle.grammar.specs.Least.{past_nonterminal, Total, ChosenTree, ChosenForest, ChosenGap, ChosenOpen, TreeOf}
use Rattle.grammar.proofs.RuleNumbers.{rule_left, rule_right}
use Rattle.grammar.proofs.Unique.{sizes_unique, beside_unique, context_unique}
use Rattle.grammar.proofs.SameListing.{tree_nonterminal}
use Rattle.grammar.proofs.Cut.{cut, plug_uses, plug_cost}
pub use Rattle.grammar.proofs.CostOrder.{le_of_eq}

module _ (c : Cost) {g : Grammar} where
  open c use {C, 𝟎, ◌⊕◌, ◌≼◌, tok, once, le_refl, le_trans, least, mono}

  infixl 60 ◌⊕◌
  infix 40 ◌≼◌
  -- a forest costs at least the sizes of its symbols
  pub forest_above : {w : List ℕ} {x : C} → Sizes c g w x → (f : Forest g w) → x ≼ forest_cost c f
  unfolding tree_cost
  forest_above no_symbols nil = le_refl 𝟎
  forest_above (terminal p h) (leaf q f) = mono (le_refl _) (forest_above h f)
  forest_above (terminal p h) (child t f) = absurd (omega (arith, tree_nonterminal t))
  forest_above (nonterminal p l h) (leaf q f) = absurd (omega arith)
  forest_above (nonterminal p l h) (child t f) = mono (l.smallest t) (forest_above h f)

  -- MINIMAL: no complete tree of the start that uses r is smaller than Total(r)
  pub total_smallest : {r : ℕ} {x : C} → Total c g r x → (t : Tree g g.start) → Uses r t → x ≼ tree_cost c t
  unfolding tree_cost
  total_smallest {r} h t m =
      let z = cut g r t m in
      let e_a : h.A ≡ z.B = rule_left z.same h.rule.rule z.rule in
      let ew : h.rule.w ≡ z.w = rule_right z.same h.rule.rule z.rule in
      let above = (rw e_a at h.context).smallest z.outer in
      let under = forest_above (rw ew at h.rule.sizes) z.inner in
      let total = h.is ∙ ap (λ d. h.outer ⊕ d) h.rule.is in
      let whole = sym (plug_cost c z.outer (node z.j z.rule z.inner)) ∙ ap (tree_cost c) z.whole in
      le_trans (le_of_eq c total) (le_trans (mono above (mono (le_refl once) under)) (le_of_eq c whole))

  mutual
    unfolding tree_cost

    -- a tree of chosen rules is a least one
    pub chosen_least : {A : ℕ} (t : Tree g A) → ChosenTree c g t → Least c g A (tree_cost c t)
    chosen_least (node {A} {w} k r f) h =
        let a = h.0.attains in
        let ew : w ≡ a.w = rule_right refl r a.rule in
        let e : forest_cost c f ≡ a.others = sizes_unique (chosen_sizes f h.1) (rw ew a.sizes) in
        let e' : h.0.figure ≡ once ⊕ forest_cost c f = a.is ∙ ap (λ d. once ⊕ d) (sym e) in
        rw e' at h.0.least

    pub chosen_sizes : {w : List ℕ} (f : Forest g w) → ChosenForest c g f → Sizes c g w (forest_cost c f)
    chosen_sizes nil h = no_symbols
    chosen_sizes (leaf p f) h = terminal p (chosen_sizes f h)
    chosen_sizes (child t f) h = nonterminal (tree_nonterminal t) (chosen_least t h.0) (chosen_sizes f h.1)

  chosen_beside : {w : List ℕ} {i A : ℕ} (a : Gap g w i A) → ChosenGap c g a → Beside c g w i A (gap_cost c a)
  unfolding gap_cost
  chosen_beside (here p f) h = at_place p (chosen_sizes f h)
  chosen_beside (past_leaf p a) h = past_terminal p (chosen_beside a h)
  chosen_beside (past_child t a) h = past_nonterminal (tree_nonterminal t) (chosen_least t h.0) (chosen_beside a h.1)

  -- "For the start it is 0."
  pub context-start : Context c g g.start 𝟎
  unfolding open_cost
  context-start = record { tree = root; costs = refl; smallest = λ t. least _ }

  -- an open tree of context choices is a least one
  pub chosen_context : {A : ℕ} (x : Open g A) → ChosenOpen c g x → Context c g A (open_cost c x)
  unfolding open_cost
  chosen_context root h = context-start
  chosen_context (down {A} {B} {i} {w} k r x a) h =
      let z = h.0.attains in
      let e_b : B ≡ z.B = rule_left refl r z.rule in
      let ew : w ≡ z.w = rule_right refl r z.rule in
      let e : open_cost c x ≡ z.outer = context_unique (chosen_context x h.1) (rw e_b z.context) in
      let e' : gap_cost c a ≡ z.others = beside_unique (chosen_beside a h.2) (rw ew z.beside) in
      let i = z.is in
      let e'' : h.0.figure ≡ open_cost c x ⊕ (once ⊕ gap_cost c a) = cc in
      rw e'' at h.0.context

  -- ATTAINED: the tree of r costs Total(r)
  pub tree_of_total : {r : ℕ} {t : Tree g g.start} → TreeOf c g r t → Total c g r (tree_cost c t)
  unfolding tree_cost
  tree_of_total {r} {t} h = record {
    A = h.A;
    outer = open_cost c h.above;
    context = chosen_context h.above h.follows;
    size = once ⊕ forest_cost c h.under;
    rule = record {
      w = h.w;
      rule = h.rule;
      others = forest_cost c h.under;
      sizes = chosen_sizes h.under h.opens;
      is = refl;
    };
    is = ap (tree_cost c) h.whole ∙ plug_cost c h.above _;
  }

  -- USED: the tree of r uses r
  pub tree_of_uses : {r : ℕ} {t : Tree g g.start} → TreeOf c g r t → Uses r t
  tree_of_uses {r} h = rw h.whole (plug_uses g r h.above (node r h.rule h.under) (Memᴰ.head refl))
