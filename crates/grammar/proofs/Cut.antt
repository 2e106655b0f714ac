-- A tree of the start that uses a rule, cut there: a tree with one leaf left open, and the rule put at that leaf; and the uses
-- and the costs of what is put together. That no tree that uses r is smaller than Total(r) is shown on the cut tree.
-- Go down the tree to the use, and keep what lies around the symbols in hand: how a forest of them completes the whole tree, and
-- how a gap in them opens it. At the use, what lies around is the open tree. Each step leaves the whole as it is, by computing.
-- Assumes nothing.
use Prim.Native.Nat.{ℕ, suc, ◌≤◌}
use mathlib.Core.Path.{◌≡◌, refl, sym, ap, ◌∙◌, subst}
use mathlib.Core.Logic.{◌⊎◌, inl, inr}
use mathlib.Core.List.Memᴰ
use mathlib.Core.List.{List, ◌∷◌}
use Rattle.grammar.specs.Words.{Grammar, RuleAt}
use Rattle.grammar.specs.Tree.{Tree, Forest, node, nil, leaf, child, Gap, here, past_leaf, past_child, Open, root, down}
use Rattle.grammar.specs.Tree.{fill, plug, derivation, derivations, Uses, ◌∈◌}
use Rattle.grammar.specs.Measure.{Cost, tree_cost, forest_cost, gap_cost, open_cost}
use Rattle.grammar.proofs.SameListing.{tree_nonterminal}

-- the tree t of the start is an open tree, `outer`, with a node of rule k over a forest, `inner`, at its leaf
pub record Cut (g : Grammar) (k : ℕ) (t : Tree g g.start) : Type 0 where
  pub j : ℕ
  pub B : ℕ
  pub w : List ℕ
  pub same : k ≡ j
  pub rule : RuleAt g j B w
  pub outer : Open g B
  pub inner : Forest g w
  pub whole : plug outer (node j rule inner) ≡ t

module _ (g : Grammar) (k : ℕ) where
  -- what lies around the symbols w of a right side: a forest of w completes it to a tree of the start, a gap of w opens that tree
  record Around (w : List ℕ) : Type 0 where
    whole : Forest g w → Tree g g.start
    opened : (i B : ℕ) → Gap g w i B → Open g B
    agrees : (i B : ℕ) (a : Gap g w i B) (t : Tree g B) → plug (opened i B a) t ≡ whole (fill a t)

  under : {j A : ℕ} {w : List ℕ} → RuleAt g j A w → Open g A → Around w
  unfolding plug
  under {j} r x = record { whole = λ f. plug x (node j r f); opened = λ i B a. down j r x a; agrees = λ i B a t. refl }

  after_leaf : {s : ℕ} {w : List ℕ} → g.N ≤ s → Around (s ∷ w) → Around w
  unfolding fill
  after_leaf p z = record {
    whole = λ f. z.whole (leaf p f);
    opened = λ i B a. z.opened (suc i) B (past_leaf p a);
    agrees = λ i B a t. z.agrees (suc i) B (past_leaf p a) t;
  }

  after_child : {s : ℕ} {w : List ℕ} → Tree g s → Around (s ∷ w) → Around w
  unfolding fill
  after_child u z = record {
    whole = λ f. z.whole (child u f);
    opened = λ i B a. z.opened (suc i) B (past_child u a);
    agrees = λ i B a t. z.agrees (suc i) B (past_child u a) t;
  }

  mutual
    unfolding plug fill under after_leaf after_child

    cut_tree : {A : ℕ} (t : Tree g A) (x : Open g A) → Uses k t → Cut g k (plug x t)
    cut_tree (node {A} {w} j r f) x m = go (λ m'. cut_forest f (under r x) m') (Memᴰ.cases_cons m)
      where
        go : (k ∈ derivations f → Cut g k (plug x (node j r f))) → (k ≡ j) ⊎ k ∈ derivations f → Cut g k (plug x (node j r f))
        go below (inl e) = record { j = j; B = A; w = w; same = e; rule = r; outer = x; inner = f; whole = refl }
        go below (inr m') = below m'

    cut_forest : {w : List ℕ} (f : Forest g w) (z : Around w) → k ∈ derivations f → Cut g k (z.whole f)
    cut_forest nil z m = absurd (Memᴰ.not-nil m)
    cut_forest (leaf p f) z m = cut_forest f (after_leaf p z) m
    cut_forest (child {s} t f) z m =
        let gap = here (tree_nonterminal t) f in
        go (λ m'. subst (Cut g k) (z.agrees 0 s gap t) (cut_tree t (z.opened 0 s gap) m'))
        (λ m'. cut_forest f (after_child t z) m') (Memᴰ.append_cases (derivation t) m)
      where
        go : (k ∈ derivation t → Cut g k (z.whole (child t f))) → (k ∈ derivations f → Cut g k (z.whole (child t f))) →
            (k ∈ derivation t) ⊎ (k ∈ derivations f) → Cut g k (z.whole (child t f))
        go first later (inl m') = first m'
        go first later (inr m') = later m'

  -- CUT: a tree of the start that uses k is an open tree with a node of rule k at its leaf
  pub cut : (t : Tree g g.start) → Uses k t → Cut g k t
  unfolding plug
  cut t m = cut_tree t root m

  -- and what is put at the leaf of an open tree is used by the whole
  fill_uses : {w : List ℕ} {i A : ℕ} (a : Gap g w i A) (t : Tree g A) → Uses k t → k ∈ derivations (fill a t)
  unfolding fill
  fill_uses (here p f) t m = Memᴰ.append_left (derivations f) m
  fill_uses (past_leaf p a) t m = fill_uses a t m
  fill_uses (past_child u a) t m = Memᴰ.append_right (derivation u) (fill_uses a t m)

  pub plug_uses : {A : ℕ} (x : Open g A) (t : Tree g A) → Uses k t → Uses k (plug x t)
  unfolding plug
  plug_uses root t m = m
  plug_uses (down j r x a) t m = plug_uses x (node j r (fill a t)) (Memᴰ.tail (fill_uses a t m))

module _ (c : Cost) {g : Grammar} where
  open c use {C, 𝟎, ◌⊕◌, tok, once, assoc, comm, unit}

  infixl 60 ◌⊕◌
  fill_cost : {w : List ℕ} {i A : ℕ} (a : Gap g w i A) (t : Tree g A) → forest_cost c (fill a t) ≡ gap_cost c a ⊕ tree_cost c t
  unfolding fill tree_cost gap_cost
  fill_cost (here p f) t = comm _ _
  fill_cost (past_leaf {s} p a) t = ap (λ d. tok s ⊕ d) (fill_cost a t) ∙ sym (assoc _ _ _)
  fill_cost (past_child u a) t = ap (λ d. tree_cost c u ⊕ d) (fill_cost a t) ∙ sym (assoc _ _ _)

  -- a filled tree costs what the open tree costs and what is put at its leaf
  pub plug_cost : {A : ℕ} (x : Open g A) (t : Tree g A) → tree_cost c (plug x t) ≡ open_cost c x ⊕ tree_cost c t
  unfolding plug tree_cost open_cost
  plug_cost root t = sym (unit _)
  plug_cost (down k r x a) t =
      let regroup = ap (λ d. open_cost c x ⊕ d) (sym (assoc once (gap_cost c a) (tree_cost c t))) ∙ sym (assoc _ _ _) in
      plug_cost x (node k r (fill a t)) ∙ ap (λ d. open_cost c x ⊕ (once ⊕ d)) (fill_cost a t) ∙ regroup
