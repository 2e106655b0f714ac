-- Where an engine comes to rest, whatever the order of its work: some nonterminals have a figure, each figure is the cap of what
-- some tree costs, and no rule whose nonterminals all have figures improves one or lacks one at its left side. Then what has no
-- figure has no tree, and where all have figures they are the caps of the leasts. The same for contexts, downwards from the
-- start: what has no figure is not reached. The figures that an engine writes on the way are caps of trees' costs too, as its
-- invariant asks. Assumes nothing.
use Prim.Native.Nat.{ℕ, ◌≤◌, ◌<◌}
use native.Mathlib.Omega.{arith}
use native.Mathlib.Decide.{dec_lt}
use mathlib.Core.Path.{◌≡◌, refl, sym, ap, ◌∙◌}
use mathlib.Core.Logic.{◌↔◌}
use mathlib.Core.List.Memᴰ
use mathlib.Core.List.{List, [], ◌∷◌}
use Rattle.grammar.specs.Words.{Grammar, RuleAt}
use Rattle.grammar.specs.Tree.{Tree, Forest, node, nil, leaf, child, Open, root, down, ◌∈◌}
use Rattle.grammar.specs.Measure.{Cost, tree_cost, forest_cost, open_cost}
use Rattle.grammar.specs.Refusals.{NoTree, AllTrees, Reached, Unreached}
use Rattle.grammar.specs.Certificates.{Stuck, symbol_size, word_size, Holds, others_size}
use Rattle.grammar.proofs.Dead.{stuck_no_tree, gap_nonterminal, open_reached, reached_open}
use Rattle.grammar.proofs.Search.{member?, some_below}
use Rattle.grammar.proofs.Certificate.{symbol_nonterminal, symbol_terminal}
use Rattle.grammar.proofs.ContextCertificate.{gap_holds, least_gap}
use Rattle.grammar.proofs.LeastsExist.{leasts_exist}
use Rattle.grammar.specs.Caps.{Cap}
use Rattle.grammar.proofs.Cap.{cap-cap, cap_same}
use Rattle.grammar.specs.Caps.{CappedCertificate, OfTree}
use Rattle.grammar.proofs.CappedLeasts.{certificate_trees, capped_certificate}
use Rattle.grammar.specs.Caps.{CappedContextCertificate, OfOpen}
use Rattle.grammar.specs.Caps.{LeastsAtRest, ContextsAtRest}
use Rattle.grammar.proofs.CappedContexts.{others_caps}

module _ (c : Cost) (κ : Cap c) (g : Grammar) (v : ℕ → c.C) where
  open c use {C, 𝟎, ◌⊕◌, ◌≼◌, once}
  open κ use {cap}

  infixl 60 ◌⊕◌
  infix 40 ◌≼◌
  -- what a rule comes to, whose nonterminals have such figures, is such a figure of its left side
  figures_forest : (w : List ℕ) → ((B : ℕ) → B ∈ w → B < g.N → OfTree c κ g B (v B)) →
      (f : Forest g w) × (cap (word_size c g v w) ≡ cap (forest_cost c f))
  unfolding word_size tree_cost
  figures_forest [] figure = (nil, refl)
  figures_forest (s ∷ w) figure = go (dec_lt s g.N) (figures_forest w (λ B m lt. figure B (Memᴰ.tail m) lt))
    where
      go : Dec (s < g.N) → (f : Forest g w) × (cap (word_size c g v w) ≡ cap (forest_cost c f)) →
          (f : Forest g (s ∷ w)) × (cap (symbol_size c g v s ⊕ word_size c g v w) ≡ cap (forest_cost c f))
      go (yes lt) (f, e) =
          let (t, e') = figure s (Memᴰ.head refl) lt in
          (child t f, cap_same κ (ap cap (symbol_nonterminal c g v s lt ∙ e') ∙ cap-cap κ (tree_cost c t)) e)
      go (no ge) (f, e) = let le : g.N ≤ s = omega arith in (leaf le f, cap_same κ (ap cap (symbol_terminal c g v s le)) e)

  pub rule_figure : {k A : ℕ} {w : List ℕ} → RuleAt g k A w → ((B : ℕ) → B ∈ w → B < g.N → OfTree c κ g B (v B)) →
      OfTree c κ g A (cap (once ⊕ word_size c g v w))
  unfolding tree_cost
  rule_figure {k} {w = w} r figure = let (f, e) = figures_forest w figure in (node k r f, cap_same κ refl e)

  -- Has A: A has a figure, v(A). A rule whose nonterminals all have figures has one at its left side, and does not improve it.
  module _ (Has : ℕ → Type 0) where
    pub rest_certificate : LeastsAtRest c κ g v Has → ((A : ℕ) → A < g.N → Has A) → CappedCertificate c κ g v
    rest_certificate rest all = record {
      below = λ k A w r. (rest.quiet k A w r (λ B m lt. all B lt)).1;
      of_tree = λ A lt. rest.figure A lt (all A lt);
    }

    -- No rule of a nonterminal without a figure has a figure at each of its nonterminals, or its left side would have one: so it
    -- names another nonterminal without a figure. These are stuck, and have no tree. What has a figure has a tree, the one that
    -- the figure is the capped cost of.
    module _ (has? : (A : ℕ) → Dec (Has A)) (rest : LeastsAtRest c κ g v Has) where
      missing? : (w : List ℕ) → Dec ((B : ℕ) × (B < g.N) × (B ∈ w × ¬ Has B))
      missing? w = some_below (λ B. B ∈ w × ¬ Has B) (λ B. go B (member? B w) (has? B)) g.N
        where
          go : (B : ℕ) → Dec (B ∈ w) → Dec (Has B) → Dec (B ∈ w × ¬ Has B)
          go B (yes m) (yes h) = no (λ z. z.1 h)
          go B (yes m) (no n) = yes (m, n)
          go B (no n) h = no (λ z. n z.0)

      stuck : Stuck g (λ A. ¬ Has A)
      stuck = record { names = λ k A w r n. go k A w r n (missing? w) }
        where
          go : (k A : ℕ) (w : List ℕ) → RuleAt g k A w → ¬ Has A → Dec ((B : ℕ) × (B < g.N) × (B ∈ w × ¬ Has B)) →
              (B : ℕ) × B ∈ w × B < g.N × (¬ Has B)
          go k A w r n (yes z) = (z.0, z.2.0, z.1, z.2.1)
          go k A w r n (no none) = absurd (n (rest.quiet k A w r (λ B m lt. has B m lt (has? B))).0)
            where
              has : (B : ℕ) → B ∈ w → B < g.N → Dec (Has B) → Has B
              has B m lt (yes h) = h
              has B m lt (no n') = absurd (none (B, lt, (m, n')))

      pub no_figure_no_tree : (A : ℕ) → A < g.N → ¬ Has A → NoTree g A
      no_figure_no_tree A lt n = record { nonterminal = lt; none = λ t. stuck_no_tree g (λ B. ¬ Has B) stuck n t }

      pub figure_iff_tree : (A : ℕ) → A < g.N → Has A ↔ Tree g A
      figure_iff_tree A lt = (λ h. (rest.figure A lt h).0, λ t. go t (has? A))
        where
          go : Tree g A → Dec (Has A) → Has A
          go t (yes h) = h
          go t (no n) = absurd ((no_figure_no_tree A lt n).none t)

  -- THE SAME FOR CONTEXTS. Has A: A has a context figure, u(A). A rule whose left side has one has one at each place that holds a
  -- nonterminal, and does not improve it.
  module _ (u : ℕ → C) (Has : ℕ → Type 0) where
    pub rest_context_certificate : ContextsAtRest c κ g v u Has → ((A : ℕ) → A < g.N → Has A) → CappedContextCertificate c κ g v u
    rest_context_certificate rest all = record {
      at_start = rest.at_start;
      below = λ k B w i A r p lt. (rest.quiet k B w i A r (all B r.left) p lt).1;
      of_open = λ A lt. rest.figure A lt (all A lt);
    }

    -- Along an open tree each nonterminal, from the start to the open leaf, has a figure. Where all have trees, what is reached
    -- has an open tree; so it has a figure.
    module _ (trees : AllTrees g) (rest : ContextsAtRest c κ g v u Has) where
      open_has : {A : ℕ} → Open g A → Has A
      open_has root = rest.start
      open_has (down {A} {B} {i} {w} k r t a) = (rest.quiet k B w i A r (open_has t) (gap_holds a) (gap_nonterminal a)).0

      pub figure_iff_reached : (A : ℕ) → A < g.N → Has A ↔ Reached g A
      figure_iff_reached A lt = (λ h. open_reached (rest.figure A lt h).0, λ z. open_has (reached_open trees z lt))

      pub no_figure_unreached : (A : ℕ) → A < g.N → ¬ Has A → Unreached g A
      no_figure_unreached A lt n = record { nonterminal = lt; never = λ z. n ((figure_iff_reached A lt).1 z) }

  -- what a rule and a place come to, where its left side has such a figure, is such a figure of what stands at the place
  pub place_figure : CappedCertificate c κ g v → {k B : ℕ} {w : List ℕ} (i A : ℕ) → RuleAt g k B w → Holds w i A → A < g.N →
      {y : C} → OfOpen c κ g B y → OfOpen c κ g A (cap (y ⊕ (once ⊕ others_size c g v w i)))
  unfolding open_cost
  place_figure cert {k} {B} {w} i A r p lt (t, e) =
      let (x, leasts) = leasts_exist c g (certificate_trees c κ g v cert) in
      let (a, e') = least_gap c g x leasts w i A lt p in
      let beside = others_caps c κ g v x ((capped_certificate c κ g x leasts v).0 cert) w i ∙ ap cap (sym e') in
      (down k r t a, cap_same κ (ap cap e ∙ cap-cap κ (open_cost c t)) (cap_same κ {x = once} refl beside))
