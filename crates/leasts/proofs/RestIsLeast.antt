-- Leasts at rest are those of the promise: what has a figure has a tree, and the figure is the cut of its least; what has none has
-- no tree. No tree costs less than the figure, after the cut, by induction on the tree; and each figure is the cut of what some
-- tree costs. The sizes of the rules follow. Assumes nothing.
use Prim.Native.Nat.{ℕ, ◌≤◌, ◌<◌}
use native.Mathlib.Omega.{arith}
use native.Mathlib.Decide.{ℕ_discrete}
use mathlib.Core.Path.{◌≡◌}
use mathlib.Core.Logic.{◌⊎◌, inl, inr, ⊎_elim}
use mathlib.Core.List.Memᴰ
use mathlib.Core.List.{List}
use Rattle.grammar.specs.Words.{Grammar, R}
use Rattle.grammar.specs.Tree.{Tree, Forest, node, nil, leaf, child}
use Rattle.grammar.specs.Measure.{tree_cost, forest_cost}
use Rattle.grammar.specs.Terms.{measure}
use Rattle.grammar.specs.Least.{Least}
use Rattle.grammar.specs.Caps.{LeastsAtRest, measure_cap}
use Rattle.grammar.specs.Certificates.{word_size}
use Rattle.grammar.proofs.AtRest.{figure_iff_tree}
use Rattle.grammar.proofs.Certificate.{symbol_nonterminal, symbol_terminal}
use Rattle.grammar.proofs.LeastsExist.{least?}
use Rattle.grammar.proofs.RuleNumbers.{rule_number}
use Rattle.grammar.proofs.SameListing.{tree_nonterminal}
use Rattle.figures.specs.Figures.{no_figure, figure, Has, capped}
use Rattle.leasts.specs.LeastSteps.{HaveIn, LeastsSound, LeastQuiet, SizeBy, by_figures, by_none}
use Rattle.leasts.specs.Promise.{LeastFigure, of_tree, no_tree, HaveTrees, SizeFigure, of_trees, no_trees}

has? : (vs : List ℕ) (A : ℕ) → Dec (Has vs A)
has? vs A = go (ℕ_discrete (figure vs A) no_figure)
  where
    go : Dec (figure vs A ≡ no_figure) → Dec (Has vs A)
    go (yes e) = no (λ h. h e)
    go (no d) = yes d

module _ (g : Grammar) (vs : List ℕ) (sound : LeastsSound g vs) (quiet : (k : ℕ) → k < R g → LeastQuiet g vs k) where
  at_rest : LeastsAtRest measure measure_cap g (figure vs) (Has vs)
  at_rest = record {
    figure = λ A lt h. sound A h;
    quiet = λ k A w r have.
        let q = quiet k (rule_number r) A w r have in
        (λ e. omega arith, q);
  }

  -- NO TREE COSTS LESS
  mutual
    unfolding tree_cost word_size

    tree_above : {A : ℕ} (t : Tree g A) → figure vs A ≤ capped (tree_cost measure t)
    tree_above (node {A} {w} k r f) =
        let (have, le) = forest_above f in
        omega (arith, quiet k (rule_number r) A w r have, le)

    forest_above : {w : List ℕ} (f : Forest g w) →
        HaveIn g.N vs w × (capped (word_size measure g (figure vs) w) ≤ capped (forest_cost measure f))
    forest_above nil = (λ B m l. absurd (Memᴰ.not-nil m), omega arith)
    forest_above (leaf {s} p f) =
        let (have, le) = forest_above f in (
          λ B m l. ⊎_elim (λ e. absurd (omega arith)) (λ m'. have B m' l) (Memᴰ.cases_cons m),
          omega (arith, le, symbol_terminal measure g (figure vs) s p),
        )
    forest_above (child {s} t f) =
        let (have, le) = forest_above f in
        let first = tree_above t in (
          λ B m l. ⊎_elim (λ e. rw e (λ q. omega arith)) (λ m'. have B m' l) (Memᴰ.cases_cons m),
          omega (arith, le, first, symbol_nonterminal measure g (figure vs) s (tree_nonterminal t)),
        )

  -- THE LEASTS
  pub rest_least : (A : ℕ) → A < g.N → LeastFigure g A (figure vs A)
  rest_least A lt = go (least? measure g A lt) (has? vs A)
    where
      exact : {x : ℕ} → Least measure g A x → Has vs A → figure vs A ≡ capped x
      exact least h =
          let (t, e) = sound A h in
          omega (arith, e, least.smallest t, tree_above least.tree, least.costs)

      go : ((x : ℕ) × Least measure g A x) ⊎ ¬ Tree g A → Dec (Has vs A) → LeastFigure g A (figure vs A)
      go (inl (x, least)) (yes h) = rw (exact least h) (of_tree least)
      go (inl (x, least)) (no n) = absurd (n (λ e. omega (arith, tree_above least.tree)))
      go (inr none) (yes h) = absurd (none (sound A h).0)
      go (inr none) (no n) = rw (lacks (ℕ_discrete (figure vs A) no_figure)) (no_tree none)
        where
          lacks : Dec (figure vs A ≡ no_figure) → figure vs A ≡ no_figure
          lacks (yes e) = e
          lacks (no d) = absurd (n d)

  pub rest_past : (A : ℕ) → g.N ≤ A → figure vs A ≡ no_figure
  rest_past A past = go (ℕ_discrete (figure vs A) no_figure)
    where
      go : Dec (figure vs A ≡ no_figure) → figure vs A ≡ no_figure
      go (yes e) = e
      go (no d) = absurd (let below = tree_nonterminal (sound A d).0 in omega arith)

  -- THE SIZES
  have_trees : {w : List ℕ} → HaveIn g.N vs w → HaveTrees g w
  have_trees have B m l = (sound B (have B m l)).0

  trees_have : {w : List ℕ} → HaveTrees g w → HaveIn g.N vs w
  trees_have trees B m l = (figure_iff_tree measure measure_cap g (figure vs) (Has vs) (has? vs) at_rest B l).1 (trees B m l)

  pub rest_size : {w : List ℕ} {x : ℕ} → SizeBy g vs w x → SizeFigure g vs w x
  rest_size (by_figures have) = of_trees (have_trees have)
  rest_size (by_none lacks) = no_trees (λ trees. lacks (trees_have trees))
