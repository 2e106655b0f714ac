-- What the arrays say where a search through them has ended: rows 5, 6 and 7 at the lowest, or none of them. A nonterminal without
-- a least has no tree (crate leasts), and at rest one without a context is not reached (crate grammar, AtRest); what has one has a
-- tree, or is reached. Where all have both, the totals, cut at 4,097, are above 4,096 exactly where row 7 speaks of the rule
-- (CappedTotals). Assumes nothing.
use Prim.Native.Nat.{ℕ, ◌+◌, ◌≤◌, ◌<◌}
use native.Mathlib.Omega.{arith}
use native.Mathlib.Decide.{dec_lt}
use mathlib.Core.Path.{◌≡◌, refl, sym, ap, ◌∙◌}
use mathlib.Core.List.{List}
use lib.ListN.{length}
use Rattle.grammar.specs.Words.{Grammar, RuleAt, R, InBounds}
use Rattle.grammar.specs.Terms.{measure, limit}
use Rattle.grammar.specs.Tree.{Tree}
use Rattle.grammar.specs.Least.{Least}
use Rattle.grammar.specs.Certificates.{word_size}
use Rattle.grammar.specs.Refusals.{Lowest, NoTree, AllTrees, Unreached, AllReached, Oversize, AllFit}
use Rattle.grammar.proofs.LayoutExact.{rule_at}
use Rattle.grammar.proofs.RuleNumbers.{rule_number}
use Rattle.grammar.proofs.Dead.{open_reached}
use Rattle.grammar.specs.Caps.{CappedFigures, stopped_total, ContextsAtRest, ceiling, measure_cap}
use Rattle.grammar.proofs.CappedLeasts.{certificate_trees, capped_certificate}
use Rattle.grammar.proofs.LeastsExist.{leasts_exist}
use Rattle.grammar.proofs.Unique.{least_unique}
use Rattle.grammar.proofs.CappedContexts.{certificate_reached}
use Rattle.grammar.proofs.CappedTotals.{oversize_exact, fits_exact}
use Rattle.grammar.proofs.AtRest.{rest_context_certificate, no_figure_unreached}
use Rattle.std.specs.Prelude.{Some, None}
use Rattle.figures.specs.Figures.{figure, Has, capped, FirstAbove, found_at, found_none}
use Rattle.tables.specs.ContextFigures.{LeastsDone, SizesOf, ContextsRest, ContextsDone, TotalsOf}
use Rattle.figures.proofs.FiguresFall.{figure_is}
use Rattle.leasts.specs.Promise.{LeastFigure, of_tree, no_tree, SizeFigure, of_trees, no_trees, FiguresOf}

-- the lowest with a property, where none below has it
lowest_where : {P : ℕ → Type 0} {a : ℕ} → P a → ((m : ℕ) → m < a → ¬ P m) → Lowest P a
lowest_where {P} {a} p none = record { such = p; lowest = λ m q. go m q (dec_lt m a) }
  where
    go : (m : ℕ) → P m → Dec (m < a) → a ≤ m
    go m q (yes l) = absurd (none m l q)
    go m q (no l) = omega arith

module _ (g : Grammar) where
  -- 5
  tree_below : {A x : ℕ} → LeastFigure g A x → x ≤ ceiling → Tree g A
  tree_below (of_tree least) l = least.tree
  tree_below (no_tree none) l = absurd (omega arith)

  no_tree_above : {A x : ℕ} → LeastFigure g A x → ceiling < x → ¬ Tree g A
  no_tree_above (of_tree least) l = absurd (omega arith)
  no_tree_above (no_tree none) l = none

  -- the figure is the cut of the least
  cut_of : {A x y : ℕ} → LeastFigure g A x → Least measure g A y → x ≡ capped y
  cut_of (of_tree least) other = ap capped (least_unique {c = measure} least other)
  cut_of (no_tree none) other = absurd (none other.tree)

  size_is : {vs w : List ℕ} {x : ℕ} → SizeFigure g vs w x → AllTrees g → x ≡ 1 + word_size measure g (figure vs) w
  size_is (of_trees t) all = refl
  size_is (no_trees none) all = absurd (none (λ B m l. all B l))

  module _ (vs sizes : List ℕ) (found : FiguresOf g vs sizes) where
    pub row_5_found : (a : ℕ) → FirstAbove vs g.N ceiling (Some a) → Lowest (NoTree g) a
    row_5_found a (found_at lt above before) =
        lowest_where
        (record { nonterminal = lt; none = no_tree_above (found.least a lt) above })
        (λ m l z. z.none (tree_below (found.least m (omega arith)) (before m l)))

    -- 5 is passed
    trees_found : FirstAbove vs g.N ceiling None → AllTrees g
    trees_found (found_none all) A lt = tree_below (found.least A lt) (all A lt)

    pub leasts-found : FirstAbove vs g.N ceiling None → LeastsDone g vs
    leasts-found search =
        let (x, leasts) = leasts_exist measure g (trees_found search) in
        record {
          certificate = (capped_certificate measure measure_cap g x leasts (figure vs)).1
              (λ A lt. cut_of (found.least A lt) (leasts A lt));
          all = λ A lt. low search A lt;
        }
      where
        low : FirstAbove vs g.N ceiling None → (A : ℕ) → A < g.N → Has vs A
        low (found_none all) A lt e = omega (arith, all A lt)

    pub sizes-found : FirstAbove vs g.N ceiling None → SizesOf g vs sizes
    sizes-found search k A w r = size_is (found.size k A w r) (trees_found search)

  module _ (vs : List ℕ) (done : LeastsDone g vs) where
    pub all_trees : AllTrees g
    all_trees = certificate_trees measure measure_cap g (figure vs) done.certificate

    -- 6
    module _ (us : List ℕ) where
      contexts_at_rest : ContextsRest g vs us → ContextsAtRest measure measure_cap g (figure vs) (figure us) (Has us)
      contexts_at_rest rest = record {
        start = λ e. omega (arith, rest.sound.start);
        at_start = rest.sound.start;
        figure = rest.sound.of_open;
        quiet = λ k B w i A r h p lt.
            let q = rest.quiet k (rule_number r) B w r h i A p lt in
            (λ e. omega arith, q);
      }

      pub row_6_found : ContextsRest g vs us → (a : ℕ) → FirstAbove us g.N ceiling (Some a) → Lowest (Unreached g) a
      row_6_found rest a (found_at lt above before) =
          let none : ¬ Has us a = λ h. let (t, e) = rest.sound.of_open a lt h in omega arith in
          lowest_where
          (no_figure_unreached measure measure_cap g (figure vs) (figure us) (Has us) all_trees (contexts_at_rest rest) a lt none)
          (λ m l z. let b = before m l in
          z.never (open_reached (rest.sound.of_open m (omega arith) (λ e. omega arith)).0))

      pub contexts_found : ContextsRest g vs us → FirstAbove us g.N ceiling None → ContextsDone g vs us
      contexts_found rest (found_none all) = record { rest = rest; all = λ A lt e. omega (arith, all A lt) }

      module _ (placed : ContextsDone g vs us) where
        pub figures : CappedFigures measure measure_cap g (figure vs) (figure us)
        figures = record {
          leasts = done.certificate;
          contexts = rest_context_certificate measure measure_cap g (figure vs) (figure us) (Has us)
              (contexts_at_rest placed.rest) placed.all;
        }

        -- 6 is passed
        pub all_reached : AllReached g
        all_reached = certificate_reached measure measure_cap g (figure vs) (figure us) figures.contexts

        -- 7
        module _ (sizes totals : List ℕ) (of-sizes : SizesOf g vs sizes) (of-totals : TotalsOf g us sizes totals)
            (long : R g ≤ length totals) (ok : InBounds g) where
          total_is : {k A : ℕ} {w : List ℕ} → RuleAt g k A w → figure totals k ≡ stopped_total g (figure vs) (figure us) A w
          total_is {k} {A} {w} r =
              let l = rule_number r in
              let e = of-totals k A w r in
              let s = of-sizes k A w r in
              sym (figure_is totals k 0 (omega arith)) ∙ e ∙ ap (λ (x : ℕ). capped (figure us A + x)) s

          pub row_7_found : (a : ℕ) → FirstAbove totals (R g) limit (Some a) → Lowest (Oversize limit g) a
          row_7_found a (found_at lt above before) = lowest_where over_it below_it
            where
              over_it : Oversize limit g a
              over_it =
                  let (A, w, r) = rule_at ok a lt in
                  let e = total_is r in
                  (oversize_exact limit (omega arith) g (figure vs) (figure us) figures r).0 (omega arith)

              below_it : (m : ℕ) → m < a → ¬ Oversize limit g m
              below_it m l z =
                  let (A, w, r) = rule_at ok m (omega arith) in
                  let e = total_is r in
                  let b = before m l in
                  let o = (oversize_exact limit (omega arith) g (figure vs) (figure us) figures r).1 z in
                  omega arith

          -- 7 is passed
          pub all_fit : FirstAbove totals (R g) limit None → AllFit limit g
          all_fit (found_none all) r l =
              let (A, w, rule) = rule_at ok r l in
              let e = total_is rule in
              let b = all r l in
              (fits_exact limit (omega arith) g (figure vs) (figure us) figures rule).0 (omega arith)
