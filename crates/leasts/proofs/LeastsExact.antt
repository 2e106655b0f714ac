-- What the promises say of a nonterminal, exactly: it has no figure exactly where it has no tree, and a figure up to the limit
-- exactly where that is its least. Assumes nothing.
use Prim.Native.Nat.{ℕ, ◌≤◌, ◌<◌}
use native.Mathlib.Omega.{arith}
use mathlib.Core.Path.{◌≡◌, refl, sym, subst, ◌∙◌}
use mathlib.Core.Logic.{◌↔◌}
use mathlib.Core.List.{List}
use denote.Ref.{Bor}
use Rattle.std.specs.Prelude.{Result, Ok, Err, IsOkAnd}
use Rattle.layout.specs.declared.judge.Fault.{Fault}
use Rattle.layout.proofs.ReadingsSame.{reading_of_grammar}
use Rattle.grammar.specs.Words.{Grammar, layout, reads}
use Rattle.grammar.specs.Tree.{Tree}
use Rattle.grammar.specs.Terms.{measure, limit}
use Rattle.grammar.specs.Least.{Least}
use Rattle.grammar.proofs.Unique.{least_unique}
use Rattle.grammar.proofs.ConstructorsDiffer.{reads_not_faults}
use Rattle.figures.specs.Figures.{no_figure, figure, capped}
use Rattle.leasts.specs.Promise.{LeastFigure, of_tree, no_tree, FiguresOf, LeastsOf, FiguresFound, FoundOf, placed_leasts}
use Rattle.leasts.specs.declared.FoundLeasts.{FoundLeasts}
use Rattle.leasts.specs.declared.PlacedLeasts.{PlacedLeasts}

module _ {g : Grammar} {A : ℕ} where
  none_no_tree : {x : ℕ} → LeastFigure g A x → x ≡ no_figure → ¬ Tree g A
  none_no_tree (of_tree least) e t = omega arith
  none_no_tree (no_tree none) e t = none t

  no_tree_none : {x : ℕ} → LeastFigure g A x → ¬ Tree g A → x ≡ no_figure
  no_tree_none (of_tree least) none = absurd (none least.tree)
  no_tree_none (no_tree none) z = refl

  low_least : {x : ℕ} → LeastFigure g A x → x ≤ limit → Least measure g A x
  low_least (of_tree {x} least) l = let e : x ≡ capped x = omega arith in subst (Least measure g A) e least
  low_least (no_tree none) l = absurd (omega arith)

  least_low : {x y : ℕ} → LeastFigure g A x → Least measure g A y → y ≤ limit → x ≡ y
  least_low (of_tree {x} least) z l = let e = least_unique {c = measure} least z in omega arith
  least_low (no_tree none) z l = absurd (none z.tree)

module _ (ws : List ℕ) {g : Grammar} (e : layout ws ≡ reads g) where
  -- the words are no other grammar
  pub figures_of_lem : {found : PlacedLeasts} → LeastsOf ws (Ok found) → FiguresOf g found.leasts found.sizes
  figures_of_lem (h, is, (at, figures)) = let same : h ≡ g = cc in rw same at figures

  pub no_figure_exactly : (r : Result PlacedLeasts Fault) → LeastsOf ws r →
      IsOkAnd r (λ found. (A : ℕ) → A < g.N → (figure found.leasts A ≡ no_figure) ↔ ¬ Tree g A)
  no_figure_exactly (Ok found) p = λ A lt.
      let least = (figures_of_lem p).least A lt in
      (none_no_tree least, no_tree_none least)
  no_figure_exactly (Err f) p = reads_not_faults (sym e ∙ p)

  pub least_exactly : (r : Result PlacedLeasts Fault) → LeastsOf ws r →
      IsOkAnd r (λ found. (A : ℕ) → A < g.N → (x : ℕ) → x ≤ limit → (figure found.leasts A ≡ x) ↔ Least measure g A x)
  least_exactly (Ok found) p = λ A lt x l.
      let least = (figures_of_lem p).least A lt in (
        λ same. let low : figure found.leasts A ≤ limit = omega arith in rw same at (low_least least low),
        λ other. least_low least other l,
      )
  least_exactly (Err f) p = reads_not_faults (sym e ∙ p)

-- what is found with a reading is, without the words, what `leasts` answers of them
pub found_placed : (words : Bor (List ℕ)) (found : FoundLeasts) → FiguresFound words found → LeastsOf words.now (Ok (placed_leasts found))
found_placed words found p =
    let (g, is, figures) = p.figures in
    (g, is, (reading_of_grammar words found.reading p.same is, figures))

module _ (words : Bor (List ℕ)) {g : Grammar} (e : layout words.now ≡ reads g) where
  pub found_no_figure_exactly : (r : Result FoundLeasts Fault) → FoundOf words r →
      IsOkAnd r (λ found. (A : ℕ) → A < g.N → (figure found.leasts A ≡ no_figure) ↔ ¬ Tree g A)
  found_no_figure_exactly (Ok found) p = no_figure_exactly words.now e (Ok (placed_leasts found)) (found_placed words found p)
  found_no_figure_exactly (Err f) p = no_figure_exactly words.now e (Err f) p

  pub found_least_exactly : (r : Result FoundLeasts Fault) → FoundOf words r →
      IsOkAnd r (λ found. (A : ℕ) → A < g.N → (x : ℕ) → x ≤ limit → (figure found.leasts A ≡ x) ↔ Least measure g A x)
  found_least_exactly (Ok found) p = least_exactly words.now e (Ok (placed_leasts found)) (found_placed words found p)
  found_least_exactly (Err f) p = least_exactly words.now e (Err f) p
