-- What `leasts` and `FoundLeasts::of` promise, for any words. Document 01: "Least(A) is the smallest size of a complete tree rooted
-- at A. A rule's size is 1 plus the sizes of its symbols, terminals counting 1 and nonterminals their least." The leasts are cut at
-- document 01's limit and one more, and a nonterminal without a complete tree has `no_figure`; the sizes are the sums by these
-- leasts, uncut, and a rule that names a nonterminal without a tree has 0. Of words that are no grammar there is the fault. Assumes
-- nothing.
use Rattle.std.specs.Prelude.{ℕ, ◌+◌, ◌≤◌, ◌<◌, ◌≡◌, List, length, get_or, Result, Ok, Err}
use Rattle.std.specs.Borrow.{Bor}
use Rattle.grammar.specs.Words.{Grammar, RuleAt, R, Are, layout, faults}
use Rattle.grammar.specs.Tree.{Tree, ◌∈◌}
use Rattle.grammar.specs.Terms.{measure}
use Rattle.grammar.specs.Least.{Least}
use Rattle.grammar.specs.Certificates.{word_size}
use Rattle.layout.specs.Judge.{placed}
use Rattle.layout.specs.Read.{placed_in}
use Rattle.layout.specs.declared.judge.Fault.{Fault}
use Rattle.figures.specs.Figures.{no_figure, figure, capped}
use Rattle.leasts.specs.declared.FoundLeasts.{FoundLeasts}
use Rattle.leasts.specs.declared.PlacedLeasts.{PlacedLeasts}

-- the figure of a nonterminal
pub data LeastFigure (g : Grammar) (A : ℕ) : ℕ → Type 0 where
  of_tree : {x : ℕ} → Least measure g A x → LeastFigure g A (capped x)
  no_tree : ¬ Tree g A → LeastFigure g A no_figure

-- every nonterminal among some symbols has a complete tree
abbrev pub HaveTrees : Grammar → List ℕ → Type 0
HaveTrees g w = (B : ℕ) → B ∈ w → B < g.N → Tree g B

-- the size of a rule with the symbols w
pub data SizeFigure (g : Grammar) (leasts w : List ℕ) : ℕ → Type 0 where
  of_trees : HaveTrees g w → SizeFigure g leasts w (1 + word_size measure g (figure leasts) w)
  no_trees : ¬ HaveTrees g w → SizeFigure g leasts w 0

-- for each of 128 nonterminals and 256 rules; there is nothing past those that the grammar has
pub record FiguresOf (g : Grammar) (leasts sizes : List ℕ) : Type 0 where
  pub long : length leasts ≡ 128
  pub least : (A : ℕ) → A < g.N → LeastFigure g A (figure leasts A)
  pub no_least : (A : ℕ) → g.N ≤ A → figure leasts A ≡ no_figure
  pub sizes_long : length sizes ≡ 256
  pub size : (k A : ℕ) (w : List ℕ) → RuleAt g k A w → SizeFigure g leasts w (get_or sizes k 0)
  pub no_size : (k : ℕ) → R g ≤ k → get_or sizes k 0 ≡ 0

-- THE PROMISE of `leasts`: of a grammar's words its numbers, where its rules stand, and the figures; of other words where they break
abbrev pub LeastsOf : List ℕ → Result PlacedLeasts Fault → Type 0
LeastsOf words (Ok r) = Are words (λ g. (r.placed ≡ placed g) × FiguresOf g r.leasts r.sizes)
LeastsOf words (Err e) = layout words ≡ faults e.place

-- THE PROMISE of `FoundLeasts::of`: of a grammar's words a reading of them, and the figures; of other words where they break
pub record FiguresFound (words : Bor (List ℕ)) (r : FoundLeasts) : Type 0 where
  pub same : r.reading.words ≡ words
  pub figures : Are words.now (λ g. FiguresOf g r.leasts r.sizes)

abbrev pub FoundOf : Bor (List ℕ) → Result FoundLeasts Fault → Type 0
FoundOf words (Ok r) = FiguresFound words r
FoundOf words (Err e) = layout words.now ≡ faults e.place

-- what was found with a reading, without its words
abbrev pub placed_leasts : FoundLeasts → PlacedLeasts
placed_leasts found = record { placed = placed_in found.reading; leasts = found.leasts; sizes = found.sizes }
