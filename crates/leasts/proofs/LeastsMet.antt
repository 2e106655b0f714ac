-- The promises of `leasts` and of `FoundLeasts::of` can be met for any words: of each nonterminal it is decided whether it has a
-- tree, and then it has a least. Assumes nothing.
use Prim.Native.Nat.{ℕ, ◌+◌, ◌≤◌, ◌<◌}
use native.Mathlib.Omega.{arith}
use native.Mathlib.Decide.{dec_lt}
use mathlib.Core.Path.{◌≡◌, refl, sym, ◌∙◌}
use mathlib.Core.Logic.{◌⊎◌, inl, inr}
use mathlib.Core.List.{List}
use lib.ListN.{length, get_or, get_or-eq_default}
use denote.Ref.{Bor}
use Rattle.std.specs.Prelude.{Result, Ok, Err}
use Rattle.answers.specs.Lists.{tabulate}
use Rattle.answers.proofs.Tabulate.{length-tabulate, get_d_tabulate}
use Rattle.grammar.specs.Words.{Grammar, RuleAt, R, InBounds, Judged, layout, reads, faults}
use Rattle.grammar.specs.Tree.{Tree, ◌∈◌}
use Rattle.grammar.specs.Terms.{measure}
use Rattle.grammar.specs.Least.{Least}
use Rattle.grammar.specs.Certificates.{word_size}
use Rattle.grammar.proofs.LayoutExact.{in_bounds, rule_at}
use Rattle.grammar.proofs.LeastsExist.{least?, tree?}
use Rattle.grammar.proofs.RuleNumbers.{rule_right, rule_number}
use Rattle.grammar.proofs.Search.{member?, some_below}
use Rattle.layout.specs.Judge.{fault, placed}
use Rattle.layout.specs.Read.{ReadOf}
use Rattle.layout.specs.declared.judge.Fault.{Fault}
use Rattle.layout.specs.declared.reading.Reading.{Reading}
use Rattle.layout.proofs.WordsRead.{begun_of}
use Rattle.figures.specs.Figures.{no_figure, figure, capped}
use Rattle.figures.proofs.FiguresFall.{figure_is}
use Rattle.leasts.specs.Promise.{LeastFigure, of_tree, no_tree, HaveTrees, SizeFigure, of_trees, no_trees}
use Rattle.leasts.specs.Promise.{FiguresOf, LeastsOf, FoundOf}
use Rattle.leasts.specs.declared.FoundLeasts.{FoundLeasts}
use Rattle.leasts.specs.declared.PlacedLeasts.{PlacedLeasts}
use Rattle.layout.proofs.ReadingMade.{reading_met}

-- words by their places
at_place : (f : ℕ → ℕ) (n i d : ℕ) → i < n → get_or (tabulate f n) i d ≡ f i
at_place f n i d h = get_d_same (tabulate f n) i (omega (arith, length-tabulate f n)) ∙ get_d_tabulate f n i h
  where
    get_d_same : (xs : List ℕ) (i : ℕ) → i < length xs → get_or xs i d ≡ get_or xs i 0
    get_d_same xs i l = figure_is xs i d l ∙ sym (figure_is xs i 0 l)

past_end : (f : ℕ → ℕ) (n i d : ℕ) → n ≤ i → get_or (tabulate f n) i d ≡ d
past_end f n i d h = get_or-eq_default (tabulate f n) d {n = i} (omega (arith, length-tabulate f n))

module _ (g : Grammar) (ok : InBounds g) where
  -- THE LEASTS
  abbrev LeastAt : ℕ → Type 0
  LeastAt A = (x : ℕ) × (A < g.N → LeastFigure g A x) × (g.N ≤ A → x ≡ no_figure)

  least_at : (A : ℕ) → LeastAt A
  least_at A = go (dec_lt A g.N)
    where
      of : A < g.N → ((x : ℕ) × Least measure g A x) ⊎ ¬ Tree g A → LeastAt A
      of lt (inl (x, least)) = (capped x, λ l. of_tree least, λ past. absurd (omega arith))
      of lt (inr none) = (no_figure, λ l. no_tree none, λ past. refl)

      go : Dec (A < g.N) → LeastAt A
      go (yes lt) = of lt (least? measure g A lt)
      go (no ge) = (no_figure, λ lt. absurd (ge lt), λ past. refl)

  abbrev leasts : List ℕ
  leasts = tabulate (λ A. (least_at A).0) 128

  -- THE SIZES
  have_trees? : (w : List ℕ) → Dec (HaveTrees g w)
  have_trees? w = go (some_below (λ B. (B < g.N) × (B ∈ w × ¬ Tree g B)) (λ B. lacks? B (dec_lt B g.N) (member? B w)) g.N)
    where
      lacking? : (B : ℕ) → B < g.N → B ∈ w → Tree g B ⊎ ¬ Tree g B → Dec ((B < g.N) × (B ∈ w × ¬ Tree g B))
      lacking? B lt m (inl t) = no (λ z. z.1.1 t)
      lacking? B lt m (inr n) = yes (lt, (m, n))

      lacks? : (B : ℕ) → Dec (B < g.N) → Dec (B ∈ w) → Dec ((B < g.N) × (B ∈ w × ¬ Tree g B))
      lacks? B (yes lt) (yes m) = lacking? B lt m (tree? measure g B lt)
      lacks? B (yes lt) (no n) = no (λ z. n z.1.0)
      lacks? B (no n) d = no (λ z. n z.0)

      has : (B : ℕ) → B < g.N → ¬ ¬ Tree g B → Tree g B ⊎ ¬ Tree g B → Tree g B
      has B lt nn (inl t) = t
      has B lt nn (inr n) = absurd (nn n)

      go : Dec ((B : ℕ) × (B < g.N) × ((B < g.N) × (B ∈ w × ¬ Tree g B))) → Dec (HaveTrees g w)
      go (yes (B, lt, (l, (m, n)))) = no (λ trees. n (trees B m lt))
      go (no none) = yes (λ B m lt. has B lt (λ n. none (B, lt, (lt, (m, n)))) (tree? measure g B lt))

  abbrev SizeAt : ℕ → Type 0
  SizeAt k = (x : ℕ) × ((A : ℕ) (w : List ℕ) → RuleAt g k A w → SizeFigure g leasts w x) × (R g ≤ k → x ≡ 0)

  size_at : (k : ℕ) → SizeAt k
  size_at k = go (dec_lt k (R g))
    where
      of : (A : ℕ) (w : List ℕ) → RuleAt g k A w → k < R g → Dec (HaveTrees g w) → SizeAt k
      of A w r lt (yes trees) = (
        1 + word_size measure g (figure leasts) w,
        λ B u q. rw (rule_right refl q r) (of_trees trees),
        λ past. absurd (omega arith),
      )
      of A w r lt (no lacks) = (0, λ B u q. no_trees (rw (rule_right refl q r) lacks), λ past. refl)

      go : Dec (k < R g) → SizeAt k
      go (yes lt) = let (A, w, r) = rule_at ok k lt in of A w r lt (have_trees? w)
      go (no ge) = (0, λ A w r. absurd (ge (rule_number r)), λ past. refl)

  abbrev sizes : List ℕ
  sizes = tabulate (λ k. (size_at k).0) 256

  figures_met : FiguresOf g leasts sizes
  figures_met = record {
    long = length-tabulate (λ A. (least_at A).0) 128;
    least = λ A lt. rw (at_place (λ A. (least_at A).0) 128 A no_figure (omega (arith, ok.nonterminals))) ((least_at A).1 lt);
    no_least = λ A past. no_least A past (dec_lt A 128);
    sizes_long = length-tabulate (λ k. (size_at k).0) 256;
    size = λ k A w r.
        let l = rule_number r in
        rw (at_place (λ k. (size_at k).0) 256 k 0 (omega (arith, ok.at_most_256))) ((size_at k).1 A w r);
    no_size = λ k past. no_size k past (dec_lt k 256);
  }
    where
      no_least : (A : ℕ) → g.N ≤ A → Dec (A < 128) → figure leasts A ≡ no_figure
      no_least A past (yes l) = at_place (λ A. (least_at A).0) 128 A no_figure l ∙ (least_at A).2 past
      no_least A past (no l) = past_end (λ A. (least_at A).0) 128 A no_figure (omega arith)

      no_size : (k : ℕ) → R g ≤ k → Dec (k < 256) → get_or sizes k 0 ≡ 0
      no_size k past (yes l) = at_place (λ k. (size_at k).0) 256 k 0 l ∙ (size_at k).2 past
      no_size k past (no l) = past_end (λ k. (size_at k).0) 256 k 0 (omega arith)

-- MET
pub leasts_met : (ws : List ℕ) → (r : Result PlacedLeasts Fault) × LeastsOf ws r
leasts_met ws = go (layout ws) refl
  where
    go : (j : Judged Grammar) → layout ws ≡ j → (r : Result PlacedLeasts Fault) × LeastsOf ws r
    go (reads g) is =
        let ok = in_bounds ws is in
        let found : PlacedLeasts = record { placed = placed g; leasts = leasts g ok; sizes = sizes g ok } in
        (Ok found, (g, is, (refl, figures_met g ok)))
    go (faults p) is = (Err (fault p), is)

pub found_met : (words : Bor (List ℕ)) → (r : Result FoundLeasts Fault) × FoundOf words r
found_met words = go (reading_met words)
  where
    go : (r : Result Reading Fault) × ReadOf words r → (r : Result FoundLeasts Fault) × FoundOf words r
    go (Ok v, same) =
        let b = begun_of v in
        let g = b.grammar in
        let ok = in_bounds v.words.now b.view.is in
        let found : FoundLeasts = record { reading = v; leasts = leasts g ok; sizes = sizes g ok } in
        (Ok found, record { same = same; figures = rw (← same) (g, b.view.is, figures_met g ok) })
    go (Err e, broken) = (Err e, broken)
