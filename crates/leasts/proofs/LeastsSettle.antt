-- Any two outcomes that the promise of `leasts`, or that of `FoundLeasts::of`, allows for the same words coincide: there is one reading
-- or one fault, a nonterminal has one least or no tree, and by the leasts a rule has one size. Assumes nothing.
use Prim.Native.Nat.{ℕ, ◌<◌}
use native.Mathlib.Omega.{arith}
use native.Mathlib.Decide.{dec_lt}
use mathlib.Core.Path.{◌≡◌, refl, sym, ap, ◌∙◌}
use mathlib.Core.List.{List}
use lib.ListN.{get_or}
use lib.Seq.{ext_get_or}
use denote.Ref.{Bor}
use Rattle.std.specs.Prelude.{Result, Ok, Err}
use Rattle.grammar.specs.Words.{Grammar, R, InBounds, Are}
use Rattle.grammar.specs.Terms.{measure}
use Rattle.grammar.proofs.LayoutExact.{in_bounds, rule_at, reads_unique}
use Rattle.grammar.proofs.Unique.{least_unique}
use Rattle.grammar.proofs.ConstructorsDiffer.{reads_not_faults}
use Rattle.layout.specs.Judge.{placed}
use Rattle.layout.specs.declared.judge.Fault.{Fault}
use Rattle.layout.proofs.ReadingsSame.{same_reading, same_fault}
use Rattle.figures.specs.Figures.{no_figure, figure, capped}
use Rattle.leasts.specs.Promise.{LeastFigure, of_tree, no_tree, SizeFigure, of_trees, no_trees, FiguresOf, LeastsOf, FoundOf}
use Rattle.leasts.specs.declared.FoundLeasts.{FoundLeasts}
use Rattle.leasts.specs.declared.PlacedLeasts.{PlacedLeasts}

figure_settles : {g : Grammar} {A x y : ℕ} → LeastFigure g A x → LeastFigure g A y → x ≡ y
figure_settles (of_tree least) (of_tree other) = ap capped (least_unique {c = measure} least other)
figure_settles (of_tree least) (no_tree none) = absurd (none least.tree)
figure_settles (no_tree none) (of_tree least) = absurd (none least.tree)
figure_settles (no_tree none) (no_tree other) = refl

size_settles : {g : Grammar} {leasts w : List ℕ} {x y : ℕ} → SizeFigure g leasts w x → SizeFigure g leasts w y → x ≡ y
size_settles (of_trees t) (of_trees u) = refl
size_settles (of_trees t) (no_trees n) = absurd (n t)
size_settles (no_trees n) (of_trees t) = absurd (n t)
size_settles (no_trees n) (no_trees m) = refl

module _ {g : Grammar} (ok : InBounds g) {leasts sizes : List ℕ} (p : FiguresOf g leasts sizes) where
  leasts_same : {leasts' sizes' : List ℕ} → FiguresOf g leasts' sizes' → leasts ≡ leasts'
  leasts_same {leasts'} q = ext_get_or no_figure leasts leasts' (p.long ∙ sym q.long) (λ A h. go A (dec_lt A g.N))
    where
      go : (A : ℕ) → Dec (A < g.N) → figure leasts A ≡ figure leasts' A
      go A (yes lt) = figure_settles (p.least A lt) (q.least A lt)
      go A (no ge) = p.no_least A (omega arith) ∙ sym (q.no_least A (omega arith))

  sizes_same : {sizes' : List ℕ} → FiguresOf g leasts sizes' → sizes ≡ sizes'
  sizes_same {sizes'} q = ext_get_or 0 sizes sizes' (p.sizes_long ∙ sym q.sizes_long) (λ k h. go k (dec_lt k (R g)))
    where
      go : (k : ℕ) → Dec (k < R g) → get_or sizes k 0 ≡ get_or sizes' k 0
      go k (yes lt) = let (A, w, r) = rule_at ok k lt in size_settles (p.size k A w r) (q.size k A w r)
      go k (no ge) = p.no_size k (omega arith) ∙ sym (q.no_size k (omega arith))

  figures_settle : {leasts' sizes' : List ℕ} → FiguresOf g leasts' sizes' → (leasts ≡ leasts') × (sizes ≡ sizes')
  figures_settle {leasts'} {sizes'} q =
      let e = leasts_same q in
      let q' : FiguresOf g leasts sizes' = rw e q in
      (e, sizes_same q')

-- of the same words, whichever grammar's they are
figures_same : (ws : List ℕ) {leasts sizes leasts' sizes' : List ℕ} → Are ws (λ g. FiguresOf g leasts sizes) →
    Are ws (λ g. FiguresOf g leasts' sizes') → (leasts ≡ leasts') × (sizes ≡ sizes')
figures_same ws (g, is, figures) (h, is', others) =
    let same : h ≡ g = cc in
    figures_settle (in_bounds ws is) figures (rw same at others)

-- SETTLED
pub leasts_settles : (ws : List ℕ) {r s : Result PlacedLeasts Fault} → LeastsOf ws r → LeastsOf ws s → r ≡ s
leasts_settles ws {r = Ok r} {s = Ok s} (g, is, (at, figures)) (h, is', (at', others)) =
    let (leasts, sizes) = figures_same ws (g, is, figures) (h, is', others) in
    let places = at ∙ ap placed (reads_unique ws is is') ∙ sym at' in
    ap Ok (λ i. record { placed = places i; leasts = leasts i; sizes = sizes i })
leasts_settles ws {r = Ok r} {s = Err f} (g, is, figures) q = absurd (reads_not_faults (sym is ∙ q))
leasts_settles ws {r = Err e} {s = Ok s} p (g, is, figures) = absurd (reads_not_faults (sym is ∙ p))
leasts_settles ws {r = Err e} {s = Err f} p q = ap Err (same_fault ws p q)

pub found_settles : (words : Bor (List ℕ)) {r s : Result FoundLeasts Fault} → FoundOf words r → FoundOf words s → r ≡ s
found_settles words {r = Ok r} {s = Ok s} p q =
    let (leasts, sizes) = figures_same words.now p.figures q.figures in
    let reading = same_reading r.reading s.reading (p.same ∙ sym q.same) in
    ap Ok (λ i. record { reading = reading i; leasts = leasts i; sizes = sizes i })
found_settles words {r = Ok r} {s = Err f} p q = absurd (let (g, is, figures) = p.figures in reads_not_faults (sym is ∙ q))
found_settles words {r = Err e} {s = Ok s} p q = absurd (let (g, is, figures) = q.figures in reads_not_faults (sym is ∙ p))
found_settles words {r = Err e} {s = Err f} p q = ap Err (same_fault words.now p q)
