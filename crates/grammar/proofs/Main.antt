-- The final statements of this crate, each by one citation. A reader who believes specs/ and reads this page is done.
-- Assumes nothing.
use Prim.Native.Nat.{ℕ, ◌+◌, ◌≤◌, ◌<◌}
use mathlib.Core.Path.{◌≡◌}
use mathlib.Core.Logic.{◌↔◌}
use mathlib.Core.List.{List, [], ◌∷◌}
use lib.ListN.{length}
use Rattle.grammar.specs.Words.{Grammar, R, RuleAt, layout, reads, faults, FaultAt, InBounds, words}
use Rattle.grammar.specs.Derivation.{Terminals, Steps, Start, Derives, StopsAt, L, Through, ProductionCoverage}
use Rattle.grammar.specs.Tree.{Tree, sentence, derivation, Uses, StandsIn, ◌∈◌}
use Rattle.grammar.specs.Measure.{Cost, tree_cost}
use Rattle.grammar.specs.Terms.{measure, limit}
use Rattle.grammar.specs.Least.{Least, Chosen, Context, ContextChoice, Total, TreeOf}
use Rattle.grammar.specs.Refusals.{AllTrees, AllReached, Reached, NoTree, Unreached, Oversize, AllFit}
use Rattle.grammar.proofs.LayoutExact as Words
use Rattle.grammar.proofs.FirstOffence as FirstOffence
use Rattle.grammar.proofs.WordsFew as WordsFew
use Rattle.grammar.proofs.Unique as Unique
use Rattle.grammar.proofs.SameListing as SameListing
use Rattle.grammar.proofs.Leftmosts as Leftmosts
use Rattle.grammar.proofs.Replay as Replay
use Rattle.grammar.specs.Replaying.{replay, derived, stopped}
use Rattle.grammar.proofs.Coverage as Coverage
use Rattle.grammar.specs.Derivation.{PrintedThrough}
use Rattle.grammar.proofs.AnyOrder as AnyOrder
use Rattle.grammar.proofs.SizeIsLength as Size
use Rattle.grammar.proofs.Totals as Totals
use Rattle.grammar.proofs.Dead as Dead
use Rattle.grammar.specs.Certificates.{Stuck, Closed, LeastCertificate, Leasts, ContextCertificate, Contexts}
use Rattle.grammar.proofs.Certificate as Certificate
use Rattle.grammar.proofs.ContextCertificate as ContextCertificate
use Rattle.grammar.proofs.TreeOfExists as Exists
use Rattle.grammar.specs.Caps.{Cap, Limit, measure_cap}
use Rattle.grammar.proofs.CappedLeasts as CappedLeasts
use Rattle.grammar.specs.Caps.{CappedCertificate, Caps}
use Rattle.grammar.proofs.CappedContexts as CappedContexts
use Rattle.grammar.specs.Caps.{CappedContextCertificate}
use Rattle.grammar.proofs.CappedTotals as CappedTotals
use Rattle.grammar.specs.Caps.{CappedFigures, capped_total, stopped_total}
use Rattle.grammar.proofs.AtRest as AtRest
use Rattle.grammar.specs.Caps.{LeastsAtRest, ContextsAtRest}

-- WORDS. Words are read as g exactly where they are g's words and g keeps the layout's bounds.
pub layout_exact : (ws : List ℕ) (g : Grammar) → (layout ws ≡ reads g) ↔ (InBounds g × (ws ≡ words g))
layout_exact = Words.layout_exact

-- They fault at p exactly where p is the first offending word, or the word count if they end early, said of grammars and their
-- words.
pub layout-faults : (ws : List ℕ) (p : ℕ) → (layout ws ≡ faults p) ↔ FaultAt ws p
layout-faults = FirstOffence.layout-faults_exact

-- Document 01's bound on their number needs no test of its own.
pub words_few : (ws : List ℕ) (g : Grammar) → layout ws ≡ reads g → length ws ≤ 8707
words_few = WordsFew.words_few

-- DERIVATIONS. The derivation of a tree of the start derives its sentence, and what derives is a tree's.
pub tree_derives : {g : Grammar} (t : Tree g g.start) → Derives g (derivation t) (sentence t)
tree_derives = Leftmosts.tree_derives

pub derives_tree : {g : Grammar} {ks t : List ℕ} → g.start < g.N → Derives g ks t →
    (u : Tree g g.start) × (derivation u ≡ ks) × (sentence u ≡ t)
derives_tree lt d = let p = Leftmosts.derives_tree lt d in (p.tree, p.lists, p.says)

-- L(G) is the sentences of the trees of the start.
pub language : {g : Grammar} → InBounds g → (t : List ℕ) → L g t ↔ ((u : Tree g g.start) × (sentence u ≡ t))
language = AnyOrder.language

-- A nonterminal has a complete tree exactly where it derives a string of terminals: Definition 2.2, item 2, of the thesis.
pub tree_yields : {g : Grammar} {A : ℕ} → A < g.N → Tree g A ↔ ((ω : List ℕ) × Terminals g ω × Steps g (A ∷ []) ω)
tree_yields = AnyOrder.tree_yields

-- Replay can be computed, exactly: the sentence where there is one, else the place.
pub replay_exact : (g : Grammar) (ks t : List ℕ) → (replay g ks ≡ derived t) ↔ Derives g ks t
replay_exact = Replay.replay_exact

pub replay_stops : (g : Grammar) (ks : List ℕ) (p : ℕ) → (replay g ks ≡ stopped p) ↔ StopsAt g ks p
replay_stops = Replay.replay_stops

-- COVERAGE. Sentences with their derivations, such that each rule stands in one of these, satisfy Definition 2.10.
pub coverage : {g : Grammar} → InBounds g → (T : List ℕ → Type 0) → ((t : List ℕ) → T t → (ks : List ℕ) × Derives g ks t) →
    ((k : ℕ) → k < R g → (t : List ℕ) × T t × (ks : List ℕ) × Derives g ks t × k ∈ ks) → ProductionCoverage g T
coverage = Coverage.coverage

-- A tree of the start that uses a rule witnesses the definition for it; and one step in the middle implies the form that the
-- thesis prints.
pub use_witnesses : {g : Grammar} {k : ℕ} (t : Tree g g.start) → Uses k t → Through g k (Start g) (sentence t)
use_witnesses = Coverage.use_witnesses

pub through_printed : {g : Grammar} {k : ℕ} {σ t : List ℕ} → Through g k σ t → PrintedThrough g k σ t
through_printed = Coverage.through_printed

-- THE MEASURE. A tree's size is the length of its sentence plus that of its derivation.
pub size_is_length : {g : Grammar} {A : ℕ} (t : Tree g A) → tree_cost measure t ≡ length (sentence t) + length (derivation t)
size_is_length = Size.size_is_length

-- Every figure and every choice is one.
pub least_unique : {c : Cost} {g : Grammar} {A : ℕ} {x y : c.C} → Least c g A x → Least c g A y → x ≡ y
least_unique = Unique.least_unique

pub context_unique : {c : Cost} {g : Grammar} {A : ℕ} {x y : c.C} → Context c g A x → Context c g A y → x ≡ y
context_unique = Unique.context_unique

pub chosen_unique : {c : Cost} {g : Grammar} {A k j : ℕ} → Chosen c g A k → Chosen c g A j → k ≡ j
chosen_unique = Unique.chosen_unique

pub choice_unique : {c : Cost} {g : Grammar} {A k i j h : ℕ} → ContextChoice c g A k i → ContextChoice c g A j h → (k ≡ j) × (i ≡ h)
choice_unique = Unique.choice_unique

pub total_unique : {c : Cost} {g : Grammar} {r : ℕ} {x y : c.C} → Total c g r x → Total c g r y → x ≡ y
total_unique = Unique.total_unique

-- A table of leasts, or of contexts, is its own certificate.
pub least_certificate : (c : Cost) (g : Grammar) (v : ℕ → c.C) → LeastCertificate c g v ↔ Leasts c g v
least_certificate = Certificate.least_certificate

pub context_certificate : (c : Cost) (g : Grammar) (v : ℕ → c.C) (leasts : Leasts c g v) (u : ℕ → c.C) → g.start < g.N →
    ContextCertificate c g v u ↔ Contexts c g v u
context_certificate = ContextCertificate.context_certificate

-- TOTAL(r) is the least cost of a complete tree of the start that uses r, and the tree of r uses it and costs that.
pub total_smallest : (c : Cost) {g : Grammar} {r : ℕ} {x : c.C} → Total c g r x → (t : Tree g g.start) → Uses r t →
    c.◌≼◌ x (tree_cost c t)
total_smallest = Totals.total_smallest

pub tree_of_total : (c : Cost) {g : Grammar} {r : ℕ} {t : Tree g g.start} → TreeOf c g r t → Total c g r (tree_cost c t)
tree_of_total = Totals.tree_of_total

pub tree_of_uses : (c : Cost) {g : Grammar} {r : ℕ} {t : Tree g g.start} → TreeOf c g r t → Uses r t
tree_of_uses = Totals.tree_of_uses

-- THE TREE OF r exists where all nonterminals have trees and are reached, and its sentence and derivation are one.
pub tree_of_exists : (c : Cost) (g : Grammar) → InBounds g → AllTrees g → AllReached g → (r : ℕ) → r < R g →
    (t : Tree g g.start) × TreeOf c g r t
tree_of_exists = Exists.tree_of_exists

pub tree_of_same : (c : Cost) {g : Grammar} {r : ℕ} {t t' : Tree g g.start} → TreeOf c g r t → TreeOf c g r t' →
    (sentence t ≡ sentence t') × (derivation t ≡ derivation t')
tree_of_same c x y = let same = SameListing.tree_of_same c x y in (same.sentences_same, same.derivations_same)

-- DEAD. No member of a stuck set has a tree; nothing outside a closed set is reached; and neither 5 nor 6 is met exactly where
-- every nonterminal stands in some complete tree of the start.
pub stuck_no_tree : (g : Grammar) (D : ℕ → Type 0) → Stuck g D → {A : ℕ} → D A → Tree g A → ⊥
stuck_no_tree = Dead.stuck_no_tree

pub closed_reached : (g : Grammar) (U : ℕ → Type 0) → Closed g U → {A : ℕ} → Reached g A → A < g.N → U A
closed_reached = Dead.closed_reached

pub dead : (g : Grammar) → (AllTrees g × AllReached g) ↔ ((A : ℕ) → A < g.N → (t : Tree g g.start) × StandsIn g A t)
dead = Dead.dead

-- CAPS, over any cost. Figures that saturate are the caps of the true ones exactly where they meet the capped certificates.
pub capped_certificate : (c : Cost) (κ : Cap c) (g : Grammar) (x : ℕ → c.C) → Leasts c g x → (v : ℕ → c.C) →
    CappedCertificate c κ g v ↔ Caps c κ g v x
capped_certificate = CappedLeasts.capped_certificate

pub capped_context_certificate : (c : Cost) (κ : Cap c) (g : Grammar) (v x : ℕ → c.C) → Caps c κ g v x → Leasts c g x →
    g.start < g.N → (y : ℕ → c.C) → Contexts c g x y → (u : ℕ → c.C) → CappedContextCertificate c κ g v u ↔ Caps c κ g u y
capped_context_certificate = CappedContexts.capped_context_certificate

-- A limit is decided by the capped total as by the true one; and where it is kept, the capped total is the true one.
pub over_exact : (c : Cost) (κ : Cap c) (g : Grammar) (v u : ℕ → c.C) → CappedFigures c κ g v u → (limit : Limit c κ) →
    {r A : ℕ} {w : List ℕ} → RuleAt g r A w →
    (limit.Over (capped_total c κ g v u A w)) ↔ ((x : c.C) × Total c g r x × limit.Over x)
over_exact = CappedTotals.over_exact

pub within_exact : (c : Cost) (κ : Cap c) (g : Grammar) (v u : ℕ → c.C) → CappedFigures c κ g v u → (limit : Limit c κ) →
    {r A : ℕ} {w : List ℕ} → RuleAt g r A w → ¬ limit.Over (capped_total c κ g v u A w) → Total c g r (capped_total c κ g v u A w)
within_exact = CappedTotals.within_exact

-- At document 01's measure, and any limit up to its own: sums that stop at the ceiling are above the limit exactly where refusal 7
-- speaks of the rule, and where it speaks of none every figure is exact.
pub oversize_exact : (l : ℕ) → l ≤ limit → (g : Grammar) (v u : ℕ → ℕ) → CappedFigures measure measure_cap g v u →
    {r A : ℕ} {w : List ℕ} → RuleAt g r A w → (l < stopped_total g v u A w) ↔ Oversize l g r
oversize_exact = CappedTotals.oversize_exact

pub all_fit_exact : (l : ℕ) → l ≤ limit → (g : Grammar) (v u : ℕ → ℕ) → CappedFigures measure measure_cap g v u → AllFit l g →
    Leasts measure g v × Contexts measure g v u
all_fit_exact = CappedTotals.all_fit_exact

-- AT REST. Where no rule improves a figure, what has none has no tree, or is not reached.
pub no_figure_no_tree : (c : Cost) (κ : Cap c) (g : Grammar) (v : ℕ → c.C) (Has : ℕ → Type 0) → ((A : ℕ) → Dec (Has A)) →
    LeastsAtRest c κ g v Has → (A : ℕ) → A < g.N → ¬ Has A → NoTree g A
no_figure_no_tree = AtRest.no_figure_no_tree

pub no_figure_unreached : (c : Cost) (κ : Cap c) (g : Grammar) (v u : ℕ → c.C) (Has : ℕ → Type 0) → AllTrees g →
    ContextsAtRest c κ g v u Has → (A : ℕ) → A < g.N → ¬ Has A → Unreached g A
no_figure_unreached = AtRest.no_figure_unreached
