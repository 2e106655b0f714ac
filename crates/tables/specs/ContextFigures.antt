-- For the private functions: what stands in their arrays while the table is worked out, the leasts and the sizes of the rules
-- first, then the contexts found so far and the totals. Nobody has to believe this file; the promises do not cite it. Assumes
-- nothing.
use Rattle.std.specs.Prelude.{ℕ, ◌+◌, ◌≤◌, ◌<◌, ◌≡◌, List, get_or}
use Rattle.grammar.specs.Words.{Grammar, RuleAt, R}
use Rattle.grammar.specs.Terms.{measure}
use Rattle.grammar.specs.Certificates.{word_size, Holds, others_size}
use Rattle.grammar.specs.Caps.{CappedCertificate, OfOpen, measure_cap}
use Rattle.layout.specs.Read.{ReadsAs}
use Rattle.figures.specs.Figures.{figure, Has, capped}
use Rattle.leasts.specs.declared.FoundLeasts.{FoundLeasts}

-- LEASTS: every nonterminal has one, and they are the cuts of the true ones
pub record LeastsDone (g : Grammar) (vs : List ℕ) : Type 0 where
  pub certificate : CappedCertificate measure measure_cap g (figure vs)
  pub all : (A : ℕ) → A < g.N → Has vs A

-- the sizes of the rules by the leasts vs
abbrev pub SizesOf : Grammar → List ℕ → List ℕ → Type 0
SizesOf g vs sizes = (k A : ℕ) (w : List ℕ) → RuleAt g k A w → get_or sizes k 0 ≡ 1 + word_size measure g (figure vs) w

-- 5 is passed: in the grammar that was read every nonterminal has a least, and the rules have their sizes by them
pub record Grown (found : FoundLeasts) : Type 0 where
  pub grammar : Grammar
  pub view : ReadsAs found.reading grammar
  pub first : found.reading.start ≡ grammar.start
  pub leasts : LeastsDone grammar found.leasts
  pub sizes_are : SizesOf grammar found.leasts found.sizes

-- CONTEXTS, over leasts vs: the start's is 0, and each figure is the cut of what some open tree costs
pub record ContextsSound (g : Grammar) (us : List ℕ) : Type 0 where
  pub start : figure us g.start ≡ 0
  pub of_open : (A : ℕ) → A < g.N → Has us A → OfOpen measure measure_cap g A (figure us A)

-- a rule of a nonterminal that has a figure does not lower the figure of what it holds at any place
abbrev pub ContextQuiet : Grammar → List ℕ → List ℕ → ℕ → Type 0
ContextQuiet g vs us k =
    (B : ℕ) (w : List ℕ) → RuleAt g k B w → Has us B → (i A : ℕ) → Holds w i A → A < g.N →
    figure us A ≤ capped (figure us B + (1 + others_size measure g (figure vs) w i))

pub record ContextsRest (g : Grammar) (vs us : List ℕ) : Type 0 where
  pub sound : ContextsSound g us
  pub quiet : (k : ℕ) → k < R g → ContextQuiet g vs us k

-- they are at rest, and 6 is passed: no nonterminal is without
pub record ContextsDone (g : Grammar) (vs us : List ℕ) : Type 0 where
  pub rest : ContextsRest g vs us
  pub all : (A : ℕ) → A < g.N → Has us A

-- the totals of the rules by the contexts us and the sizes, cut at 4,097
abbrev pub TotalsOf : Grammar → List ℕ → List ℕ → List ℕ → Type 0
TotalsOf g us sizes totals = (k A : ℕ) (w : List ℕ) → RuleAt g k A w → get_or totals k 0 ≡ capped (figure us A + get_or sizes k 0)
