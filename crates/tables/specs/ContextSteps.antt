-- For the private functions: what a rule does to the contexts. Nobody has to believe this file; the promises do not cite it.
-- Assumes nothing.
use Rattle.std.specs.Prelude.{ℕ, ◌+◌, ◌-◌, ◌≤◌, ◌<◌, ◌≡◌, ◌⊎◌, Bool, false, List, [], ◌∷◌, length, get_or, set}
use Rattle.std.specs.Int.{from_bool}
use Rattle.grammar.specs.Words.{Grammar, RuleAt}
use Rattle.grammar.specs.Terms.{measure}
use Rattle.grammar.specs.Certificates.{Holds, others_size}
pub use Rattle.layout.specs.Sides.{left_of, right_of}
use Rattle.figures.specs.Figures.{no_figure, figure, Has, capped, Lowered}
use Rattle.figures.specs.Weights.{Fallen}
use Rattle.leasts.specs.declared.FoundLeasts.{FoundLeasts}
use Rattle.tables.specs.ContextFigures.{Grown, ContextsSound, ContextQuiet}
use Rattle.tables.specs.declared.contexts.Contexts.{Contexts}

-- Over leasts vs, where the symbols below n are nonterminals and whole is the size of a rule and the context of its left side: a
-- nonterminal s of the rule lowers its own context to what is left of whole without its least.
pub data PlaceStep (n whole : ℕ) (vs : List ℕ) (s : ℕ) (us : List ℕ) : List ℕ → ℕ → Type 0 where
  skipped : (n ≤ s) ⊎ (whole < figure vs s) → PlaceStep n whole vs s us us 0
  tried : {us' : List ℕ} {f : ℕ} → s < n → figure vs s ≤ whole → Lowered us s (capped (whole - figure vs s)) us' f →
      PlaceStep n whole vs s us us' f

-- the symbols w one after the other
pub data PlacesStep (n whole : ℕ) (vs : List ℕ) : List ℕ → List ℕ → List ℕ → ℕ → Type 0 where
  no_symbol : {us : List ℕ} → PlacesStep n whole vs [] us us 0
  symbol : {s f k : ℕ} {w us us' us'' : List ℕ} → PlaceStep n whole vs s us us' f → PlacesStep n whole vs w us' us'' k →
      PlacesStep n whole vs (s ∷ w) us us'' (f + k)

-- Rule k with the left side B and the symbols w. What is seen of a rule is the context that its left side had when it was last
-- tried, and noFigure where it never was: where that is the context that B has, the rule is passed over.
pub data ContextStep (n size : ℕ) (vs : List ℕ) (k B : ℕ) (w us seen : List ℕ) : List ℕ → List ℕ → ℕ → Type 0 where
  as_seen : figure us B ≡ figure seen k → ContextStep n size vs k B w us seen us seen 0
  unseen : {us' : List ℕ} {f : ℕ} → k < length seen → figure us B ≤ 65535 → ¬ (figure us B ≡ figure seen k) →
      PlacesStep n (figure us B + size) vs w us us' f → ContextStep n size vs k B w us seen us' (set seen k (figure us B)) f

abbrev pub RuleStep : FoundLeasts → ℕ → Contexts → Contexts → ℕ → Type 0
RuleStep found k before after n =
    ContextStep found.reading.nonterminals (get_or found.sizes k 0) found.leasts k (left_of found.reading k)
    (right_of found.reading k)
    before.figures before.seen after.figures after.seen n

-- A rule B ⟶ w that was tried with this context of B lowers no context until that of B falls; and B has one.
pub record Tried (g : Grammar) (vs us : List ℕ) (B : ℕ) (w : List ℕ) (context : ℕ) : Type 0 where
  pub has : figure us B < no_figure
  pub low : (i A : ℕ) → Holds w i A → A < g.N → figure us A ≤ capped (context + (1 + others_size measure g (figure vs) w i))

-- what is known of the contexts, and of what is seen
pub record Stands (g : Grammar) (vs us seen : List ℕ) : Type 0 where
  pub sound : ContextsSound g us
  pub of_seen : (k B : ℕ) (w : List ℕ) → RuleAt g k B w → Has seen k → Tried g vs us B w (figure seen k)

abbrev pub KnownOf : {found : FoundLeasts} → Grown found → Contexts → Type 0
KnownOf {found} grown contexts = Stands grown.grammar found.leasts contexts.figures contexts.seen

-- The turn of rule k, whether a context fell, and a round over the rules, in which so many contexts fell, at least: they keep what
-- is known, and where nothing fell no context changed, and the rule is quiet, or every rule.
pub record SeenTurn (found : FoundLeasts) (k : ℕ) (before after : Contexts) (fell : Bool) : Type 0 where
  pub fallen : Fallen before.figures after.figures (from_bool fell)
  pub keeps : (grown : Grown found) → KnownOf grown before → KnownOf grown after
  pub still : (grown : Grown found) → fell ≡ false → KnownOf grown before →
      (after.figures ≡ before.figures) × ContextQuiet grown.grammar found.leasts before.figures k

pub record SeenRound (found : FoundLeasts) (before after : Contexts) (n : ℕ) : Type 0 where
  pub fallen : Fallen before.figures after.figures n
  pub keeps : (grown : Grown found) → KnownOf grown before → KnownOf grown after
  pub still : (grown : Grown found) → n ≡ 0 → KnownOf grown before →
      (after.figures ≡ before.figures) ×
      ((k : ℕ) → k < found.reading.rules → ContextQuiet grown.grammar found.leasts before.figures k)
