-- Figures that saturate. A cap is a monotone map of costs through which sums may pass at any step: what is summed of capped parts
-- and capped again is the cap of the sum. A limit is a property of costs that the cap decides, and below which the cap changes
-- nothing. Document 01's measure is capped at its `ceiling`, just above its limit: the sums never wrap, and are above any limit
-- up to that one exactly where the true ones are. What capped figures have to pass, and where an engine comes to rest, whatever
-- the order of its work. That these are exact are laws (proofs/CappedLeasts, CappedContexts, CappedTotals, AtRest).
-- Assumes nothing.
use Rattle.std.specs.Prelude.{ℕ, suc, ◌≤◌, ◌<◌, min, ◌≡◌, ◌↔◌, List}
use Rattle.std.proofs.Common.{arith}
use Rattle.grammar.specs.Words.{Grammar, RuleAt}
use Rattle.grammar.specs.Tree.{Tree, Open, ◌∈◌}
use Rattle.grammar.specs.Measure.{Cost, plain, tree_cost, open_cost}
use Rattle.grammar.specs.Terms.{measure, limit}
use Rattle.grammar.specs.Certificates.{Holds, word_size, others_size}

pub record Cap (c : Cost) : Type 0 where
  pub cap : c.C → c.C
  pub cap_zero : cap c.𝟎 ≡ c.𝟎
  pub cap_mono : {x y : c.C} → c.◌≼◌ x y → c.◌≼◌ (cap x) (cap y)
  pub cap_sum : (x y : c.C) → cap (c.◌⊕◌ x y) ≡ cap (c.◌⊕◌ (cap x) (cap y))

-- Over is kept by sums, not by ≼: costs may be compared by one part first and limited by their whole.
pub record Limit (c : Cost) (κ : Cap c) : Type 1 where
  pub Over : c.C → Type 0
  pub decided : (x : c.C) → Over (κ.cap x) ↔ Over x
  pub exact : (x : c.C) → ¬ Over x → κ.cap x ≡ x
  pub over_sum : (x y : c.C) → Over x → Over (c.◌⊕◌ x y)

-- a sum that would pass L + 1 stays there; so every limit up to L is decided
abbrev pub plain_cap : ℕ → Cap plain
plain_cap L = record {
  cap = λ x. min x (suc L);
  cap_zero = omega arith;
  cap_mono = λ h. omega arith;
  cap_sum = λ x y. omega arith;
}

abbrev pub plain_limit : (L l : ℕ) → l ≤ L → Limit plain (plain_cap L)
plain_limit L l up_to = record {
  Over = λ x. l < x;
  decided = λ x. (λ h. omega arith, λ h. omega arith);
  exact = λ x h. omega arith;
  over_sum = λ x y h. omega arith;
}

-- at document 01's measure
abbrev pub ceiling : ℕ
ceiling = suc limit

abbrev pub measure_cap : Cap measure
measure_cap = plain_cap limit

abbrev pub measure_limit : (l : ℕ) → l ≤ limit → Limit measure measure_cap
measure_limit = plain_limit limit

module _ (c : Cost) (κ : Cap c) (g : Grammar) where
  open c use {C, ◌⊕◌, ◌≼◌, once}
  open κ use {cap}

  infixl 60 ◌⊕◌
  infix 40 ◌≼◌
  -- y is the cap of what some tree of A costs
  abbrev pub OfTree : ℕ → C → Type 0
  OfTree A y = (t : Tree g A) × (y ≡ cap (tree_cost c t))

  pub record CappedCertificate (v : ℕ → C) : Type 0 where
    pub below : (k A : ℕ) (w : List ℕ) → RuleAt g k A w → v A ≼ cap (once ⊕ word_size c g v w)
    pub of_tree : (A : ℕ) → A < g.N → OfTree A (v A)

  -- the figures v are the caps of the figures x
  abbrev pub Caps : (v x : ℕ → C) → Type 0
  Caps v x = (A : ℕ) → A < g.N → v A ≡ cap (x A)

  -- y is the cap of what some open tree of A costs
  abbrev pub OfOpen : ℕ → C → Type 0
  OfOpen A y = (t : Open g A) × (y ≡ cap (open_cost c t))

-- over capped leasts v
module _ (c : Cost) (κ : Cap c) (g : Grammar) (v : ℕ → c.C) where
  open c use {C, 𝟎, ◌⊕◌, ◌≼◌, once}
  open κ use {cap}

  infixl 60 ◌⊕◌
  infix 40 ◌≼◌
  pub record CappedContextCertificate (u : ℕ → C) : Type 0 where
    pub at_start : u g.start ≡ 𝟎
    pub below : (k B : ℕ) (w : List ℕ) (i A : ℕ) → RuleAt g k B w → Holds w i A → A < g.N →
        u A ≼ cap (u B ⊕ (once ⊕ others_size c g v w i))
    pub of_open : (A : ℕ) → A < g.N → OfOpen c κ g A (u A)

module _ (c : Cost) (κ : Cap c) (g : Grammar) (v u : ℕ → c.C) where
  open c use {C, ◌⊕◌, once}
  open κ use {cap}

  infixl 60 ◌⊕◌
  -- of the rule A ⟶ w, by the figures
  abbrev pub capped_total : ℕ → List ℕ → C
  capped_total A w = cap (u A ⊕ (once ⊕ word_size c g v w))

  pub record CappedFigures : Type 0 where
    pub leasts : CappedCertificate c κ g v
    pub contexts : CappedContextCertificate c κ g v u

-- by sums that stop at the ceiling
module _ (g : Grammar) (v u : ℕ → ℕ) where
  abbrev pub stopped_total : ℕ → List ℕ → ℕ
  stopped_total = capped_total measure measure_cap g v u

-- Where an engine comes to rest: some nonterminals have a figure, each figure is the cap of what some tree costs, and no rule
-- whose nonterminals all have figures improves one or lacks one at its left side. Has A: A has a figure, v(A).
module _ (c : Cost) (κ : Cap c) (g : Grammar) (v : ℕ → c.C) where
  open c use {C, 𝟎, ◌⊕◌, ◌≼◌, once}
  open κ use {cap}

  infixl 60 ◌⊕◌
  infix 40 ◌≼◌
  module _ (Has : ℕ → Type 0) where
    pub record LeastsAtRest : Type 0 where
      pub figure : (A : ℕ) → A < g.N → Has A → OfTree c κ g A (v A)
      pub quiet : (k A : ℕ) (w : List ℕ) → RuleAt g k A w → ((B : ℕ) → B ∈ w → B < g.N → Has B) →
          Has A × (v A ≼ cap (once ⊕ word_size c g v w))

  -- the same for contexts, downwards from the start: a rule whose left side has a figure has one at each place that holds a
  -- nonterminal, and does not improve it
  module _ (u : ℕ → C) (Has : ℕ → Type 0) where
    pub record ContextsAtRest : Type 0 where
      pub start : Has g.start
      pub at_start : u g.start ≡ 𝟎
      pub figure : (A : ℕ) → A < g.N → Has A → OfOpen c κ g A (u A)
      pub quiet : (k B : ℕ) (w : List ℕ) (i A : ℕ) → RuleAt g k B w → Has B → Holds w i A → A < g.N →
          Has A × (u A ≼ cap (u B ⊕ (once ⊕ others_size c g v w i)))
