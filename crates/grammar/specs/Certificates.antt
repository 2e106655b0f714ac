-- Local tests, which speak of rules and figures alone, for what document 01 says of all trees: nonterminals without a tree or not
-- reached, figures that are the leasts and the contexts, and all figures of a table. That each is exact are laws (proofs/Dead,
-- Certificate, ContextCertificate, FigureCertificate).
-- Assumes nothing.
use Rattle.std.specs.Prelude.{ℕ, zero, suc, ◌≤◌, ◌<◌, ◌≡◌, Bool, true, false, ◌⊎◌, List, [], ◌∷◌, ltb}
use Rattle.std.proofs.Math.Option.{some}
use Rattle.std.proofs.Math.ListN.{get_elem?}
use Rattle.grammar.specs.Words.{Grammar, RuleAt, R}
use Rattle.grammar.specs.Tree.{◌∈◌}
use Rattle.grammar.specs.Measure.{Cost}
use Rattle.grammar.specs.Least.{Least, Chosen, Context, ContextChoice, Total}

module _ (g : Grammar) where
  -- a set is stuck: every rule of a member names a member, so that none has a tree
  pub record Stuck (D : ℕ → Type 0) : Type 0 where
    pub names : (k A : ℕ) (w : List ℕ) → RuleAt g k A w → D A → (B : ℕ) × B ∈ w × B < g.N × D B

  -- a set is closed: the start is a member, and each nonterminal that a rule of a member names, so that no other is reached
  pub record Closed (U : ℕ → Type 0) : Type 0 where
    pub start : U g.start
    pub names : (k B : ℕ) (w : List ℕ) (A : ℕ) → RuleAt g k B w → U B → A ∈ w → A < g.N → U A

-- the first where the test holds, else the second
abbrev pub either : {X : Type 0} → Bool → X → X → X
either true a b = a
either false a b = b

module _ (c : Cost) (g : Grammar) where
  open c use {C, 𝟎, ◌⊕◌, ◌≼◌, tok, once}

  infixl 60 ◌⊕◌
  infix 40 ◌≼◌
  -- a symbol's size and the sizes of some symbols, by figures for the nonterminals
  unfoldable pub symbol_size : (ℕ → C) → ℕ → C
  symbol_size v s = either (ltb s g.N) (v s) (tok s)

  unfoldable pub word_size : (ℕ → C) → List ℕ → C
  word_size v [] = 𝟎
  word_size v (s ∷ w) = symbol_size v s ⊕ word_size v w

  -- v(A) is at most the size of each rule of A, and is that of one
  pub record LeastCertificate (v : ℕ → C) : Type 0 where
    pub below : (k A : ℕ) (w : List ℕ) → RuleAt g k A w → v A ≼ once ⊕ word_size v w
    pub attained : (A : ℕ) → A < g.N → (k : ℕ) × (w : List ℕ) × RuleAt g k A w × (v A ≡ once ⊕ word_size v w)

  -- each figure of v is the least of its nonterminal
  abbrev pub Leasts : (ℕ → C) → Type 0
  Leasts v = (A : ℕ) → A < g.N → Least c g A (v A)

-- w holds A at place i
abbrev pub Holds : List ℕ → ℕ → ℕ → Type 0
Holds w i A = get_elem? w i ≡ some A

module _ (c : Cost) (g : Grammar) (v : ℕ → c.C) where
  open c use {C, 𝟎, ◌⊕◌, ◌≼◌, once}

  infixl 60 ◌⊕◌
  infix 40 ◌≼◌
  -- the sizes of the symbols beside place i
  unfoldable pub others_size : List ℕ → ℕ → C
  others_size [] i = 𝟎
  others_size (s ∷ w) zero = word_size c g v w
  others_size (s ∷ w) (suc i) = symbol_size c g v s ⊕ others_size w i

  -- some rule and place attain u(A)
  abbrev pub Attained : (ℕ → C) → ℕ → Type 0
  Attained u A =
      (k : ℕ) × (B : ℕ) × (w : List ℕ) × (i : ℕ) × RuleAt g k B w × Holds w i A × (u A ≡ u B ⊕ (once ⊕ others_size w i))

  -- u is 𝟎 at the start, u(A) is at most what each rule and place that hold A come to, and is one of these
  pub record ContextCertificate (u : ℕ → C) : Type 0 where
    pub at_start : u g.start ≡ 𝟎
    pub below : (k B : ℕ) (w : List ℕ) (i A : ℕ) → RuleAt g k B w → Holds w i A → A < g.N →
        u A ≼ u B ⊕ (once ⊕ others_size w i)
    pub attained : (A : ℕ) → A < g.N → ¬ (A ≡ g.start) → Attained u A

  -- each figure of u is the context of its nonterminal
  abbrev pub Contexts : (ℕ → C) → Type 0
  Contexts u = (A : ℕ) → A < g.N → Context c g A (u A)

-- five figures for each nonterminal, and the total for each rule
pub record Figures (c : Cost) : Type 0 where
  pub least : ℕ → c.C
  pub chosen : ℕ → ℕ
  pub context : ℕ → c.C
  pub rule : ℕ → ℕ
  pub place : ℕ → ℕ
  pub total : ℕ → c.C

-- they are what document 01 says
pub record AreFigures (c : Cost) (g : Grammar) (F : Figures c) : Type 0 where
  pub leasts : (A : ℕ) → A < g.N → Least c g A (F.least A)
  pub chosens : (A : ℕ) → A < g.N → Chosen c g A (F.chosen A)
  pub contexts : (A : ℕ) → A < g.N → Context c g A (F.context A)
  pub choices : (A : ℕ) → A < g.N → ¬ (A ≡ g.start) → ContextChoice c g A (F.rule A) (F.place A)
  pub totals : (r : ℕ) → r < R g → Total c g r (F.total r)

module _ (c : Cost) (g : Grammar) (F : Figures c) where
  open c use {C, 𝟎, ◌⊕◌, ◌≼◌, once}
  open F use {least, chosen, context, rule, place, total}

  infixl 60 ◌⊕◌
  infix 40 ◌≼◌
  -- the size that the leasts give to a rule with this right side, and to all of it but one place
  abbrev pub size_by : List ℕ → C
  size_by w = once ⊕ word_size c g least w

  abbrev pub beside_by : List ℕ → ℕ → C
  beside_by w i = once ⊕ others_size c g least w i

  -- rule k is one of A and comes to A's least; rule k holds A at place i, and comes to A's context there
  abbrev pub Attains : ℕ → ℕ → Type 0
  Attains A k = (w : List ℕ) × RuleAt g k A w × (least A ≡ size_by w)

  abbrev pub Leads : ℕ → ℕ → ℕ → Type 0
  Leads A k i = (B : ℕ) × (w : List ℕ) × RuleAt g k B w × Holds w i A × (context A ≡ context B ⊕ beside_by w i)

  -- THE TESTS
  pub record FigureCertificate : Type 0 where
    -- no rule is smaller than the least of its left side; the chosen rule is as small, and the lowest such
    pub least_below : (k A : ℕ) (w : List ℕ) → RuleAt g k A w → least A ≼ size_by w
    pub chosen_attains : (A : ℕ) → A < g.N → Attains A (chosen A)
    pub chosen_lowest : (k A : ℕ) (w : List ℕ) → RuleAt g k A w → least A ≡ size_by w → chosen A ≤ k
    -- the context of the start is 0; no place gives less; the context rule and place give as much, and are the first that do
    pub context-start : context g.start ≡ 𝟎
    pub context_below : (k B : ℕ) (w : List ℕ) (i A : ℕ) → RuleAt g k B w → Holds w i A → A < g.N →
        context A ≼ context B ⊕ beside_by w i
    pub choice_attains : (A : ℕ) → A < g.N → ¬ (A ≡ g.start) → Leads A (rule A) (place A)
    pub choice_first : (k B : ℕ) (w : List ℕ) (i A : ℕ) → RuleAt g k B w → Holds w i A → A < g.N → ¬ (A ≡ g.start) →
        context A ≡ context B ⊕ beside_by w i → (rule A < k) ⊎ ((rule A ≡ k) × (place A ≤ i))
    pub totals : (r A : ℕ) (w : List ℕ) → RuleAt g r A w → total r ≡ context A ⊕ size_by w
