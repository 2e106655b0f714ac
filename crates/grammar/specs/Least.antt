-- Least, chosen rules, contexts, totals and the tree of a rule: document 01, "The measure", sentence by sentence.
-- Each figure is a relation (`Least A x`: x is Least(A)), because a grammar may have no tree to measure; that each is unique,
-- and exists where all nonterminals have trees and are reached, are laws (proofs/).
-- Assumes nothing.
use Rattle.std.specs.Prelude.{ℕ, suc, ◌≤◌, ◌<◌, ◌≡◌, ◌⊎◌, List, [], ◌∷◌}
use Rattle.grammar.specs.Words.{Grammar, RuleAt}
use Rattle.grammar.specs.Tree.{Tree, Forest, node, nil, leaf, child, Gap, here, past_leaf, past_child, Open, root, down}
use Rattle.grammar.specs.Tree.{plug}
use Rattle.grammar.specs.Measure.{Cost, tree_cost, open_cost}

module _ (c : Cost) (g : Grammar) where
  open c use {C, 𝟎, ◌⊕◌, ◌≼◌, tok, once}

  infixl 60 ◌⊕◌
  infix 40 ◌≼◌
  -- "Least(A) is the smallest size of a complete tree rooted at A."
  pub record Least (A : ℕ) (x : C) : Type 0 where
    pub tree : Tree g A
    pub costs : tree_cost c tree ≡ x
    pub smallest : (t : Tree g A) → x ≼ tree_cost c t

  -- the sizes of some symbols together, "terminals counting 1 and nonterminals their least"
  pub data Sizes : List ℕ → C → Type 0 where
    no_symbols : Sizes [] 𝟎
    terminal : {s : ℕ} {w : List ℕ} {x : C} → g.N ≤ s → Sizes w x → Sizes (s ∷ w) (tok s ⊕ x)
    nonterminal : {s : ℕ} {w : List ℕ} {y x : C} → s < g.N → Least s y → Sizes w x → Sizes (s ∷ w) (y ⊕ x)

  -- "A rule's size is 1 plus the sizes of its symbols": rule k is one of A, of size x
  pub record RuleSize (A k : ℕ) (x : C) : Type 0 where
    pub w : List ℕ
    pub rule : RuleAt g k A w
    pub others : C
    pub sizes : Sizes w others
    pub is : x ≡ once ⊕ others

  -- "The chosen rule of A is the lowest-numbered one whose size is Least(A)."
  pub record Chosen (A k : ℕ) : Type 0 where
    pub figure : C
    pub least : Least A figure
    pub attains : RuleSize A k figure
    pub lowest : (j : ℕ) → RuleSize A j figure → k ≤ j

  -- "Context(A) is the smallest size of a tree from the start with exactly one leaf A left open, that leaf counting 0."
  pub record Context (A : ℕ) (x : C) : Type 0 where
    pub tree : Open g A
    pub costs : open_cost c tree ≡ x
    pub smallest : (t : Open g A) → x ≼ open_cost c t

  -- w holds the nonterminal A at place i, and x is "the sizes of the other symbols"
  pub data Beside : List ℕ → ℕ → ℕ → C → Type 0 where
    at_place : {A : ℕ} {w : List ℕ} {x : C} → A < g.N → Sizes w x → Beside (A ∷ w) 0 A x
    past_terminal : {s i A : ℕ} {w : List ℕ} {x : C} → g.N ≤ s → Beside w i A x → Beside (s ∷ w) (suc i) A (tok s ⊕ x)
    past_nonterminal : {s i A : ℕ} {w : List ℕ} {y x : C} → s < g.N → Least s y → Beside w i A x → Beside (s ∷ w) (suc i) A (y ⊕ x)

  -- "over the rules of every nonterminal B and the places in them holding A, .. Context(B) + 1 + the sizes of the other symbols":
  -- rule k, of B, with A at place i, comes to x
  pub record Candidate (A k i : ℕ) (x : C) : Type 0 where
    pub B : ℕ
    pub w : List ℕ
    pub rule : RuleAt g k B w
    pub outer : C
    pub context : Context B outer
    pub others : C
    pub beside : Beside w i A others
    pub is : x ≡ outer ⊕ (once ⊕ others)

  -- "Ties go to the lowest rule, then the leftmost place.": the context rule of A, other than the start, and the place in it
  pub record ContextChoice (A k i : ℕ) : Type 0 where
    pub other : ¬ (A ≡ g.start)
    pub figure : C
    pub context : Context A figure
    pub attains : Candidate A k i figure
    pub first : (j h : ℕ) → Candidate A j h figure → (k < j) ⊎ ((k ≡ j) × (i ≤ h))

  -- "Total(r) is Context(left side of r) plus the size of r."
  pub record Total (r : ℕ) (x : C) : Type 0 where
    pub A : ℕ
    pub outer : C
    pub context : Context A outer
    pub size : C
    pub rule : RuleSize A r size
    pub is : x ≡ outer ⊕ size

  -- every nonterminal is opened by its chosen rule
  abbrev mutual
    pub ChosenTree : {A : ℕ} → Tree g A → Type 0
    ChosenTree (node {A} k r f) = Chosen A k × ChosenForest f

    pub ChosenForest : {w : List ℕ} → Forest g w → Type 0
    ChosenForest nil = Unit {0}
    ChosenForest (leaf p f) = ChosenForest f
    ChosenForest (child t f) = ChosenTree t × ChosenForest f

  abbrev pub ChosenGap : {w : List ℕ} {i A : ℕ} → Gap g w i A → Type 0
  ChosenGap (here p f) = ChosenForest f
  ChosenGap (past_leaf p a) = ChosenGap a
  ChosenGap (past_child t a) = ChosenTree t × ChosenGap a

  -- the open leaf is reached by context choices, and every other nonterminal opened by its chosen rule
  abbrev pub ChosenOpen : {A : ℕ} → Open g A → Type 0
  ChosenOpen root = Unit {0}
  ChosenOpen (down {A} {i = i} k r x a) = ContextChoice A k i × ChosenOpen x × ChosenGap a

  -- "The tree of rule r follows the context choices from the start to r's left side, puts r there, and opens every other
  -- nonterminal by its chosen rule."
  pub record TreeOf (r : ℕ) (t : Tree g g.start) : Type 0 where
    pub A : ℕ
    pub w : List ℕ
    pub rule : RuleAt g r A w
    pub above : Open g A
    pub follows : ChosenOpen above
    pub under : Forest g w
    pub opens : ChosenForest under
    pub whole : t ≡ plug above (node r rule under)
