-- Complete trees, trees with one leaf left open, and how they are listed. The papers speak of derivations; a tree is a derivation
-- without its order, and that the two agree are laws (proofs/Leftmosts, proofs/AnyOrder). Document 01:
--   "A tree is listed from the left: a symbol's listing is its rule's listing (a terminal's is itself); a rule's listing is its
--    number, then its symbols' listings in order. The terminals in that order are the sentence, the rule numbers the derivation."
-- Assumes nothing.
use mathlib.Core.List.{List, [], ◌∷◌, ◌++◌, Memᴰ}
use Rattle.std.specs.Prelude.{◌≡◌, ℕ, suc, ◌≤◌, ◌<◌}
use Rattle.grammar.specs.Words.{Grammar, RuleAt}

mutual
  -- a complete tree of the nonterminal A: a rule A ⟶ w and complete trees of w's symbols
  pub data Tree (g : Grammar) : ℕ → Type 0 where
    node : {A : ℕ} {w : List ℕ} (k : ℕ) → RuleAt g k A w → Forest g w → Tree g A

  -- complete trees of the symbols of w, from the left; a terminal's is a leaf
  pub data Forest (g : Grammar) : List ℕ → Type 0 where
    nil : Forest g []
    leaf : {s : ℕ} {w : List ℕ} → g.N ≤ s → Forest g w → Forest g (s ∷ w)
    child : {s : ℕ} {w : List ℕ} → Tree g s → Forest g w → Forest g (s ∷ w)

abbrev mutual
  pub sentence : {g : Grammar} {A : ℕ} → Tree g A → List ℕ
  sentence (node k r f) = sentences f

  pub sentences : {g : Grammar} {w : List ℕ} → Forest g w → List ℕ
  sentences nil = []
  sentences (leaf {s} p f) = s ∷ sentences f
  sentences (child t f) = sentence t ++ sentences f

abbrev mutual
  pub derivation : {g : Grammar} {A : ℕ} → Tree g A → List ℕ
  derivation (node k r f) = k ∷ derivations f

  pub derivations : {g : Grammar} {w : List ℕ} → Forest g w → List ℕ
  derivations nil = []
  derivations (leaf p f) = derivations f
  derivations (child t f) = derivation t ++ derivations f

-- the tree uses the rule: its number stands in the derivation
infix 40 ◌∈◌
abbrev pub ◌∈◌ : ℕ → List ℕ → Type 0
k ∈ ks = Memᴰ k ks

abbrev pub Uses : {g : Grammar} {A : ℕ} → ℕ → Tree g A → Type 0
Uses k t = k ∈ derivation t

-- "the places in them holding A", places counted from 0: a right side w with the nonterminal A at place i left open, and complete
-- trees of its other symbols
pub data Gap (g : Grammar) : List ℕ → ℕ → ℕ → Type 0 where
  here : {A : ℕ} {w : List ℕ} → A < g.N → Forest g w → Gap g (A ∷ w) 0 A
  past_leaf : {s i A : ℕ} {w : List ℕ} → g.N ≤ s → Gap g w i A → Gap g (s ∷ w) (suc i) A
  past_child : {s i A : ℕ} {w : List ℕ} → Tree g s → Gap g w i A → Gap g (s ∷ w) (suc i) A

-- "a tree from the start with exactly one leaf A left open": that of the start itself, or one of B, and there a rule B ⟶ w with
-- a gap
pub data Open (g : Grammar) : ℕ → Type 0 where
  root : Open g g.start
  down : {A B i : ℕ} {w : List ℕ} (k : ℕ) → RuleAt g k B w → Open g B → Gap g w i A → Open g A

-- the open leaf filled by a tree of A
unfoldable pub fill : {g : Grammar} {w : List ℕ} {i A : ℕ} → Gap g w i A → Tree g A → Forest g w
fill (here p f) t = child t f
fill (past_leaf p a) t = leaf p (fill a t)
fill (past_child u a) t = child u (fill a t)

unfoldable pub plug : {g : Grammar} {A : ℕ} → Open g A → Tree g A → Tree g g.start
plug root t = t
plug (down k r x a) t = plug x (node k r (fill a t))

-- A stands in a complete tree of the start: the tree is one with a leaf A left open, filled
pub record StandsIn (g : Grammar) (A : ℕ) (t : Tree g g.start) : Type 0 where
  pub above : Open g A
  pub below : Tree g A
  pub whole : plug above below ≡ t
