-- Down a tree along the members of a set of nonterminals: what a node of a member gives its tree, if a member among its symbols
-- gives it to the forest under it, every tree of a member has. It shows that members of a stuck set have no tree (the node always
-- finds a member) and that a tree of an unsettled nonterminal costs at least the smallest offer (the node finds an unsettled one,
-- or makes an offer).
-- By induction on the tree; in the forest go on to the child that is the member.
-- Assumes nothing.
use Prim.Native.Nat.{ℕ, ◌≤◌, ◌<◌}
use native.Mathlib.Omega.{arith}
use mathlib.Core.Path.{◌≡◌, subst}
use mathlib.Core.Logic.{◌⊎◌, inl, inr}
use mathlib.Core.List.Memᴰ
use mathlib.Core.List.{List, ◌∷◌}
use Rattle.grammar.specs.Words.{Grammar, RuleAt}
use Rattle.grammar.specs.Tree.{Tree, Forest, node, nil, leaf, child, ◌∈◌}

module _ {g : Grammar} (D : ℕ → Type 0) (T : (A : ℕ) → Tree g A → Type 0) (F : (w : List ℕ) → Forest g w → Type 0) where
  -- T of a tree comes up from a member under its node, F of a forest from the tree of a member or from the forest that follows
  pub record ComesUp : Type 0 where
    pub at_node : (k A : ℕ) (w : List ℕ) (r : RuleAt g k A w) (f : Forest g w) → D A →
        ((B : ℕ) → B ∈ w → B < g.N → D B → F w f) → T A (node k r f)
    pub from_first : (s : ℕ) (w : List ℕ) (t : Tree g s) (f : Forest g w) → T s t → F (s ∷ w) (child t f)
    pub past_child : (s : ℕ) (w : List ℕ) (t : Tree g s) (f : Forest g w) → F w f → F (s ∷ w) (child t f)
    pub past_leaf : (s : ℕ) (w : List ℕ) (p : g.N ≤ s) (f : Forest g w) → F w f → F (s ∷ w) (leaf p f)

  module _ (comes-up : ComesUp) where
    mutual
      -- ALONG MEMBERS: every tree of a member has T
      pub along_members : {A : ℕ} (t : Tree g A) → D A → T A t
      along_members (node {A} {w} k r f) d = comes-up.at_node k A w r f d (λ B m lt d'. in_forest f m lt d')

      in_forest : {w : List ℕ} {B : ℕ} (f : Forest g w) → B ∈ w → B < g.N → D B → F w f
      in_forest nil m lt d = absurd (Memᴰ.not-nil m)
      in_forest {B = B} (leaf {s} {w} p f) m lt d = go (λ m'. in_forest f m' lt d) (Memᴰ.cases_cons m)
        where
          go : (B ∈ w → F w f) → (B ≡ s) ⊎ B ∈ w → F (s ∷ w) (leaf p f)
          go later (inl e) = absurd (omega arith)
          go later (inr m') = comes-up.past_leaf s w p f (later m')
      in_forest {B = B} (child {s} {w} t f) m lt d =
          go (λ e. along_members t (subst D e d)) (λ m'. in_forest f m' lt d) (Memᴰ.cases_cons m)
        where
          go : (B ≡ s → T s t) → (B ∈ w → F w f) → (B ≡ s) ⊎ B ∈ w → F (s ∷ w) (child t f)
          go first later (inl e) = comes-up.from_first s w t f (first e)
          go first later (inr m') = comes-up.past_child s w t f (later m')
