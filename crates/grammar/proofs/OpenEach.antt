-- A right side is opened symbol by symbol: with a tree for each of its nonterminals, it has a forest, and one with a gap at any
-- place that holds a nonterminal; and what these trees have, the forest and the gap have, if it carries over leaf by leaf and
-- child by child. Least trees, chosen trees and any trees at all are put together by these two laws, with what is asked of the
-- trees as T.
-- By induction on the right side: a symbol below N is a child, any other a leaf.
-- Assumes nothing.
use Prim.Native.Nat.{ℕ, zero, suc, ◌≤◌, ◌<◌}
use native.Mathlib.Omega.{arith}
use native.Mathlib.Decide.{dec_lt}
use mathlib.Core.Path.{◌≡◌, refl}
use mathlib.Core.List.Memᴰ
use mathlib.Core.List.{List, [], ◌∷◌}
use Rattle.grammar.specs.Words.{Grammar}
use Rattle.grammar.specs.Tree.{Tree, Forest, nil, leaf, child, Gap, here, past_leaf, past_child, ◌∈◌}
use Rattle.grammar.proofs.ConstructorsDiffer.{none_not_some}
use Rattle.grammar.specs.Certificates.{Holds}

module _ {g : Grammar} (T : (A : ℕ) → Tree g A → Type 0) (F : (w : List ℕ) → Forest g w → Type 0) where
  -- F is had by a forest whose trees have T
  pub record Carries : Type 0 where
    pub at_nil : F [] nil
    pub at_leaf : (s : ℕ) (w : List ℕ) (p : g.N ≤ s) (f : Forest g w) → F w f → F (s ∷ w) (leaf p f)
    pub at_child : (s : ℕ) (w : List ℕ) (t : Tree g s) (f : Forest g w) → T s t → F w f → F (s ∷ w) (child t f)

  -- G is had by a gap beside which the trees have T
  pub record CarriesGap (G : (w : List ℕ) (i A : ℕ) → Gap g w i A → Type 0) : Type 0 where
    pub at_here : (A : ℕ) (w : List ℕ) (p : A < g.N) (f : Forest g w) → F w f → G (A ∷ w) 0 A (here p f)
    pub at_past_leaf : (s i A : ℕ) (w : List ℕ) (p : g.N ≤ s) (a : Gap g w i A) → G w i A a →
        G (s ∷ w) (suc i) A (past_leaf p a)
    pub at_past_child : (s i A : ℕ) (w : List ℕ) (t : Tree g s) (a : Gap g w i A) → T s t → G w i A a →
        G (s ∷ w) (suc i) A (past_child t a)

module _ {g : Grammar} {T : (A : ℕ) → Tree g A → Type 0} {F : (w : List ℕ) → Forest g w → Type 0} (carries : Carries T F) where
  -- FOREST: where each nonterminal of w has a tree with T, w has a forest with F
  pub forest_of : (w : List ℕ) → ((A : ℕ) → A ∈ w → A < g.N → (t : Tree g A) × T A t) → (f : Forest g w) × F w f
  forest_of [] each = (nil, carries.at_nil)
  forest_of (s ∷ w) each = go (dec_lt s g.N) (forest_of w (λ A m lt. each A (Memᴰ.tail m) lt))
    where
      go : Dec (s < g.N) → (f : Forest g w) × F w f → (f : Forest g (s ∷ w)) × F (s ∷ w) f
      go (yes lt) (f, h) =
          let (t, k) = each s (Memᴰ.head refl) lt in
          (child t f, carries.at_child s w t f k h)
      go (no ge) (f, h) = let le : g.N ≤ s = omega arith in (leaf le f, carries.at_leaf s w le f h)

  -- GAP: where every nonterminal has a tree with T, w has a gap with G wherever it holds a nonterminal
  pub gap_of : {G : (w : List ℕ) (i A : ℕ) → Gap g w i A → Type 0} → CarriesGap T F G →
      ((A : ℕ) → A < g.N → (t : Tree g A) × T A t) → (w : List ℕ) (i A : ℕ) → A < g.N → Holds w i A →
      (a : Gap g w i A) × G w i A a
  gap_of gaps each [] i A lt h = absurd (none_not_some h)
  gap_of gaps each (s ∷ w) zero A lt h =
      let e : s ≡ A = cc in
      let (f, k) = forest_of w (λ B m. each B) in
      rw e (here lt f, gaps.at_here A w lt f k)
  gap_of {G} gaps each (s ∷ w) (suc i) A lt h = go (dec_lt s g.N) (gap_of gaps each w i A lt h)
    where
      go : Dec (s < g.N) → (a : Gap g w i A) × G w i A a → (a : Gap g (s ∷ w) (suc i) A) × G (s ∷ w) (suc i) A a
      go (yes l) (a, k) = let (t, h') = each s l in (past_child t a, gaps.at_past_child s i A w t a h' k)
      go (no ge) (a, k) = let le : g.N ≤ s = omega arith in (past_leaf le a, gaps.at_past_leaf s i A w le a k)
