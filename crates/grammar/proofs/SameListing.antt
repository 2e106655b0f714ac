-- The tree of a rule is one: two have the same sentence and the same derivation. So what is handed out for a rule is settled to
-- the word, whatever way it was found.
-- Each nonterminal has one chosen rule and each but the start one context choice. Two trees of chosen rules of one nonterminal
-- have the same rule at the root, so the same right side under it, and so on down, by induction on one of them; two open trees of
-- context choices agree from the leaf up to the start in the same way. (The trees carry evidence too, so it is their listings
-- that are shown equal; nothing else of them is ever handed out.)
-- Assumes nothing.
use Prim.Native.Nat.{ℕ, ◌≤◌, ◌<◌}
use native.Mathlib.Omega.{arith}
use mathlib.Core.Path.{◌≡◌, refl, sym, subst}
use mathlib.Core.List.{List}
use Rattle.grammar.specs.Words.{Grammar, RuleAt}
use Rattle.grammar.specs.Tree.{Tree, Forest, node, nil, leaf, child, Gap, here, past_leaf, past_child, Open, root, down}
use Rattle.grammar.specs.Tree.{fill, plug, sentence, sentences, derivation, derivations}
use Rattle.grammar.specs.Measure.{Cost}
use Rattle.grammar.specs.Least.{ChosenTree, ChosenForest, ChosenGap, ChosenOpen, TreeOf}
use Rattle.grammar.proofs.RuleNumbers.{rule_left, rule_right}
use Rattle.grammar.proofs.Unique.{chosen_unique, choice_unique}

module _ {g : Grammar} where
  -- listed alike
  pub record Same {A A' : ℕ} (t : Tree g A) (t' : Tree g A') : Type 0 where
    pub sentences_same : sentence t ≡ sentence t'
    pub derivations_same : derivation t ≡ derivation t'

  pub record SameForest {w w' : List ℕ} (f : Forest g w) (f' : Forest g w') : Type 0 where
    pub sentences_same : sentences f ≡ sentences f'
    pub derivations_same : derivations f ≡ derivations f'

  -- what has a tree is a nonterminal
  pub tree_nonterminal : {A : ℕ} → Tree g A → A < g.N
  tree_nonterminal (node k r f) = r.left

  same_node : {A A' k k' : ℕ} {w w' : List ℕ} {f : Forest g w} {f' : Forest g w'} (r : RuleAt g k A w) (r' : RuleAt g k' A' w') →
      k ≡ k' → SameForest f f' → Same (node k r f) (node k' r' f')
  same_node r r' e s = record { sentences_same = s.sentences_same; derivations_same = let d = s.derivations_same in cc }

  same_leaf : {s s' : ℕ} {w w' : List ℕ} {f : Forest g w} {f' : Forest g w'} (p : g.N ≤ s) (p' : g.N ≤ s') →
      s ≡ s' → SameForest f f' → SameForest (leaf p f) (leaf p' f')
  same_leaf p p' e z = record { sentences_same = let d = z.sentences_same in cc; derivations_same = z.derivations_same }

  same_child : {s s' : ℕ} {w w' : List ℕ} {t : Tree g s} {t' : Tree g s'} {f : Forest g w} {f' : Forest g w'} →
      Same t t' → SameForest f f' → SameForest (child t f) (child t' f')
  same_child y z = record {
    sentences_same = let d = y.sentences_same in let d' = z.sentences_same in cc;
    derivations_same = let d = y.derivations_same in let d' = z.derivations_same in cc;
  }

module _ (c : Cost) {g : Grammar} where
  -- what is listed as each forest of w is listed as each forest of w', if these are equal
  at_word : {w w' : List ℕ} {f : Forest g w} → w ≡ w' → ((d : Forest g w) → ChosenForest c g d → SameForest f d) →
      (d : Forest g w') → ChosenForest c g d → SameForest f d
  at_word {f = f} e all = subst (λ (u : List ℕ). (d : Forest g u) → ChosenForest c g d → SameForest f d) e all

  mutual
    -- two trees of chosen rules of one nonterminal are listed alike
    pub same_tree : {A A' : ℕ} (t : Tree g A) → A ≡ A' → (t' : Tree g A') → ChosenTree c g t → ChosenTree c g t' → Same t t'
    same_tree (node k r f) e (node k' r' f') h h' =
        let ek : k ≡ k' = chosen_unique (rw e at h.0) h'.0 in
        same_node r r' ek (at_word (rule_right ek r r') (λ d z. same_symbols f d h.1 z) f' h'.1)

    same_symbols : {w : List ℕ} (f f' : Forest g w) → ChosenForest c g f → ChosenForest c g f' → SameForest f f'
    same_symbols nil nil h h' = record { sentences_same = refl; derivations_same = refl }
    same_symbols (leaf p f) (leaf p' f') h h' = same_leaf p p' refl (same_symbols f f' h h')
    same_symbols (leaf p f) (child t' f') h h' = absurd (omega (arith, tree_nonterminal t'))
    same_symbols (child t f) (leaf p' f') h h' = absurd (omega (arith, tree_nonterminal t))
    same_symbols (child t f) (child t' f') h h' =
        same_child (same_tree t refl t' h.0 h'.0) (same_symbols f f' h.1 h'.1)

  pub same_forest : {w w' : List ℕ} (f : Forest g w) → w ≡ w' → (f' : Forest g w') → ChosenForest c g f →
      ChosenForest c g f' → SameForest f f'
  same_forest f e f' h h' = at_word e (λ d z. same_symbols f d h z) f' h'

  same_gap : {w : List ℕ} {i A A' : ℕ} (a : Gap g w i A) (a' : Gap g w i A') → ChosenGap c g a → ChosenGap c g a' →
      {t : Tree g A} {t' : Tree g A'} → Same t t' → SameForest (fill a t) (fill a' t')
  unfolding fill
  same_gap (here p f) (here p' f') h h' z = same_child z (same_symbols f f' h h')
  same_gap (past_leaf p a) (past_leaf p' a') h h' z = same_leaf p p' refl (same_gap a a' h h' z)
  same_gap (past_leaf p a) (past_child t' a') h h' z = absurd (omega (arith, tree_nonterminal t'))
  same_gap (past_child t a) (past_leaf p' a') h h' z = absurd (omega (arith, tree_nonterminal t))
  same_gap (past_child t a) (past_child t' a') h h' z =
      same_child (same_tree t refl t' h.0 h'.0) (same_gap a a' h.1 h'.1 z)

  same_gap_at : {w w' : List ℕ} {i i' A A' : ℕ} (a : Gap g w i A) → w ≡ w' → i ≡ i' → (a' : Gap g w' i' A') → ChosenGap c g a →
      ChosenGap c g a' → {t : Tree g A} {t' : Tree g A'} → Same t t' → SameForest (fill a t) (fill a' t')
  same_gap_at {w} {i' = i'} {A' = A'} a ew ei a' h h' {t} {t'} z =
      subst (λ (u : List ℕ). Alike u i') ew (subst (λ (n : ℕ). Alike w n) ei (λ b y. same_gap a b h y z)) a' h'
    where
      Alike : List ℕ → ℕ → Type 0
      Alike u n = (b : Gap g u n A') → ChosenGap c g b → SameForest (fill a t) (fill b t')

  same_open : {A A' : ℕ} (x : Open g A) → A ≡ A' → (x' : Open g A') → ChosenOpen c g x → ChosenOpen c g x' →
      {t : Tree g A} {t' : Tree g A'} → Same t t' → Same (plug x t) (plug x' t')
  unfolding plug
  same_open root e root h h' z = z
  same_open root e (down k' r' x' a') h h' z = absurd (h'.0.other (sym e))
  same_open (down k r x a) e root h h' z = absurd (h.0.other e)
  same_open (down k r x a) e (down k' r' x' a') h h' z =
      let (ek, ei) = choice_unique (rw e at h.0) h'.0 in
      let under = same_node r r' ek (same_gap_at a (rule_right ek r r') ei a' h.2 h'.2 z) in
      same_open x (rule_left ek r r') x' h.1 h'.1 under

  -- SAME: two trees of one rule have the same sentence and the same derivation
  pub tree_of_same : {r : ℕ} {t t' : Tree g g.start} → TreeOf c g r t → TreeOf c g r t' → Same t t'
  tree_of_same {r} a b =
      let under = same_forest a.under (rule_right refl a.rule b.rule) b.under a.opens b.opens in
      let node-same = same_node a.rule b.rule refl under in
      let left_same = rule_left refl a.rule b.rule in
      rw (a.whole, b.whole) (same_open a.above left_same b.above a.follows b.follows node-same)
