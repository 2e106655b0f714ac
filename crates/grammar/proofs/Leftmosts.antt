-- A tree's derivation is the leftmost derivation of its sentence; and a complete leftmost derivation is a tree's. So the listing
-- of a tree can be handed out as sentence and derivation, and what a replay accepts has a tree.
-- There: the rule at the root is applied first, then the forest under it, from the left, each tree with the terminals that are
-- done in front and the symbols still to come behind. Back: by induction on the derivation, from its end. The last form is all
-- leaves. A forest of the form after a step is one of the form before it: put a node over the symbols that the step brought in.
-- The step is leftmost, so in front of that node are only leaves, and its number is the first of the derivation.
-- Assumes nothing.
use mathlib.Core.Path.{◌≡◌, refl, ap, sym, ◌∙◌}
use mathlib.Core.List.{List, [], ◌∷◌, ◌++◌, append_assoc, append-nil}
use Prim.Native.Nat.{ℕ, ◌≤◌, ◌<◌}
use native.Mathlib.Omega.{arith}
use Rattle.grammar.specs.Words.{Grammar, RuleAt}
use Rattle.grammar.specs.Derivation.{Terminals, LeftStep, left, Leftmost, done, next, Derives}
use Rattle.grammar.specs.Tree.{Tree, Forest, node, nil, leaf, child, sentence, sentences, derivation, derivations}
use Rattle.grammar.proofs.SameListing.{tree_nonterminal}
pub use Rattle.grammar.proofs.EverySymbol.{all_append, all_first, all_second}

-- a forest of σ, and a tree of A, with this derivation and this sentence
pub record Parse (g : Grammar) (σ ks t : List ℕ) : Type 0 where
  pub forest : Forest g σ
  pub lists : derivations forest ≡ ks
  pub says : sentences forest ≡ t

pub record ParseTree (g : Grammar) (A : ℕ) (ks t : List ℕ) : Type 0 where
  pub tree : Tree g A
  pub lists : derivation tree ≡ ks
  pub says : sentence tree ≡ t

module _ {g : Grammar} where
  mutual
    -- a sentence has no nonterminals
    pub tree_terminals : {A : ℕ} (t : Tree g A) → Terminals g (sentence t)
    tree_terminals (node k r f) = forest_terminals f

    pub forest_terminals : {w : List ℕ} (f : Forest g w) → Terminals g (sentences f)
    forest_terminals nil = tt
    forest_terminals (leaf p f) = (p, forest_terminals f)
    forest_terminals (child t f) = all_append (λ s. g.N ≤ s) (sentence t) (sentences f) (tree_terminals t) (forest_terminals f)

  -- a leftmost step with δ behind, and with terminals in front
  left_behind : {k : ℕ} {σ τ : List ℕ} (δ : List ℕ) → LeftStep g k σ τ → LeftStep g k (σ ++ δ) (τ ++ δ)
  left_behind δ (left w β T r) = simp append_assoc (left w (β ++ δ) T r)

  pub left_before : {k : ℕ} {σ τ : List ℕ} (u : List ℕ) → Terminals g u → LeftStep g k σ τ → LeftStep g k (u ++ σ) (u ++ τ)
  left_before u U (left w β T r) = simp append_assoc at (left (u ++ w) β (all_append (λ s. g.N ≤ s) u w U T) r)

  leftmost_behind : {ks σ τ : List ℕ} (δ : List ℕ) → Leftmost g σ ks τ → Leftmost g (σ ++ δ) ks (τ ++ δ)
  leftmost_behind δ done = done
  leftmost_behind δ (next s d) = next (left_behind δ s) (leftmost_behind δ d)

  leftmost_before : {ks σ τ : List ℕ} (u : List ℕ) → Terminals g u → Leftmost g σ ks τ → Leftmost g (u ++ σ) ks (u ++ τ)
  leftmost_before u U done = done
  leftmost_before u U (next s d) = next (left_before u U s) (leftmost_before u U d)

  leftmost_trans : {ks js ρ σ τ : List ℕ} → Leftmost g ρ ks σ → Leftmost g σ js τ → Leftmost g ρ (ks ++ js) τ
  leftmost_trans done e = e
  leftmost_trans (next s d) e = next s (leftmost_trans d e)

  mutual
    -- the leftmost steps of a tree, from its root to its sentence, are by the rules of its derivation
    pub tree_leftmost : {A : ℕ} (t : Tree g A) → Leftmost g (A ∷ []) (derivation t) (sentence t)
    tree_leftmost (node {w = w} k r f) =
        let under : Leftmost g (w ++ []) (derivations f) (sentences f) = rw append-nil (forest_leftmost f) in
        next (left [] [] tt r) under

    pub forest_leftmost : {w : List ℕ} (f : Forest g w) → Leftmost g w (derivations f) (sentences f)
    forest_leftmost nil = done
    forest_leftmost (leaf {s} p f) = leftmost_before (s ∷ []) (p, tt) (forest_leftmost f)
    forest_leftmost (child {w = w} t f) =
        let rest = leftmost_before (sentence t) (tree_terminals t) (forest_leftmost f) in
        leftmost_trans (leftmost_behind w (tree_leftmost t)) rest

  -- THERE: the derivation of a tree of the start derives its sentence
  pub tree_derives : (t : Tree g g.start) → Derives g (derivation t) (sentence t)
  tree_derives t = record { leftmost = tree_leftmost t; complete = tree_terminals t }

  -- terminals are their own forest, with no rule uses
  pub leaves : (t : List ℕ) → Terminals g t → Parse g t [] t
  leaves [] T = record { forest = nil; lists = refl; says = refl }
  leaves (a ∷ t) T =
      let h = leaves t T.1 in
      record { forest = leaf T.0 h.forest; lists = h.lists; says = ap (a ∷◌) h.says }

  -- a forest of αβ, in two
  pub record Apart (α β : List ℕ) (f : Forest g (α ++ β)) : Type 0 where
    pub one : Forest g α
    pub two : Forest g β
    pub lists : derivations f ≡ derivations one ++ derivations two
    pub says : sentences f ≡ sentences one ++ sentences two

  pub apart : (α β : List ℕ) (f : Forest g (α ++ β)) → Apart α β f
  apart [] β f = record { one = nil; two = f; lists = refl; says = refl }
  apart (s ∷ α) β (leaf p f) =
      let h = apart α β f in
      record { one = leaf p h.one; two = h.two; lists = h.lists; says = ap (s ∷◌) h.says }
  apart (s ∷ α) β (child t f) =
      let h = apart α β f in
      record {
        one = child t h.one;
        two = h.two;
        lists = ap (derivation t ++◌) h.lists ∙ sym (append_assoc (derivation t) _ _);
        says = ap (sentence t ++◌) h.says ∙ sym (append_assoc (sentence t) _ _);
      }

  -- two forests side by side
  pub beside : {α β : List ℕ} → Forest g α → Forest g β → Forest g (α ++ β)
  beside nil h = h
  beside (leaf p f) h = leaf p (beside f h)
  beside (child t f) h = child t (beside f h)

  pub beside_says : {α β : List ℕ} (f : Forest g α) (h : Forest g β) → sentences (beside f h) ≡ sentences f ++ sentences h
  unfolding beside
  beside_says nil h = refl
  beside_says (leaf {s} p f) h = ap (s ∷◌) (beside_says f h)
  beside_says (child t f) h = ap (sentence t ++◌) (beside_says f h) ∙ sym (append_assoc (sentence t) _ _)

  pub beside_lists : {α β : List ℕ} (f : Forest g α) (h : Forest g β) → derivations (beside f h) ≡ derivations f ++ derivations h
  unfolding beside
  beside_lists nil h = refl
  beside_lists (leaf p f) h = beside_lists f h
  beside_lists (child t f) h = ap (derivation t ++◌) (beside_lists f h) ∙ sym (append_assoc (derivation t) _ _)

  -- a forest of γαβ with a node over α: one of γAβ, with the same sentence, and the rule's number behind what γ's forest lists
  pub record NodeOver (k A : ℕ) (γ α β : List ℕ) (f : Forest g (γ ++ (α ++ β))) : Type 0 where
    pub forest : Forest g (γ ++ A ∷ β)
    pub says : sentences forest ≡ sentences f
    pub front : Forest g γ
    pub rest : List ℕ
    pub before : derivations f ≡ derivations front ++ rest
    pub after : derivations forest ≡ derivations front ++ k ∷ rest

  pub node_over : {k A : ℕ} (γ : List ℕ) {α : List ℕ} (β : List ℕ) → RuleAt g k A α → (f : Forest g (γ ++ (α ++ β))) →
      NodeOver k A γ α β f
  node_over {k} γ {α} β r f =
      let a = apart γ (α ++ β) f in
      let b = apart α β a.two in
      let e = child (node k r b.one) b.two in
      record {
        forest = beside a.one e;
        says = beside_says a.one e ∙ ap (sentences a.one ++◌) (sym b.says) ∙ sym a.says;
        front = a.one;
        rest = derivations a.two;
        before = a.lists;
        after = beside_lists a.one e ∙ ap (λ ks. derivations a.one ++ k ∷ ks) (sym b.lists);
      }

  -- a forest of terminals has no rule uses
  no_rules : {w : List ℕ} (f : Forest g w) → Terminals g w → derivations f ≡ []
  no_rules nil T = refl
  no_rules (leaf p f) T = no_rules f T.1
  no_rules (child t f) T = absurd (let n = T.0 in omega (arith, tree_nonterminal t))

  parse_back : {k : ℕ} {σ τ ks t : List ℕ} → LeftStep g k σ τ → Parse g τ ks t → Parse g σ (k ∷ ks) t
  parse_back {k} (left w β T r) h =
      let z = node_over w β r h.forest in
      let n = no_rules z.front T in
      let same : derivations h.forest ≡ z.rest = rw n at z.before in
      let new : derivations z.forest ≡ k ∷ z.rest = rw n at z.after in
      record { forest = z.forest; lists = new ∙ ap (k ∷◌) (sym same ∙ h.lists); says = z.says ∙ h.says }

  parse : {σ τ ks : List ℕ} → Leftmost g σ ks τ → Terminals g τ → Parse g σ ks τ
  parse {τ = τ} done T = leaves τ T
  parse (next s d) T = parse_back s (parse d T)

  -- a forest of one nonterminal is a tree
  pub single : {A : ℕ} {ks t : List ℕ} → A < g.N → Parse g (A ∷ []) ks t → ParseTree g A ks t
  single {A} {ks} {t} lt h = go h.forest h.lists h.says
    where
      go : (f : Forest g (A ∷ [])) → derivations f ≡ ks → sentences f ≡ t → ParseTree g A ks t
      go (leaf p f) l y = absurd (omega arith)
      go (child T nil) l y = record {
        tree = T;
        lists = sym (append-nil (derivation T)) ∙ l;
        says = sym (append-nil (sentence T)) ∙ y;
      }

  -- BACK: what derives is the derivation of a tree of the start, with that sentence
  pub derives_tree : {ks t : List ℕ} → g.start < g.N → Derives g ks t → ParseTree g g.start ks t
  derives_tree lt d = single lt (parse d.leftmost d.complete)
