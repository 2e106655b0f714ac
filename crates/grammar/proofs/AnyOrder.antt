-- A string of terminals derived in any order is the sentence of a tree. So L(G) is the sentences of the trees of the start, and
-- rows 6 and 5 of the refusals are met by no nonterminal exactly where items 1 and 2 of the thesis' Definition 2.2 hold: every
-- nonterminal occurs in a form derived from the start, and every one derives a string of terminals.
-- By induction on the derivation, from its end: the last form is all leaves; and a forest of the form after a step is one of the
-- form before it, with the same sentence: put a node over the symbols that the step brought in.
-- Assumes nothing.
use mathlib.Core.Path.{◌≡◌, refl, ◌∙◌}
use mathlib.Core.Logic.{◌↔◌}
use mathlib.Core.List.{List, [], ◌∷◌, ◌++◌}
use Prim.Native.Nat.{ℕ, ◌+◌, ◌≤◌, ◌<◌}
use Rattle.grammar.specs.Words.{Grammar, All, InBounds}
use Rattle.grammar.specs.Derivation.{Terminals, Step, step, Steps, none, more, Start, L}
use Rattle.grammar.specs.Tree.{Tree, Forest, sentence, sentences}
use Rattle.grammar.specs.Refusals.{NoTree, AllTrees, AllReached}
use Rattle.grammar.proofs.EverySymbol.{all_map}
use Rattle.grammar.proofs.Leftmosts.{leaves, node_over, single, tree_terminals, tree_leftmost, tree_derives}
use Rattle.grammar.proofs.Coverage.{leftmost_steps, derived_over, derives_L}

-- a symbol is one of T, the grammar's terminals
abbrev pub InT : Grammar → ℕ → Type 0
InT g s = (g.N ≤ s) × (s < g.N + g.T)

module _ {g : Grammar} where
  forest_back : {σ τ : List ℕ} → Step g σ τ → (f : Forest g τ) → (h : Forest g σ) × (sentences h ≡ sentences f)
  forest_back (step γ β r) f = let z = node_over γ β r f in (z.forest, z.says)

  steps_forest : {σ t : List ℕ} → Steps g σ t → Terminals g t → (f : Forest g σ) × (sentences f ≡ t)
  steps_forest {t = t} none T = ((leaves t T).forest, (leaves t T).says)
  steps_forest (more s d) T =
      let (f, says) = steps_forest d T in
      let (h, same) = forest_back s f in
      (h, same ∙ says)

  -- a string of terminals that A derives is the sentence of a tree of A
  pub steps_tree : {A : ℕ} {t : List ℕ} → A < g.N → Steps g (A ∷ []) t → Terminals g t → (u : Tree g A) × (sentence u ≡ t)
  steps_tree lt d T =
      let (f, says) = steps_forest d T in
      let p = single lt (record { forest = f; lists = refl; says = says }) in
      (p.tree, p.says)

  -- YIELD: a nonterminal has a complete tree exactly where it derives some string of terminals
  pub tree_yields : {A : ℕ} → A < g.N → Tree g A ↔ ((ω : List ℕ) × Terminals g ω × Steps g (A ∷ []) ω)
  tree_yields lt = (λ t. (sentence t, tree_terminals t, leftmost_steps (tree_leftmost t)), λ z. (steps_tree lt z.2 z.1).0)

  -- so row 5 is met by the nonterminals that the thesis calls unproductive: those that derive no string of terminals
  pub no_tree_unproductive : (A : ℕ) →
      NoTree g A ↔ ((A < g.N) × ¬ ((ω : List ℕ) × Terminals g ω × Steps g (A ∷ []) ω))
  no_tree_unproductive A = (
    λ z. (z.nonterminal, λ y. z.none ((tree_yields z.nonterminal).1 y)),
    λ z. record { nonterminal = z.0; none = λ t. z.1 ((tree_yields z.0).0 t) },
  )

  -- L(G) IS THE SENTENCES OF THE TREES OF THE START
  pub language : InBounds g → (t : List ℕ) → L g t ↔ ((u : Tree g g.start) × (sentence u ≡ t))
  language ok t = (
    λ l. steps_tree ok.start_below l.derived (all_map (InT g) (λ s. g.N ≤ s) (λ s h. h.0) t l.over),
    λ h. rw h.1 at (derives_L ok (tree_derives h.0)),
  )

-- DEFINITION 2.2, item 1: that every nonterminal is reached is that for every A there are α and β with S ⇒* αAβ
pub all_reached_occur : (g : Grammar) →
    AllReached g ↔ ((A : ℕ) → A < g.N → (α : List ℕ) × (β : List ℕ) × Steps g (Start g) (α ++ A ∷ β))
all_reached_occur g = (
  λ h A lt. ((h A lt).γ, (h A lt).β, (h A lt).derived),
  λ h A lt. record { γ = (h A lt).0; β = (h A lt).1; derived = (h A lt).2 },
)

-- and item 2: that every nonterminal has a complete tree is that for every A there is an ω in T* with A ⇒* ω
pub all_trees_yield : {g : Grammar} → InBounds g →
    AllTrees g ↔ ((A : ℕ) → A < g.N → (ω : List ℕ) × All (InT g) ω × Steps g (A ∷ []) ω)
all_trees_yield {g} ok = (to, from)
  where
    to : AllTrees g → (A : ℕ) → A < g.N → (ω : List ℕ) × All (InT g) ω × Steps g (A ∷ []) ω
    to trees A lt =
        let (ω, terminals, derived) = (tree_yields lt).0 (trees A lt) in
        (ω, derived_over ok lt derived terminals, derived)

    from : ((A : ℕ) → A < g.N → (ω : List ℕ) × All (InT g) ω × Steps g (A ∷ []) ω) → AllTrees g
    from h A lt =
        let (ω, over, derived) = h A lt in
        (tree_yields lt).1 (ω, all_map (InT g) (λ s. g.N ≤ s) (λ s k. k.0) ω over, derived)
