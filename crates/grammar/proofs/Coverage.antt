-- Definition 2.10 from trees: sentences of trees of the start among which each rule is used satisfy production coverage, as the
-- specification states it and so as the thesis prints it. The program's sentences are such: this is what it is for.
-- A tree that uses rule k is followed down to the use, by induction on the tree. At the use, the rule is applied to the symbol
-- alone. In a forest, the steps that pass through k get the derived sentences of the trees before it in front (derived first, all
-- of them), and the symbols after it behind (derived last). Under a node, its rule is one more step at the beginning.
-- Assumes nothing.
use mathlib.Core.Path.{◌≡◌}
use mathlib.Core.Logic.{◌⊎◌, inl, inr}
use mathlib.Core.List.Memᴰ
use mathlib.Core.List.{List, [], ◌∷◌, ◌++◌, append_assoc, append-nil}
use Prim.Native.Nat.{ℕ, ◌+◌, ◌≤◌, ◌<◌}
use native.Mathlib.Omega.{arith}
use Rattle.grammar.specs.Words.{Grammar, RuleAt, R, All, InBounds}
use Rattle.grammar.specs.Derivation.{Terminals, Step, step, Steps, none, more, LeftStep, left, Leftmost, done, next}
use Rattle.grammar.specs.Derivation.{Through, Start, L, Derives, ProductionCoverage}
use Rattle.grammar.specs.Tree.{Tree, Forest, node, nil, leaf, child, sentence, sentences, derivation, derivations, Uses}
use Rattle.grammar.specs.Tree.{◌∈◌}
use Rattle.grammar.specs.Derivation.{PrintedThrough}
use Rattle.grammar.proofs.EverySymbol.{all_append, all_first, all_second, all_both}
use Rattle.grammar.proofs.LayoutExact.{rule_symbols}
use Rattle.grammar.proofs.Leftmosts.{tree_leftmost, forest_leftmost, derives_tree}

module _ {g : Grammar} where
  step_behind : {σ τ : List ℕ} (δ : List ℕ) → Step g σ τ → Step g (σ ++ δ) (τ ++ δ)
  step_behind δ (step γ β r) = simp append_assoc (step γ (β ++ δ) r)

  step_before : {σ τ : List ℕ} (δ : List ℕ) → Step g σ τ → Step g (δ ++ σ) (δ ++ τ)
  step_before δ (step γ β r) = simp append_assoc at (step (δ ++ γ) β r)

  -- steps go on with δ behind, or in front, of the form, and after each other
  pub steps_behind : {σ τ : List ℕ} (δ : List ℕ) → Steps g σ τ → Steps g (σ ++ δ) (τ ++ δ)
  steps_behind δ none = none
  steps_behind δ (more s d) = more (step_behind δ s) (steps_behind δ d)

  pub steps_before : {σ τ : List ℕ} (δ : List ℕ) → Steps g σ τ → Steps g (δ ++ σ) (δ ++ τ)
  steps_before δ none = none
  steps_before δ (more s d) = more (step_before δ s) (steps_before δ d)

  pub steps_trans : {ρ σ τ : List ℕ} → Steps g ρ σ → Steps g σ τ → Steps g ρ τ
  steps_trans none e = e
  steps_trans (more s d) e = more s (steps_trans d e)

  -- a leftmost derivation is a derivation
  left_step : {k : ℕ} {σ τ : List ℕ} → LeftStep g k σ τ → Step g σ τ
  left_step (left w β T r) = step w β r

  pub leftmost_steps : {ks σ τ : List ℕ} → Leftmost g σ ks τ → Steps g σ τ
  leftmost_steps done = none
  leftmost_steps (next s d) = more (left_step s) (leftmost_steps d)

  -- a rule is a step from its left side alone
  pub rule_step : {k A : ℕ} {α : List ℕ} → RuleAt g k A α → Step g (A ∷ []) α
  rule_step r = rw append-nil at (step [] [] r)

  -- what passes through k does so after δ and before δ, if δ derives u
  through_after : {k : ℕ} {σ t δ : List ℕ} (u : List ℕ) → Steps g δ u → Through g k σ t → Through g k (δ ++ σ) (u ++ t)
  through_after {σ = σ} u d h = record {
    A = h.A;
    α = h.α;
    γ = u ++ h.γ;
    β = h.β;
    rule = h.rule;
    reaches = simp append_assoc (steps_trans (steps_behind σ d) (steps_before u h.reaches));
    applies = simp append_assoc (step_before u h.applies);
    finishes = simp append_assoc (steps_before u h.finishes);
  }

  through_before : {k : ℕ} {σ t δ : List ℕ} (u : List ℕ) → Steps g δ u → Through g k σ t → Through g k (σ ++ δ) (t ++ u)
  through_before {t = t} {δ = δ} u d h = record {
    A = h.A;
    α = h.α;
    γ = h.γ;
    β = h.β ++ δ;
    rule = h.rule;
    reaches = simp append_assoc at (steps_behind δ h.reaches);
    applies = simp append_assoc at (step_behind δ h.applies);
    finishes = steps_trans (simp append_assoc at (steps_behind δ h.finishes)) (steps_before t d);
  }

  through_under : {k k' A : ℕ} {α t : List ℕ} → RuleAt g k' A α → Through g k α t → Through g k (A ∷ []) t
  through_under r h = record {
    A = h.A;
    α = h.α;
    γ = h.γ;
    β = h.β;
    rule = h.rule;
    reaches = more (rule_step r) h.reaches;
    applies = h.applies;
    finishes = h.finishes;
  }

  through_here : {k A : ℕ} {α t : List ℕ} → RuleAt g k A α → Steps g α t → Through g k (A ∷ []) t
  through_here {A = A} {α} r d = record {
    A = A;
    α = α;
    γ = [];
    β = [];
    rule = r;
    reaches = none;
    applies = step [] [] r;
    finishes = rw append-nil d;
  }

  mutual
    -- a tree that uses k has steps from its root to its sentence that pass through k
    pub tree_through : {A k : ℕ} (t : Tree g A) → k ∈ derivation t → Through g k (A ∷ []) (sentence t)
    tree_through {A} {k} (node {w = w} j r f) m = at_node (λ m'. forest_through f m') (Memᴰ.cases_cons m)
      where
        at_node : (k ∈ derivations f → Through g k w (sentences f)) → (k ≡ j) ⊎ k ∈ derivations f →
            Through g k (A ∷ []) (sentences f)
        at_node below (inl e) = rw e (through_here r (leftmost_steps (forest_leftmost f)))
        at_node below (inr m') = through_under r (below m')

    pub forest_through : {w : List ℕ} {k : ℕ} (f : Forest g w) → k ∈ derivations f → Through g k w (sentences f)
    forest_through nil m = absurd (Memᴰ.not-nil m)
    forest_through (leaf {s} p f) m = through_after (s ∷ []) none (forest_through f m)
    forest_through {k = k} (child {s = s} {w = w} t f) m =
        pick (λ m'. tree_through t m') (λ m'. forest_through f m') (Memᴰ.append_cases (derivation t) m)
      where
        pick : (k ∈ derivation t → Through g k (s ∷ []) (sentence t)) → (k ∈ derivations f → Through g k w (sentences f)) →
            (k ∈ derivation t) ⊎ (k ∈ derivations f) → Through g k (s ∷ w) (sentence t ++ sentences f)
        pick first later (inl m') = through_before (sentences f) (leftmost_steps (forest_leftmost f)) (first m')
        pick first later (inr m') = through_after (sentence t) (leftmost_steps (tree_leftmost t)) (later m')

  -- WITNESS: a tree of the start that uses rule k has a sentence as Definition 2.10 asks for k
  pub use_witnesses : {k : ℕ} (t : Tree g g.start) → Uses k t → Through g k (Start g) (sentence t)
  use_witnesses t m = tree_through t m

-- PRINTED: one step of the rule implies the printed form
pub through_printed : {g : Grammar} {k : ℕ} {σ t : List ℕ} → Through g k σ t → PrintedThrough g k σ t
through_printed h = record {
  A = h.A;
  α = h.α;
  γ = h.γ;
  β = h.β;
  rule = h.rule;
  reaches = h.reaches;
  applies = more h.applies none;
  finishes = h.finishes;
}

-- so production coverage as stated implies production coverage as printed
pub coverage_printed : {g : Grammar} {T : List ℕ → Type 0} → ProductionCoverage g T →
    (k : ℕ) → k < R g → (t : List ℕ) × T t × PrintedThrough g k (Start g) t
coverage_printed h k l = let z = h.covered k l in (z.0, z.1, through_printed z.2)

-- within the layout's bounds a derived string of terminals is one over the grammar's terminals
module _ {g : Grammar} (ok : InBounds g) where
  abbrev InRange : List ℕ → Type 0
  InRange w = All (λ s. s < g.N + g.T) w

  range_step : {σ τ : List ℕ} → Step g σ τ → InRange σ → InRange τ
  range_step (step γ {A = A} {α = α} β r) f =
      let P : ℕ → Type 0 = λ s. s < g.N + g.T in
      all_append P γ (α ++ β) (all_first P γ (A ∷ β) f) (all_append P α β (rule_symbols ok r) (all_second P γ (A ∷ β) f).1)

  range_steps : {σ τ : List ℕ} → Steps g σ τ → InRange σ → InRange τ
  range_steps none f = f
  range_steps (more s d) f = range_steps d (range_step s f)

  -- a string of terminals that any nonterminal derives is over the grammar's terminals
  pub derived_over : {A : ℕ} {t : List ℕ} → A < g.N → Steps g (A ∷ []) t → Terminals g t →
      All (λ s. (g.N ≤ s) × (s < g.N + g.T)) t
  derived_over {t = t} lt d T = all_both (λ s. g.N ≤ s) (λ s. s < g.N + g.T) t T (range_steps d (omega arith, tt))

  -- the sentence of a complete leftmost derivation is in L(G)
  pub derives_L : {ks t : List ℕ} → Derives g ks t → L g t
  derives_L d =
      let e = leftmost_steps d.leftmost in
      record { over = derived_over ok.start_below e d.complete; derived = e }

  -- COVERAGE: a set of sentences, each with its leftmost derivation, such that each rule stands in the derivation of one
  pub coverage : (T : List ℕ → Type 0) → ((t : List ℕ) → T t → (ks : List ℕ) × Derives g ks t) →
      ((k : ℕ) → k < R g → (t : List ℕ) × T t × (ks : List ℕ) × Derives g ks t × k ∈ ks) → ProductionCoverage g T
  coverage T each used = record {
    within = λ t h. derives_L (each t h).1;
    covered = λ k l.
        let z = used k l in
        let p = derives_tree ok.start_below z.3 in
        (z.0, z.1, rw p.says at (tree_through {k = k} p.tree (rw p.lists z.4)));
  }
