-- Every figure and every choice of document 01's measure is one: two that meet its definition are equal. So the tables have one
-- right content, and what the program finds is what is meant.
-- Each follows its definition: of two smallest costs each is at most the other, of two lowest rules each is at most the other;
-- sizes of symbols are sums of unique figures, by induction on the symbols.
-- Assumes nothing.
use Prim.Native.Nat.{ℕ, ◌≤◌, ◌<◌}
use native.Mathlib.Omega.{arith}
use mathlib.Core.Path.{◌≡◌, refl, sym, ap, ◌∙◌}
use mathlib.Core.Logic.{◌⊎◌, inl, inr}
use mathlib.Core.List.{List}
use Rattle.grammar.specs.Words.{Grammar}
use Rattle.grammar.specs.Measure.{Cost, tree_cost, open_cost}
use Rattle.grammar.specs.Least.{Least, Sizes, no_symbols, terminal, nonterminal, RuleSize, Chosen, Context, Beside}
use Rattle.grammar.specs.Least.{at_place, past_terminal, past_nonterminal, ContextChoice, Total}
use Rattle.grammar.specs.Refusals.{Lowest}
pub use Rattle.grammar.proofs.RuleNumbers.{rule_left, rule_right}

-- of two lowest numbers each is at most the other
pub lowest_unique : {P : ℕ → Type 0} {n m : ℕ} → Lowest P n → Lowest P m → n ≡ m
lowest_unique {n = n} {m = m} a b = omega (arith, a.lowest m b.such, b.lowest n a.such)

-- of two pairs that are each the lower, first by first part and then by second, both parts are equal
lower_both_ways : {k j i h : ℕ} → (k < j) ⊎ ((k ≡ j) × (i ≤ h)) → (j < k) ⊎ ((j ≡ k) × (h ≤ i)) → (k ≡ j) × (i ≡ h)
lower_both_ways (inl a) (inl b) = absurd (omega arith)
lower_both_ways (inl a) (inr b) = let e = b.0 in absurd (omega arith)
lower_both_ways (inr a) (inl b) = let e = a.0 in absurd (omega arith)
lower_both_ways (inr a) (inr b) = let l = a.1 in let m = b.1 in (a.0, omega arith)

-- of two smallest costs each is at most the other
smallest_unique : (c : Cost) {X : Type 0} (cost : X → c.C) {x y : c.C} (t u : X) → cost t ≡ x → cost u ≡ y →
    ((s : X) → c.◌≼◌ x (cost s)) → ((s : X) → c.◌≼◌ y (cost s)) → x ≡ y
smallest_unique c cost t u e e' below below' = c.le_antisym (rw e' at (below u)) (rw e at (below' t))

module _ {c : Cost} {g : Grammar} where
  open c use {C, ◌⊕◌, tok, once}

  infixl 60 ◌⊕◌
  -- Least(A), Context(A), the sizes of symbols, the size of a rule and Total(r) are each one figure
  pub least_unique : {A : ℕ} {x y : C} → Least c g A x → Least c g A y → x ≡ y
  least_unique h k = smallest_unique c (tree_cost c) h.tree k.tree h.costs k.costs h.smallest k.smallest

  pub context_unique : {A : ℕ} {x y : C} → Context c g A x → Context c g A y → x ≡ y
  context_unique h k = smallest_unique c (open_cost c) h.tree k.tree h.costs k.costs h.smallest k.smallest

  pub sizes_unique : {w : List ℕ} {x y : C} → Sizes c g w x → Sizes c g w y → x ≡ y
  sizes_unique no_symbols no_symbols = refl
  sizes_unique (terminal {s = s} p h) (terminal q k) = ap (λ d. tok s ⊕ d) (sizes_unique h k)
  sizes_unique (terminal p h) (nonterminal q l k) = absurd (omega arith)
  sizes_unique (nonterminal p l h) (terminal q k) = absurd (omega arith)
  sizes_unique (nonterminal p l h) (nonterminal q m k) = let e = least_unique l m in let e' = sizes_unique h k in cc

  -- stated at two symbols, so that the place's own one is not asked twice
  beside_alike : {w : List ℕ} {i A B : ℕ} {x y : C} → Beside c g w i A x → Beside c g w i B y → x ≡ y
  beside_alike (at_place p h) (at_place q k) = sizes_unique h k
  beside_alike (past_terminal {s = s} p h) (past_terminal q k) = ap (λ d. tok s ⊕ d) (beside_alike h k)
  beside_alike (past_terminal p h) (past_nonterminal q l k) = absurd (omega arith)
  beside_alike (past_nonterminal p l h) (past_terminal q k) = absurd (omega arith)
  beside_alike (past_nonterminal p l h) (past_nonterminal q m k) = let e = least_unique l m in let e' = beside_alike h k in cc

  pub beside_unique : {w : List ℕ} {i A : ℕ} {x y : C} → Beside c g w i A x → Beside c g w i A y → x ≡ y
  beside_unique h k = beside_alike h k

  pub rule_size_unique : {A B k : ℕ} {x y : C} → RuleSize c g A k x → RuleSize c g B k y → x ≡ y
  rule_size_unique h k =
      let e : h.w ≡ k.w = rule_right refl h.rule k.rule in
      let e' : h.others ≡ k.others = sizes_unique h.sizes (rw e k.sizes) in
      h.is ∙ ap (λ d. once ⊕ d) e' ∙ sym k.is

  -- the chosen rule of A, and the context choice of A, are one
  pub chosen_unique : {A k j : ℕ} → Chosen c g A k → Chosen c g A j → k ≡ j
  chosen_unique {A} {k} {j} a b =
      let e : a.figure ≡ b.figure = least_unique a.least b.least in
      omega (arith, a.lowest j (rw e b.attains), b.lowest k (rw e at a.attains))

  pub choice_unique : {A k i j h : ℕ} → ContextChoice c g A k i → ContextChoice c g A j h → (k ≡ j) × (i ≡ h)
  choice_unique {A} {k} {i} {j} {h} a b =
      let e : a.figure ≡ b.figure = context_unique a.context b.context in
      lower_both_ways (a.first j h (rw e b.attains)) (b.first k i (rw e at a.attains))

  pub total_unique : {r : ℕ} {x y : C} → Total c g r x → Total c g r y → x ≡ y
  total_unique h k =
      let e_a : h.A ≡ k.A = rule_left refl h.rule.rule k.rule.rule in
      let e : h.outer ≡ k.outer = context_unique h.context (rw e_a k.context) in
      let e' : h.size ≡ k.size = rule_size_unique h.rule k.rule in
      let i = h.is in
      let j = k.is in
      cc
