-- A sample of what is reached: S ⟶ ε, A ⟶ B, B ⟶ ε, from S. A rule names B, but it is one of A, and no form derived from S has
-- an A. So neither is reached, and the lowest that is not is A, although every nonterminal has a tree.
-- Forms derived from S have no other nonterminal. Proved from the definitions alone. Assumes nothing.
use Prim.Native.Nat.{ℕ, zero, suc, ◌≤◌, ◌<◌}
use native.Mathlib.Omega.{arith}
use mathlib.Core.Path.{◌≡◌, refl}
use mathlib.Core.List.{List, [], ◌∷◌, ◌++◌}
use Rattle.grammar.specs.Words.{Grammar, ◌⟶◌, RuleAt, All}
use Rattle.grammar.specs.Derivation.{step, Steps, none, more}
use Rattle.grammar.specs.Tree.{Tree, node, nil, child}
use Rattle.grammar.specs.Refusals.{Lowest, AllTrees, Reached, Unreached}

-- nonterminals 0 S, 1 A, 2 B; no terminals
abbrev pub named : Grammar
named = record { N = 3; T = 0; start = 0; rules = (0 ⟶ []) ∷ (1 ⟶ 2 ∷ []) ∷ (2 ⟶ []) ∷ [] }

tree_B : Tree named 2
tree_B = node 2 (record { stands = refl; left = omega arith }) nil

pub all_trees : AllTrees named
all_trees zero l = node 0 (record { stands = refl; left = l }) nil
all_trees (suc zero) l = node 1 (record { stands = refl; left = l }) (child tree_B nil)
all_trees (suc (suc zero)) l = tree_B
all_trees (suc (suc (suc A))) l = absurd (omega arith)

abbrev OfStart : List ℕ → Type 0
OfStart σ = All (λ s. s ≡ 0) σ

right_of_start : (k : ℕ) {A : ℕ} {α : List ℕ} → RuleAt named k A α → A ≡ 0 → α ≡ []
right_of_start zero r e = let s = r.stands in cc
right_of_start (suc zero) r e = absurd (let s = r.stands in let z : ◌≡◌ {A = ℕ} 1 0 = cc in omega arith)
right_of_start (suc (suc zero)) r e = absurd (let s = r.stands in let z : ◌≡◌ {A = ℕ} 2 0 = cc in omega arith)
right_of_start (suc (suc (suc k))) r e = absurd (let s = r.stands in let z : ◌≡◌ {A = ℕ} 0 1 = cc in omega arith)

step_keeps : (γ : List ℕ) {k A : ℕ} {α : List ℕ} (β : List ℕ) → RuleAt named k A α →
    OfStart (γ ++ A ∷ β) → OfStart (γ ++ (α ++ β))
step_keeps [] {k} β r h = rw (right_of_start k r h.0) h.1
step_keeps (s ∷ γ) β r h = (h.0, step_keeps γ β r h.1)

steps_keep : {σ τ : List ℕ} → Steps named σ τ → OfStart σ → OfStart τ
steps_keep none h = h
steps_keep (more (step γ β r) d) h = steps_keep d (step_keeps γ β r h)

within : (γ : List ℕ) {A : ℕ} (β : List ℕ) → OfStart (γ ++ A ∷ β) → A ≡ 0
within [] β h = h.0
within (s ∷ γ) β h = within γ β h.1

unreached : (A : ℕ) → A < 3 → 1 ≤ A → Unreached named A
unreached A l other =
    record { nonterminal = l; never = λ z. omega (arith, within z.γ z.β (steps_keep z.derived (refl, tt))) }

-- B, although a rule names it
pub B_unreached : Unreached named 2
B_unreached = unreached 2 (omega arith) (omega arith)

-- the start itself is reached, in no steps
pub start_reached : Reached named 0
start_reached = record { γ = []; β = []; derived = none }

pub A_lowest : Lowest (Unreached named) 1
A_lowest = record { such = unreached 1 (omega arith) (omega arith); lowest = low }
  where
    low : (m : ℕ) → Unreached named m → 1 ≤ m
    low zero u = absurd (u.never start_reached)
    low (suc m) u = omega arith
