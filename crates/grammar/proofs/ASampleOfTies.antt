-- A sample in which everything ties. S ⟶ A A stands twice (rules 0 and 3), A ⟶ a and A ⟶ b (rules 1 and 2) have one size, and A
-- stands at two places. By document 01: Least(A) is 2, by rule 1 and not 2; Context(A) is 3, the rule and the other A but not the
-- open leaf, by rule 0 and not 3, at place 0 and not 1; Least(S) is 5, by rule 0 and not 3; every total is 5.
-- Proved from the definitions alone, so that a definition that says otherwise is refused here. Assumes nothing.
use Prim.Native.Nat.{ℕ, zero, suc, ◌+◌, ◌≤◌, ◌<◌}
use native.Mathlib.Omega.{arith}
use mathlib.Core.Path.{◌≡◌, refl}
use mathlib.Core.Logic.{inl, inr}
use mathlib.Core.List.{List, [], ◌∷◌}
use lib.ListN.{length}
use Rattle.grammar.specs.Words.{Grammar, ◌⟶◌, RuleAt}
use Rattle.grammar.specs.Tree.{Tree, Forest, node, nil, leaf, child, Gap, here, past_leaf, past_child, Open, root, down}
use Rattle.grammar.specs.Measure.{tree_cost, forest_cost, gap_cost, open_cost}
use Rattle.grammar.specs.Least.{Least, Sizes, no_symbols, terminal, nonterminal, RuleSize, Chosen, Context}
use Rattle.grammar.specs.Least.{at_place, past_nonterminal, Candidate, ContextChoice, Total}
use Rattle.grammar.specs.Terms.{measure}

-- nonterminals 0 S, 1 A; terminals 2 a, 3 b
abbrev AA : List ℕ
AA = 1 ∷ 1 ∷ []

abbrev pub ties : Grammar
ties = record { N = 2; T = 2; start = 0; rules = (0 ⟶ AA) ∷ (1 ⟶ 2 ∷ []) ∷ (1 ⟶ 3 ∷ []) ∷ (0 ⟶ AA) ∷ [] }

rule_0 : RuleAt ties 0 0 AA
rule_0 = record { stands = refl; left = omega arith }

rule_1 : RuleAt ties 1 1 (2 ∷ [])
rule_1 = record { stands = refl; left = omega arith }

rule_2 : RuleAt ties 2 1 (3 ∷ [])
rule_2 = record { stands = refl; left = omega arith }

rule_3 : RuleAt ties 3 0 AA
rule_3 = record { stands = refl; left = omega arith }

-- SIZES OF TREES: terminal leaves and rule uses; an open leaf counts 0
is_S : 0 < ties.N
is_S = omega arith

is_A : 1 < ties.N
is_A = omega arith

abbrev tree_A : Tree ties 1
tree_A = node 1 rule_1 (leaf {s = 2} (omega arith) nil)

abbrev tree_S : Tree ties 0
tree_S = node 0 rule_0 (child tree_A (child tree_A nil))

abbrev open_A : Open ties 1
open_A = down 0 rule_0 root (here is_A (child tree_A nil))

tree_A_size : tree_cost measure tree_A ≡ 2
unfolding tree_cost
tree_A_size = refl

tree_S_size : tree_cost measure tree_S ≡ 5
unfolding tree_cost
tree_S_size = refl

root_size : open_cost measure {g = ties} root ≡ 0
unfolding open_cost
root_size = refl

open_A_size : open_cost measure open_A ≡ 3
unfolding open_cost gap_cost tree_cost
open_A_size = refl

-- NONE SMALLER. A property of each rule:
on_rules : (P : ℕ → ℕ → List ℕ → Type 0) → P 0 0 AA → P 1 1 (2 ∷ []) → P 2 1 (3 ∷ []) → P 3 0 AA →
    (k : ℕ) {A : ℕ} {w : List ℕ} → RuleAt ties k A w → P k A w
on_rules P a b c d zero {A} {w} r = let s = r.stands in let x : A ≡ 0 = cc in let y : w ≡ AA = cc in rw (x, y) a
on_rules P a b c d (suc zero) {A} {w} r = let s = r.stands in let x : A ≡ 1 = cc in let y : w ≡ 2 ∷ [] = cc in rw (x, y) b
on_rules P a b c d (suc (suc zero)) {A} {w} r =
    let s = r.stands in let x : A ≡ 1 = cc in let y : w ≡ 3 ∷ [] = cc in rw (x, y) c
on_rules P a b c d (suc (suc (suc zero))) {A} {w} r =
    let s = r.stands in let x : A ≡ 0 = cc in let y : w ≡ AA = cc in rw (x, y) d
on_rules P a b c d (suc (suc (suc (suc k)))) r =
    absurd (let s = r.stands in let z : ◌≡◌ {A = ℕ} 0 1 = cc in omega arith)

-- A tree costs 2 at least: its rule, and 1 for each of the rule's symbols, of which there is one at least.
symbols_cost : {w : List ℕ} (f : Forest ties w) → length w ≤ forest_cost measure f
unfolding tree_cost
symbols_cost nil = omega arith
symbols_cost (leaf p f) = omega (arith, symbols_cost f)
symbols_cost (child (node k r t) f) = omega (arith, symbols_cost f)

tree_above : {A : ℕ} (t : Tree ties A) → 2 ≤ tree_cost measure t
unfolding tree_cost
tree_above (node k r f) =
    let one = on_rules (λ k A w. 1 ≤ length w) (omega arith) (omega arith) (omega arith) (omega arith) k r in
    omega (arith, symbols_cost f)

-- So A A costs 4 at least, and 2 beside an open leaf; no other right side has a place for A.
pair_above : (f : Forest ties AA) → 4 ≤ forest_cost measure f
unfolding tree_cost
pair_above (leaf p f) = absurd (omega arith)
pair_above (child t (leaf p f)) = absurd (omega arith)
pair_above (child t (child u nil)) = omega (arith, tree_above t, tree_above u)

gap_above : {i A : ℕ} (a : Gap ties AA i A) → 2 ≤ gap_cost measure a
unfolding gap_cost tree_cost
gap_above (here p (leaf q f)) = absurd (omega arith)
gap_above (here p (child t nil)) = omega (arith, tree_above t)
gap_above (past_leaf p a) = absurd (omega arith)
gap_above (past_child t a) = omega (arith, tree_above t)

no_gap : {s i : ℕ} → 2 ≤ s → Gap ties (s ∷ []) i 1 → ⊥
no_gap h (here p f) = omega arith
no_gap h (past_leaf p a) = elim a [ ]
no_gap h (past_child t a) = elim a [ ]

start_above : (t : Tree ties 0) → 5 ≤ tree_cost measure t
unfolding tree_cost
start_above (node k r f) =
    let P : ℕ → ℕ → List ℕ → Type 0 = λ k A w. (f : Forest ties w) → A ≡ 0 → 4 ≤ forest_cost measure f in
    let pair : P 0 0 AA = λ f e. pair_above f in
    omega (arith, on_rules P pair (λ f e. absurd (omega arith)) (λ f e. absurd (omega arith)) pair k r f refl)

open_above : (x : Open ties 1) → 3 ≤ open_cost measure x
unfolding open_cost
open_above (down {i = i} k r x a) =
    let P : ℕ → ℕ → List ℕ → Type 0 = λ k B w. (a : Gap ties w i 1) → 2 ≤ gap_cost measure a in
    let none : P 1 1 (2 ∷ []) = λ a. absurd (no_gap (omega arith) a) in
    omega (arith, on_rules P gap_above none (λ a. absurd (no_gap (omega arith) a)) gap_above k r a)

-- THE FIGURES
pub least_A : Least measure ties 1 2
least_A = record { tree = tree_A; costs = tree_A_size; smallest = tree_above }

pub least_S : Least measure ties 0 5
least_S = record { tree = tree_S; costs = tree_S_size; smallest = start_above }

pub context_S : Context measure ties 0 0
context_S = record { tree = root; costs = root_size; smallest = λ t. omega arith }

pub context_A : Context measure ties 1 3
context_A = record { tree = open_A; costs = open_A_size; smallest = open_above }

-- the sizes of symbols together
abbrev sum : List ℕ → ℕ
sum [] = 0
sum (zero ∷ w) = 5 + sum w
sum (suc zero ∷ w) = 2 + sum w
sum (suc (suc s) ∷ w) = 1 + sum w

sizes : (w : List ℕ) → Sizes measure ties w (sum w)
sizes [] = no_symbols
sizes (zero ∷ w) = nonterminal is_S least_S (sizes w)
sizes (suc zero ∷ w) = nonterminal is_A least_A (sizes w)
sizes (suc (suc s) ∷ w) = terminal {s = suc (suc s)} (omega arith) (sizes w)

size : {k A : ℕ} {w : List ℕ} → RuleAt ties k A w → RuleSize measure ties A k (1 + sum w)
size {w = w} r = record { w = w; rule = r; others = sum w; sizes = sizes w; is = refl }

pub totals : (r : ℕ) → r < 4 → Total measure ties r 5
totals zero l = record { A = 0; outer = 0; context = context_S; size = 5; rule = size rule_0; is = refl }
totals (suc zero) l = record { A = 1; outer = 3; context = context_A; size = 2; rule = size rule_1; is = refl }
totals (suc (suc zero)) l = record { A = 1; outer = 3; context = context_A; size = 2; rule = size rule_2; is = refl }
totals (suc (suc (suc zero))) l = record { A = 0; outer = 0; context = context_S; size = 5; rule = size rule_3; is = refl }
totals (suc (suc (suc (suc r)))) l = absurd (omega arith)

-- THE CHOICES. The rules of A are 1 and 2, of one size.
rules_of_A : (j : ℕ) {w : List ℕ} → RuleAt ties j 1 w → (1 ≤ j) × (j ≤ 2)
rules_of_A j r =
    let P : ℕ → ℕ → List ℕ → Type 0 = λ j A w. A ≡ 1 → (1 ≤ j) × (j ≤ 2) in
    on_rules P (λ e. absurd (omega arith)) (λ e. (omega arith, omega arith)) (λ e. (omega arith, omega arith))
    (λ e. absurd (omega arith)) j r refl

pub chosen_A : Chosen measure ties 1 1
chosen_A =
    record { figure = 2; least = least_A; attains = size rule_1; lowest = λ j h. let b = rules_of_A j h.rule in omega arith }

pub chosen_S : Chosen measure ties 0 0
chosen_S = record { figure = 5; least = least_S; attains = size rule_0; lowest = λ j h. omega arith }

-- A comes to 3 at either place of either rule of S.
pub at_first : {k : ℕ} → RuleAt ties k 0 AA → Candidate measure ties 1 k 0 3
at_first r = record {
  B = 0;
  w = AA;
  rule = r;
  outer = 0;
  context = context_S;
  others = 2;
  beside = at_place is_A (sizes _);
  is = refl;
}

pub at_second : {k : ℕ} → RuleAt ties k 0 AA → Candidate measure ties 1 k 1 3
at_second r = record {
  B = 0;
  w = AA;
  rule = r;
  outer = 0;
  context = context_S;
  others = 2;
  beside = past_nonterminal is_A least_A (at_place is_A (sizes _));
  is = refl;
}

pub choice_A : ContextChoice measure ties 1 0 0
choice_A = record {
  other = λ e. omega arith;
  figure = 3;
  context = context_A;
  attains = at_first rule_0;
  first = elim [ zero ↦ λ h z. inr (refl, omega arith) | suc j ↦ λ h z. inl (omega arith) ];
}
