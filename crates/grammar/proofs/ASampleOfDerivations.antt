-- A sample of derivations, over document 01's deck grammar D, and of production coverage. The numbers of a rightmost derivation
-- are no leftmost one: they stop at the first that is not for the leftmost nonterminal. Coverage asks for the last rule too.
-- Proved from the definitions alone. Assumes nothing.
use Prim.Native.Nat.{ℕ, zero, suc, ◌<◌}
use native.Mathlib.Omega.{arith}
use mathlib.Core.Path.{◌≡◌, refl}
use mathlib.Core.List.{List, [], ◌∷◌}
use Rattle.grammar.specs.Words.{RuleAt}
use Rattle.grammar.specs.Derivation.{Step, step, Steps, none, more, Start, Through, ProductionCoverage}
use Rattle.grammar.specs.Derivation.{LeftStep, left, done, next, Derives, inapt, StopsAt}
use Rattle.grammar.specs.Samples.{D, empty_rule}

rule_0 : RuleAt D 0 0 (1 ∷ [])
rule_0 = record { stands = refl; left = omega arith }

rule_1 : RuleAt D 1 0 (1 ∷ 3 ∷ 0 ∷ [])
rule_1 = record { stands = refl; left = omega arith }

rule_2 : RuleAt D 2 1 (2 ∷ 4 ∷ [])
rule_2 = record { stands = refl; left = omega arith }

rule_3 : RuleAt D 3 1 (5 ∷ [])
rule_3 = record { stands = refl; left = omega arith }

rule_4 : RuleAt D 4 2 []
rule_4 = record { stands = refl; left = omega arith }

-- "replay 0 2 4 over D: sentence 4"
pub derives : Derives D (0 ∷ 2 ∷ 4 ∷ []) (4 ∷ [])
derives = record {
  leftmost = next (left [] [] tt rule_0) (next (left [] [] tt rule_2) (next (left [] (4 ∷ []) tt rule_4) done));
  complete = (omega arith, tt);
}

-- 1 0 3 3 is a rightmost derivation of 5 3 5
pub rightmost : Steps D (Start D) (5 ∷ 3 ∷ 5 ∷ [])
rightmost = more (step [] [] rule_1) (more (step (1 ∷ 3 ∷ []) [] rule_0) last_two)
  where
    last_two : Steps D (1 ∷ 3 ∷ 1 ∷ []) (5 ∷ 3 ∷ 5 ∷ [])
    last_two = more (step (1 ∷ 3 ∷ []) [] rule_3) (more (step [] (3 ∷ 5 ∷ []) rule_3) none)

-- and no leftmost one: after 1 the form is 1 3 0, where rule 0, of nonterminal 0, is not for the leftmost one
not_for_leftmost : {σ τ : List ℕ} → LeftStep D 0 σ τ → σ ≡ 1 ∷ 3 ∷ 0 ∷ [] → ⊥
not_for_leftmost (left [] {A = A} β terminals r) e = let s = r.stands in let x : A ≡ 1 = cc in let y : A ≡ 0 = cc in omega arith
not_for_leftmost (left (s ∷ w) β terminals r) e = let x : s ≡ 1 = cc in omega arith

pub rightmost_stops : StopsAt D (1 ∷ 0 ∷ 3 ∷ 3 ∷ []) 1
rightmost_stops = record {
  applied = 1 ∷ [];
  others = 0 ∷ 3 ∷ 3 ∷ [];
  form = 1 ∷ 3 ∷ 0 ∷ [];
  all = refl;
  place = refl;
  leads = next (left [] [] tt rule_1) done;
  halts = inapt (λ τ s. not_for_leftmost s refl);
}

-- S ⟶ ε is the only rule and so the last: no sentences do not cover it, and the empty sentence does
pub nothing_covers : ¬ ProductionCoverage empty_rule (λ t. ⊥)
nothing_covers c = (c.covered 0 (omega arith)).1

pub empty_covers : ProductionCoverage empty_rule (λ t. t ≡ [])
empty_covers = record { within = λ t e. rw e (record { over = tt; derived = more applies none }); covered = at }
  where
    only : RuleAt empty_rule 0 0 []
    only = record { stands = refl; left = omega arith }

    applies : Step empty_rule (0 ∷ []) []
    applies = step [] [] only

    at : (k : ℕ) → k < 1 → (t : List ℕ) × (t ≡ []) × Through empty_rule k (0 ∷ []) t
    at zero l = (
      [],
      refl,
      record {
        A = 0;
        α = [];
        γ = [];
        β = [];
        rule = only;
        reaches = none;
        applies = applies;
        finishes = none;
      },
    )
    at (suc k) l = absurd (omega arith)
