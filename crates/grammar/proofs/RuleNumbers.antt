-- A number is at most one rule's: two rules of one number are the same, a rule's number is below R, and of any number it is
-- decided whether a rule has it. Every comparison of trees and every search among rules starts here.
-- Assumes nothing.
use Prim.Native.Nat.{ℕ, zero, suc, ◌<◌}
use native.Mathlib.Omega.{arith}
use native.Mathlib.Decide.{dec_lt}
use mathlib.Core.Path.{◌≡◌, refl}
use mathlib.Core.Logic.{◌⊎◌, inl, inr}
use mathlib.Core.List.{List, [], ◌∷◌}
use mathlib.Core.Option.{some}
use lib.ListN.{length, get_elem?}
use Rattle.grammar.specs.Words.{Grammar, ◌⟶◌, RuleAt, R}
use Rattle.grammar.proofs.ConstructorsDiffer.{none_not_some}
use Rattle.grammar.proofs.Places.{ElementOrNone, element?}

-- two rules of one number have the same left side and the same right side
pub rule_left : {g : Grammar} {k k' A A' : ℕ} {w w' : List ℕ} → k ≡ k' → RuleAt g k A w → RuleAt g k' A' w' → A ≡ A'
rule_left e r r' = cc (e, r.stands, r'.stands)

pub rule_right : {g : Grammar} {k k' A A' : ℕ} {w w' : List ℕ} → k ≡ k' → RuleAt g k A w → RuleAt g k' A' w' → w ≡ w'
rule_right e r r' = cc (e, r.stands, r'.stands)

-- what stands in a list stands below its length
pub rule_below : {X : Type 0} (rs : List X) (k : ℕ) (ρ : X) → get_elem? rs k ≡ some ρ → k < length rs
rule_below [] k ρ e = absurd (none_not_some e)
rule_below (σ ∷ rs) zero ρ e = omega arith
rule_below (σ ∷ rs) (suc k) ρ e = let l = rule_below rs k ρ e in omega arith

-- the number of a rule is below R
pub rule_number : {g : Grammar} {k A : ℕ} {w : List ℕ} → RuleAt g k A w → k < R g
rule_number {g} {k} {A} {w} r = rule_below g.rules k (A ⟶ w) r.stands

abbrev pub RuleOrNone : Grammar → ℕ → Type 0
RuleOrNone g k = ((A : ℕ) × (w : List ℕ) × RuleAt g k A w) ⊎ ((A : ℕ) (w : List ℕ) → RuleAt g k A w → ⊥)

-- the rule of a number, if it has one
pub rule? : (g : Grammar) (k : ℕ) → RuleOrNone g k
rule? g k = go (element? g.rules k)
  where
    go : ElementOrNone g.rules k → RuleOrNone g k
    go (inr no_one) = inr (λ A w r. no_one (A ⟶ w) r.stands)
    go (inl (A ⟶ w, e)) = at (dec_lt A g.N)
      where
        at : Dec (A < g.N) → RuleOrNone g k
        at (yes lt) = inl (A, w, record { stands = e; left = lt })
        at (no n) = inr (λ B u r. let s = r.stands in let q : A ≡ B = cc in n (rw q r.left))

-- the rule of number k is some A ⟶ w with P
pub record OfRule (g : Grammar) (k : ℕ) (P : ℕ → List ℕ → Type 0) : Type 0 where
  pub A : ℕ
  pub w : List ℕ
  pub rule : RuleAt g k A w
  pub has : P A w

-- is decided where P is
pub of_rule? : (g : Grammar) (k : ℕ) (P : ℕ → List ℕ → Type 0) → ((A : ℕ) (w : List ℕ) → Dec (P A w)) → Dec (OfRule g k P)
of_rule? g k P decide = go (rule? g k)
  where
    go : RuleOrNone g k → Dec (OfRule g k P)
    go (inr no_rule) = no (λ z. no_rule z.A z.w z.rule)
    go (inl (A, w, r)) = pick (decide A w)
      where
        pick : Dec (P A w) → Dec (OfRule g k P)
        pick (yes h) = yes (record { A = A; w = w; rule = r; has = h })
        pick (no n) =
            no (λ z.
            let e : z.A ≡ A = rule_left refl z.rule r in
            let e' : z.w ≡ w = rule_right refl z.rule r in
            n (rw (e, e') at z.has))
