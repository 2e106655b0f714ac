-- What stands at a place of a list: whether something does, whether it is A, and that what is a member stands at a place. Rules
-- are found by their numbers and nonterminals in right sides by these.
-- Assumes nothing.
use Prim.Native.Nat.{ℕ, suc}
use native.Mathlib.Decide.{ℕ_discrete}
use mathlib.Core.Path.{◌≡◌, refl, sym, ap}
use mathlib.Core.Logic.{◌⊎◌, inl, inr}
use mathlib.Core.List.Memᴰ
use mathlib.Core.List.{List, [], ◌∷◌}
use mathlib.Core.Option.{Option, some, none}
use lib.ListN.{get_elem?}
use Rattle.grammar.specs.Tree.{◌∈◌}
use Rattle.grammar.specs.Certificates.{Holds}
use Rattle.grammar.proofs.ConstructorsDiffer.{none_not_some}

-- an element stands at place i of xs, or none does
abbrev pub ElementOrNone : {X : Type 0} → List X → ℕ → Type 0
ElementOrNone {X} xs i = ((x : X) × (get_elem? xs i ≡ some x)) ⊎ ((x : X) → get_elem? xs i ≡ some x → ⊥)

pub element? : {X : Type 0} (xs : List X) (i : ℕ) → ElementOrNone xs i
element? {X} xs i = go (get_elem? xs i) refl
  where
    go : (o : Option X) → get_elem? xs i ≡ o → ElementOrNone xs i
    go none e = inr (λ x h. none_not_some (rw e at h))
    go (some x) e = inl (x, e)

pub holds? : (w : List ℕ) (i A : ℕ) → Dec (Holds w i A)
holds? w i A = go (element? w i)
  where
    go : ElementOrNone w i → Dec (Holds w i A)
    go (inr no_one) = no (no_one A)
    go (inl (s, h)) = pick (ℕ_discrete s A)
      where
        pick : Dec (s ≡ A) → Dec (Holds w i A)
        pick (yes e) = yes (rw e at h)
        pick (no n) = no (λ k. n cc)

-- what stands in w stands at a place
pub place_of_lem : (w : List ℕ) (A : ℕ) → A ∈ w → (i : ℕ) × Holds w i A
place_of_lem [] A m = absurd (Memᴰ.not-nil m)
place_of_lem (s ∷ w) A m = go (λ m'. place_of_lem w A m') (Memᴰ.cases_cons m)
  where
    go : (A ∈ w → (i : ℕ) × Holds w i A) → (A ≡ s) ⊎ A ∈ w → (i : ℕ) × Holds (s ∷ w) i A
    go later (inl e) = (0, ap some (sym e))
    go later (inr m') = let z = later m' in (suc z.0, z.1)
