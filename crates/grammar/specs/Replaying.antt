-- "Replay: words and a list of rule numbers to the sentence of that leftmost derivation, starting from the start symbol." As a
-- function: the sentence, or "first number that does not apply, or list length if nonterminals remain". That it says what
-- Derivation.antt says is a law (proofs/Replay).
-- Assumes nothing.
use Rattle.std.specs.Prelude.{Bool, true, false, List, [], ◌∷◌, ◌++◌, ℕ, suc, eqb, ltb}
use Rattle.std.proofs.Math.Option.{Option, some, none}
use Rattle.std.proofs.Math.ListN.{get_elem?}
use Rattle.grammar.specs.Words.{Grammar, Rule, ◌⟶◌}
use Rattle.grammar.specs.Derivation.{Start}

-- what a replay comes to: a sentence, or the place where it stops
pub data Replayed : Type 0 where
  derived : List ℕ → Replayed
  stopped : ℕ → Replayed

-- x in front, of what there is
abbrev pub before : ℕ → Option (List ℕ) → Option (List ℕ)
before x none = none
before x (some xs) = some (x ∷ xs)

-- w where the test holds
abbrev pub where_true : Bool → List ℕ → Option (List ℕ)
where_true true w = some w
where_true false w = none

-- Aβ by a rule, if it is one of A
abbrev pub opened : ℕ → List ℕ → Option Rule → Option (List ℕ)
opened A β none = none
opened A β (some (B ⟶ α)) = where_true (eqb A B) (α ++ β)

-- at a symbol: a nonterminal is opened, a terminal passed
abbrev pub at_symbol : Bool → ℕ → Option (List ℕ) → Option (List ℕ) → Option (List ℕ)
at_symbol true s o p = o
at_symbol false s o p = before s p

-- the form after a leftmost step by rule k, if that applies
unfoldable pub stepped : Grammar → ℕ → List ℕ → Option (List ℕ)
stepped g k [] = none
stepped g k (s ∷ σ) = at_symbol (ltb s g.N) s (opened s σ (get_elem? g.rules k)) (stepped g k σ)

-- no nonterminal is left
abbrev pub neither : Bool → Bool → Bool
neither true b = false
neither false b = b

unfoldable pub complete? : Grammar → List ℕ → Bool
complete? g [] = true
complete? g (s ∷ σ) = neither (ltb s g.N) (complete? g σ)

-- after the last number: the form, if it is complete
abbrev pub ending : Bool → List ℕ → ℕ → Replayed
ending true σ p = derived σ
ending false σ p = stopped p

-- the numbers in turn, from the form σ; p is the place of the first of them
unfoldable pub replayed : Grammar → List ℕ → ℕ → List ℕ → Replayed
replayed g [] p σ = ending (complete? g σ) σ p
replayed g (k ∷ ks) p σ = elim (stepped g k σ) [ some τ ↦ replayed g ks (suc p) τ | none ↦ stopped p ]

-- the numbers, from the start symbol
unfoldable pub replay : Grammar → List ℕ → Replayed
replay g ks = replayed g ks 0 (Start g)
