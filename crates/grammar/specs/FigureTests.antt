-- The tests of Certificates.antt on figures for a whole grammar, computed: one pass over the rules and their places, and one over
-- the nonterminals. Figures that are numbers, by any weights of the terminals; `figures?` is the test at document 01's measure.
-- That figures which pass have the certificate is a law (proofs/FigureTest).
-- Assumes nothing.
use Rattle.std.specs.Prelude.{ℕ, zero, suc, ◌+◌, Bool, true, false, ◌&&◌, ◌||◌, List, [], ◌∷◌, ltb, leb, eqb}
use Rattle.std.proofs.Math.Option.{Option, some, none}
use Rattle.std.proofs.Math.ListN.{get_elem?}
use Rattle.grammar.specs.Words.{Grammar, Rule, ◌⟶◌}
use Rattle.grammar.specs.Measure.{numbers}
use Rattle.grammar.specs.Terms.{measure}
use Rattle.grammar.specs.Certificates.{Figures, size_by, beside_by}

-- x is below y, or they are equal and b: with x smallest, b is asked where it is attained
abbrev pub firstly : ℕ → ℕ → Bool → Bool
firstly x y b = ltb x y || (eqb x y && b)

-- of each element of a list, with its number
abbrev pub every : {X : Type 0} → (ℕ → X → Bool) → List X → Bool
every f [] = true
every f (x ∷ xs) = f 0 x && every (λ i. f (suc i)) xs

-- of each number below n
abbrev pub each : (ℕ → Bool) → ℕ → Bool
each f zero = true
each f (suc n) = f n && each f n

-- of what is there
abbrev pub there : {X : Type 0} → (X → Bool) → Option X → Bool
there f none = false
there f (some x) = f x

module _ (tok : ℕ → ℕ) (g : Grammar) (F : Figures (numbers tok)) where
  open F use {least, chosen, context, rule, place, total}

  abbrev size : List ℕ → ℕ
  size = size_by (numbers tok) g F

  abbrev beside : List ℕ → ℕ → ℕ
  beside = beside_by (numbers tok) g F

  -- at place i of rule k, B ⟶ w, which holds A
  abbrev pub place_test : ℕ → ℕ → List ℕ → ℕ → ℕ → Bool
  place_test k B w i A = leb g.N A || firstly (context A) (context B + beside w i) (firstly (rule A) k (leb (place A) i))

  abbrev pub rule_test : ℕ → Rule → Bool
  rule_test k (B ⟶ w) =
      firstly (least B) (size w) (leb (chosen B) k) && (eqb (total k) (context B + size w) && every (place_test k B w) w)

  -- the rule of the choice is one of A, of the least size
  abbrev pub chosen_test : ℕ → Rule → Bool
  chosen_test A (B ⟶ w) = eqb B A && eqb (least A) (size w)

  -- the rule of the context choice has A at the place, and comes to the context
  abbrev pub choice_test : ℕ → Rule → Bool
  choice_test A (B ⟶ w) =
      ltb B g.N && (there (eqb A) (get_elem? w (place A)) && eqb (context A) (context B + beside w (place A)))

  abbrev pub chosen_passes : ℕ → Bool
  chosen_passes A = there (chosen_test A) (get_elem? g.rules (chosen A))

  abbrev pub choice_passes : ℕ → Bool
  choice_passes A = eqb A g.start || there (choice_test A) (get_elem? g.rules (rule A))

  abbrev pub figures_by? : Bool
  figures_by? = eqb (context g.start) 0 && (every rule_test g.rules && each (λ A. chosen_passes A && choice_passes A) g.N)

-- at document 01's measure, where a terminal counts 1
abbrev pub figures? : (g : Grammar) → Figures measure → Bool
figures? = figures_by? (λ s. 1)
