-- When rows 5, 6 and 7 of document 01's refusals are given: what they say of a grammar. The rows themselves, with number and
-- place, are the crate answers; the conditions of the other rows stand in the promises, with the buffers they speak of. What row
-- 7 compares with is a parameter here; document 01's is the `limit` of Terms.antt.
-- Assumes nothing.
use Rattle.std.specs.Prelude.{ℕ, ◌≤◌, ◌<◌, List, ◌∷◌, ◌++◌}
use Rattle.grammar.specs.Words.{Grammar, R}
use Rattle.grammar.specs.Derivation.{Steps, Start}
use Rattle.grammar.specs.Tree.{Tree}
use Rattle.grammar.specs.Least.{Total}
use Rattle.grammar.specs.Terms.{measure}

-- "lowest such"
pub record Lowest (P : ℕ → Type 0) (n : ℕ) : Type 0 where
  pub such : P n
  pub lowest : (m : ℕ) → P m → n ≤ m

-- 5: "a nonterminal has no complete tree"; and that this is not so
pub record NoTree (g : Grammar) (A : ℕ) : Type 0 where
  pub nonterminal : A < g.N
  pub none : ¬ Tree g A

abbrev pub AllTrees : Grammar → Type 0
AllTrees g = (A : ℕ) → A < g.N → Tree g A

-- 6: "a nonterminal occurs in no form derived from the start" (the start itself occurs, in no steps); and that this is not so
pub record Reached (g : Grammar) (A : ℕ) : Type 0 where
  pub γ : List ℕ
  pub β : List ℕ
  pub derived : Steps g (Start g) (γ ++ A ∷ β)

pub record Unreached (g : Grammar) (A : ℕ) : Type 0 where
  pub nonterminal : A < g.N
  pub never : ¬ Reached g A

abbrev pub AllReached : Grammar → Type 0
AllReached g = (A : ℕ) → A < g.N → Reached g A

-- 7: "some Total is above 4,096"; and that this is not so
pub record Oversize (limit : ℕ) (g : Grammar) (r : ℕ) : Type 0 where
  pub total : ℕ
  pub is : Total measure g r total
  pub above : limit < total

pub record Fits (limit : ℕ) (g : Grammar) (r : ℕ) : Type 0 where
  pub total : ℕ
  pub is : Total measure g r total
  pub within : total ≤ limit

abbrev pub AllFit : ℕ → Grammar → Type 0
AllFit limit g = (r : ℕ) → r < R g → Fits limit g r

-- what none of 4 to 7 refuses
pub record Accepted (limit : ℕ) (g : Grammar) : Type 0 where
  pub trees : AllTrees g
  pub reached : AllReached g
  pub fit : AllFit limit g
