-- For the private functions of the layers above: what they know of words that were read. Nobody has to believe this file; the
-- promises do not cite it. Assumes nothing.
use Rattle.std.specs.Prelude.{◌≡◌, List, ℕ, ◌<◌, get_or}
use Rattle.grammar.specs.Words.{Grammar, R, place_of, layout, reads}

-- a grammar of n nonterminals and so many rules, which stand at these indexes
pub record View (ws places : List ℕ) (n rules : ℕ) (g : Grammar) : Type 0 where
  pub is : layout ws ≡ reads g
  pub begin : (k : ℕ) → k < R g → get_or places k 0 ≡ place_of g k
  pub nonterminals : n ≡ g.N
  pub all_rules : rules ≡ R g

-- the words are a grammar's, with this start besides
pub record Begun (ws places : List ℕ) (n start rules : ℕ) : Type 0 where
  pub grammar : Grammar
  pub view : View ws places n rules grammar
  pub first : start ≡ grammar.start
