-- For the private functions of passes: the tests of a lent table, each of single entries of it and each of one rule or nonterminal.
-- That they together say that the grammar is accepted and the table is its own is a law (proofs/TestsExact). Nobody has to
-- believe this file; the promises do not cite it.
-- Below, v A and u A are the least and the context that the table has for A.
-- Assumes nothing.
use Rattle.std.specs.Prelude.{ℕ, ◌+◌, ◌≤◌, ◌<◌, ◌≡◌, ◌⊎◌, ◌↔◌, Bool, IsTrue, List, length, Option, Some, None}
use Rattle.grammar.specs.Words.{Grammar, RuleAt}
use Rattle.grammar.specs.Terms.{measure, limit}
pub use Rattle.layout.specs.Sides.{left_of, right_of}
use Rattle.grammar.specs.Certificates.{word_size, Holds}
use Rattle.entries.specs.Table.{table_length, least_in, chosen_in, context_in, rule_in, place_in, total_in, no_choice}
use Rattle.layout.specs.Read.{ReadsAs}
use Rattle.layout.specs.declared.reading.Reading.{Reading}

-- a test's answer on the grammar that was read
abbrev pub Answer : Reading → (Grammar → Type 0) → Bool → Type 0
Answer v P r = (g : Grammar) → ReadsAs v g → IsTrue r ↔ P g

-- The symbol B at place i of rule k, whose total is t: v B + u B is at most t, and where it is t the context rule and place of B
-- do not come after k and i.
pub record PlacePasses (table : List ℕ) (B k i t : ℕ) : Type 0 where
  pub below : least_in table B + context_in table B ≤ t
  pub first : least_in table B + context_in table B ≡ t → (rule_in table B < k) ⊎ ((rule_in table B ≡ k) × (place_in table B ≤ i))

-- at each place of w that holds a nonterminal
abbrev pub PlacesPass : List ℕ → ℕ → ℕ → ℕ → List ℕ → Type 0
PlacesPass table n k t w = (i B : ℕ) → Holds w i B → B < n → PlacePasses table B k i t

-- The left side A of rule k, whose size is x and whose total is t: t is u A + x, v A is at most x, and where it is x the chosen
-- rule of A does not come after k.
pub record LeftPasses (table : List ℕ) (A k x t : ℕ) : Type 0 where
  pub total : context_in table A + x ≡ t
  pub below : least_in table A ≤ x
  pub first : least_in table A ≡ x → chosen_in table A ≤ k

-- the size of a rule by the leasts that the table has
abbrev pub size_in : Grammar → List ℕ → List ℕ → ℕ
size_in g table w = 1 + word_size measure g (least_in table) w

-- rule k, A ⟶ w, whose total is t
pub record RulePasses (g : Grammar) (table : List ℕ) (k t A : ℕ) (w : List ℕ) : Type 0 where
  pub fits : t ≤ limit
  pub places : PlacesPass table g.N k t w
  pub left : LeftPasses table A k (size_in g table w) t

-- rule k, whose total is that of the table
abbrev pub RulePassesAt : Grammar → List ℕ → ℕ → Type 0
RulePassesAt g table k = (A : ℕ) (w : List ℕ) → RuleAt g k A w → RulePasses g table k (total_in g.N table k) A w

abbrev pub RulesPass : Grammar → List ℕ → Type 0
RulesPass g table = (k : ℕ) → RulePassesAt g table k

-- the total of rule k, of n nonterminals, is v A + u A
abbrev pub ComesTo : ℕ → List ℕ → ℕ → ℕ → Type 0
ComesTo n table k A = total_in n table k ≡ least_in table A + context_in table A

-- the chosen rule of A is one of A, and its total is v A + u A
pub record ChosenPasses (g : Grammar) (table : List ℕ) (A : ℕ) : Type 0 where
  pub w : List ℕ
  pub rule : RuleAt g (chosen_in table A) A w
  pub total : ComesTo g.N table (chosen_in table A) A

-- the context rule of A has A at the context place, and its total is v A + u A
pub record ContextPasses (g : Grammar) (table : List ℕ) (A : ℕ) : Type 0 where
  pub B : ℕ
  pub w : List ℕ
  pub rule : RuleAt g (rule_in table A) B w
  pub holds : Holds w (place_in table A) A
  pub total : ComesTo g.N table (rule_in table A) A

-- the context of A, which is the start, is 0, with no rule and no place
pub record StartPasses (table : List ℕ) (A : ℕ) : Type 0 where
  pub context : context_in table A ≡ 0
  pub rule : rule_in table A ≡ no_choice
  pub place : place_in table A ≡ no_choice

-- the choices of A
pub record ChoicePasses (g : Grammar) (table : List ℕ) (A : ℕ) : Type 0 where
  pub chosen : ChosenPasses g table A
  pub at_start : A ≡ g.start → StartPasses table A
  pub context : ¬ (A ≡ g.start) → ContextPasses g table A

abbrev pub ChoicesPass : Grammar → List ℕ → Type 0
ChoicesPass g table = (A : ℕ) → A < g.N → ChoicePasses g table A

-- ALL TESTS
pub record TablePasses (g : Grammar) (table : List ℕ) : Type 0 where
  pub long : table_length g ≤ length table
  pub choices : ChoicesPass g table
  pub rules : RulesPass g table

-- What `size_passes` gives for rule k, whose total is t: none where a place does not pass, else the size.
abbrev pub SizePasses : Reading → List ℕ → ℕ → ℕ → Option ℕ → Type 0
SizePasses v table k t None = ¬ PlacesPass table v.nonterminals k t (right_of v k)
SizePasses v table k t (Some x) =
    PlacesPass table v.nonterminals k t (right_of v k) ×
    ((g : Grammar) → v.nonterminals ≡ g.N → x ≡ size_in g table (right_of v k))
