-- What the words of a table mean. Document 01: "The table: for each nonterminal five words (least, chosen rule, context, context
-- rule, place counted from 0), then one total per rule, 5N + R words for R rules. The start has 65535 for context rule and
-- place." Where each stands is said by the first definitions, and who reads or writes a table goes by their names.
-- Assumes nothing.
use Rattle.std.specs.Prelude.{ℕ, ◌+◌, ◌*◌, ◌<◌, ◌≡◌, List, length, get_or, take}
use Rattle.grammar.specs.Words.{Grammar, R}
use Rattle.grammar.specs.Least.{Least, Chosen, Context, ContextChoice, Total}
use Rattle.grammar.specs.Refusals.{Accepted}
use Rattle.grammar.specs.Terms.{measure, limit}

-- "5N + R words for R rules"
abbrev pub length_for : ℕ → ℕ → ℕ
length_for n rules = 5 * n + rules

abbrev pub table_length : Grammar → ℕ
table_length g = length_for g.N (R g)

-- the most words that a table has: those of 128 nonterminals and 256 rules
abbrev pub most_table : ℕ
most_table = 896

-- "for each nonterminal five words": word j of those of A
abbrev pub entry : List ℕ → ℕ → ℕ → ℕ
entry ws A j = get_or ws (5 * A + j) 0

-- "least, chosen rule, context, context rule, place counted from 0"
abbrev pub least_in : List ℕ → ℕ → ℕ
least_in ws A = entry ws A 0

abbrev pub chosen_in : List ℕ → ℕ → ℕ
chosen_in ws A = entry ws A 1

abbrev pub context_in : List ℕ → ℕ → ℕ
context_in ws A = entry ws A 2

abbrev pub rule_in : List ℕ → ℕ → ℕ
rule_in ws A = entry ws A 3

abbrev pub place_in : List ℕ → ℕ → ℕ
place_in ws A = entry ws A 4

-- "then one total per rule", behind the words of n nonterminals
abbrev pub total_in : ℕ → List ℕ → ℕ → ℕ
total_in n ws r = get_or ws (5 * n + r) 0

-- "The start has 65535 for context rule and place."
abbrev pub no_choice : ℕ
no_choice = 65535

pub record IsTable (g : Grammar) (ws : List ℕ) : Type 0 where
  pub long : length ws ≡ table_length g
  pub leasts : (A : ℕ) → A < g.N → Least measure g A (least_in ws A)
  pub chosen : (A : ℕ) → A < g.N → Chosen measure g A (chosen_in ws A)
  pub contexts : (A : ℕ) → A < g.N → Context measure g A (context_in ws A)
  pub choices : (A : ℕ) → A < g.N → ¬ (A ≡ g.start) → ContextChoice measure g A (rule_in ws A) (place_in ws A)
  pub start_rule : rule_in ws g.start ≡ no_choice
  pub start_place : place_in ws g.start ≡ no_choice
  pub totals : (r : ℕ) → r < R g → Total measure g r (total_in g.N ws r)

-- the first 5N + R of these words are there and are the grammar's table; what follows them is not looked at
abbrev pub HasTable : Grammar → List ℕ → Type 0
HasTable g ws = IsTable g (take (table_length g) ws)

-- accepted, and the table is its own
abbrev pub Own : List ℕ → Grammar → Type 0
Own table g = Accepted limit g × HasTable g table
