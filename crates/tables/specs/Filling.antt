-- For the private functions of fill: the figures that a table is filled with, as they stand in the arrays that they are worked out
-- in. Nobody has to believe this file; the promises do not cite it. Assumes nothing.
use Rattle.std.specs.Prelude.{ℕ, ◌≤◌, ◌≡◌, List, Option, unwrap_or, length, get_or}
use Rattle.grammar.specs.Certificates.{Figures}
use Rattle.grammar.specs.Terms.{measure}
use Rattle.entries.specs.Table.{no_choice, length_for}
use Rattle.entries.specs.Writing.{table_of, entered_to, totalled_to}
use Rattle.answers.specs.Buffers.{over}
use Rattle.figures.specs.Figures.{figure}
use Rattle.tables.specs.Choices.{choice}
use Rattle.tables.specs.declared.choices.Choices.{Choices}
use Rattle.tables.specs.declared.choices.Lead.{Lead}
use Rattle.tables.specs.declared.contexts.GrammarFigures.{GrammarFigures}

-- the words of a choice, and of none
abbrev pub rule_or_none : Option ℕ → ℕ
rule_or_none o = unwrap_or o no_choice

abbrev pub lead_or_none : Option Lead → Lead
lead_or_none o = unwrap_or o (record { rule = no_choice; place = no_choice })

unfoldable pub found_in : (leasts : List ℕ) (chosen : List (Option ℕ)) (contexts : List ℕ) (leads : List (Option Lead))
    (totals : List ℕ) →
    Figures measure
found_in leasts chosen contexts leads totals = record {
  least = figure leasts;
  chosen = λ A. rule_or_none (choice chosen A);
  context = figure contexts;
  rule = λ A. (lead_or_none (choice leads A)).rule;
  place = λ A. (lead_or_none (choice leads A)).place;
  total = λ r. get_or totals r 0;
}

abbrev pub figures_in : GrammarFigures → Choices → Figures measure
figures_in f c = found_in f.leasts.now c.chosen.now f.contexts.now c.leads.now f.totals.now

-- A buffer has room for the table; it has the entries of the nonterminals below a in it; those of all, and the totals of the rules
-- below r; and the table.
abbrev pub HasRoom : GrammarFigures → List ℕ → Type 0
HasRoom f table = length_for f.reading.now.nonterminals f.reading.now.rules ≤ length table

abbrev pub EnteredTo : GrammarFigures → Choices → ℕ → List ℕ → List ℕ → Type 0
EnteredTo f c a before after =
    after ≡ entered_to f.reading.now.nonterminals f.reading.now.rules (figures_in f c) before a

abbrev pub TotalledTo : GrammarFigures → Choices → ℕ → List ℕ → List ℕ → Type 0
TotalledTo f c r before after =
    after ≡ totalled_to f.reading.now.nonterminals f.reading.now.rules (figures_in f c) before r

abbrev pub Filled : GrammarFigures → Choices → List ℕ → List ℕ → Type 0
Filled f c before after =
    after ≡ over (table_of f.reading.now.nonterminals f.reading.now.rules (figures_in f c)) before
