-- The outcomes of working a table out, each a row of document 01: what the functions on the way promise each other, put together.
-- Assumes nothing.
use Prim.Native.Nat.{ℕ, ◌+◌, ◌*◌, ◌≤◌, ◌<◌}
use native.Mathlib.Omega.{arith}
use mathlib.Core.Path.{◌≡◌, refl, sym, ap, ◌∙◌, subst}
use mathlib.Core.List.{List}
use lib.ListN.{length, get_or}
use Rattle.std.specs.Prelude.{Option, Some, None}
use Rattle.std.specs.Borrow.{Bor}
use Rattle.answers.specs.Buffers.{over}
use Rattle.grammar.specs.Words.{Grammar, RuleAt, R, InBounds, layout, reads}
use Rattle.grammar.specs.Refusals.{AllTrees, Accepted}
use Rattle.grammar.specs.Rows.{row_5, row_6, row_7}
use Rattle.grammar.specs.Terms.{limit}
use Rattle.grammar.specs.Caps.{ceiling}
use Rattle.grammar.proofs.LayoutExact.{in_bounds, reads_unique}
use Rattle.grammar.proofs.RuleNumbers.{rule_number}
use Rattle.grammar.proofs.CappedTotals.{all_fit_exact}
use Rattle.layout.specs.Read.{ReadsAs}
use Rattle.layout.specs.View.{Begun}
use Rattle.layout.proofs.WordsRead.{begun_of}
use Rattle.entries.specs.Table.{length_for, table_length}
use Rattle.entries.specs.Writing.{table_of}
use Rattle.figures.specs.Figures.{figure, FirstAbove, found_none}
use Rattle.figures.proofs.FiguresFall.{figure_is}
use Rattle.leasts.specs.Promise.{FiguresOf, FiguresFound}
use Rattle.leasts.specs.declared.FoundLeasts.{FoundLeasts}
use Rattle.tables.specs.Promise.{Tables, row_4_7, row_3, row_done}
use Rattle.tables.specs.ContextFigures.{Grown, ContextsRest, ContextsDone, TotalsOf}
use Rattle.tables.specs.Choices.{ChosenOf, LeadsOf}
use Rattle.tables.specs.Filling.{found_in}
use Rattle.tables.specs.declared.TableAnswer.TheVariants.{Done, Refused}
use Rattle.tables.specs.declared.choices.Lead.{Lead}
use Rattle.tables.proofs.RowsFound.{row_5_found, leasts-found, sizes-found, all_trees, row_6_found, contexts_found}
use Rattle.tables.proofs.RowsFound.{figures, all_reached, row_7_found, all_fit}
use Rattle.tables.proofs.TableFound.{table_found}

module _ {words : Bor (List ℕ)} {found : FoundLeasts} (of_words : FiguresFound words found) where
  is_read : {g : Grammar} → ReadsAs found.reading g → layout words.now ≡ reads g
  is_read view = ap (λ (w : Bor (List ℕ)). layout w.now) (sym of_words.same) ∙ view.is

  begun : Begun found.reading.words.now found.reading.places found.reading.nonterminals found.reading.start found.reading.rules
  begun = begun_of found.reading

  measured : FiguresOf begun.grammar found.leasts found.sizes
  measured =
      let (g, read, figured) = of_words.figures in
      subst (λ h. FiguresOf h found.leasts found.sizes) (reads_unique words.now read (is_read begun.view)) figured

  -- 5, or what goes on
  pub refuses_5 : {before : List ℕ} {a : ℕ} → FirstAbove found.leasts found.reading.nonterminals ceiling (Some a) →
      Tables words.now before (Refused 5 a) before
  refuses_5 {a = a} search =
      row_4_7 (row_5 (is_read begun.view) (row_5_found begun.grammar found.leasts found.sizes measured a
      (rw begun.view.nonterminals at search)))

  pub grown : FirstAbove found.leasts found.reading.nonterminals ceiling None → Grown found
  grown search =
      let none = rw begun.view.nonterminals at search in
      record {
        grammar = begun.grammar;
        view = begun.view;
        first = begun.first;
        leasts = leasts-found begun.grammar found.leasts found.sizes measured none;
        sizes_are = sizes-found begun.grammar found.leasts found.sizes measured none;
      }

  module _ (known : Grown found) where
    trees : AllTrees known.grammar
    trees = all_trees known.grammar found.leasts known.leasts

    -- 6, or what goes on
    module _ (us : List ℕ) (rest : ContextsRest known.grammar found.leasts us) where
      pub refuses_6 : {before : List ℕ} {a : ℕ} → FirstAbove us found.reading.nonterminals ceiling (Some a) →
          Tables words.now before (Refused 6 a) before
      refuses_6 {a = a} search =
          row_4_7 (row_6 (is_read known.view) trees (row_6_found known.grammar found.leasts known.leasts us rest a
          (rw known.view.nonterminals at search)))

      pub placed : FirstAbove us found.reading.nonterminals ceiling None → ContextsDone known.grammar found.leasts us
      placed search = contexts_found known.grammar found.leasts known.leasts us rest (rw known.view.nonterminals at search)

    -- 7, 3, or the table
    module _ (us totals : List ℕ) (done : ContextsDone known.grammar found.leasts us)
        (of-totals : TotalsOf known.grammar us found.sizes totals) (long : 256 ≤ length totals) where
      ok : InBounds known.grammar
      ok = in_bounds found.reading.words.now known.view.is

      enough : R known.grammar ≤ length totals
      enough = omega (arith, ok.at_most_256)

      pub refuses_7 : {before : List ℕ} {a : ℕ} → FirstAbove totals found.reading.rules limit (Some a) →
          Tables words.now before (Refused 7 a) before
      refuses_7 {a = a} search =
          row_4_7 (row_7 (is_read known.view) trees (all_reached known.grammar found.leasts known.leasts us done)
          (row_7_found known.grammar found.leasts known.leasts us done found.sizes totals known.sizes_are of-totals enough ok a
          (rw known.view.all_rules at search)))

      module _ (search : FirstAbove totals found.reading.rules limit None) where
        accepts : Accepted limit known.grammar
        accepts = record {
          trees = trees;
          reached = all_reached known.grammar found.leasts known.leasts us done;
          fit = all_fit known.grammar found.leasts known.leasts us done found.sizes totals known.sizes_are of-totals enough ok
              (rw known.view.all_rules at search);
        }

        needed : length_for found.reading.nonterminals found.reading.rules ≡ table_length known.grammar
        needed = rw (known.view.nonterminals, known.view.all_rules) refl

        pub refuses_3 : {before : List ℕ} {m : ℕ} → m ≡ length_for found.reading.nonterminals found.reading.rules →
            length before < m → Tables words.now before (Refused 3 m) before
        refuses_3 is l = rw (is, needed) (row_3 (is_read known.view) accepts (omega (arith, l, is, needed)))

        -- no total is cut
        exact : (k A : ℕ) (w : List ℕ) → RuleAt known.grammar k A w → get_or totals k 0 ≡ figure us A + get_or found.sizes k 0
        exact k A w r = go (rw known.view.all_rules at search)
          where
            go : FirstAbove totals (R known.grammar) limit None → get_or totals k 0 ≡ figure us A + get_or found.sizes k 0
            go (found_none all) =
                let low = all k (rule_number r) in
                let l = rule_number r in
                let at = figure_is totals k 0 (omega (arith, enough)) in
                let cut = of-totals k A w r in
                omega arith

        pub finishes : {before after : List ℕ} {m : ℕ} → m ≡ length_for found.reading.nonterminals found.reading.rules →
            m ≤ length before → (chosen : List (Option ℕ)) (leads : List (Option Lead)) →
            ChosenOf known.grammar found.leasts found.sizes chosen found.reading.rules →
            LeadsOf known.grammar found.leasts us totals leads (32 * found.reading.rules) →
            after ≡ over (table_of found.reading.nonterminals found.reading.rules
            (found_in found.leasts chosen us leads totals)) before →
            Tables words.now before (Done m) after
        finishes {before} is l chosen leads of_chosen of_leads filled =
            let all = figures known.grammar found.leasts known.leasts us done in
            let (leasts, contexts) =
            all_fit_exact limit (omega arith) known.grammar (figure found.leasts) (figure us) all accepts.fit in
            let table = table_found known.grammar ok found.leasts us found.sizes totals chosen leads leasts contexts known.sizes_are
            exact
            (rw known.view.all_rules at of_chosen) (rw known.view.all_rules at of_leads) in
            let written = rw (known.view.nonterminals, known.view.all_rules) at filled in
            rw (is, needed, written) (row_done (is_read known.view) accepts (omega (arith, l, is, needed)) table)
