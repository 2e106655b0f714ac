-- A grammar that rows 5 and 6 accept has a table: the figures and choices exist, and are put into words place by place. With
-- TableIsOne: exactly one. Assumes nothing.
use Prim.Native.Nat.{ℕ, ◌<◌}
use native.Mathlib.Decide.{ℕ_discrete}
use mathlib.Core.Path.{◌≡◌, refl, ◌∙◌}
use mathlib.Core.List.{List, List-discrete}
use lib.ListN.{take}
use Rattle.grammar.specs.Words.{Grammar, R, InBounds}
use Rattle.grammar.specs.Terms.{measure, limit}
use Rattle.grammar.specs.Least.{Least, Chosen, Context, ContextChoice, Total}
use Rattle.grammar.specs.Refusals.{AllTrees, AllReached, Accepted}
use Rattle.grammar.specs.Certificates.{Figures, AreFigures}
use Rattle.grammar.proofs.TreeOfExists.{least_exists, chosen_exists, context_exists, choice_exists, total_exists}
use Rattle.answers.proofs.Tabulate.{Picked, picked}
use Rattle.entries.specs.Table.{table_length, no_choice, IsTable, HasTable}
use Rattle.entries.specs.Writing.{table_of}
use Rattle.entries.proofs.TableIsOne.{table_unique}
use Rattle.entries.proofs.EntriesWritten.{table_long, at_least, at_chosen, at_context, at_rule, at_place, at_total}

-- FIGURES IN WORDS
pub words_are_table : (g : Grammar) (F : Figures measure) → InBounds g → AreFigures measure g F → F.rule g.start ≡ no_choice →
    F.place g.start ≡ no_choice → IsTable g (table_of g.N (R g) F)
words_are_table g F ok f rule place = record {
  long = table_long g.N (R g) F;
  leasts = λ A lt. rw (at_least g.N (R g) F A lt) (f.leasts A lt);
  chosen = λ A lt. rw (at_chosen g.N (R g) F A lt) (f.chosens A lt);
  contexts = λ A lt. rw (at_context g.N (R g) F A lt) (f.contexts A lt);
  choices = λ A lt d. rw (at_rule g.N (R g) F A lt, at_place g.N (R g) F A lt) (f.choices A lt d);
  start_rule = at_rule g.N (R g) F g.start ok.start_below ∙ rule;
  start_place = at_place g.N (R g) F g.start ok.start_below ∙ place;
  totals = λ r l. rw (at_total g.N (R g) F r l) (f.totals r l);
}

-- FIGURES EXIST. The context rule and place of A, or noChoice twice:
record Choice (g : Grammar) (A : ℕ) (z : ℕ × ℕ) : Type 0 where
  start_rule : A ≡ g.start → z.0 ≡ no_choice
  start_place : A ≡ g.start → z.1 ≡ no_choice
  other : ¬ (A ≡ g.start) → ContextChoice measure g A z.0 z.1

module _ (g : Grammar) (ok : InBounds g) (trees : AllTrees g) (reached : AllReached g) where
  a_choice : (A : ℕ) → A < g.N → (z : ℕ × ℕ) × Choice g A z
  a_choice A lt = start? (ℕ_discrete A g.start)
    where
      start? : Dec (A ≡ g.start) → (z : ℕ × ℕ) × Choice g A z
      start? (yes e) =
          ((no_choice, no_choice), record { start_rule = λ e. refl; start_place = λ e. refl; other = λ d. absurd (d e) })
      start? (no d) =
          let (k, i, c) = choice_exists measure g ok trees reached A lt d in
          ((k, i), record { start_rule = λ e. absurd (d e); start_place = λ e. absurd (d e); other = λ d. c })

  v : Picked (Least measure g) g.N
  v = picked 0 (Least measure g) g.N (least_exists measure g trees)

  k : Picked (Chosen measure g) g.N
  k = picked 0 (Chosen measure g) g.N (chosen_exists measure g trees)

  u : Picked (Context measure g) g.N
  u = picked 0 (Context measure g) g.N (context_exists measure g trees reached)

  c : Picked (Choice g) g.N
  c = picked (0, 0) (Choice g) g.N a_choice

  t : Picked (Total measure g) (R g)
  t = picked 0 (Total measure g) (R g) (total_exists measure g ok trees reached)

  abbrev some_figures : Figures measure
  some_figures =
      record { least = v.f; chosen = k.f; context = u.f; rule = λ A. (c.f A).0; place = λ A. (c.f A).1; total = t.f }

  pub figures_exist : (F : Figures measure) × AreFigures measure g F × (F.rule g.start ≡ no_choice) × (F.place g.start ≡ no_choice)
  figures_exist =
      let s = c.is g.start ok.start_below in
      let f : AreFigures measure g some_figures = record {
        leasts = v.is;
        chosens = k.is;
        contexts = u.is;
        choices = λ A lt d. (c.is A lt).other d;
        totals = t.is;
      } in
      (some_figures, f, s.start_rule refl, s.start_place refl)

  -- A TABLE EXISTS
  pub table_exists : (ws : List ℕ) × IsTable g ws
  table_exists = let (F, f, rule, place) = figures_exist in (table_of g.N (R g) F, words_are_table g F ok f rule place)

-- So whether a lent table is its own is decided, by comparing it with the one that the grammar has.
pub tabled? : (table : List ℕ) (g : Grammar) → InBounds g → Accepted limit g → Dec (HasTable g table)
tabled? table g ok a =
    let (ws, is) = table_exists g ok a.trees a.reached in
    same ws is (List-discrete ℕ_discrete ws (take (table_length g) table))
  where
    same : (ws : List ℕ) → IsTable g ws → Dec (ws ≡ take (table_length g) table) → Dec (HasTable g table)
    same ws is (yes e) = yes (rw e at is)
    same ws is (no n) = no (λ h. n (table_unique is h))
