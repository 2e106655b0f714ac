-- Words that are worked out are the table. Given the leasts and the contexts, a program writes them down, takes for each
-- nonterminal the first rule that comes to its least, and, but for the start, the first rule and place that come to its context,
-- and sums the totals. What it needs of that: the first of each exists, and the words so written are the grammar's table.
-- A place is judged by the size of the whole rule: as w holds A at i, the sizes of w are v(A) and those beside it, so that
-- u(A) = u(B) + 1 + (those beside) exactly where v(A) + u(A) = u(B) + 1 + (the sizes of w), and no sum has to leave a symbol out.
-- Assumes nothing.
use Prim.Native.Nat.{ℕ, ◌<◌}
use native.Mathlib.Omega.{arith}
use mathlib.Core.Path.{◌≡◌}
use mathlib.Core.List.{List}
use Rattle.grammar.specs.Words.{Grammar, InBounds}
use Rattle.grammar.specs.Terms.{measure}
use Rattle.grammar.specs.Refusals.{Lowest}
use Rattle.grammar.proofs.Dead.{open_reached}
use Rattle.grammar.specs.Certificates.{Leasts, Contexts, Figures, AreFigures, FigureCertificate}
use Rattle.grammar.proofs.Certificate.{least_certificate}
use Rattle.grammar.proofs.ContextCertificate.{context_certificate}
use Rattle.grammar.proofs.FigureCertificate.{figure_certificate}
use Rattle.entries.specs.Table.{chosen_in, rule_in, place_in, total_in, IsTable}
use Rattle.entries.specs.TableCertificates.{First, Attaining, Leading, WorkedOut}
use Rattle.entries.proofs.SizeApart.{size_apart}
use Rattle.entries.proofs.TableExists.{figures_exist}

module _ (g : Grammar) (v : ℕ → ℕ) where
  module _ (u : ℕ → ℕ) where
    module _ (ok : InBounds g) (leasts : Leasts measure g v) (contexts : Contexts measure g v u) where
      -- v and u with choices and totals
      abbrev with_choices : (ℕ → ℕ) → (ℕ → ℕ) → (ℕ → ℕ) → (ℕ → ℕ) → Figures measure
      with_choices chosen rule place total =
          record { least = v; chosen = chosen; context = u; rule = rule; place = place; total = total }

      -- THE TABLE
      pub worked_out : {ws : List ℕ} → WorkedOut g v u ws → IsTable g ws
      worked_out {ws} z =
          let F = with_choices (λ A. chosen_in ws A) (λ A. rule_in ws A) (λ A. place_in ws A) (total_in g.N ws) in
          let below = (least_certificate measure g v).1 leasts in
          let around = (context_certificate measure g v leasts u ok.start_below).1 contexts in
          let cert : FigureCertificate measure g F = record {
            least_below = below.below;
            chosen_attains = λ A lt. (z.chosen A lt).such;
            chosen_lowest = λ k A w r e. (z.chosen A r.left).lowest k (w, r, e);
            context-start = around.at_start;
            context_below = around.below;
            choice_attains = λ A lt d.
                let (B, w, r, h, e) = (z.choices A lt d).such in
                (B, w, r, h, omega (arith, e, size_apart g v w (place_in ws A) A h lt));
            choice_first = λ k B w i A r h lt d e.
                (z.choices A lt d).first k i (B, w, r, h, omega (arith, e, size_apart g v w i A h lt));
            totals = z.totals;
          } in
          let f = (figure_certificate measure g F ok).0 cert in
          record {
            long = z.long;
            leasts = λ A lt. rw (z.leasts A lt) (leasts A lt);
            chosen = f.chosens;
            contexts = λ A lt. rw (z.contexts A lt) (contexts A lt);
            choices = f.choices;
            start_rule = z.start_rule;
            start_place = z.start_place;
            totals = f.totals;
          }

      -- THE FIRST OF EACH EXISTS: the grammar has figures, and with v and u for its leasts and contexts they pass the same tests.
      some_choices : (F : Figures measure) × FigureCertificate measure g (with_choices F.chosen F.rule F.place F.total)
      some_choices =
          let (F, f, rule, place) = figures_exist g ok (λ A lt. (leasts A lt).tree) (λ A lt. open_reached (contexts A lt).tree) in
          let G = with_choices F.chosen F.rule F.place F.total in
          let are : AreFigures measure g G =
          record { leasts = leasts; chosens = f.chosens; contexts = contexts; choices = f.choices; totals = f.totals } in
          (F, (figure_certificate measure g G ok).1 are)

      pub first_rule : (A : ℕ) → A < g.N → (k : ℕ) × Lowest (Attaining g v A) k
      first_rule A lt =
          let (F, c) = some_choices in
          (F.chosen A, record { such = c.chosen_attains A lt; lowest = λ j (w, r, e). c.chosen_lowest j A w r e })

      pub first-place : (A : ℕ) → A < g.N → ¬ (A ≡ g.start) → (k : ℕ) × (i : ℕ) × First (Leading g v u A) k i
      first-place A lt d =
          let (F, c) = some_choices in
          let (B, w, r, h, e) = c.choice_attains A lt d in (
            F.rule A,
            F.place A,
            record {
              such = (B, w, r, h, omega (arith, e, size_apart g v w (F.place A) A h lt));
              first = λ j i (B, w, r, h, e). c.choice_first j B w i A r h lt d (omega (arith, e, size_apart g v w i A h lt));
            },
          )
