-- A table is its own certificate: words are a grammar's table exactly where there are 5N + R of them, the start has 65535 twice,
-- and the figures that they give pass the tests of grammar's FigureCertificate, which speak of the figures and the rules alone.
-- So a lent table is judged by one pass over the rules, and what `tables` writes need only pass it. Assumes nothing.
use Prim.Native.Nat.{ℕ}
use mathlib.Core.Logic.{◌↔◌}
use mathlib.Core.List.{List}
use Rattle.grammar.specs.Words.{Grammar, InBounds}
use Rattle.grammar.specs.Terms.{measure}
use Rattle.grammar.proofs.FigureCertificate.{figure_certificate}
use Rattle.entries.specs.Table.{IsTable}
use Rattle.entries.specs.TableCertificates.{figures_of, Passes}

module _ (g : Grammar) (ok : InBounds g) (ws : List ℕ) where
  to : Passes g ws → IsTable g ws
  to p =
      let f = (figure_certificate measure g (figures_of g ws) ok).0 p.figures in
      record {
        long = p.long;
        leasts = f.leasts;
        chosen = f.chosens;
        contexts = f.contexts;
        choices = f.choices;
        start_rule = p.start_rule;
        start_place = p.start_place;
        totals = f.totals;
      }

  from : IsTable g ws → Passes g ws
  from t = record {
    long = t.long;
    figures = (figure_certificate measure g (figures_of g ws) ok).1 (record {
      leasts = t.leasts;
      chosens = t.chosen;
      contexts = t.contexts;
      choices = t.choices;
      totals = t.totals;
    });
    start_rule = t.start_rule;
    start_place = t.start_place;
  }

  -- EXACT: these tests, and nothing else
  pub table_tests : Passes g ws ↔ IsTable g ws
  table_tests = (to, from)
