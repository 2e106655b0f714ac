-- Document 01's table of D, of the definitions themselves. Proved from the definitions and from laws on grammars alone, so that a
-- definition that says otherwise is refused here. Assumes nothing.
use mathlib.Core.Path.{refl}
use lib.Dec.{leb}
use borrow.Author.Tests.{leb-true}
use Rattle.grammar.specs.Refusals.{AllTrees, AllReached, AllFit, Accepted}
use Rattle.grammar.specs.Terms.{measure, limit}
use Rattle.grammar.proofs.Dead.{open_reached}
use Rattle.grammar.proofs.LayoutExact.{in_bounds}
use Rattle.grammar.specs.Certificates.{symbol_size, word_size, others_size, AreFigures}
use Rattle.grammar.proofs.FigureTest.{each_at, figures}
use Rattle.grammar.specs.Samples.{D, D_words, D_table}
use Rattle.grammar.proofs.ASampleOfWords.{D_reads}
use Rattle.entries.specs.Table.{total_in, IsTable}
use Rattle.entries.specs.TableCertificates.{figures_of}

-- "tables of D: 3 0 0 65535 65535, 2 3 1 0 0, 1 4 3 2 0, then 3 7 4 3 4 5"
D_figures : AreFigures measure D (figures_of D D_table)
unfolding word_size symbol_size others_size
D_figures = figures D (figures_of D D_table) refl (in_bounds D_words D_reads)

pub D_has_table : IsTable D D_table
D_has_table = record {
  long = refl;
  leasts = D_figures.leasts;
  chosen = D_figures.chosens;
  contexts = D_figures.contexts;
  choices = D_figures.choices;
  start_rule = refl;
  start_place = refl;
  totals = D_figures.totals;
}

D_trees : AllTrees D
D_trees A lt = (D_figures.leasts A lt).tree

D_reached : AllReached D
D_reached A lt = open_reached (D_figures.contexts A lt).tree

D_fits : AllFit limit D
D_fits r l = record {
  total = total_in D.N D_table r;
  is = D_figures.totals r l;
  within = leb-true _ limit (each_at (λ r. leb (total_in D.N D_table r) limit) 6 refl r l);
}

pub D_accepted : Accepted limit D
D_accepted = record { trees = D_trees; reached = D_reached; fit = D_fits }
