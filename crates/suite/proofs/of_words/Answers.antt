-- `suite::of_words` meets its contract, by what `tables` answers. Assumes nothing.
use Rattle.suite.specs.Begun.{refused_words}
use Rattle.suite.proofs.FirstLines.{with_table}
use Rattle.suite.proofs.of_words.Goals as goal

pub returns-in-Done : goal.returns-in-Done
returns-in-Done c = with_table c.in-Done.ensures c.of_grammar.ensures

pub returns-in-Refused : goal.returns-in-Refused
returns-in-Refused c = refused_words c.requires.0 c.in-Refused.ensures c.refused.ensures
