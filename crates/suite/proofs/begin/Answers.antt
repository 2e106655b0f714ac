-- `suite::begin` meets its contract, by what `unpack` answers: the words that it has written lie within the buffer. Assumes
-- nothing.
use Rattle.suite.proofs.FirstLines.{begun_words, begun_refused}
use Rattle.suite.proofs.begin.Goals as goal

pub returns-in-Done : goal.returns-in-Done
returns-in-Done c = begun_words c.in-Done.ensures c.of_words.ensures

pub returns-in-Refused : goal.returns-in-Refused
returns-in-Refused c = begun_refused c.requires.0 c.in-Refused.ensures c.refused.ensures
