-- `replay::derivation::run` meets its contract: the loop's invariant is `Held`, with the bounds, and that no token is in front. The
-- measure is what is to be done at most: tokens passed make it no more, and a step makes it less. Assumes nothing.
use Rattle.std.proofs.Common.{◌<◌, get_or}
use Rattle.grammar.specs.Words.{Grammar}
use Rattle.layout.specs.Read.{ReadsAs}
use Rattle.replay.specs.ReplaySteps.{words_of, WithinBounds, to_do}
use Rattle.replay.proofs.ReplayRun.{Held}
use Rattle.replay.proofs.derivation.run.Given as goal

abbrev pub invariant-loop-more : goal.invariant-loop-more
invariant-loop-more l = record {
  kept : WithinBounds l.list l.stack l.form;
  low : 0 < l.form.left → get_or (words_of l.list) l.form.at 0 < l.list.reading.now.nonterminals;
  held : (g : Grammar) → ReadsAs l.list.reading.now g → Held g l.list l.stack l.form l.initial.sentence l.sentence;
}

abbrev pub decreases-loop-more : goal.decreases-loop-more
decreases-loop-more l = to_do l.list l.stack l.form
