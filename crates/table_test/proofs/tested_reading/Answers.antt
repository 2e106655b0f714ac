-- `table_test::tested_reading` meets its contract: what the judge says of the words, and what the pass says of a grammar. Assumes
-- nothing.
use mathlib.Core.Path.{sym, ◌∙◌}
use Rattle.table_test.proofs.WordsTested.{were_read, none_read, own_its, other_not_its}
use Rattle.table_test.proofs.tested_reading.Goals as goal

pub returns-in_err-reading : goal.returns-in_err-reading
returns-in_err-reading c =
    let read = c.of in
    rw c.from_residual.ensures (none_read read.result read.ensures (sym c.ok.ensures.value ∙ c.in_err-reading.was))

pub returns-then-passes : goal.returns-then-passes
returns-then-passes c =
    let words = were_read c.of.result _ c.of.ensures (sym c.ok.ensures.value ∙ c.in_ok-reading.was) in
    own_its c.in_ok-reading.reading words (λ g view. (c.passes.ensures g view).0 c.if-passes.true)

pub returns-else-passes : goal.returns-else-passes
returns-else-passes c =
    let words = were_read c.of.result _ c.of.ensures (sym c.ok.ensures.value ∙ c.in_ok-reading.was) in
    other_not_its c.in_ok-reading.reading words (λ g view own. let passes = (c.passes.ensures g view).1 own in cc)
