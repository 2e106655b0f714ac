-- `replay::replayed` meets its contract: row 4 is the judge's, and row 12 that of a list. Assumes nothing.
use Rattle.std.proofs.Common.{ℕ, List, sym, ap, ◌∙◌}
use Rattle.std.specs.Borrow.{Bor}
use Rattle.answers.proofs.HandedOn.{handed_on}
use Rattle.grammar.specs.Words.{layout}
use Rattle.layout.proofs.WordsRead.{begun_of}
use Rattle.replay.specs.Replay.{row_4, row_12}
use Rattle.replay.proofs.replayed.Goals as goal

pub returns-in_err-reading : goal.returns-in_err-reading
returns-in_err-reading c = rw (handed_on c.from_residual.result c.from_residual.ensures.1) (row_4 c.in_err-reading.ensures)

pub returns-in_err-list : goal.returns-in_err-list
returns-in_err-list c =
    let same = ap (λ (words : Bor (List ℕ)). layout words.now) (sym c.in_ok-reading.ensures) in
    let is = same ∙ (begun_of c.in_ok-reading.reading).view.is in
    let long = c.in_err-list.ensures in
    rw (handed_on c.from_residual-in_err-list.result c.from_residual-in_err-list.ensures.1, long.0) (row_12 is long.1)
