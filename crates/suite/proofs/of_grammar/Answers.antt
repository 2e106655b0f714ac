-- `suite::of_grammar` meets its contract, by what the judge answers. Assumes nothing.
use Rattle.suite.proofs.FirstLines.{judged_grammar, judged_fault}
use Rattle.suite.proofs.of_grammar.Goals as goal

pub returns-in-Ok : goal.returns-in-Ok
returns-in-Ok c = judged_grammar c.requires _ c.in-Ok.ensures c.suite.ensures

pub returns-in-Err : goal.returns-in-Err
returns-in-Err c =
    let line = rw (c.number.ensures, c.place.ensures, c.from-refusal.ensures) at c.refused.ensures in
    judged_fault _ c.in-Err.ensures line
