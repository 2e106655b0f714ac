-- `suite::first_piece` meets its contract. Assumes nothing.
use mathlib.Core.List.{[]}
use Rattle.suite.proofs.WholeText.{first_made}
use borrow.Author.Rules.{rules}
use Rattle.suite.proofs.first_piece.Goals as goal

pub fill-requires : goal.fill-requires
fill-requires c =
    let begun = c.begin-begun.ensures in
    record {
      large = (search rules, search rules);
      waits = record { within = begun.within; file = _; out = []; so_far = begun.so_far _ c.requires.clear };
    }

pub returns : goal.returns
returns c = first_made c.begin-begun.ensures c.requires.clear c.fill.ensures
