-- `suite::next_piece` meets its contract. Assumes nothing.
use mathlib.Core.Path.{sym}
use lib.Seq.{length-take-le}
use Rattle.suite.proofs.WholeText.{pieces_within, next_waits, next_made}
use borrow.Author.Rules.{rules}
use Rattle.suite.proofs.next_piece.Goals as goal

pub slice_bounds-fill-end : goal.slice_bounds-fill-end
slice_bounds-fill-end c = sym (length-take-le _ _ (pieces_within c.requires.piece_reached.pieces))

pub fill-requires : goal.fill-requires
fill-requires c =
    record {
      large = (search rules, search rules);
      waits = next_waits c.requires.piece_reached c.requires.over_value _;
    }

pub returns : goal.returns
returns c = next_made c.requires.over_value c.requires.large.1 c.fill.ensures
