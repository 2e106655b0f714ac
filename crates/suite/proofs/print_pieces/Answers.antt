-- What the check leaves of `suite::print_pieces`; the argument stands in Invariants.antt. Assumes nothing.
use mathlib.Core.List.{[]}
use borrow.Author.Rules.{rules}
use borrow.Author.Tests.{not-true}
use Rattle.suite.specs.Pieces.{first, next}
use Rattle.suite.proofs.MoreLines.{count_few, turns_fall}
use Rattle.answers.proofs.Tabulate.{zeros}
use Rattle.suite.proofs.WholeText.{pieces_so_far, piece_made}
use Rattle.suite.proofs.print_pieces.Goals as goal

pub first_piece-so-requires : goal.first_piece-so-requires
first_piece-so-requires c =
    record {
      in_bounds = (search rules, search rules);
      large = (search rules, search rules);
      clear = λ g e r l. zeros 256 r;
    }

pub print-is_written-requires : goal.print-is_written-requires
print-is_written-requires c = piece_made [] (first c.first_piece-so.ensures)

pub loop-is_written-init : goal.loop-is_written-init
loop-is_written-init c = (search rules, search rules, search rules, (0, _, first c.first_piece-so.ensures))

pub next_piece-so-requires : goal.next_piece-so-requires
next_piece-so-requires c =
    let inv = c.loop-is_written.invariant in
    record {
      large = (search rules, search rules);
      piece_reached = record { file = _; calls = inv.3.0; out = inv.3.1; pieces = inv.3.2 };
      over_value = not-true _ c.if-not-so.true;
    }

pub print-is_written-requires-in-loop-is_written : goal.print-is_written-requires-in-loop-is_written
print-is_written-requires-in-loop-is_written c =
    let inv = c.loop-is_written.invariant in
    piece_made inv.3.1 (next inv.3.2 (not-true _ c.if-not-so.true) c.next_piece-so.ensures)

pub loop-is_written-smaller : goal.loop-is_written-smaller
loop-is_written-smaller c =
    let inv = c.loop-is_written.invariant in
    let on = not-true _ c.if-not-so.true in
    turns_fall _ _ _ _ on (count_few (pieces_so_far inv.3.2) on) c.next_piece-so.ensures.more

pub loop-is_written-preserved : goal.loop-is_written-preserved
loop-is_written-preserved c =
    let inv = c.loop-is_written.invariant in
    let on = not-true _ c.if-not-so.true in
    (search rules, search rules, search rules, (_, _, next inv.3.2 on c.next_piece-so.ensures))
