-- `lines::digits` meets its contract. Below 10 the one digit is written; else the digits of a tenth of the number, and then the
-- last digit. Assumes nothing.
use Rattle.lines.proofs.DigitsOfNumbers.{decimal_one, decimal_more}
use Rattle.lines.proofs.WrittenInRoom.{and_then}
use Rattle.lines.proofs.+digits.Goals as goal

pub returns-then-n-lt10 : goal.returns-then-n-lt10
returns-then-n-lt10 t c =
    rw (decimal_one c.args.n c.if-n-lt10.true, ← c.glyph.ensures) c.put.ensures

pub returns : goal.returns
returns t c =
    rw (decimal_more c.args.n c.if-n-lt10.false, ← c.glyph-2.ensures) (and_then c.digits-past.ensures c.put-2.ensures)
