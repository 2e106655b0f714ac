-- `lines::digits` meets its contract. The measure is the number: a tenth of it is smaller. Assumes nothing.
use Rattle.lines.proofs.+digits.Given as goal

abbrev pub decreases-digits : goal.decreases-digits
decreases-digits l = l.n
