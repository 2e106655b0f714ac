-- Document 01, "Refused, number by number": the number and the place of every refusal that the calls give. Rows 4 to 7 are those of
-- GrammarRefusals. When each is given is said by the promise of the call. Assumes nothing.
use Rattle.std.specs.Prelude.{ℕ}
use Rattle.answers.specs.GrammarRefusals.{broken_layout, no_tree, unreached, oversize, number, place}
use Rattle.answers.specs.declared.Refusal.{Refusal}
use Rattle.answers.specs.declared.Refusal.TheVariants as r

-- the column "No."
abbrev pub number_of : Refusal → ℕ
number_of r.NotVersionOne = 1
number_of (r.BadLength p) = 2
number_of (r.TooShort n) = 3
number_of (r.BrokenLayout p) = number (broken_layout p)
number_of (r.NoTree A) = number (no_tree A)
number_of (r.Unreached A) = number (unreached A)
number_of (r.Oversize k) = number (oversize k)
number_of r.NotItsTable = 8
number_of (r.FewMarks n) = 9
number_of (r.DerivationShort n) = 10
number_of (r.NoDerivation p) = 11
number_of (r.LongList n) = 12

-- the column "Place"
abbrev pub place_of : Refusal → ℕ
place_of r.NotVersionOne = 0
place_of (r.BadLength p) = p
place_of (r.TooShort n) = n
place_of (r.BrokenLayout p) = place (broken_layout p)
place_of (r.NoTree A) = place (no_tree A)
place_of (r.Unreached A) = place (unreached A)
place_of (r.Oversize k) = place (oversize k)
place_of r.NotItsTable = 0
place_of (r.FewMarks n) = n
place_of (r.DerivationShort n) = n
place_of (r.NoDerivation p) = p
place_of (r.LongList n) = n
