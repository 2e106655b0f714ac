-- The two sides of the rule of a number, as a reading has them: what the words say where the rule stands. Assumes nothing.
use Rattle.std.specs.Prelude.{ℕ, List, get_or}
use Rattle.layout.specs.Rules.{right_at}
use Rattle.layout.specs.declared.reading.Reading.{Reading}

abbrev pub left_of : Reading → ℕ → ℕ
left_of v k = get_or v.words.now (get_or v.places k 0) 0

abbrev pub right_of : Reading → ℕ → List ℕ
right_of v k = right_at v.words.now (get_or v.places k 0)
