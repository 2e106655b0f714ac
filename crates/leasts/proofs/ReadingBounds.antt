-- What a reading bounds: a grammar has 256 rules at most and 128 nonterminals, and the left side of a rule is one of those. Assumes
-- nothing.
use Prim.Native.Nat.{ℕ, ◌≤◌, ◌<◌}
use native.Mathlib.Omega.{arith}
use mathlib.Core.Path.{refl}
use Rattle.layout.specs.declared.reading.Reading.{Reading}
use Rattle.layout.proofs.RulesInside.{left_within}
use Rattle.layout.proofs.WordsRead.{begun_of, view_few}
use Rattle.layout.specs.Sides.{left_of}

pub few_of : (v : Reading) {r : ℕ} → r < v.rules → (r < 256) × (left_of v r < 128) × (v.nonterminals ≤ 128)
few_of v {r} below =
    let view = (begun_of v).view in
    let (nonterminals, rules) = view_few view in
    (omega arith, left_within view below refl (omega arith), nonterminals)
