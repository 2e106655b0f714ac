-- What every reading says of its numbers: an array of 128 has a place for each nonterminal and one of 256 for each rule, and the start
-- and the left side of each rule are nonterminals. Assumes nothing.
use Prim.Native.Nat.{ℕ, ◌≤◌, ◌<◌}
use native.Mathlib.Omega.{arith}
use mathlib.Core.Path.{refl}
use lib.ListN.{get_or}
use Rattle.grammar.proofs.LayoutExact.{in_bounds}
use Rattle.layout.specs.declared.reading.Reading.{Reading}
use Rattle.layout.proofs.RulesInside.{left_below, left_within}
use Rattle.layout.proofs.WordsRead.{begun_of, view_few}

pub nonterminals_few : (v : Reading) → v.nonterminals ≤ 128
nonterminals_few v = (view_few (begun_of v).view).0

pub rules_few : (v : Reading) → v.rules ≤ 256
rules_few v = (view_few (begun_of v).view).1

pub start_below : (v : Reading) → v.start < v.nonterminals
start_below v =
    let begun = begun_of v in
    omega (arith, (in_bounds v.words.now begun.view.is).start_below, begun.first, begun.view.nonterminals)

pub left_is_nonterminal : (v : Reading) (k : ℕ) → k < v.rules → get_or v.words.now (get_or v.places k 0) 0 < v.nonterminals
left_is_nonterminal v k h = left_below (begun_of v).view h refl

pub left_few : (v : Reading) (k : ℕ) → k < v.rules → get_or v.words.now (get_or v.places k 0) 0 < 128
left_few v k h = left_within (begun_of v).view h refl (omega arith)
