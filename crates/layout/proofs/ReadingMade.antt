-- There is a reading of any words that are a grammar's: the grammar gives its fields. So the promise of `Reading::of` can be met for
-- any words. Assumes nothing.
use Prim.Native.Nat.{ℕ}
use mathlib.Core.Path.{◌≡◌, refl, ap}
use mathlib.Core.List.{List}
use denote.Ref.{Bor}
use Rattle.std.specs.Prelude.{Result, Ok, Err}
use Rattle.grammar.specs.Words.{Grammar, R, Judged, layout, reads, faults}
use Rattle.layout.specs.Judge.{fault, numbers_of, places_of}
use Rattle.layout.specs.Read.{ReadOf}
use Rattle.layout.specs.declared.judge.Fault.{Fault}
use Rattle.layout.specs.declared.reading.Reading.{Reading}

abbrev pub reading_of : (words : Bor (List ℕ)) (g : Grammar) → layout words.now ≡ reads g → Reading
reading_of words g is = record {
  words = words;
  places = places_of (layout words.now);
  nonterminals = g.N;
  terminals = g.T;
  start = g.start;
  rules = R g;
  numbers = ap numbers_of is;
  stand = refl;
}

pub reading_met : (words : Bor (List ℕ)) → (r : Result Reading Fault) × ReadOf words r
reading_met words = go (layout words.now) refl
  where
    go : (j : Judged Grammar) → layout words.now ≡ j → (r : Result Reading Fault) × ReadOf words r
    go (reads g) is = (Ok (reading_of words g is), refl)
    go (faults p) is = (Err (fault p), is)
