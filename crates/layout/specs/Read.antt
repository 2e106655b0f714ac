-- What `Reading::of` promises: of a grammar's words a reading of them, which says by itself what it holds (its ghost fields: the
-- numbers, and where the rules stand); of other words the fault. Assumes nothing.
use Rattle.std.specs.Prelude.{◌≡◌, List, ℕ, Result, Ok, Err}
use Rattle.std.specs.Borrow.{Bor}
use Rattle.grammar.specs.Words.{Grammar, layout, faults}
use Rattle.layout.specs.Judge.{shape}
use Rattle.layout.specs.View.{View}
use Rattle.layout.specs.declared.judge.Placed.{Placed}
use Rattle.layout.specs.declared.judge.Fault.{Fault}
use Rattle.layout.specs.declared.reading.Reading.{Reading}

abbrev pub ReadOf : Bor (List ℕ) → Result Reading Fault → Type 0
ReadOf words (Ok v) = v.words ≡ words
ReadOf words (Err e) = layout words.now ≡ faults e.place

-- what a reading says, without its words
abbrev pub placed_in : Reading → Placed
placed_in v = record { shape = shape v.nonterminals v.terminals v.start v.rules; places = v.places }

-- for the private functions of the layers above: the words that were read are those of g
abbrev pub ReadsAs : Reading → Grammar → Type 0
ReadsAs v g = View v.words.now v.places v.nonterminals v.rules g
