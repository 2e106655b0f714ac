-- What `test` and `tested_reading` promise: of words and a lent table, whether the words are an accepted grammar and the first words
-- of the table are its own, and if so the grammar's numbers with where its rules stand, or a reading of the words. Assumes nothing.
use Rattle.std.specs.Prelude.{◌≡◌, ℕ, List, Option, Some, None}
use Rattle.std.specs.Borrow.{Bor}
use Rattle.grammar.specs.Words.{Grammar, layout, reads, Are}
use Rattle.entries.specs.Table.{Own}
use Rattle.layout.specs.Judge.{placed}
use Rattle.layout.specs.declared.judge.Placed.{Placed}
use Rattle.layout.specs.declared.reading.Reading.{Reading}

-- THE PROMISE of `test`: its own, with the grammar's numbers and where its rules stand; or the words are no grammar, or one that is
-- not accepted, or one with another table
abbrev pub TestPromise : List ℕ → List ℕ → Option Placed → Type 0
TestPromise words table (Some p) = Are words (λ g. (p ≡ placed g) × Own table g)
TestPromise words table None = ¬ Are words (Own table)

-- THE PROMISE of `tested_reading`: its own, with what was read of the grammar; or not
pub data Tested (words : Bor (List ℕ)) (table : List ℕ) : Option Reading → Type 0 where
  its : {g : Grammar} {v : Reading} → layout words.now ≡ reads g → Own table g → v.words ≡ words →
      Tested words table (Some v)
  not_its : ¬ Are words.now (Own table) →
      Tested words table None
