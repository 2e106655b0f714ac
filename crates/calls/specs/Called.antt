-- What each call promises other languages: there is an answer of which the promise of the layer's own call holds with these
-- buffers, and the four numbers are that answer's. Assumes nothing.
use Rattle.std.specs.Prelude.{ℕ, ◌≡◌, List}
use Rattle.packed.specs.Promise.{Unpacked, Packed}
use Rattle.tables.specs.Promise.{Tables}
use Rattle.handout.specs.Next.{Lent, NextPromise}
use Rattle.replay.specs.Replay.{Replay}
use Rattle.calls.specs.Numbers.{of_file, of_table, of_next, of_replay}

-- Of a family's answers, what its promise allows and how they are written as numbers: four numbers and buffers afterwards.
pub record Called {Answer Buffers : Type 0} (Promise : Answer → Buffers → Type 0) (numbersOf : Answer → List ℕ)
    (numbers : List ℕ) (after : Buffers) : Type 0 where
  pub answer : Answer
  pub promise : Promise answer after
  pub written : numbers ≡ numbersOf answer

abbrev pub UnpackCalled : List ℕ → List ℕ → List ℕ → List ℕ → Type 0
UnpackCalled file words = Called (Unpacked file words) of_file

abbrev pub PackCalled : List ℕ → List ℕ → List ℕ → List ℕ → Type 0
PackCalled words file = Called (Packed words file) of_file

abbrev pub TablesCalled : List ℕ → List ℕ → List ℕ → List ℕ → Type 0
TablesCalled words table = Called (Tables words table) of_table

abbrev pub NextCalled : List ℕ → List ℕ → Lent → List ℕ → Lent → Type 0
NextCalled words table before = Called (NextPromise words table before) of_next

abbrev pub ReplayCalled : List ℕ → List ℕ → List ℕ → List ℕ → List ℕ → Type 0
ReplayCalled words list sentence = Called (Replay words list sentence) of_replay
