-- Four numbers tell the answer: no two answers of a family are written as the same numbers. So where a caller finds the numbers of
-- an answer, the promise of the layer's own call holds of that answer, and with it every law of the layer. Assumes nothing.
use Prim.Native.Nat.{ℕ}
use native.Mathlib.Omega.{arith}
use mathlib.Core.Path.{◌≡◌, sym, subst}
use mathlib.Core.List.{List}
use Rattle.packed.specs.declared.FileAnswer.{FileAnswer}
use Rattle.packed.specs.declared.FileAnswer.TheVariants as file
use Rattle.packed.specs.Promise.{Unpacked, Packed}
use Rattle.tables.specs.declared.TableAnswer.{TableAnswer}
use Rattle.tables.specs.declared.TableAnswer.TheVariants as table
use Rattle.tables.specs.Promise.{Tables}
use Rattle.handout.specs.declared.NextAnswer.{NextAnswer}
use Rattle.handout.specs.declared.NextAnswer.TheVariants as sentence
use Rattle.handout.specs.Next.{Lent, NextPromise}
use Rattle.replay.specs.declared.ReplayAnswer.{ReplayAnswer}
use Rattle.replay.specs.declared.ReplayAnswer.TheVariants as replay
use Rattle.replay.specs.Replay.{Replay}
use Rattle.calls.specs.Numbers.{done, next, finished, refused, of_file, of_table, of_next, of_replay}
use Rattle.calls.specs.Called.{Called, UnpackCalled, PackCalled, TablesCalled, NextCalled, ReplayCalled}

-- kinds differ
done_refused : (length number place : ℕ) → done length ≡ refused number place → ⊥
done_refused a n p e = let z : ◌≡◌ {A = ℕ} 0 3 = cc in omega (arith, z)

next-finished : (target tokens rules : ℕ) → next target tokens rules ≡ finished → ⊥
next-finished r t k e = let z : ◌≡◌ {A = ℕ} 1 2 = cc in omega (arith, z)

next-refused : (target tokens rules number place : ℕ) → next target tokens rules ≡ refused number place → ⊥
next-refused r t k n p e = let z : ◌≡◌ {A = ℕ} 1 3 = cc in omega (arith, z)

finished-refused : (number place : ℕ) → finished ≡ refused number place → ⊥
finished-refused n p e = let z : ◌≡◌ {A = ℕ} 2 3 = cc in omega (arith, z)

file_numbers : (a b : FileAnswer) → of_file a ≡ of_file b → a ≡ b
file_numbers (file.Done a) (file.Done b) e = cc
file_numbers (file.Done a) (file.Refused n p) e = absurd (done_refused a n p e)
file_numbers (file.Refused n p) (file.Done b) e = absurd (done_refused b n p (sym e))
file_numbers (file.Refused n p) (file.Refused m q) e = cc

table_numbers : (a b : TableAnswer) → of_table a ≡ of_table b → a ≡ b
table_numbers (table.Done a) (table.Done b) e = cc
table_numbers (table.Done a) (table.Refused n p) e = absurd (done_refused a n p e)
table_numbers (table.Refused n p) (table.Done b) e = absurd (done_refused b n p (sym e))
table_numbers (table.Refused n p) (table.Refused m q) e = cc

replay_numbers : (a b : ReplayAnswer) → of_replay a ≡ of_replay b → a ≡ b
replay_numbers (replay.Done a) (replay.Done b) e = cc
replay_numbers (replay.Done a) (replay.Refused n p) e = absurd (done_refused a n p e)
replay_numbers (replay.Refused n p) (replay.Done b) e = absurd (done_refused b n p (sym e))
replay_numbers (replay.Refused n p) (replay.Refused m q) e = cc

next_numbers : (a b : NextAnswer) → of_next a ≡ of_next b → a ≡ b
next_numbers (sentence.Next r t k) (sentence.Next q u l) e = cc
next_numbers (sentence.Next r t k) sentence.Finished e = absurd (next-finished r t k e)
next_numbers (sentence.Next r t k) (sentence.Refused n p) e = absurd (next-refused r t k n p e)
next_numbers sentence.Finished (sentence.Next r t k) e = absurd (next-finished r t k (sym e))
next_numbers sentence.Finished sentence.Finished e = cc
next_numbers sentence.Finished (sentence.Refused n p) e = absurd (finished-refused n p e)
next_numbers (sentence.Refused n p) (sentence.Next r t k) e = absurd (next-refused r t k n p (sym e))
next_numbers (sentence.Refused n p) sentence.Finished e = absurd (finished-refused n p (sym e))
next_numbers (sentence.Refused n p) (sentence.Refused m q) e = cc

called_told : {Answer Buffers : Type 0} {Promise : Answer → Buffers → Type 0} {numbersOf : Answer → List ℕ} →
    ((a b : Answer) → numbersOf a ≡ numbersOf b → a ≡ b) →
    {a : Answer} {after : Buffers} → Called Promise numbersOf (numbersOf a) after → Promise a after
called_told {Promise = Promise} told {a} {after} c =
    subst (λ r. Promise r after) (sym (told a c.answer c.written)) c.promise

pub unpack_told : {file words after : List ℕ} {r : FileAnswer} → UnpackCalled file words (of_file r) after →
    Unpacked file words r after
unpack_told = called_told file_numbers

pub pack_told : {words file after : List ℕ} {r : FileAnswer} → PackCalled words file (of_file r) after →
    Packed words file r after
pack_told = called_told file_numbers

pub tables_told : {words table after : List ℕ} {r : TableAnswer} → TablesCalled words table (of_table r) after →
    Tables words table r after
tables_told = called_told table_numbers

pub next_told : {words table : List ℕ} {before after : Lent} {r : NextAnswer} →
    NextCalled words table before (of_next r) after → NextPromise words table before r after
next_told = called_told next_numbers

pub replay_told : {words list sentence after : List ℕ} {r : ReplayAnswer} →
    ReplayCalled words list sentence (of_replay r) after → Replay words list sentence r after
replay_told = called_told replay_numbers
