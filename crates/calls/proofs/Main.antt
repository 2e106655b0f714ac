-- The final statements of this crate, each by one citation. A reader who believes specs/ and reads this page is done.
-- Assumes nothing.
use Prim.Native.Nat.{ℕ}
use mathlib.Core.Path.{◌≡◌}
use mathlib.Core.List.{List}
use Rattle.packed.specs.declared.FileAnswer.{FileAnswer}
use Rattle.packed.specs.Promise.{Unpacked, Packed}
use Rattle.tables.specs.declared.TableAnswer.{TableAnswer}
use Rattle.tables.specs.Promise.{Tables}
use Rattle.handout.specs.declared.NextAnswer.{NextAnswer}
use Rattle.handout.specs.Next.{Lent, NextPromise}
use Rattle.replay.specs.declared.ReplayAnswer.{ReplayAnswer}
use Rattle.replay.specs.Replay.{Replay}
use Rattle.calls.specs.Numbers.{of_file, of_table, of_next, of_replay}
use Rattle.calls.specs.Called.{UnpackCalled, PackCalled, TablesCalled, NextCalled, ReplayCalled}
use Rattle.calls.proofs.CallsSettle as Settle
use Rattle.calls.proofs.AnswersTold as Told

-- SETTLED. Any two outcomes that a promise allows for the same input coincide: the four numbers, and every lent buffer.
pub vanchiluk_unpack_settles : {file words m n a b : List ℕ} →
    UnpackCalled file words m a → UnpackCalled file words n b → (m ≡ n) × (a ≡ b)
vanchiluk_unpack_settles = Settle.vanchiluk_unpack_settles

pub vanchiluk_pack_settles : {words file m n a b : List ℕ} →
    PackCalled words file m a → PackCalled words file n b → (m ≡ n) × (a ≡ b)
vanchiluk_pack_settles = Settle.vanchiluk_pack_settles

pub vanchiluk_tables_settles : {words table m n a b : List ℕ} →
    TablesCalled words table m a → TablesCalled words table n b → (m ≡ n) × (a ≡ b)
vanchiluk_tables_settles = Settle.vanchiluk_tables_settles

pub vanchiluk_next_settles : {words table m n : List ℕ} {before a b : Lent} →
    NextCalled words table before m a → NextCalled words table before n b → (m ≡ n) × (a ≡ b)
vanchiluk_next_settles = Settle.vanchiluk_next_settles

pub vanchiluk_replay_settles : {words list sentence m n a b : List ℕ} →
    ReplayCalled words list sentence m a → ReplayCalled words list sentence n b → (m ≡ n) × (a ≡ b)
vanchiluk_replay_settles = Settle.vanchiluk_replay_settles

-- TOLD. The four numbers tell the answer: where they are an answer's, the layer's own promise holds of it.
pub unpack_told : {file words after : List ℕ} {r : FileAnswer} → UnpackCalled file words (of_file r) after →
    Unpacked file words r after
unpack_told = Told.unpack_told

pub pack_told : {words file after : List ℕ} {r : FileAnswer} → PackCalled words file (of_file r) after →
    Packed words file r after
pack_told = Told.pack_told

pub tables_told : {words table after : List ℕ} {r : TableAnswer} → TablesCalled words table (of_table r) after →
    Tables words table r after
tables_told = Told.tables_told

pub next_told : {words table : List ℕ} {before after : Lent} {r : NextAnswer} →
    NextCalled words table before (of_next r) after → NextPromise words table before r after
next_told = Told.next_told

pub replay_told : {words list sentence after : List ℕ} {r : ReplayAnswer} →
    ReplayCalled words list sentence (of_replay r) after → Replay words list sentence r after
replay_told = Told.replay_told
