-- Any two outcomes that a call's promise allows for the same input coincide: the four numbers, and the whole of every lent
-- buffer. The layer's own promise settles its answer and its buffers, and an answer has one way to be written as numbers.
-- Assumes nothing.
use Prim.Native.Nat.{ℕ}
use mathlib.Core.Path.{◌≡◌, sym, ap, ◌∙◌}
use mathlib.Core.List.{List}
use Rattle.packed.proofs.Main.{unpack_settles, pack_settles}
use Rattle.tables.proofs.Main.{tables_settles}
use Rattle.handout.specs.Next.{Lent}
use Rattle.handout.proofs.Main.{next_settles}
use Rattle.replay.proofs.Main.{replay_settles}
use Rattle.calls.specs.Called.{Called, UnpackCalled, PackCalled, TablesCalled, NextCalled, ReplayCalled}

called_settles : {Answer Buffers : Type 0} {Promise : Answer → Buffers → Type 0} {numbersOf : Answer → List ℕ} →
    ((a b : Answer) (x y : Buffers) → Promise a x → Promise b y → (a ≡ b) × (x ≡ y)) →
    {m n : List ℕ} {x y : Buffers} → Called Promise numbersOf m x → Called Promise numbersOf n y → (m ≡ n) × (x ≡ y)
called_settles {numbersOf = numbersOf} settles {m} {n} {x} {y} c d =
    let same = settles c.answer d.answer x y c.promise d.promise in
    (c.written ∙ ap numbersOf same.0 ∙ sym d.written, same.1)

pub vanchiluk_unpack_settles : {file words m n a b : List ℕ} →
    UnpackCalled file words m a → UnpackCalled file words n b → (m ≡ n) × (a ≡ b)
vanchiluk_unpack_settles = called_settles (λ r s x y p q. unpack_settles p q)

pub vanchiluk_pack_settles : {words file m n a b : List ℕ} →
    PackCalled words file m a → PackCalled words file n b → (m ≡ n) × (a ≡ b)
vanchiluk_pack_settles = called_settles (λ r s x y p q. pack_settles p q)

pub vanchiluk_tables_settles : {words table m n a b : List ℕ} →
    TablesCalled words table m a → TablesCalled words table n b → (m ≡ n) × (a ≡ b)
vanchiluk_tables_settles = called_settles (λ r s x y p q. tables_settles _ _ p q)

-- the marks, the sentence's buffer and the derivation's
pub vanchiluk_next_settles : {words table m n : List ℕ} {before a b : Lent} →
    NextCalled words table before m a → NextCalled words table before n b → (m ≡ n) × (a ≡ b)
vanchiluk_next_settles = called_settles (λ r s x y p q. next_settles _ _ _ p q)

pub vanchiluk_replay_settles : {words list sentence m n a b : List ℕ} →
    ReplayCalled words list sentence m a → ReplayCalled words list sentence n b → (m ≡ n) × (a ≡ b)
vanchiluk_replay_settles = called_settles (λ r s x y p q. replay_settles _ _ _ p q)
