-- Where a row holds, the promises allow nothing else: each settles its outcome. Assumes nothing.
use Prim.Native.Nat.{ℕ}
use mathlib.Core.Path.{◌≡◌}
use mathlib.Core.List.{List, ◌++◌}
use Rattle.packed.specs.Promise.{Unpacked}
use Rattle.packed.specs.declared.FileAnswer.TheVariants as file-answer
use Rattle.packed.proofs.Main.{unpack_settles}
use Rattle.tables.specs.Promise.{Tables}
use Rattle.tables.specs.declared.TableAnswer.TheVariants as table-answer
use Rattle.tables.proofs.Main.{tables_settles}
use Rattle.replay.specs.Replay.{Replay}
use Rattle.replay.specs.declared.ReplayAnswer.TheVariants as replay-answer
use Rattle.replay.proofs.Main.{replay_settles}
use Rattle.handout.proofs.Main.{next_settles}
use Rattle.samples.specs.Row.{Row, unpack_of, tables_of, replay_of, refusal_of, night_of, Result, writes, refuses}
use Rattle.samples.specs.Row.{Answers, AnswersOnly, Holds, Settled, All, no_more, ◌and◌}
use Rattle.samples.proofs.NightSettled.{night_only}

-- any two outcomes that the promise allows of one buffer coincide
abbrev Settles : {Answer : Type 0} → (List ℕ → Answer → List ℕ → Type 0) → Type 0
Settles {Answer} promise = (before : List ℕ) (a a' : Answer) (after after' : List ℕ) → promise before a after →
    promise before a' after' → (a ≡ a') × (after ≡ after')

only : {Answer : Type 0} (promise : List ℕ → Answer → List ℕ → Type 0) (done : ℕ → Answer) (refused : ℕ → ℕ → Answer) →
    Settles promise → (r : Result) → Answers promise done refused r → AnswersOnly promise done refused r
only promise done refused settled (writes out) h = λ before room a after p. settled before a _ after _ p (h before room)
only promise done refused settled (refuses number place) h = λ before a after p. settled before a _ after _ p (h before)

tables_only : (words : List ℕ) (r : Result) → Holds (tables_of words r) → Settled (tables_of words r)
tables_only words =
    only (Tables words) table-answer.Done table-answer.Refused
    (λ before a a' after after' p q. tables_settles words before p q)

-- THE LAW
pub row_settled : (row : Row) → Holds row → Settled row
row_settled (unpack_of file r) h =
    only (Unpacked file) file-answer.Done file-answer.Refused (λ before a a' after after' p q. unpack_settles p q) r h
row_settled (tables_of words r) h = tables_only words r h
row_settled (replay_of list words r) h =
    only (Replay words list) replay-answer.Done replay-answer.Refused
    (λ before a a' after after' p q. replay_settles words list before p q) r h
row_settled (refusal_of words number place) h = (
  tables_only words (refuses number place) h.0,
  λ table before a after p. next_settles words table before p (h.1 table before),
)
row_settled (night_of words table hs) (g, e, row) =
    λ rest handed o. night_only words (table ++ rest) e hs (λ marks c. row rest marks c) handed o

pub all_settled : {rows : List Row} → All Holds rows → All Settled rows
all_settled no_more = no_more
all_settled (◌and◌ {row} h others) = row_settled row h and all_settled others
