-- The final statements of this crate, each by one citation: what the promise of `replay` comes to. A reader who believes specs/ and
-- reads this page is done. Assumes nothing.
use Prim.Native.Nat.{ℕ}
use mathlib.Core.Path.{◌≡◌}
use mathlib.Core.Logic.{◌↔◌}
use mathlib.Core.List.{List}
use lib.ListN.{length}
use Rattle.answers.specs.Buffers.{over}
use Rattle.grammar.specs.Words.{FaultAt}
use Rattle.replay.specs.Answers.{Case, answer, done, broken_layout}
use Rattle.replay.specs.Replay.{Replay}
use Rattle.replay.specs.Given.{Given, GivenDone}
use Rattle.replay.specs.declared.ReplayAnswer.{ReplayAnswer}
use Rattle.replay.specs.declared.ReplayAnswer.TheVariants.{Refused}
use Rattle.replay.proofs.ReplaySettles as ReplaySettles
use Rattle.replay.proofs.ReplayExact as ReplayExact

-- SETTLED. The promise allows exactly one outcome, answer and buffer, for each words, each list and each buffer before.
pub replay_settles : (words list before : List ℕ) {a a' : ReplayAnswer} {after after' : List ℕ} →
    Replay words list before a after → Replay words list before a' after' → (a ≡ a') × (after ≡ after')
replay_settles = ReplaySettles.replay_settles

pub replay_met : (words list before : List ℕ) → (a : ReplayAnswer) × (after : List ℕ) × Replay words list before a after
replay_met = ReplaySettles.replay_met

-- EXACTLY. Each answer is given exactly when document 01 says so (`Given`); at a refusal the buffer keeps its content. A sentence
-- is written exactly where there is room for it and the list is a complete leftmost derivation of it, of at most 4,096 numbers;
-- Done tells of nothing else.
pub replay_exactly : {words list before after : List ℕ} {a : ReplayAnswer} → Replay words list before a after →
    (x : Case) → (a ≡ answer x) ↔ Given words list before x
replay_exactly = ReplayExact.replay_exactly

pub replay_first_offence : {words list before after : List ℕ} {a : ReplayAnswer} → Replay words list before a after →
    (p : ℕ) → (a ≡ answer (broken_layout p)) ↔ FaultAt words p
replay_first_offence = ReplayExact.replay_first_offence

pub replay_keeps : {words list before after : List ℕ} {a : ReplayAnswer} → Replay words list before a after →
    {number place : ℕ} → a ≡ Refused number place → after ≡ before
replay_keeps = ReplayExact.replay_keeps

pub replay_done : {words list before after : List ℕ} {a : ReplayAnswer} → Replay words list before a after →
    (t : List ℕ) → ((a ≡ answer (done (length t))) × (after ≡ over t before)) ↔ GivenDone words list before t
replay_done = ReplayExact.replay_done

pub replay_writes : {words list before after : List ℕ} {a : ReplayAnswer} → Replay words list before a after →
    (n : ℕ) → a ≡ answer (done n) →
    (t : List ℕ) × GivenDone words list before t × (n ≡ length t) × (after ≡ over t before)
replay_writes = ReplayExact.replay_writes
