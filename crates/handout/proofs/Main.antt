-- The final statements of this crate, each by one citation: what the promise of `next` comes to, and what a night of calls of it
-- comes to. A reader who believes specs/ and reads this page is done. Assumes nothing.
use Prim.Native.Nat.{ℕ, ◌≤◌, ◌<◌}
use mathlib.Core.Path.{◌≡◌}
use mathlib.Core.Logic.{◌↔◌}
use mathlib.Core.List.{List}
use lib.ListN.{length}
use Rattle.answers.specs.GrammarRefusals.{broken_layout}
use Rattle.answers.specs.Buffers.{over}
use Rattle.grammar.specs.Words.{Grammar, R, layout, reads, Are, FaultAt}
use Rattle.grammar.specs.Derivation.{ProductionCoverage}
use Rattle.grammar.specs.Refusals.{Accepted}
use Rattle.replay.specs.Replay.{Replay}
use Rattle.replay.specs.declared.ReplayAnswer.{ReplayAnswer}
use Rattle.replay.specs.declared.ReplayAnswer.TheVariants.{Done}
use Rattle.entries.specs.Table.{HasTable}
use Rattle.tables.specs.Dead.{Dead}
use Rattle.grammar.specs.Terms.{limit}
use Rattle.handout.specs.Answers.{Case, answer, of_words}
use Rattle.handout.specs.Next.{NextPromise, Lent}
use Rattle.handout.specs.Given.{Given, GivenFinished, GivenNext, Handed, SaysDead}
use Rattle.handout.specs.Night.{Handout, Night, Over, Enough, GoesOn, HandedOut, SentenceOf, UsedIn, Proper, AllProper}
use Rattle.handout.specs.declared.NextAnswer.{NextAnswer}
use Rattle.handout.specs.declared.NextAnswer.TheVariants.{Next, Finished, Refused}
use Rattle.handout.proofs.NextSettles as NextSettles
use Rattle.handout.proofs.NextMet as NextMet
use Rattle.handout.proofs.NextExact as NextExact
use Rattle.handout.proofs.NextDead as NextDead
use Rattle.handout.proofs.NightProper as NightProper
use Rattle.handout.proofs.NightCovers as NightCovers
use Rattle.handout.proofs.HandoutsReplay as HandoutsReplay
use Rattle.handout.proofs.NightEnds as NightEnds

-- NEXT. Its promise allows exactly one outcome, answer and three buffers, for each words, each table and each buffers before.
pub next_settles : (words table : List ℕ) (before : Lent) {a a' : NextAnswer} {after after' : Lent} →
    NextPromise words table before a after → NextPromise words table before a' after' → (a ≡ a') × (after ≡ after')
next_settles = NextSettles.next_settles

pub next_met : (words table : List ℕ) (before : Lent) →
    (a : NextAnswer) × (after : Lent) × NextPromise words table before a after
next_met = NextMet.next_met

-- Each answer is given exactly when document 01 says so (`Given`).
pub next_exactly : {words table : List ℕ} {before after : Lent} {a : NextAnswer} → NextPromise words table before a after →
    (x : Case) → (a ≡ answer x) ↔ Given words table before x
next_exactly = NextExact.next_exactly

pub next-finished : {words table : List ℕ} {before after : Lent} {a : NextAnswer} → NextPromise words table before a after →
    (a ≡ Finished) ↔ GivenFinished words table before
next-finished = NextExact.next-finished

pub next_next : {words table : List ℕ} {before after : Lent} {a : NextAnswer} → NextPromise words table before a after →
    (r n m : ℕ) → (a ≡ Next r n m) ↔ GivenNext words table before r n m
next_next = NextExact.next_next

pub next_first_offence : {words table : List ℕ} {before after : Lent} {a : NextAnswer} →
    NextPromise words table before a after → (p : ℕ) → (a ≡ answer (of_words (broken_layout p))) ↔ FaultAt words p
next_first_offence = NextExact.next_first_offence

-- At a refusal and at Finished the buffers keep their content; at Next they are as `Handed` says.
pub next_keeps : {words table : List ℕ} {before after : Lent} {a : NextAnswer} → NextPromise words table before a after →
    {number place : ℕ} → a ≡ Refused number place → after ≡ before
next_keeps = NextExact.next_keeps

pub next_finished_keeps : {words table : List ℕ} {before after : Lent} {a : NextAnswer} →
    NextPromise words table before a after → a ≡ Finished → after ≡ before
next_finished_keeps = NextExact.next_finished_keeps

pub next_writes : {words table : List ℕ} {before after : Lent} {a : NextAnswer} → NextPromise words table before a after →
    (r n m : ℕ) → a ≡ Next r n m → Are words (Handed words table before after r n m)
next_writes = NextExact.next_writes

-- DEAD. Of words that are a grammar it answers 5 or 6 exactly where some nonterminal stands in no complete tree of the start.
pub next_dead : (words : List ℕ) {g : Grammar} → layout words ≡ reads g →
    {table : List ℕ} {before after : Lent} {a : NextAnswer} → NextPromise words table before a after → SaysDead a ↔ Dead g
next_dead = NextDead.next_dead

-- THE NIGHT. Each handout is proper (`Proper`): its derivation is one of its sentence and the target is in it, the target is the
-- lowest rule that none before has used, no tree of the start that uses it is smaller, and sentence and derivation together are
-- at most 4,096 numbers.
pub night_proper : {words table marks : List ℕ} {hs : List Handout} {g : Grammar} → layout words ≡ reads g →
    Night words table hs marks → AllProper g hs
night_proper = NightProper.night_proper

pub each_proper : {g : Grammar} {hs : List Handout} {r : ℕ} {t ks : List ℕ} → AllProper g hs → HandedOut hs r t ks →
    (earlier-ones : List Handout) × Proper g earlier-ones r t ks
each_proper = NightCovers.each_proper

-- Its derivation replays to its sentence.
pub handouts_replay : {words table marks : List ℕ} {hs : List Handout} {g : Grammar} → layout words ≡ reads g →
    Night words table hs marks → {r : ℕ} {t ks : List ℕ} → HandedOut hs r t ks →
    {before after : List ℕ} {a : ReplayAnswer} → length t ≤ length before → Replay words ks before a after →
    (a ≡ Done (length t)) × (after ≡ over t before)
handouts_replay = HandoutsReplay.handouts_replay

-- After n sentences every rule below n is used; there are never more than R; at Finished all are used, and the sentences satisfy
-- Definition 2.10.
pub used_below : {words table : List ℕ} {hs : List Handout} {g : Grammar} → layout words ≡ reads g → {marks : List ℕ} →
    Night words table hs marks → (k : ℕ) → k < length hs → UsedIn hs k
used_below = NightCovers.used_below

pub at_most_R : {words table : List ℕ} {hs : List Handout} {g : Grammar} → layout words ≡ reads g → {marks : List ℕ} →
    Night words table hs marks → length hs ≤ R g
at_most_R = NightCovers.at_most_R

pub all_used : {words table : List ℕ} {hs : List Handout} {g : Grammar} → layout words ≡ reads g → Over words table hs →
    (k : ℕ) → k < R g → UsedIn hs k
all_used = NightCovers.all_used

pub night_covers : {words table : List ℕ} {hs : List Handout} {g : Grammar} → layout words ≡ reads g → Over words table hs →
    ProductionCoverage g (SentenceOf hs)
night_covers = NightCovers.night_covers

-- With the table, marks for all rules and room for 4,096 numbers in each buffer no call is refused, and a night does end.
pub never_refused : (words table : List ℕ) {g : Grammar} → layout words ≡ reads g → Accepted limit g → HasTable g table →
    {before after : Lent} {o : NextAnswer} → Enough g before → NextPromise words table before o after → GoesOn o
never_refused = NightEnds.never_refused

pub night_ends : (words table : List ℕ) {g : Grammar} → layout words ≡ reads g → Accepted limit g → HasTable g table →
    (tokens rules : List ℕ) → limit ≤ length tokens → limit ≤ length rules → (hs : List Handout) × Over words table hs
night_ends = NightEnds.night_ends
