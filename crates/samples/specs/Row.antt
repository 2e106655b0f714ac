-- What a row of document 01's "Sample grammars" is, and what it means that it holds: each by the promise of the call that it
-- speaks of. What is written is written into every lent buffer with room for it; a refusal is given for every buffer at all, and
-- the buffer keeps its content. Assumes nothing.
use Rattle.std.specs.Prelude.{ℕ, ◌≤◌, ◌≡◌, List, [], ◌∷◌, ◌++◌, reverse, length}
use Rattle.answers.specs.Buffers.{over}
use Rattle.packed.specs.Promise.{Unpacked}
use Rattle.packed.specs.declared.FileAnswer.TheVariants as file-answer
use Rattle.grammar.specs.Words.{Grammar, R, layout, reads}
use Rattle.tables.specs.Promise.{Tables}
use Rattle.tables.specs.declared.TableAnswer.TheVariants as table-answer
use Rattle.replay.specs.Replay.{Replay}
use Rattle.replay.specs.declared.ReplayAnswer.TheVariants as replay-answer
use Rattle.handout.specs.Next.{NextPromise, Lent, AllUnused}
use Rattle.handout.specs.Night.{Handout, handout, Over}
use Rattle.handout.specs.declared.NextAnswer.{NextAnswer}
use Rattle.handout.specs.declared.NextAnswer.TheVariants as next-answer

-- the column "Result" of a call that writes into one buffer: what it writes, or the refusal's number and place
pub data Result : Type 0 where
  writes : List ℕ → Result
  refuses : (number place : ℕ) → Result

pub data Row : Type 0 where
  -- "unpack .."
  unpack_of : (file : List ℕ) → Result → Row
  -- "tables of .."
  tables_of : (words : List ℕ) → Result → Row
  -- "replay .. over .."
  replay_of : (list words : List ℕ) → Result → Row
  -- "words ..", which `tables` and `next` both refuse
  refusal_of : (words : List ℕ) (number place : ℕ) → Row
  -- "words ..", with their table: what `next` hands out of them, one sentence a call, until it answers Finished
  night_of : (words table : List ℕ) → List Handout → Row

-- A CALL ANSWERS SO. `promise` is its promise of the buffer before, the answer and the buffer afterwards.
module _ {Answer : Type 0} (promise : List ℕ → Answer → List ℕ → Type 0) (done : ℕ → Answer) (refused : ℕ → ℕ → Answer) where
  abbrev pub Answers : Result → Type 0
  Answers (writes out) =
      (before : List ℕ) → length out ≤ length before → promise before (done (length out)) (over out before)
  Answers (refuses number place) = (before : List ℕ) → promise before (refused number place) before

  -- and nothing else is allowed
  abbrev pub AnswersOnly : Result → Type 0
  AnswersOnly (writes out) =
      (before : List ℕ) → length out ≤ length before → (a : Answer) (after : List ℕ) → promise before a after →
      (a ≡ done (length out)) × (after ≡ over out before)
  AnswersOnly (refuses number place) =
      (before : List ℕ) (a : Answer) (after : List ℕ) → promise before a after → (a ≡ refused number place) × (after ≡ before)

-- A NIGHT
abbrev pub lent : List ℕ → List ℕ → List ℕ → Lent
lent marks tokens rules = record { marks = marks; tokens = tokens; rules = rules }

-- a call of `next` with these marks hands this out, into any buffers with room for it, and leaves the marks `marked`
abbrev pub HandsOut : List ℕ → List ℕ → List ℕ → Handout → List ℕ → Type 0
HandsOut words table marks (handout target s d) marked =
    (tokens rules : List ℕ) → length s ≤ length tokens → length d ≤ length rules →
    NextPromise words table (lent marks tokens rules) (next-answer.Next target (length s) (length d))
    (lent marked (over s tokens) (over d rules))

-- calls of `next` in turn, the first with these marks: each hands out the next of these, and the one after the last is Finished
abbrev pub Hands : List ℕ → List ℕ → List ℕ → List Handout → Type 0
Hands words table marks [] =
    (tokens rules : List ℕ) →
    NextPromise words table (lent marks tokens rules) next-answer.Finished (lent marks tokens rules)
Hands words table marks (h ∷ hs) = (marked : List ℕ) × HandsOut words table marks h marked × Hands words table marked hs

-- "marks (one octet per rule, 0 for unused ..)": each rule has one, and it is 0; octets past those are not looked at
pub record ClearMarks (g : Grammar) (marks : List ℕ) : Type 0 where
  pub enough : R g ≤ length marks
  pub clear : AllUnused g marks

-- A ROW HOLDS. What follows the table in its lent words may be anything.
abbrev pub Holds : Row → Type 0
Holds (unpack_of file r) = Answers (Unpacked file) file-answer.Done file-answer.Refused r
Holds (tables_of words r) = Answers (Tables words) table-answer.Done table-answer.Refused r
Holds (replay_of list words r) = Answers (Replay words list) replay-answer.Done replay-answer.Refused r
Holds (refusal_of words number place) =
    ((before : List ℕ) → Tables words before (table-answer.Refused number place) before) ×
    ((table : List ℕ) (before : Lent) → NextPromise words table before (next-answer.Refused number place) before)
Holds (night_of words table hs) =
    (g : Grammar) × (layout words ≡ reads g) ×
    ((rest marks : List ℕ) → ClearMarks g marks → Hands words (table ++ rest) marks hs)

-- A ROW IS SETTLED: any outcome that the promises allow for it is the row's. Of a night: whichever calls come to Finished, they
-- have handed out the row's (`Over` has the last one first).
abbrev pub Settled : Row → Type 0
Settled (unpack_of file r) = AnswersOnly (Unpacked file) file-answer.Done file-answer.Refused r
Settled (tables_of words r) = AnswersOnly (Tables words) table-answer.Done table-answer.Refused r
Settled (replay_of list words r) = AnswersOnly (Replay words list) replay-answer.Done replay-answer.Refused r
Settled (refusal_of words number place) =
    AnswersOnly (Tables words) table-answer.Done table-answer.Refused (refuses number place) ×
    ((table : List ℕ) (before : Lent) (a : NextAnswer) (after : Lent) → NextPromise words table before a after →
    (a ≡ next-answer.Refused number place) × (after ≡ before))
Settled (night_of words table hs) =
    (rest : List ℕ) (handed : List Handout) → Over words (table ++ rest) handed → handed ≡ reverse hs

-- of every row of a list
infixr 20 ◌and◌
pub data All (P : Row → Type 0) : List Row → Type 0 where
  no_more : All P []
  ◌and◌ : {row : Row} {rows : List Row} → P row → All P rows → All P (row ∷ rows)
