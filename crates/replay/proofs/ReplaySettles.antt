-- The promise of `replay` settles its answer and its buffer: for each words, list and buffer before there is exactly one outcome
-- that it allows. At most one: a list derives one sentence or stops at one place, and never both. At least one: it can be
-- replayed by computing. Assumes nothing.
use Prim.Native.Nat.{ℕ, ◌≤◌, ◌<◌}
use native.Mathlib.Omega.{arith}
use native.Mathlib.Decide.{dec_lt}
use mathlib.Core.Path.{◌≡◌, refl, ap}
use mathlib.Core.List.{List}
use lib.ListN.{length}
use Rattle.answers.specs.Buffers.{over}
use Rattle.grammar.specs.Words.{Grammar, layout, reads}
use Rattle.grammar.specs.Derivation.{Derives, StopsAt}
use Rattle.grammar.specs.Replaying.{Replayed, derived, stopped, replay}
use Rattle.grammar.proofs.Replay.{replay_exact, replay_stops, derives_unique, stops_unique, derives_or_stops}
use Rattle.answers.proofs.Gates.{Gate, stop, go, Settles, gate_settles}
use Rattle.grammar.proofs.FirstRows.{OfWords, fault, grammar, words_settle}
use Rattle.grammar.proofs.FirstRowsMet.{words_met}
use Rattle.replay.specs.Answers.{Case, answer, done, broken_layout, long_list, no_derivation, too_short}
use Rattle.replay.specs.Replay.{Replay, row_4, row_12, row_11, row_3, row_done, most_numbers}
use Rattle.replay.specs.declared.ReplayAnswer.{ReplayAnswer}

module _ (words list before : List ℕ) where
  -- the answer and the buffer afterwards
  abbrev Out : Type 0
  Out = ReplayAnswer × List ℕ

  -- that of a refusal
  abbrev keeping : Case → Out
  keeping x = (answer x, before)

  -- the sentence does not fit, n being its length; it fits; it is written
  data Short (g : Grammar) : ℕ → Type 0 where
    short : {t : List ℕ} → Derives g list t → length before < length t → Short g (length t)

  data SentenceRoom (g : Grammar) : Type 0 where
    room : {t : List ℕ} → Derives g list t → length t ≤ length before → SentenceRoom g

  data SentenceWritten (g : Grammar) : Out → Type 0 where
    written : {t : List ℕ} → Derives g list t → SentenceWritten g (answer (done (length t)), over t before)

  -- the rows of a grammar g as gates: 12, 11, 3, done
  abbrev FromThree : Grammar → Out → Type 0
  FromThree g = Gate (Short g) (SentenceRoom g) (λ n. keeping (too_short n)) (SentenceWritten g)

  abbrev FromEleven : Grammar → Out → Type 0
  FromEleven g = Gate (StopsAt g list) ((t : List ℕ) × Derives g list t) (λ p. keeping (no_derivation p)) (FromThree g)

  abbrev Rows : Grammar → Out → Type 0
  Rows g =
      Gate {X = Unit {0}} (λ x. most_numbers < length list) (length list ≤ most_numbers) (λ x. keeping long_list) (FromEleven g)

  short_unique : (g : Grammar) (n m : ℕ) → Short g n → Short g m → n ≡ m
  short_unique g _ _ (short a h) (short b k) = ap length (derives_unique g a b)

  short_apart : (g : Grammar) (n : ℕ) → Short g n → SentenceRoom g → ⊥
  short_apart g _ (short a h) (room b k) = omega (arith, ap length (derives_unique g a b))

  written_settles : (g : Grammar) → Settles (SentenceWritten g)
  written_settles g _ _ (written a) (written b) = ap (λ t. (answer (done (length t)), over t before)) (derives_unique g a b)

  rows_settle : (g : Grammar) → Settles (Rows g)
  rows_settle g =
      gate_settles {X = Unit {0}} (λ x. keeping long_list) (λ x y a b. refl) (λ x a b. omega arith)
      (gate_settles (λ p. keeping (no_derivation p)) (λ x y a b. stops_unique g a b) (λ x a b. derives_or_stops g b.1 a)
      (gate_settles (λ n. keeping (too_short n)) (short_unique g) (short_apart g)
      (written_settles g)))

  rows : {a : ReplayAnswer} {after : List ℕ} → Replay words list before a after →
      OfWords words (λ p. keeping (broken_layout p)) Rows (a, after)
  rows (row_4 e) = fault e
  rows (row_12 e l) = grammar e (stop {x = tt} l)
  rows (row_11 e l s) = grammar e (go l (stop s))
  rows (row_3 {t = t} e l d h) = grammar e (go l (go (t, d) (stop (short d h))))
  rows (row_done {t = t} e l d h) = grammar e (go l (go (t, d) (go (room d h) (written d))))

  -- AT MOST ONE
  pub replay_settles : {a a' : ReplayAnswer} {after after' : List ℕ} →
      Replay words list before a after → Replay words list before a' after' → (a ≡ a') × (after ≡ after')
  replay_settles {a} {a'} {after} {after'} x y =
      let e = words_settle words _ Rows rows_settle (a, after) (a', after') (rows x) (rows y) in
      (ap (λ (o : Out). o.0) e, ap (λ (o : Out). o.1) e)

  -- a row of a grammar that the words are
  abbrev Row : Grammar → Out → Type 0
  Row g o = layout words ≡ reads g → Replay words list before o.0 o.1

  row_met : (g : Grammar) → (o : Out) × Row g o
  row_met g = list? (dec_lt most_numbers (length list))
    where
      room? : length list ≤ most_numbers → (t : List ℕ) → Derives g list t → Dec (length before < length t) → (o : Out) × Row g o
      room? l t d (yes h) = (keeping (too_short (length t)), λ e. row_3 e l d h)
      room? l t d (no h) = ((answer (done (length t)), over t before), λ e. row_done e l d (omega arith))

      derives? : length list ≤ most_numbers → (z : Replayed) → replay g list ≡ z → (o : Out) × Row g o
      derives? l (derived t) h = room? l t ((replay_exact g list t).0 h) (dec_lt (length before) (length t))
      derives? l (stopped p) h = (keeping (no_derivation p), λ e. row_11 e l ((replay_stops g list p).0 h))

      list? : Dec (most_numbers < length list) → (o : Out) × Row g o
      list? (yes h) = (keeping long_list, λ e. row_12 e h)
      list? (no h) = derives? (omega arith) (replay g list) refl

  -- AT LEAST ONE
  pub replay_met : (a : ReplayAnswer) × (after : List ℕ) × Replay words list before a after
  replay_met = let (o, z) = words_met words _ Row (λ g ok. row_met g) in (o.0, o.1, row z)
    where
      row : {o : Out} → OfWords words (λ p. keeping (broken_layout p)) Row o → Replay words list before o.0 o.1
      row (fault e) = row_4 e
      row (grammar e z) = z e
