-- "Next: takes words, table, marks (one octet per rule, 0 for unused, anything else for used), and two buffers. Its target is the
-- lowest unused rule. It writes that rule's sentence and derivation, and sets to 1 the zero marks of exactly the rules in the
-- derivation. It returns the target and both lengths. With no rule unused it answers Finished and writes nothing."
-- What `next` promises: of words, a table and three lent buffers, the answer and the buffers afterwards. Rows 4 to 7 and then one
-- row a constructor, in document 01's order: 4, 5, 6, 7, 8, 9, then Finished, then 3, 10. "Every row returns its number and the
-- place shown; no buffer changes." Marks past those of the rules are not looked at and keep their content. Assumes nothing.
use Rattle.std.specs.Prelude.{ℕ, ◌≤◌, ◌<◌, ◌≡◌, List, length, get_or}
use Rattle.answers.specs.GrammarRefusals.{GrammarRefusal}
use Rattle.answers.specs.Buffers.{over}
use Rattle.grammar.specs.Words.{Grammar, R, layout, reads}
use Rattle.grammar.specs.Tree.{Tree, sentence, derivation}
use Rattle.grammar.specs.Terms.{measure, limit}
use Rattle.grammar.specs.Least.{TreeOf}
use Rattle.grammar.specs.Refusals.{Lowest, Accepted}
use Rattle.grammar.specs.Rows.{GrammarRefused}
use Rattle.entries.specs.Table.{HasTable}
use Rattle.handout.specs.Answers.{answer, next, finished, of_words, not_its_table, few_marks, too_short, derivation_short}
use Rattle.handout.specs.declared.NextAnswer.{NextAnswer}
-- "sets to 1 the zero marks of exactly the rules in the derivation"
pub use Rattle.marks.specs.Marks.{Marked}

-- the three lent buffers: the marks, the sentence's and the derivation's
pub record Lent : Type 0 where
  pub marks : List ℕ
  pub tokens : List ℕ
  pub rules : List ℕ

-- a rule whose mark is 0; that there is none; and that each is such a one: clear marks. Marks past those of the rules are not
-- looked at.
pub record Unused (g : Grammar) (marks : List ℕ) (r : ℕ) : Type 0 where
  pub rule : r < R g
  pub zero : get_or marks r 0 ≡ 0

abbrev pub AllUsed : Grammar → List ℕ → Type 0
AllUsed g marks = (r : ℕ) → r < R g → ¬ (get_or marks r 0 ≡ 0)

abbrev pub AllUnused : Grammar → List ℕ → Type 0
AllUnused g marks = (r : ℕ) → r < R g → get_or marks r 0 ≡ 0

-- rows 4 to 9 are passed and a rule is unused: r is the lowest, and t its tree
pub record Wanted (words table marks : List ℕ) (g : Grammar) (r : ℕ) (t : Tree g g.start) : Type 0 where
  pub grammar : layout words ≡ reads g
  pub accepted : Accepted limit g
  pub tabled : HasTable g table
  pub marked : R g ≤ length marks
  pub target : Lowest (Unused g marks) r
  pub tree : TreeOf measure g r t

pub data NextPromise (words table : List ℕ) (before : Lent) : NextAnswer → Lent → Type 0 where
  -- 4, 5, 6 and 7
  row_4_7 : {x : GrammarRefusal} → GrammarRefused limit words x →
      NextPromise words table before (answer (of_words x)) before
  -- "the first 5N + R table words are missing or are not this grammar's table"
  row_8 : {g : Grammar} → layout words ≡ reads g → Accepted limit g → ¬ HasTable g table →
      NextPromise words table before (answer not_its_table) before
  -- "fewer marks than rules"
  row_9 : {g : Grammar} → layout words ≡ reads g → Accepted limit g → HasTable g table → length before.marks < R g →
      NextPromise words table before (answer (few_marks (R g))) before
  -- "With no rule unused it answers Finished and writes nothing."
  row_finished : {g : Grammar} → layout words ≡ reads g → Accepted limit g → HasTable g table → R g ≤ length before.marks →
      AllUsed g before.marks →
      NextPromise words table before (answer finished) before
  -- "sentence buffer too short"
  row_3 : {g : Grammar} {r : ℕ} {t : Tree g g.start} → Wanted words table before.marks g r t →
      length before.tokens < length (sentence t) →
      NextPromise words table before (answer (too_short (length (sentence t)))) before
  -- "derivation buffer too short"
  row_10 : {g : Grammar} {r : ℕ} {t : Tree g g.start} → Wanted words table before.marks g r t →
      length (sentence t) ≤ length before.tokens → length before.rules < length (derivation t) →
      NextPromise words table before (answer (derivation_short (length (derivation t)))) before
  -- "It returns the target and both lengths."
  row_next : {g : Grammar} {r : ℕ} {t : Tree g g.start} {marks : List ℕ} → Wanted words table before.marks g r t →
      length (sentence t) ≤ length before.tokens → length (derivation t) ≤ length before.rules →
      Marked (derivation t) before.marks marks →
      NextPromise words table before (answer (next r (length (sentence t)) (length (derivation t))))
      (record { marks = marks; tokens = over (sentence t) before.tokens; rules = over (derivation t) before.rules })
