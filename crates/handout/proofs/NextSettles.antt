-- The promise of `next` settles its answer, the marks and both buffers: for each words, table and three buffers before there is
-- at most one outcome that it allows. Rows 4 to 7 settle as everywhere, 8 and 9 by what is lent; the target is the lowest
-- unused rule, its tree has one sentence and one derivation, and these settle the marks. Assumes nothing.
use Prim.Native.Nat.{ℕ, ◌≤◌, ◌<◌}
use native.Mathlib.Omega.{arith}
use mathlib.Core.Path.{◌≡◌, refl, sym, ap, ◌∙◌}
use mathlib.Core.List.{List}
use lib.ListN.{length}
use Rattle.answers.specs.GrammarRefusals.{GrammarRefusal}
use Rattle.answers.specs.Buffers.{over}
use Rattle.grammar.specs.Words.{Grammar, R}
use Rattle.grammar.specs.Tree.{Tree, sentence, derivation}
use Rattle.grammar.specs.Terms.{measure, limit}
use Rattle.grammar.specs.Least.{TreeOf}
use Rattle.grammar.specs.Refusals.{Lowest}
use Rattle.grammar.proofs.Unique.{lowest_unique}
use Rattle.grammar.proofs.SameListing.{tree_of_same}
use Rattle.entries.specs.Table.{HasTable}
use Rattle.marks.proofs.Main.{mark_rules_settles}
use Rattle.answers.proofs.Gates.{Gate, stop, go, Settles, gate_settles}
use Rattle.grammar.proofs.FirstRows.{OfAccepted, refused, accepted, accepted_settle}
use Rattle.handout.specs.Answers.{Case, answer, next, finished, of_words, not_its_table, few_marks, too_short}
use Rattle.handout.specs.Answers.{derivation_short}
use Rattle.handout.specs.Next.{NextPromise, Unused, AllUsed, Marked, Wanted, Lent}
use Rattle.handout.specs.Next.{row_4_7, row_8, row_9, row_finished, row_3, row_10, row_next}
use Rattle.handout.specs.declared.NextAnswer.{NextAnswer}

-- the target r, and the listing of its tree
record TargetListing (g : Grammar) (marks : List ℕ) (r : ℕ) (s d : List ℕ) : Type 0 where
  target : Lowest (Unused g marks) r
  t : Tree g g.start
  tree : TreeOf measure g r t
  says : sentence t ≡ s
  lists : derivation t ≡ d

listed : {words table marks : List ℕ} {g : Grammar} {r : ℕ} {t : Tree g g.start} → Wanted words table marks g r t →
    TargetListing g marks r (sentence t) (derivation t)
listed {t = t} w = record { target = w.target; t = t; tree = w.tree; says = refl; lists = refl }

-- it is one
module _ {g : Grammar} {marks s s' d d' : List ℕ} {r r' : ℕ} (a : TargetListing g marks r s d)
    (b : TargetListing g marks r' s' d') where
  target_same : r ≡ r'
  target_same = lowest_unique a.target b.target

  sentence_same : s ≡ s'
  sentence_same = sym a.says ∙ (tree_of_same measure (rw target_same at a.tree) b.tree).sentences_same ∙ b.says

  derivation_same : d ≡ d'
  derivation_same = sym a.lists ∙ (tree_of_same measure (rw target_same at a.tree) b.tree).derivations_same ∙ b.lists

module _ (words table : List ℕ) (before : Lent) where
  -- the answer and the three buffers afterwards
  abbrev Out : Type 0
  Out = NextAnswer × Lent

  -- that of an answer with which they are kept
  abbrev keeping : Case → Out
  keeping x = (answer x, before)

  -- the sentence does not fit, n being its length; it fits; and the same of the derivation
  data SentenceShort (g : Grammar) : ℕ → Type 0 where
    short : {r : ℕ} {s d : List ℕ} → TargetListing g before.marks r s d → length before.tokens < length s →
        SentenceShort g (length s)

  data SentenceFits (g : Grammar) : Type 0 where
    fits : {r : ℕ} {s d : List ℕ} → TargetListing g before.marks r s d → length s ≤ length before.tokens → SentenceFits g

  data DerivationShort (g : Grammar) : ℕ → Type 0 where
    short_rules : {r : ℕ} {s d : List ℕ} → TargetListing g before.marks r s d → length before.rules < length d →
        DerivationShort g (length d)

  data DerivationFits (g : Grammar) : Type 0 where
    fit_rules : {r : ℕ} {s d : List ℕ} → TargetListing g before.marks r s d → length d ≤ length before.rules →
        DerivationFits g

  -- they are handed out
  abbrev handed : ℕ → List ℕ → List ℕ → List ℕ → Out
  handed r s d marks = (
    answer (next r (length s) (length d)),
    record { marks = marks; tokens = over s before.tokens; rules = over d before.rules },
  )

  data NextRow (g : Grammar) : Out → Type 0 where
    next_row : {r : ℕ} {s d marks : List ℕ} → TargetListing g before.marks r s d → Marked d before.marks marks →
        NextRow g (handed r s d marks)

  -- the rows of an accepted grammar g as gates: 8, 9, Finished, 3, 10, next
  abbrev FromTen : Grammar → Out → Type 0
  FromTen g = Gate (DerivationShort g) (DerivationFits g) (λ n. keeping (derivation_short n)) (NextRow g)

  abbrev FromThree : Grammar → Out → Type 0
  FromThree g = Gate (SentenceShort g) (SentenceFits g) (λ n. keeping (too_short n)) (FromTen g)

  abbrev FromFinished : Grammar → Out → Type 0
  FromFinished g =
      Gate {X = Unit {0}} (λ x. AllUsed g before.marks) ((r : ℕ) × Lowest (Unused g before.marks) r)
      (λ x. keeping finished) (FromThree g)

  abbrev FromNine : Grammar → Out → Type 0
  FromNine g =
      Gate {X = Unit {0}} (λ x. length before.marks < R g) (R g ≤ length before.marks) (λ x. keeping (few_marks (R g)))
      (FromFinished g)

  abbrev Rows : Grammar → Out → Type 0
  Rows g = Gate {X = Unit {0}} (λ x. ¬ HasTable g table) (HasTable g table) (λ x. keeping not_its_table) (FromNine g)

  short_unique : (g : Grammar) (n m : ℕ) → SentenceShort g n → SentenceShort g m → n ≡ m
  short_unique g _ _ (short a h) (short b k) = ap length (sentence_same a b)

  short_apart : (g : Grammar) (n : ℕ) → SentenceShort g n → SentenceFits g → ⊥
  short_apart g _ (short a h) (fits b k) = omega (arith, ap length (sentence_same a b))

  rules_unique : (g : Grammar) (n m : ℕ) → DerivationShort g n → DerivationShort g m → n ≡ m
  rules_unique g _ _ (short_rules a h) (short_rules b k) = ap length (derivation_same a b)

  rules_apart : (g : Grammar) (n : ℕ) → DerivationShort g n → DerivationFits g → ⊥
  rules_apart g _ (short_rules a h) (fit_rules b k) = omega (arith, ap length (derivation_same a b))

  next_row_settles : (g : Grammar) → Settles (NextRow g)
  next_row_settles g _ _ (next_row {marks = m} a h) (next_row {marks = m'} b k) =
      let same : m ≡ m' = mark_rules_settles h (rw (derivation_same a b) k) in
      rw (target_same a b, sentence_same a b, derivation_same a b, same) refl

  rows_settle : (g : Grammar) → Settles (Rows g)
  rows_settle g =
      gate_settles {X = Unit {0}} (λ x. keeping not_its_table) (λ x y a b. refl) (λ x a b. a b)
      (gate_settles {X = Unit {0}} (λ x. keeping (few_marks (R g))) (λ x y a b. refl) (λ x a b. omega arith)
      (gate_settles {X = Unit {0}} (λ x. keeping finished) (λ x y a b. refl)
      (λ x a b. a b.0 b.1.such.rule b.1.such.zero)
      (gate_settles (λ n. keeping (too_short n)) (short_unique g) (short_apart g)
      (gate_settles (λ n. keeping (derivation_short n)) (rules_unique g) (rules_apart g)
      (next_row_settles g)))))

  abbrev refuse : GrammarRefusal → Out
  refuse x = keeping (of_words x)

  -- past Finished
  wanted : {g : Grammar} {r : ℕ} {t : Tree g g.start} {o : Out} → Wanted words table before.marks g r t →
      FromThree g o → OfAccepted limit words refuse Rows o
  wanted {r = r} w z = accepted w.grammar w.accepted (go w.tabled (go w.marked (go (r, w.target) z)))

  rows : {a : NextAnswer} {after : Lent} → NextPromise words table before a after → OfAccepted limit words refuse Rows (a, after)
  rows (row_4_7 x) = refused x
  rows (row_8 e a n) = accepted e a (stop {x = tt} n)
  rows (row_9 e a t l) = accepted e a (go t (stop {x = tt} l))
  rows (row_finished e a t l u) = accepted e a (go t (go l (stop {x = tt} u)))
  rows (row_3 w l) = wanted w (stop (short (listed w) l))
  rows (row_10 w l m) = wanted w (go (fits (listed w) l) (stop (short_rules (listed w) m)))
  rows (row_next w l m k) = wanted w (go (fits (listed w) l) (go (fit_rules (listed w) m) (next_row (listed w) k)))

  -- AT MOST ONE
  pub next_settles : {a a' : NextAnswer} {after after' : Lent} →
      NextPromise words table before a after → NextPromise words table before a' after' → (a ≡ a') × (after ≡ after')
  next_settles {a} {a'} {after} {after'} x y =
      let e = accepted_settle limit words refuse Rows rows_settle (a, after) (a', after') (rows x) (rows y) in
      (ap (λ (o : Out). o.0) e, ap (λ (o : Out). o.1) e)
