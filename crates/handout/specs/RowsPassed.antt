-- For the private functions of answer: what is known on the way, row after row. Nobody has to believe this file; the promises do
-- not cite it. Assumes nothing.
use Rattle.std.specs.Prelude.{ℕ, ◌≤◌, ◌<◌, ◌≡◌, List, length, Option, Some, None, Result, Ok, Err}
use Rattle.answers.specs.GrammarRefusals.{GrammarRefusal, number, place}
use Rattle.answers.specs.Refusals.{number_of, place_of}
use Rattle.answers.specs.declared.Refusal.{Refusal}
use Rattle.answers.specs.declared.Refusal.TheVariants as refusal
use Rattle.grammar.specs.Words.{R, Are}
use Rattle.grammar.specs.Refusals.{Accepted, Lowest}
use Rattle.grammar.specs.Rows.{GrammarRefused}
use Rattle.grammar.specs.Terms.{measure, limit}
use Rattle.grammar.specs.Tree.{Tree, sentence, derivation}
use Rattle.grammar.specs.Least.{TreeOf}
use Rattle.handout.specs.Answers.{told}
use Rattle.handout.specs.Next.{Unused, Lent, NextPromise}
use Rattle.handout.specs.Listing.{grammar_of}
use Rattle.handout.specs.TreeListing.{TreeFits}
use Rattle.handout.specs.declared.NextAnswer.TheVariants.{Finished}
use Rattle.handout.specs.declared.tabled.Tabled.{Tabled}

-- the table is none of a grammar's own: the words are refused, by 4, 5, 6 or 7, or else the table is, by 8
pub data UpToEight (words : List ℕ) : Refusal → Type 0 where
  words_refused : {x : GrammarRefusal} {y : Refusal} → GrammarRefused limit words x → number_of y ≡ number x → place_of y ≡ place x →
      UpToEight words y
  table_refused : Are words (Accepted limit) → UpToEight words refusal.NotItsTable

-- 9 is passed too, and r is the lowest unused rule
pub record Wants (t : Tabled) (marks : List ℕ) (r : ℕ) : Type 0 where
  pub marked : R (grammar_of t) ≤ length marks
  pub target : Lowest (Unused (grammar_of t) marks) r

-- what is found before a word is written: an answer with which the buffers are kept, or a target, with room for its tree
abbrev pub Decided : Tabled → Lent → Result (Option ℕ) Refusal → Type 0
Decided t lent (Ok (Some r)) = Wants t lent.marks r × TreeFits t r (length lent.tokens) (length lent.rules)
Decided t lent (Ok None) = NextPromise t.reading.now.words.now t.table.now lent Finished lent
Decided t lent (Err x) = NextPromise t.reading.now.words.now t.table.now lent (told x) lent

-- 3 and 10: what there is too little room for, of so many tokens and rule numbers
pub data Short (tokens rules : ℕ) (sentence derivation : List ℕ) : Refusal → Type 0 where
  short_sentence : tokens < length sentence → Short tokens rules sentence derivation (refusal.TooShort (length sentence))
  short_derivation : length sentence ≤ tokens → rules < length derivation →
      Short tokens rules sentence derivation (refusal.DerivationShort (length derivation))

pub record TreeShort (t : Tabled) (r tokens rules : ℕ) (x : Refusal) : Type 0 where
  pub of_tree : (u : Tree (grammar_of t) (grammar_of t).start) → TreeOf measure (grammar_of t) r u →
      Short tokens rules (sentence u) (derivation u) x

-- whether there is room for the tree of rule r
abbrev pub RoomTold : Tabled → ℕ → ℕ → ℕ → Result Unit Refusal → Type 0
RoomTold t r tokens rules (Ok x) = TreeFits t r tokens rules
RoomTold t r tokens rules (Err x) = TreeShort t r tokens rules x
