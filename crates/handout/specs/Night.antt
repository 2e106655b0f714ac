-- A night: calls of `next` over one grammar and its table, from clear marks, each with the marks that the last one left, for as
-- long as it hands out sentences. The two buffers may be others at each call. It speaks of `next` only by its promise.
-- Assumes nothing.
use Rattle.std.specs.Prelude.{ℕ, ◌+◌, ◌≤◌, ◌<◌, ◌≡◌, List, [], ◌∷◌, ◌⊎◌, length, take}
use Rattle.grammar.specs.Words.{Grammar, R, layout, reads}
use Rattle.grammar.specs.Derivation.{Derives}
use Rattle.grammar.specs.Tree.{Tree, Uses, ◌∈◌}
use Rattle.grammar.specs.Measure.{tree_cost}
use Rattle.grammar.specs.Terms.{measure, limit}
use Rattle.handout.specs.Next.{Lent, AllUnused, NextPromise}
use Rattle.handout.specs.declared.NextAnswer.{NextAnswer}
use Rattle.handout.specs.declared.NextAnswer.TheVariants.{Next, Finished}

-- what one call hands out: the target, and what then stands at the front of the two buffers
pub data Handout : Type 0 where
  handout : (target : ℕ) (sentence derivation : List ℕ) → Handout

-- the handouts of a night so far, the last one first, and the marks after them
pub data Night (words table : List ℕ) : List Handout → List ℕ → Type 0 where
  clear : {g : Grammar} {marks : List ℕ} → layout words ≡ reads g → AllUnused g marks → Night words table [] marks
  later : {before after : Lent} {target n m : ℕ} {handed : List Handout} →
      Night words table handed before.marks → NextPromise words table before (Next target n m) after →
      Night words table (handout target (take n after.tokens) (take m after.rules) ∷ handed) after.marks

-- the night is over: the next call answers Finished
pub record Over (words table : List ℕ) (handed : List Handout) : Type 0 where
  pub before : Lent
  pub after : Lent
  pub night : Night words table handed before.marks
  pub ends : NextPromise words table before Finished after

-- room for the marks of all rules and for any sentence and derivation within the limit
pub record Enough (g : Grammar) (lent : Lent) : Type 0 where
  pub marks : R g ≤ length lent.marks
  pub tokens : limit ≤ length lent.tokens
  pub rules : limit ≤ length lent.rules

-- the answer is no refusal
abbrev pub GoesOn : NextAnswer → Type 0
GoesOn a = (a ≡ Finished) ⊎ ((r : ℕ) × (n : ℕ) × (m : ℕ) × (a ≡ Next r n m))

-- the target r with the sentence t and the derivation ks is one of the handouts
pub data HandedOut : List Handout → ℕ → List ℕ → List ℕ → Type 0 where
  this : {r : ℕ} {t ks : List ℕ} {hs : List Handout} → HandedOut (handout r t ks ∷ hs) r t ks
  earlier : {h : Handout} {r : ℕ} {t ks : List ℕ} {hs : List Handout} → HandedOut hs r t ks → HandedOut (h ∷ hs) r t ks

-- t is a sentence of the handouts
abbrev pub SentenceOf : List Handout → List ℕ → Type 0
SentenceOf hs t = (r : ℕ) × (ks : List ℕ) × HandedOut hs r t ks

-- the rule k stands in the derivation of one of the handouts
abbrev pub UsedIn : List Handout → ℕ → Type 0
UsedIn [] k = ⊥
UsedIn (handout r t ks ∷ hs) k = (k ∈ ks) ⊎ UsedIn hs k

-- what is to be shown of each handout, hs being those before it
pub record Proper (g : Grammar) (hs : List Handout) (r : ℕ) (t ks : List ℕ) : Type 0 where
  pub rule : r < R g
  -- the derivation is one of the sentence, and the target is in it
  pub derives : Derives g ks t
  pub uses : r ∈ ks
  -- the target is the lowest rule that none before has used
  pub new : ¬ UsedIn hs r
  pub lowest : (k : ℕ) → k < r → UsedIn hs k
  -- no tree of the start that uses it is smaller
  pub least : (u : Tree g g.start) → Uses r u → length t + length ks ≤ tree_cost measure u
  -- "In the suite no sentence and its derivation together exceed 4,096 numbers."
  pub limit : length t + length ks ≤ limit

pub data AllProper (g : Grammar) : List Handout → Type 0 where
  none_yet : AllProper g []
  and_then : {r : ℕ} {t ks : List ℕ} {hs : List Handout} → Proper g hs r t ks → AllProper g hs →
      AllProper g (handout r t ks ∷ hs)
