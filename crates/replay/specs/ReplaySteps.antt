-- For the private functions of `replay`: the list, what is left of the form, and what a step does to it. Nobody has to believe
-- this file; the promises do not cite it.
-- Assumes nothing.
use Rattle.std.specs.Prelude.{ℕ, ◌+◌, ◌*◌, ◌-◌, ◌≤◌, ◌<◌, ◌≡◌, List, [], ◌∷◌, length, get_or, drop}
use Rattle.std.specs.Prelude.{Option, Some, None, Result, Ok, Err}
use Rattle.std.specs.Borrow.{Bor}
use Rattle.std.proofs.lemmas.List.Edits.{sets}
use Rattle.answers.specs.Refusals.{place_of}
use Rattle.answers.specs.declared.Refusal.{Refusal}
use Rattle.answers.specs.declared.Refusal.TheVariants.{NoDerivation, LongList}
use Rattle.grammar.specs.Words.{Grammar}
use Rattle.grammar.specs.Replaying.{Replayed, derived, stopped, replayed, replay}
use Rattle.layout.specs.declared.reading.Reading.{Reading}
use Rattle.replay.specs.Replay.{most_numbers}
use Rattle.replay.specs.Forms.{rest_at, form_of}
use Rattle.replay.specs.declared.forms.Open.{Open}
use Rattle.replay.specs.declared.forms.Rest.{Rest}
use Rattle.replay.specs.declared.rule_list.RuleList.{RuleList}

-- a list is made of these numbers and that reading, or the numbers are too many
abbrev pub Listed : Bor Reading → Bor (List ℕ) → Result RuleList Refusal → Type 0
Listed reading numbers (Ok l) = (l.reading ≡ reading) × (l.numbers ≡ numbers)
Listed reading numbers (Err e) = (e ≡ LongList most_numbers) × (most_numbers < length numbers.now)

-- the words whose rules are numbered
abbrev pub words_of : RuleList → List ℕ
words_of l = l.reading.now.words.now

-- the next number, and the index of its rule
abbrev pub next_number : RuleList → Open → ℕ
next_number l o = get_or l.numbers.now o.next 0

abbrev pub next_place : RuleList → Open → ℕ
next_place l o = get_or l.reading.now.places (next_number l o) 0

-- a rule's left side is the next symbol
abbrev pub Fits : RuleList → Open → Type 0
Fits l o = get_or (words_of l) (next_place l o) 0 ≡ get_or (words_of l) o.at 0

-- where the rule stands that the next number names, if it is one for the next symbol
pub record Named (l : RuleList) (o : Open) (at : ℕ) : Type 0 where
  pub more : o.next < length l.numbers.now
  pub below : next_number l o < l.reading.now.rules
  pub fits : Fits l o
  pub is : at ≡ next_place l o

abbrev pub NextRule : RuleList → Open → Option ℕ → Type 0
NextRule l o (Some at) = Named l o at
NextRule l o None = o.next < length l.numbers.now → next_number l o < l.reading.now.rules → ¬ Fits l o

-- what the replay comes to from there
abbrev pub rest : Grammar → RuleList → List Rest → Open → Replayed
rest g l stack o = replayed g (drop o.next l.numbers.now) o.next (form_of (words_of l) stack o)

-- a token in front of what a replay comes to
abbrev pub front : ℕ → Replayed → Replayed
front s (derived t) = derived (s ∷ t)
front s (stopped p) = stopped p

-- tokens in front of what a replay comes to
abbrev pub all_front : List ℕ → Replayed → Replayed
all_front [] z = z
all_front (s ∷ t) z = front s (all_front t z)

-- the bounds of what is open
pub record WithinBounds (l : RuleList) (stack : List Rest) (o : Open) : Type 0 where
  pub room : length l.numbers.now ≤ length stack
  pub inside : o.at + o.left ≤ length (words_of l)
  pub all_inside : (i : ℕ) → i < o.depth → (rest_at stack i).at + (rest_at stack i).left ≤ length (words_of l)
  pub waits : o.depth ≤ o.next
  pub used : o.next ≤ length l.numbers.now
  pub few_tokens : o.tokens + length (form_of (words_of l) stack o) ≤ 1 + 65535 * o.next

-- how much is still to be done, at most
abbrev pub to_do : RuleList → List Rest → Open → ℕ
to_do l stack o = 65537 * (length l.numbers.now - o.next) + length (form_of (words_of l) stack o) + o.depth

pub record Onward (l : RuleList) (stack : List Rest) (o : Open) (stack' : List Rest) (o' : Open) : Type 0 where
  pub kept : WithinBounds l stack' o'
  pub less : to_do l stack' o' < to_do l stack o

-- a step keeps the bounds
abbrev pub Bounded : RuleList → List Rest → Open → Result (Option Open) Refusal → List Rest → Type 0
Bounded l stack o (Ok (Some o')) stack' = Onward l stack o stack' o'
Bounded l stack o (Ok None) stack' = Unit {0}
Bounded l stack o (Err e) stack' = Unit {0}

-- 11, where a replay stops
abbrev pub Stops : Replayed → Refusal → Type 0
Stops z e = (e ≡ NoDerivation (place_of e)) × (z ≡ stopped (place_of e))

-- what a step makes of the replay: it goes on with what is open then, or is complete, or stops
abbrev pub Turned : Grammar → RuleList → List Rest → Open → Result (Option Open) Refusal → List Rest → Type 0
Turned g l stack o (Ok (Some o')) stack' = (o'.tokens ≡ o.tokens) × (rest g l stack o ≡ rest g l stack' o')
Turned g l stack o (Ok None) stack' = rest g l stack o ≡ derived []
Turned g l stack o (Err e) stack' = Stops (rest g l stack o) e

-- the whole list is replayed: so many tokens are passed and stored
pub record Whole (g : Grammar) (list before after : List ℕ) (tokens : ℕ) : Type 0 where
  pub passed : List ℕ
  pub count : tokens ≡ length passed
  pub holds : after ≡ sets before 0 passed
  pub derives : replay g list ≡ derived passed

abbrev pub Ran : Grammar → List ℕ → List ℕ → Result ℕ Refusal → List ℕ → Type 0
Ran g list before (Ok tokens) after = Whole g list before after tokens
Ran g list before (Err e) after = Stops (replay g list) e
