-- For the private functions of forms: what is left of a form, on a stack of right sides, and what the steps do to it. Nobody has
-- to believe this file; the promises do not cite it.
-- Assumes nothing.
use Rattle.std.specs.Prelude.{ℕ, ◌+◌, ◌-◌, ◌≤◌, ◌<◌, ◌≡◌, List, ◌++◌, length, get_or, set, take, drop, reverse}
use Rattle.std.specs.List.{flat_map}
use Rattle.std.proofs.lemmas.List.Edits.{sets}
use Rattle.layout.specs.Walk.{count_at}
use Rattle.replay.specs.declared.forms.Open.{Open}
use Rattle.replay.specs.declared.forms.Rest.{Rest}
use Rattle.replay.specs.Replay.{most_numbers}

-- so many words from an index on
abbrev pub side : List ℕ → ℕ → ℕ → List ℕ
side ws at left = take left (drop at ws)

-- what the stack holds at a height
abbrev pub rest_at : List Rest → ℕ → Rest
rest_at stack d = get_or stack d (record { at = 0; left = 0 })

-- the rests of right sides that wait, from the top down
unfoldable pub waiting : List ℕ → List Rest → ℕ → List ℕ
waiting ws stack d = flat_map (λ (r : Rest). side ws r.at r.left) (reverse (take d stack))

-- what is left of the form, its tokens so far passed
abbrev pub form_of : List ℕ → List Rest → Open → List ℕ
form_of ws stack o = side ws o.at o.left ++ waiting ws stack o.depth

-- the innermost right side that waits, read again
abbrev pub waiting_above : List Rest → Open → Open
waiting_above stack o = record o {
  at = (rest_at stack (o.depth - 1)).at;
  left = (rest_at stack (o.depth - 1)).left;
  depth = o.depth - 1;
}

-- the next symbol left out
abbrev pub behind : Open → Open
behind o = record o { at = o.at + 1; left = o.left - 1 }

-- so many tokens passed
abbrev pub past : Open → ℕ → Open
past o count = record o { at = o.at + count; left = o.left - count; tokens = o.tokens + count }

-- so many symbols in front are tokens, not below n
pub record InFront (symbols : List ℕ) (n count : ℕ) : Type 0 where
  pub within : count ≤ length symbols
  pub tokens : (j : ℕ) → j < count → n ≤ get_or symbols j 0
  pub stops : count < length symbols → get_or symbols count 0 < n

-- and they are stored from an index on as far as there is room
pub record StoredTokens (symbols : List ℕ) (n : ℕ) (sentence : List ℕ) (from count : ℕ) (sentence' : List ℕ) : Type 0 where
  pub counted : InFront symbols n count
  pub stored : sentence' ≡ sets sentence from (take count symbols)

-- the bounds that passing tokens asks for
pub record Passing (ws : List ℕ) (o : Open) : Type 0 where
  pub inside : o.at + o.left ≤ length ws
  pub few : o.tokens + o.left ≤ 4294967295

-- the tokens in front are passed, and stored as far as there is room; none is in front any more
pub record Passed (ws : List ℕ) (n : ℕ) (o : Open) (sentence : List ℕ) (o' : Open) (sentence' : List ℕ) : Type 0 where
  pub count : ℕ
  pub is : o' ≡ past o count
  pub stored : StoredTokens (side ws o.at o.left) n sentence o.tokens count sentence'

-- the next symbol can be opened by the rule at an index
pub record Openable (ws : List ℕ) (at : ℕ) (stack : List Rest) (o : Open) : Type 0 where
  pub some : 0 < o.left
  pub few_words : length ws ≤ 65535
  pub few_rules : o.next ≤ most_numbers
  pub room : o.depth < length stack
  pub inside : o.at + o.left ≤ length ws
  pub whole : at + 2 + count_at ws at ≤ length ws

-- the right side of the rule at an index is read, one more rule used, and so many others wait
abbrev pub at_rule : List ℕ → ℕ → Open → ℕ → Open
at_rule ws at o depth = record o { at = at + 2; left = count_at ws at; depth = depth; next = o.next + 1 }

-- and it was: what is behind the symbol waits, if anything is
pub record Opened (ws : List ℕ) (at : ℕ) (stack : List Rest) (o : Open) (stack' : List Rest) (o' : Open) : Type 0 where
  pub last : o.left ≡ 1 → (stack' ≡ stack) × (o' ≡ at_rule ws at o o.depth)
  pub waits : 1 < o.left →
      (stack' ≡ set stack o.depth (record { at = o.at + 1; left = o.left - 1 })) × (o' ≡ at_rule ws at o (o.depth + 1))
