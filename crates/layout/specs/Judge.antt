-- What the judge of words answers: what Words.antt says of them, with N, T, the start and R in place of the grammar; and where a
-- grammar's rules stand.
-- Assumes nothing.
use Rattle.std.specs.Prelude.{◌≡◌, List, [], ◌∷◌, ℕ, replicate, Result, Ok, Err}
use Rattle.answers.specs.Buffers.{over}
use Rattle.answers.specs.Lists.{tabulate}
use Rattle.grammar.specs.Words.{Grammar, R, InBounds, words, place_of, Judged, reads, faults}
use Rattle.layout.specs.declared.judge.Shape.{Shape}
use Rattle.layout.specs.declared.judge.Placed.{Placed}
use Rattle.layout.specs.declared.judge.Fault.{Fault}

abbrev pub shape : ℕ → ℕ → ℕ → ℕ → Shape
shape N T S n = record { nonterminals = N; terminals = T; start = S; rules = n }

abbrev pub fault : ℕ → Fault
fault p = record { place = p }

abbrev pub answer_of : Judged Grammar → Result Shape Fault
answer_of (reads g) = Ok (shape g.N g.T g.start (R g))
answer_of (faults p) = Err (fault p)

-- the same numbers in a row; of words that are no grammar none
abbrev pub numbers_of : Judged Grammar → List ℕ
numbers_of (reads g) = g.N ∷ g.T ∷ g.start ∷ R g ∷ []
numbers_of (faults p) = []

-- where the rules stand, in an array of 256: the index of each rule's left side, by number, and 0 past the rules; of words that
-- are no grammar 0 throughout
abbrev pub no_places : List ℕ
no_places = replicate 256 0

abbrev pub places_of : Judged Grammar → List ℕ
places_of (reads g) = over (tabulate (place_of g) (R g)) no_places
places_of (faults p) = no_places

-- a grammar's numbers, and where its rules stand
abbrev pub placed : Grammar → Placed
placed g = record { shape = shape g.N g.T g.start (R g); places = places_of (reads g) }

-- what `read` answers
abbrev pub placed_of : Judged Grammar → Result Placed Fault
placed_of (reads g) = Ok (placed g)
placed_of (faults p) = Err (fault p)

-- the words are those of a grammar within bounds that has these numbers
pub record WordsOf (ws : List ℕ) (N T S n : ℕ) : Type 0 where
  pub grammar : Grammar
  pub ok : InBounds grammar
  pub are : ws ≡ words grammar
  pub nonterminals : grammar.N ≡ N
  pub terminals : grammar.T ≡ T
  pub start : grammar.start ≡ S
  pub rules : R grammar ≡ n
