-- For the private functions of tree_lister: what lies before and after the open leaf of a tree, what they know, and what they
-- write. Document 01: "The tree of rule r follows the context choices from the start to r's left side, puts r there, and opens
-- every other nonterminal by its chosen rule."
-- Nobody has to believe this file; the promises do not cite it. Assumes nothing.
use Rattle.std.specs.Prelude.{ℕ, suc, ◌+◌, ◌≤◌, ◌<◌, ◌≡◌, List, [], ◌∷◌, ◌++◌, length, take, drop}
use Rattle.grammar.specs.Words.{Grammar}
use Rattle.grammar.specs.Tree.{Tree, Gap, here, past_leaf, past_child, Open, root, down}
use Rattle.grammar.specs.Tree.{sentence, sentences, derivation, derivations}
use Rattle.grammar.specs.Terms.{measure}
use Rattle.grammar.specs.Least.{ChosenOpen, TreeOf}
use Rattle.entries.specs.Table.{rule_in, place_in, total_in}
use Rattle.layout.specs.Sides as sides
use Rattle.handout.specs.declared.tabled.Tabled.{Tabled}
use Rattle.handout.specs.declared.listing.Listing.{Listing}
use Rattle.handout.specs.Listing.{grammar_of, sizes_by, right_of, Few, NumberListed, Wrote}

-- A is a nonterminal other than the start: the table has its context rule and its place there
pub record Inner (t : Tabled) (A : ℕ) : Type 0 where
  pub nonterminal : A < t.reading.now.nonterminals
  pub other : ¬ (A ≡ t.reading.now.start)

-- the symbols before A's place in its context rule, and those after it
abbrev pub front_of : Tabled → ℕ → List ℕ
front_of t A = take (place_in t.table.now A) (right_of t (rule_in t.table.now A))

abbrev pub back_of : Tabled → ℕ → List ℕ
back_of t A = drop (suc (place_in t.table.now A)) (right_of t (rule_in t.table.now A))

-- the number and the symbols before the place are listed
abbrev pub FrontListed : Tabled → ℕ → Listing → Listing → Type 0
FrontListed t A past so = NumberListed t (rule_in t.table.now A) (front_of t A) past so

-- the left side of rule k; and that of A's context rule
abbrev pub left_of : Tabled → ℕ → ℕ
left_of t k = sides.left_of t.reading.now k

abbrev pub upper : Tabled → ℕ → ℕ
upper t A = left_of t (rule_in t.table.now A)

-- the path leads from A up to below B: A first, and after each the left side of its context rule; the start is not on it
pub data Leads (t : Tabled) : ℕ → ℕ → List ℕ → Type 0 where
  arrived : {A : ℕ} → Leads t A A []
  up : {A B : ℕ} {w : List ℕ} → ¬ (A ≡ t.reading.now.start) → Leads t (upper t A) B w → Leads t A B (A ∷ w)

-- the two sides of an open leaf
pub data Side : Type 0 where
  before : Side
  after : Side

-- what is listed on a side of the open leaf of a right side, and of a tree
module _ {g : Grammar} where
  abbrev pub gap_tokens : {w : List ℕ} {i A : ℕ} → Side → Gap g w i A → List ℕ
  gap_tokens before (here p f) = []
  gap_tokens before (past_leaf {s} p a) = s ∷ gap_tokens before a
  gap_tokens before (past_child t a) = sentence t ++ gap_tokens before a
  gap_tokens after (here p f) = sentences f
  gap_tokens after (past_leaf p a) = gap_tokens after a
  gap_tokens after (past_child t a) = gap_tokens after a

  abbrev pub gap_rules : {w : List ℕ} {i A : ℕ} → Side → Gap g w i A → List ℕ
  gap_rules before (here p f) = []
  gap_rules before (past_leaf p a) = gap_rules before a
  gap_rules before (past_child t a) = derivation t ++ gap_rules before a
  gap_rules after (here p f) = derivations f
  gap_rules after (past_leaf p a) = gap_rules after a
  gap_rules after (past_child t a) = gap_rules after a

  abbrev pub tokens_on : {A : ℕ} → Side → Open g A → List ℕ
  tokens_on before root = []
  tokens_on before (down k r x a) = tokens_on before x ++ gap_tokens before a
  tokens_on after root = []
  tokens_on after (down k r x a) = gap_tokens after a ++ tokens_on after x

  abbrev pub rules_on : {A : ℕ} → Side → Open g A → List ℕ
  rules_on before root = []
  rules_on before (down k r x a) = rules_on before x ++ (k ∷ gap_rules before a)
  rules_on after root = []
  rules_on after (down k r x a) = gap_rules after a ++ rules_on after x

  -- its size by the table, which is no less than how many numbers are listed there
  abbrev pub size_on : {A : ℕ} → Tabled → Side → Open g A → ℕ
  size_on t before root = 0
  size_on t before (down {i = i} {w = w} k r x a) = size_on t before x + (1 + sizes_by t (take i w))
  size_on t after root = 0
  size_on t after (down {i = i} {w = w} k r x a) = sizes_by t (drop (suc i) w) + size_on t after x

-- the context choices lead from the start to A, and what lies on that side is little enough to count
pub record SideReady (side : Side) (t : Tabled) (A : ℕ) (past : Listing) : Type 0 where
  pub above : Open (grammar_of t) A
  pub follows : ChosenOpen measure (grammar_of t) above
  pub few : Few past (size_on t side above)

-- the way leads up from a nonterminal, and what lies on that side of it can be listed
pub record WayReady (side : Side) (t : Tabled) (way : List ℕ) (past : Listing) : Type 0 where
  pub A : ℕ
  pub leads : Leads t A t.reading.now.start way
  pub ready : SideReady side t A past

-- what lies on that side of an open leaf is written, and no more than its size
pub record SideWrote {g : Grammar} {A : ℕ} (t : Tabled) (side : Side) (above : Open g A) (past so : Listing) : Type 0 where
  pub wrote : Wrote (tokens_on side above) (rules_on side above) past so
  pub counted : so.tokens + so.rules ≤ past.tokens + past.rules + size_on t side above

-- it is listed, by whichever context choices; and whichever nonterminal the way leads up from
pub record SideListed (side : Side) (t : Tabled) (A : ℕ) (past so : Listing) : Type 0 where
  pub by : (above : Open (grammar_of t) A) → ChosenOpen measure (grammar_of t) above → SideWrote t side above past so

pub record WayListed (side : Side) (t : Tabled) (way : List ℕ) (past so : Listing) : Type 0 where
  pub from : (A : ℕ) → Leads t A t.reading.now.start way → SideListed side t A past so

-- the total of rule k, by the table
abbrev pub total_by : Tabled → ℕ → ℕ
total_by t k = total_in t.reading.now.nonterminals t.table.now k

-- the tree of rule k is listed; and there is room for so many tokens and rule numbers
pub record TreeListed (t : Tabled) (k : ℕ) (past so : Listing) : Type 0 where
  pub of_tree : (u : Tree (grammar_of t) (grammar_of t).start) → TreeOf measure (grammar_of t) k u →
      Wrote (sentence u) (derivation u) past so

pub record TreeFits (t : Tabled) (k tokens rules : ℕ) : Type 0 where
  pub of_tree : (u : Tree (grammar_of t) (grammar_of t).start) → TreeOf measure (grammar_of t) k u →
      (length (sentence u) ≤ tokens) × (length (derivation u) ≤ rules)
