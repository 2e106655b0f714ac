-- For the private functions of lister: what they know, and what they write. Document 01:
--   "A tree is listed from the left: a symbol's listing is its rule's listing (a terminal's is itself); a rule's listing is its
--    number, then its symbols' listings in order. The terminals in that order are the sentence, the rule numbers the derivation."
-- Nobody has to believe this file; the promises do not cite it. Assumes nothing.
use Rattle.std.specs.Prelude.{ℕ, ◌+◌, ◌≤◌, ◌≡◌, List, [], ◌∷◌, ltb, length}
use Rattle.std.proofs.lemmas.List.Edits.{sets}
use Rattle.grammar.specs.Words.{Grammar}
use Rattle.grammar.specs.Tree.{Tree, Forest, sentence, sentences, derivation, derivations}
use Rattle.grammar.specs.Terms.{measure, limit}
use Rattle.grammar.specs.Least.{ChosenTree, ChosenForest}
use Rattle.grammar.specs.Certificates.{either}
use Rattle.layout.proofs.WordsRead.{begun_of}
use Rattle.entries.specs.Table.{least_in}
use Rattle.layout.specs.Sides as sides
use Rattle.handout.specs.declared.tabled.Tabled.{Tabled}
use Rattle.handout.specs.declared.listing.Listing.{Listing}

-- the grammar that was read
unfoldable pub grammar_of : Tabled → Grammar
grammar_of t = (begun_of t.reading.now).grammar

-- a symbol's size by the table, and the sizes of some symbols: their listings have no more numbers, and it falls from call to call
unfoldable pub size_by : Tabled → ℕ → ℕ
size_by t s = either (ltb s t.reading.now.nonterminals) (least_in t.table.now s) 1

unfoldable pub sizes_by : Tabled → List ℕ → ℕ
sizes_by t [] = 0
sizes_by t (s ∷ w) = size_by t s + sizes_by t w

-- the right side of rule k
abbrev pub right_of : Tabled → ℕ → List ℕ
right_of t k = sides.right_of t.reading.now k

-- what is listed so far and the size of what is to come are few enough to count
abbrev pub Few : Listing → ℕ → Type 0
Few past size = past.tokens + past.rules + size ≤ limit

-- the two lent parts are the same
abbrev pub SameParts : Listing → Listing → Type 0
SameParts past so =
    (so.sentence.ghost_name ≡ past.sentence.ghost_name) × (so.derivation.ghost_name ≡ past.derivation.ghost_name)

-- us and vs are written behind what was listed before, as far as the two parts reach, and are counted
pub record Wrote (us vs : List ℕ) (past so : Listing) : Type 0 where
  pub more_tokens : so.tokens ≡ past.tokens + length us
  pub more_rules : so.rules ≡ past.rules + length vs
  pub sentence : so.sentence.now ≡ sets past.sentence.now past.tokens us
  pub derivation : so.derivation.now ≡ sets past.derivation.now past.rules vs

-- what was written is the listing that it should be, and no more than the size
pub record PartListed (P : List ℕ → List ℕ → Type 0) (size : ℕ) (past so : Listing) : Type 0 where
  pub us : List ℕ
  pub vs : List ℕ
  pub lists : P us vs
  pub wrote : Wrote us vs past so
  pub counted : so.tokens + so.rules ≤ past.tokens + past.rules + size

-- the tokens us and the rule numbers vs are the listing of the symbol s, opened by chosen rules
pub data SymbolListing (g : Grammar) : ℕ → List ℕ → List ℕ → Type 0 where
  of_terminal : {s : ℕ} → g.N ≤ s → SymbolListing g s (s ∷ []) []
  of_nonterminal : {s : ℕ} (t : Tree g s) → ChosenTree measure g t → SymbolListing g s (sentence t) (derivation t)

-- they are that of the symbols of w in order
pub record SymbolsListing (g : Grammar) (w us vs : List ℕ) : Type 0 where
  pub forest : Forest g w
  pub chosen : ChosenForest measure g forest
  pub tokens : us ≡ sentences forest
  pub rules : vs ≡ derivations forest

-- they are that of the rule k, whose right side is w
pub record RuleListing (g : Grammar) (k : ℕ) (w us vs : List ℕ) : Type 0 where
  pub after : List ℕ
  pub symbols : SymbolsListing g w us after
  pub is : vs ≡ k ∷ after

abbrev pub SymbolListed : Tabled → ℕ → Listing → Listing → Type 0
SymbolListed t s past so = PartListed (SymbolListing (grammar_of t) s) (size_by t s) past so

abbrev pub SymbolsListed : Tabled → List ℕ → Listing → Listing → Type 0
SymbolsListed t w past so = PartListed (SymbolsListing (grammar_of t) w) (sizes_by t w) past so

-- the rule's number, and then symbols
abbrev pub NumberListed : Tabled → ℕ → List ℕ → Listing → Listing → Type 0
NumberListed t k w past so = PartListed (RuleListing (grammar_of t) k w) (1 + sizes_by t w) past so

abbrev pub RuleListed : Tabled → ℕ → Listing → Listing → Type 0
RuleListed t k past so = NumberListed t k (right_of t k) past so
