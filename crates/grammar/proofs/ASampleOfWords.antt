-- A sample of words that are a grammar, and of others with the place where they break: document 01's, and both sides of each of
-- its bounds. All compute.
-- Assumes nothing.
use mathlib.Core.Path.{◌≡◌, refl}
use mathlib.Core.List.{List, [], ◌∷◌}
use Prim.Native.Nat.{ℕ}
use lib.ListN.{replicate}
use Rattle.grammar.specs.Words.{Grammar, ◌⟶◌, layout, lefts, reads, faults}
use Rattle.grammar.specs.Samples.{D_words, D}

pub D_reads : layout D_words ≡ reads D
unfolding layout lefts
D_reads = refl

pub no_words : layout [] ≡ faults 0
unfolding layout
no_words = refl

pub ends_early : layout (3 ∷ 4 ∷ []) ≡ faults 2
unfolding layout
ends_early = refl

pub no_rules : layout (1 ∷ 0 ∷ 0 ∷ []) ≡ reads (record { N = 1; T = 0; start = 0; rules = [] })
unfolding layout lefts
no_rules = refl

-- 128 and 129 nonterminals, 1,024 and 1,025 terminals, a start of N
abbrev head : ℕ → ℕ → ℕ → Grammar
head N T S = record { N = N; T = T; start = S; rules = [] }

pub nonterminals_128 : layout (128 ∷ 1024 ∷ 127 ∷ []) ≡ reads (head 128 1024 127)
unfolding layout lefts
nonterminals_128 = refl

pub nonterminals_129 : layout (129 ∷ 0 ∷ 0 ∷ []) ≡ faults 0
unfolding layout
nonterminals_129 = refl

pub terminals_1025 : layout (1 ∷ 1025 ∷ 0 ∷ []) ≡ faults 1
unfolding layout
terminals_1025 = refl

pub start_not_below : layout (2 ∷ 0 ∷ 2 ∷ []) ≡ faults 2
unfolding layout
start_not_below = refl

-- N = T = 1, start 0: symbol 0 is a nonterminal, 1 a terminal and 2 neither
abbrev one_rule : List ℕ → List ℕ
one_rule ws = 1 ∷ 1 ∷ 0 ∷ 0 ∷ ws

abbrev rule_of : List ℕ → Grammar
rule_of w = record { N = 1; T = 1; start = 0; rules = (0 ⟶ w) ∷ [] }

pub symbols_below : layout (one_rule (2 ∷ 0 ∷ 1 ∷ [])) ≡ reads (rule_of (0 ∷ 1 ∷ []))
unfolding layout lefts
symbols_below = refl

pub symbol_not_below : layout (one_rule (2 ∷ 0 ∷ 2 ∷ [])) ≡ faults 6
unfolding layout lefts
symbol_not_below = refl

pub left_not_below : layout (1 ∷ 1 ∷ 0 ∷ 1 ∷ 0 ∷ []) ≡ faults 3
unfolding layout lefts
left_not_below = refl

pub count_32 : layout (one_rule (32 ∷ replicate 32 1)) ≡ reads (rule_of (replicate 32 1))
unfolding layout lefts
count_32 = refl

pub count_33 : layout (one_rule (33 ∷ replicate 33 1)) ≡ faults 4
unfolding layout lefts
count_33 = refl

-- rules of no symbols: a left side and a count, both 0
pub rules-256 : layout (1 ∷ 0 ∷ 0 ∷ replicate 512 0) ≡ reads (record { N = 1; T = 0; start = 0; rules = replicate 256 (0 ⟶ []) })
unfolding layout lefts
rules-256 = refl

pub rules_257 : layout (1 ∷ 0 ∷ 0 ∷ replicate 514 0) ≡ faults 515
unfolding layout lefts
rules_257 = refl
