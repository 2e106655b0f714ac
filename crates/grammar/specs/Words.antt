-- What words are a grammar, and where they break. Document 01, "Grammar words":
--   "A grammar is: N (nonterminals, 1 to 128), T (terminals, 0 to 1,024), the start (below N), then rules to the end of the
--    words, numbered from 0, at most 256. A rule is its left side (below N), a count k of 0 to 32, and k symbols. Symbols
--    below N are nonterminals; N to N+T-1 are terminals. Equal rules may stand twice and are two rules."
-- The words are first said of a grammar (`InBounds`, `words`), then judged from the left (`layout`), and last the place where they
-- break is said without a judge (`FaultAt`). That the three agree are laws (proofs/LayoutExact, proofs/FirstOffence).
-- Assumes nothing.
use Rattle.std.specs.Prelude.{Bool, true, false, ◌&&◌, ◌≡◌, List, [], ◌∷◌, ◌++◌, ℕ, zero, suc, ◌+◌, ◌≤◌, ◌<◌, ltb, leb, length, take}
use Rattle.std.proofs.Math.Option.{some}
use Rattle.std.proofs.Math.ListN.{get_elem?}

-- A rule A ⟶ w: a left side and the symbols of the right side. A symbol is its word: whether it is a nonterminal is whether it is
-- below N.
infix 20 ◌⟶◌
pub data Rule : Type 0 where
  ◌⟶◌ : ℕ → List ℕ → Rule

-- Source document 004, Definition 2.1: "A context free grammar G is defined as a 4-tuple G = (T_G, N_G, P_G, S_G)". N_G is the
-- numbers below N, T_G the T numbers from N on, S_G the start. P_G is a list: looser than the thesis' relation, since a rule may
-- stand twice, and stricter, since the rules have numbers.
pub record Grammar : Type 0 where
  pub N : ℕ
  pub T : ℕ
  pub start : ℕ
  pub rules : List Rule

-- R, the number of rules
abbrev pub R : Grammar → ℕ
R g = length g.rules

-- The rule of number k is A ⟶ w, and A is a nonterminal.
pub record RuleAt (g : Grammar) (k A : ℕ) (w : List ℕ) : Type 0 where
  pub stands : get_elem? g.rules k ≡ some (A ⟶ w)
  pub left : A < g.N

-- every symbol of a form has the property
abbrev pub All : (ℕ → Type 0) → List ℕ → Type 0
All P [] = Unit {0}
All P (s ∷ w) = P s × All P w

-- "A rule is its left side (below N), a count k of 0 to 32, and k symbols."
abbrev pub RuleOk : ℕ → ℕ → Rule → Type 0
RuleOk N T (A ⟶ w) = (A < N) × (length w ≤ 32) × All (λ s. s < N + T) w

abbrev pub RulesOk : ℕ → ℕ → List Rule → Type 0
RulesOk N T [] = Unit {0}
RulesOk N T (ρ ∷ rs) = RuleOk N T ρ × RulesOk N T rs

-- the bounds of document 01
pub record InBounds (g : Grammar) : Type 0 where
  pub some_nonterminal : 1 ≤ g.N
  pub nonterminals : g.N ≤ 128
  pub terminals : g.T ≤ 1024
  pub start_below : g.start < g.N
  pub at_most_256 : R g ≤ 256
  pub rules_ok : RulesOk g.N g.T g.rules

-- the words of a grammar
abbrev pub rule_words : Rule → List ℕ
rule_words (A ⟶ w) = A ∷ length w ∷ w

abbrev pub rules_words : List Rule → List ℕ
rules_words [] = []
rules_words (ρ ∷ rs) = rule_words ρ ++ rules_words rs

abbrev pub words : Grammar → List ℕ
words g = g.N ∷ g.T ∷ g.start ∷ rules_words g.rules

-- the index of the left side of rule k: before it stand N, T, the start and the rules below k
abbrev pub place_of : Grammar → ℕ → ℕ
place_of g k = 3 + length (rules_words (take k g.rules))

-- What judging words gives: what they are, or the place where they break.
pub data Judged (A : Type 0) : Type 0 where
  reads : A → Judged A
  faults : ℕ → Judged A

-- r where the test passes, else a fault at p
abbrev pub test : {A : Type 0} → Bool → ℕ → Judged A → Judged A
test true p r = r
test false p r = faults p

-- a right side so far, and the rules after it
pub data Body : Type 0 where
  body : List ℕ → List Rule → Body

abbrev pub no_symbol : Judged (List Rule) → Judged Body
no_symbol (reads rs) = reads (body [] rs)
no_symbol (faults p) = faults p

abbrev pub with_symbol : ℕ → Judged Body → Judged Body
with_symbol s (reads (body w rs)) = reads (body (s ∷ w) rs)
with_symbol s (faults p) = faults p

abbrev pub with_left : ℕ → Judged Body → Judged (List Rule)
with_left A (reads (body w rs)) = reads ((A ⟶ w) ∷ rs)
with_left A (faults p) = faults p

abbrev pub with_head : ℕ → ℕ → ℕ → Judged (List Rule) → Judged Grammar
with_head N T S (reads rs) = reads (record { N = N; T = T; start = S; rules = rs })
with_head N T S (faults p) = faults p

-- "For 4 the words are judged from the left; a 257th rule is faulted at its left side."
-- Each of these takes the words still to come, the place p of the first of them, how many rules may still begin, N and T.
unfoldable mutual
  -- at a left side, or at the end
  pub lefts : List ℕ → ℕ → ℕ → ℕ → ℕ → Judged (List Rule)
  lefts [] p room N T = reads []
  lefts (w ∷ ws) p zero N T = faults p
  lefts (w ∷ ws) p (suc room) N T = let r = with_left w (counts ws (suc p) room N T) in test (ltb w N) p r

  -- at a rule's count
  pub counts : List ℕ → ℕ → ℕ → ℕ → ℕ → Judged Body
  counts [] p room N T = faults p
  counts (zero ∷ ws) p room N T = no_symbol (lefts ws (suc p) room N T)
  counts (suc k ∷ ws) p room N T = let r = symbols ws k (suc p) room N T in test (ltb k 32) p r

  -- at a symbol, after which k more are to come
  pub symbols : List ℕ → ℕ → ℕ → ℕ → ℕ → ℕ → Judged Body
  symbols [] k p room N T = faults p
  symbols (w ∷ ws) zero p room N T = let r = with_symbol w (no_symbol (lefts ws (suc p) room N T)) in test (ltb w (N + T)) p r
  symbols (w ∷ ws) (suc k) p room N T = let r = with_symbol w (symbols ws k (suc p) room N T) in test (ltb w (N + T)) p r

-- "first offending word, or word count if they end early"
unfoldable pub layout : List ℕ → Judged Grammar
layout [] = faults 0
layout (N ∷ []) = test (ltb 0 N && leb N 128) 0 (faults 1)
layout (N ∷ T ∷ []) = test (ltb 0 N && leb N 128) 0 (test (leb T 1024) 1 (faults 2))
layout (N ∷ T ∷ S ∷ ws) =
    test (ltb 0 N && leb N 128) 0 (test (leb T 1024) 1 (test (ltb S N) 2 (with_head N T S (lefts ws 3 256 N T))))

-- the words are a grammar, of which P holds
abbrev pub Are : List ℕ → (Grammar → Type 0) → Type 0
Are ws P = (g : Grammar) × (layout ws ≡ reads g) × P g

-- The place where words break, without a judge. The words begin those of some grammar.
pub record Viable (us : List ℕ) : Type 0 where
  pub grammar : Grammar
  pub ok : InBounds grammar
  pub more : List ℕ
  pub are : words grammar ≡ us ++ more

-- "first offending word, or word count if they end early"
pub data FaultAt (ws : List ℕ) (p : ℕ) : Type 0 where
  -- up to the place p the words begin some grammar's, and with the word there they do not
  offends : p < length ws → Viable (take p ws) → ¬ Viable (take (suc p) ws) → FaultAt ws p
  -- they begin some grammar's, and are none's
  ends_early : p ≡ length ws → Viable ws → ((G : Grammar) → InBounds G → ¬ (words G ≡ ws)) → FaultAt ws p
