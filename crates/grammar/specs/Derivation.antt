-- Derivations, sentences, L(G) and production coverage. Source document 000, section 2, gives the notation, and source document
-- 004 production coverage (Definition 2.10). A form is a string of symbols, which the thesis calls a sentential form. A terminal
-- is a number from N on: that it is below N + T too is asked in L(G), and follows where the grammar is within document 01's
-- bounds.
-- Assumes nothing.
use Rattle.std.specs.Prelude.{◌≡◌, List, [], ◌∷◌, ◌++◌, ℕ, ◌+◌, ◌≤◌, ◌<◌, length}
use Rattle.grammar.specs.Words.{Grammar, RuleAt, R, All}

-- no nonterminal is left
abbrev pub Terminals : Grammar → List ℕ → Type 0
Terminals g w = All (λ s. g.N ≤ s) w

-- γAβ ⇒ γαβ. Source document 000: "to denote that αAω produces or derives αγω by application of the rule A → γ ∈ P"
pub data Step (g : Grammar) : List ℕ → List ℕ → Type 0 where
  step : (γ : List ℕ) {k A : ℕ} {α : List ℕ} (β : List ℕ) → RuleAt g k A α → Step g (γ ++ A ∷ β) (γ ++ (α ++ β))

-- σ ⇒* τ, "its reflexive-transitive closure"; in the thesis, "a sequence of zero or more rule applications"
pub data Steps (g : Grammar) : List ℕ → List ℕ → Type 0 where
  none : {σ : List ℕ} → Steps g σ σ
  more : {σ τ υ : List ℕ} → Step g σ τ → Steps g τ υ → Steps g σ υ

-- wAβ ⇒ wαβ by the rule of number k, where w has no nonterminal. The thesis: "The leftmost nonterminal in a sentential form used
-- in a derivation is always chosen for a rule application."
pub data LeftStep (g : Grammar) (k : ℕ) : List ℕ → List ℕ → Type 0 where
  left : (w : List ℕ) {A : ℕ} {α : List ℕ} (β : List ℕ) → Terminals g w → RuleAt g k A α → LeftStep g k (w ++ A ∷ β) (w ++ (α ++ β))

-- the leftmost derivation by the rules of these numbers in turn
pub data Leftmost (g : Grammar) : List ℕ → List ℕ → List ℕ → Type 0 where
  done : {σ : List ℕ} → Leftmost g σ [] σ
  next : {σ τ υ : List ℕ} {k : ℕ} {ks : List ℕ} → LeftStep g k σ τ → Leftmost g τ ks υ → Leftmost g σ (k ∷ ks) υ

-- the form that every derivation begins with
abbrev pub Start : Grammar → List ℕ
Start g = g.start ∷ []

-- "Replay: words and a list of rule numbers to the sentence of that leftmost derivation, starting from the start symbol."
pub record Derives (g : Grammar) (ks t : List ℕ) : Type 0 where
  pub leftmost : Leftmost g (Start g) ks t
  pub complete : Terminals g t

-- From the form σ the numbers to come do not go on: there is none and nonterminals remain, or the first does not apply.
pub data Halts (g : Grammar) (σ : List ℕ) : List ℕ → Type 0 where
  remain : ¬ Terminals g σ → Halts g σ []
  inapt : {k : ℕ} {ks : List ℕ} → ((τ : List ℕ) → ¬ LeftStep g k σ τ) → Halts g σ (k ∷ ks)

-- "first number that does not apply, or list length if nonterminals remain": the list ks stops at the place p
pub record StopsAt (g : Grammar) (ks : List ℕ) (p : ℕ) : Type 0 where
  pub applied : List ℕ
  pub others : List ℕ
  pub form : List ℕ
  pub all : ks ≡ applied ++ others
  pub place : p ≡ length applied
  pub leads : Leftmost g (Start g) applied form
  pub halts : Halts g form others

-- L(G) = {ω ∈ T_G* | S ⇒* ω}, in both papers; its members are the sentences
pub record L (g : Grammar) (t : List ℕ) : Type 0 where
  pub over : All (λ s. (g.N ≤ s) × (s < g.N + g.T)) t
  pub derived : Steps g (Start g) t

-- σ ⇒* γAβ ⇒ γαβ ⇒* t, where A ⟶ α is the rule of number k. Stricter than the thesis, which prints the middle arrow as ⇒*: its
-- text ("each rule of the grammar is exercised") means that the rule is applied. One step implies the printed form
-- (`through_printed`).
pub record Through (g : Grammar) (k : ℕ) (σ t : List ℕ) : Type 0 where
  pub A : ℕ
  pub α : List ℕ
  pub γ : List ℕ
  pub β : List ℕ
  pub rule : RuleAt g k A α
  pub reaches : Steps g σ (γ ++ A ∷ β)
  pub applies : Step g (γ ++ A ∷ β) (γ ++ (α ++ β))
  pub finishes : Steps g (γ ++ (α ++ β)) t

-- σ ⇒* γAβ ⇒* γαβ ⇒* t, where A ⟶ α is the rule of number k: the form that the thesis prints, with ⇒* in the middle
pub record PrintedThrough (g : Grammar) (k : ℕ) (σ t : List ℕ) : Type 0 where
  pub A : ℕ
  pub α : List ℕ
  pub γ : List ℕ
  pub β : List ℕ
  pub rule : RuleAt g k A α
  pub reaches : Steps g σ (γ ++ A ∷ β)
  pub applies : Steps g (γ ++ A ∷ β) (γ ++ (α ++ β))
  pub finishes : Steps g (γ ++ (α ++ β)) t

-- Source document 004, Definition 2.10: "T ∈ L(G) satisfies production coverage if for every production rule A → α ∈ P_G there is
-- a sentence t ∈ T such that S ⇒* γAβ ⇒* γαβ ⇒* t." T ∈ L(G) is read T ⊂ L(G), as in Definition 2.9. The productions are the
-- rules by number, so that equal rules count as two.
pub record ProductionCoverage (g : Grammar) (T : List ℕ → Type 0) : Type 0 where
  pub within : (t : List ℕ) → T t → L g t
  pub covered : (k : ℕ) → k < R g → (t : List ℕ) × T t × Through g k (Start g) t
