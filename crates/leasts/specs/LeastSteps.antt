-- For the private functions: what a rule comes to by the leasts, and what is noted of that. Nobody has to believe this file; the
-- promise does not cite it. Assumes nothing.
use Rattle.std.specs.Prelude.{ℕ, ◌+◌, ◌≤◌, ◌<◌, ◌≡◌, Bool, true, false, Option, Some, None, List, get_or, set}
use Rattle.grammar.specs.Words.{Grammar, RuleAt}
use Rattle.grammar.specs.Tree.{◌∈◌}
use Rattle.grammar.specs.Terms.{measure}
use Rattle.grammar.specs.Certificates.{word_size}
use Rattle.grammar.specs.Caps.{OfTree, measure_cap}
use Rattle.layout.specs.Read.{ReadsAs}
use Rattle.figures.specs.Figures.{figure, Has, capped}
use Rattle.leasts.specs.declared.rule.Rule.{Rule}

-- the nonterminals among some symbols have figures
abbrev pub HaveIn : ℕ → List ℕ → List ℕ → Type 0
HaveIn n vs w = (B : ℕ) → B ∈ w → B < n → Has vs B

-- each figure is the cut of what some tree costs; so only nonterminals have one
abbrev pub LeastsSound : Grammar → List ℕ → Type 0
LeastsSound g vs = (A : ℕ) → Has vs A → OfTree measure measure_cap g A (figure vs A)

-- a rule, all of whose nonterminals have figures, does not lower the figure of its left side
abbrev pub LeastQuiet : Grammar → List ℕ → ℕ → Type 0
LeastQuiet g vs k =
    (A : ℕ) (w : List ℕ) → RuleAt g k A w → HaveIn g.N vs w → figure vs A ≤ capped (1 + word_size measure g (figure vs) w)

-- each symbol of a rule comes to 1 at least where the figures are sound, and only there is a rule quiet that was not summed
abbrev pub QuietIfSound : Grammar → List ℕ → ℕ → Type 0
QuietIfSound g vs r = LeastsSound g vs → LeastQuiet g vs r

-- x is what a rule with the symbols w comes to by the figures vs, in any grammar of n nonterminals; it fits 32 bits
pub record SizeOf (n : ℕ) (vs w : List ℕ) (x : ℕ) : Type 0 where
  pub have : HaveIn n vs w
  pub is : (g : Grammar) → n ≡ g.N → x ≡ 1 + word_size measure g (figure vs) w
  pub fits : x < 4294967296

-- that of a rule that was read, or none where a symbol has no figure
pub data Sized (rule : Rule) (vs : List ℕ) : Option ℕ → Type 0 where
  has_size : {x : ℕ} → SizeOf rule.reading.now.nonterminals vs rule.symbols.now x → Sized rule vs (Some x)
  no_size : ¬ HaveIn rule.reading.now.nonterminals vs rule.symbols.now → Sized rule vs None

-- x is the size of rule r by the figures vs, or 0 where it has none
pub data SizeBy (g : Grammar) (vs w : List ℕ) : ℕ → Type 0 where
  by_figures : HaveIn g.N vs w → SizeBy g vs w (1 + word_size measure g (figure vs) w)
  by_none : ¬ HaveIn g.N vs w → SizeBy g vs w 0

abbrev pub SizeHere : Grammar → List ℕ → ℕ → ℕ → Type 0
SizeHere g vs r x = (A : ℕ) (w : List ℕ) → RuleAt g r A w → SizeBy g vs w x

-- whether rule r is quiet; if so x is its size
abbrev pub SettledAt : Grammar → List ℕ → ℕ → ℕ → Bool → Type 0
SettledAt g vs r x true = LeastQuiet g vs r × SizeHere g vs r x
SettledAt g vs r x false = ¬ LeastQuiet g vs r

-- a number is noted for a rule that was read: its size, where the rule is quiet
abbrev pub SizeNoted : Rule → List ℕ → List ℕ → List ℕ → Bool → Type 0
SizeNoted rule vs before after b =
    (x : ℕ) × (after ≡ set before rule.number x) × ((g : Grammar) → ReadsAs rule.reading.now g → SettledAt g vs rule.number x b)

-- whether every rule is quiet; if so each has its size among the sizes
abbrev pub Settled : Grammar → List ℕ → List ℕ → ℕ → Bool → Type 0
Settled g vs sizes rules true = (r : ℕ) → r < rules → LeastQuiet g vs r × SizeHere g vs r (get_or sizes r 0)
Settled g vs sizes rules false = ¬ ((r : ℕ) → r < rules → LeastQuiet g vs r)

-- what stands past so many words is as it was
pub record KeptFrom (n : ℕ) (before after : List ℕ) : Type 0 where
  pub same : (k : ℕ) → n ≤ k → get_or after k 0 ≡ get_or before k 0
