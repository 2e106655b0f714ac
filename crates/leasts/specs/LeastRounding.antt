-- For the private functions: the turn of a rule, a round over all rules, and where the rounds end. Nobody has to believe this file;
-- the promise does not cite it. Assumes nothing.
use Rattle.std.specs.Prelude.{ℕ, ◌<◌, ◌≡◌, Bool, false, List, get_or, replicate}
use Rattle.grammar.specs.Words.{Grammar, R}
use Rattle.layout.specs.Read.{ReadsAs}
use Rattle.figures.specs.Figures.{no_figure}
use Rattle.leasts.specs.declared.rule.Rule.{Rule}
use Rattle.leasts.specs.LeastSteps.{LeastsSound, LeastQuiet, QuietIfSound, SizeHere, KeptFrom}

-- The turn of rule k: it keeps what is known of the figures, and where nothing fell nothing changed, and the rule is quiet.
pub record Turn (g : Grammar) (k : ℕ) (before after : List ℕ) (fell : Bool) : Type 0 where
  pub keeps : LeastsSound g before → LeastsSound g after
  pub still : fell ≡ false → (after ≡ before) × QuietIfSound g before k

-- of a rule that was read
abbrev pub TurnOf : Rule → List ℕ → List ℕ → Bool → Type 0
TurnOf rule before after fell = (g : Grammar) → ReadsAs rule.reading.now g → Turn g rule.number before after fell

-- A round over the rules: it keeps what is known of the figures, and where nothing fell nothing changed, and every rule is quiet.
pub record Round (g : Grammar) (rules : ℕ) (before after : List ℕ) (n : ℕ) : Type 0 where
  pub keeps : LeastsSound g before → LeastsSound g after
  pub still : n ≡ 0 → (after ≡ before) × ((k : ℕ) → k < rules → QuietIfSound g before k)

-- the leasts vs after a round in which k figures fell: they are sound, and where none fell every rule is quiet
pub record Rounded (g : Grammar) (rules : ℕ) (vs : List ℕ) (k : ℕ) : Type 0 where
  pub sound : LeastsSound g vs
  pub rests : k ≡ 0 → (r : ℕ) → r < rules → LeastQuiet g vs r

-- the leasts at rest, the sizes of the rules by them, and nothing noted past the rules
pub record Rested (g : Grammar) (vs before sizes : List ℕ) : Type 0 where
  pub sound : LeastsSound g vs
  pub quiet : (k : ℕ) → k < R g → LeastQuiet g vs k
  pub sized : (k : ℕ) → k < R g → SizeHere g vs k (get_or sizes k 0)
  pub past : KeptFrom (R g) before sizes

-- the leasts and the sizes at the outset
abbrev pub no_leasts : List ℕ
no_leasts = replicate 128 no_figure

abbrev pub no_sizes : List ℕ
no_sizes = replicate 256 0
