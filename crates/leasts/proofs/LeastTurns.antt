-- What a rule's turn does to the leasts. It lowers at most one figure, and only to the cut of what some tree costs: one of its
-- left side, which the rule and the trees of its symbols make. Where it lowers none it changes nothing, and the rule is quiet
-- where the leasts are sound. Assumes nothing.
use mathlib.Core.Path.{◌≡◌, refl}
use mathlib.Core.Bool.{false}
use mathlib.Core.List.{List}
use Prim.Native.Nat.{ℕ, ◌+◌, ◌≤◌, ◌<◌}
use native.Mathlib.Omega.{arith}
use lib.ListN.{length}
use Rattle.std.proofs.Common.{ltb}
use Rattle.std.specs.Int.{from_bool}
use Rattle.std.specs.Prelude.{Some, None}
use Rattle.grammar.specs.Words.{Grammar, RuleAt}
use Rattle.grammar.specs.Terms.{measure}
use Rattle.grammar.specs.Caps.{OfTree, measure_cap}
use Rattle.grammar.proofs.AtRest.{rule_figure}
use Rattle.grammar.proofs.LayoutExact.{in_bounds, rule_short}
use Rattle.layout.specs.Read.{ReadsAs}
use Rattle.layout.specs.declared.reading.Reading.{Reading}
use Rattle.figures.specs.Figures.{figure, capped, Lowered, fell, stayed}
use Rattle.figures.specs.Weights.{Fallen}
use Rattle.figures.proofs.FiguresFall.{figure_is, lowered_fallen}
use Rattle.figures.proofs.FiguresKept.{lowered_known}
use Rattle.leasts.specs.LeastSteps.{LeastsSound, Sized, has_size, no_size, QuietIfSound}
use Rattle.leasts.specs.LeastRounding.{TurnOf}
use Rattle.leasts.specs.declared.rule.Rule.{Rule}
use Rattle.leasts.proofs.RuleRead.{the_rule, left_is, symbols_are, size_is, lacks_is}
use Rattle.leasts.proofs.SymbolsCost.{quiet_too_many}

pub lowered_weight : {vs us : List ℕ} {A y k : ℕ} → Lowered vs A y us k → Fallen vs us (from_bool (ltb 0 k))
lowered_weight (fell h l) = lowered_fallen (fell h l)
lowered_weight (stayed h) = lowered_fallen (stayed h)

lowered_none : {vs us : List ℕ} {A y k : ℕ} → A < length vs → Lowered vs A y us k → ltb 0 k ≡ false →
    (us ≡ vs) × (figure vs A ≤ y)
lowered_none room (fell h l) e = absurd (let z : ◌≡◌ {A = ℕ} 0 1 = cc in omega arith)
lowered_none room (stayed h) e = (refl, h room)

module _ (rule : Rule) (vs : List ℕ) where
  pub turn_too_many : figure vs rule.left ≤ length rule.symbols.now + 1 → TurnOf rule vs vs false
  turn_too_many many g view = record { keeps = λ sound. sound; still = λ e. (refl, quiet) }
    where
      quiet : QuietIfSound g vs rule.number
      quiet sound A w here =
          let short = rule_short (in_bounds rule.reading.now.words.now view.is) here in
          quiet_too_many g vs sound w A short (rw (left_is rule view here, symbols_are rule view here) at many)

  pub turn_not_yet : Sized rule vs None → TurnOf rule vs vs false
  turn_not_yet (no_size lacks) g view = record {
    keeps = λ sound. sound;
    still = λ e. (refl, λ sound A w here have. absurd (lacks_is rule view here vs lacks have));
  }

  pub turn_tried : {us : List ℕ} {x k : ℕ} → rule.left < length vs → Sized rule vs (Some x) →
      Lowered vs rule.left (capped x) us k → TurnOf rule vs us (ltb 0 k)
  turn_tried {us} {x} {k} room (has_size size) low g view = record { keeps = keeps (the_rule rule view); still = still }
    where
      -- the size of a rule whose symbols have figures is such a figure
      of_tree : {A : ℕ} {w : List ℕ} → RuleAt g rule.number A w → LeastsSound g vs → OfTree measure measure_cap g A (capped x)
      of_tree here sound =
          let s = size_is rule view here size in
          rw (s.is g refl) (rule_figure measure measure_cap g (figure vs) here (λ B m l. sound B (s.have B m l)))

      keeps : (A : ℕ) × (w : List ℕ) × RuleAt g rule.number A w → LeastsSound g vs → LeastsSound g us
      keeps (A, w, here) sound =
          lowered_known (λ B y. OfTree measure measure_cap g B y) (rw (left_is rule view here) at low) (of_tree here sound) sound

      still : ltb 0 k ≡ false → (us ≡ vs) × QuietIfSound g vs rule.number
      still e =
          let (same, above) = lowered_none room low e in (
            same,
            λ sound A w here have. rw (left_is rule view here, (size_is rule view here size).is g refl) at above,
          )

-- for the check of `lower_least`
pub ruleset turns = (turn_too_many, turn_not_yet, turn_tried, lowered_weight, figure_is)

-- A TURN so far, from the leasts vs to us, once a figure fell: what is known of them is kept
pub record Followed (v : Reading) (vs us : List ℕ) : Type 0 where
  pub fallen : Fallen vs us 1
  pub keeps : (g : Grammar) → ReadsAs v g → LeastsSound g vs → LeastsSound g us
