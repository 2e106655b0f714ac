-- The sizes of the rules, noted one after the other as long as none would lower a figure. If none would, every rule is quiet, and
-- each has its size among the sizes, or 0 if it has none; if one would, not every rule is. Assumes nothing.
use mathlib.Core.Path.{◌≡◌, refl, ◌∙◌}
use mathlib.Core.Bool.{Bool, true, false}
use mathlib.Core.Logic.{◌⊎◌, inl, inr}
use mathlib.Core.List.{List}
use Prim.Native.Nat.{ℕ, ◌≤◌, ◌<◌}
use native.Mathlib.Omega.{arith}
use lib.ListN.{set}
use lib.Seq.{get_or-set_other}
use Rattle.std.specs.Prelude.{Some, None}
use Rattle.std.proofs.Common.{leb}
use Rattle.std.proofs.lemmas.Bool.Decides.{leb_tells}
use Rattle.grammar.specs.Words.{Grammar, RuleAt}
use Rattle.layout.specs.Read.{ReadsAs}
use Rattle.layout.specs.declared.reading.Reading.{Reading}
use Rattle.figures.specs.Figures.{figure, capped}
use Rattle.figures.proofs.FiguresFall.{figure_is}
use Rattle.leasts.specs.LeastSteps.{LeastsSound, LeastQuiet, Sized, has_size, no_size, by_figures, by_none}
use Rattle.leasts.specs.LeastSteps.{SizeHere, SettledAt, Settled, KeptFrom}
use Rattle.leasts.specs.LeastRounding.{Rested}
use Rattle.leasts.specs.declared.rule.Rule.{Rule}
use Rattle.leasts.proofs.RuleRead.{the_rule, left_is, size_is, lacks_is}

module _ (rule : Rule) (vs : List ℕ) where
  -- what is noted of a rule says whether it is quiet
  pub none_settles : Sized rule vs None → (g : Grammar) → ReadsAs rule.reading.now g → SettledAt g vs rule.number 0 true
  none_settles (no_size lacks) g view = (
    λ A w here have. absurd (lacks_is rule view here vs lacks have),
    λ A w here. by_none (lacks_is rule view here vs lacks),
  )

  pub some_settles : {least x : ℕ} → least ≡ figure vs rule.left → Sized rule vs (Some x) → (g : Grammar) →
      ReadsAs rule.reading.now g → SettledAt g vs rule.number x (leb least (capped x))
  some_settles {least} {x} e (has_size size) g view = go (leb_tells least (capped x))
    where
      quiet : figure vs rule.left ≤ capped x → LeastQuiet g vs rule.number
      quiet l A w here have = rw (left_is rule view here, (size_is rule view here size).is g refl) at l

      loud : capped x < figure vs rule.left → (A : ℕ) × (w : List ℕ) × RuleAt g rule.number A w → ¬ LeastQuiet g vs rule.number
      loud l (A, w, here) q =
          let s = size_is rule view here size in
          let above = rw (left_is rule view here, s.is g refl) at l in
          omega (arith, q A w here s.have)

      sized : SizeHere g vs rule.number x
      sized A w here = let s = size_is rule view here size in rw (s.is g refl) (by_figures s.have)

      go : ((leb least (capped x) ≡ true) × (least ≤ capped x)) ⊎ ((leb least (capped x) ≡ false) × (capped x < least)) →
          SettledAt g vs rule.number x (leb least (capped x))
      go (inl (says, l)) = rw says (quiet (omega arith), sized)
      go (inr (says, l)) = rw says (loud (omega arith) (the_rule rule view))

pub settled_rested : {g : Grammar} {vs before sizes : List ℕ} (v : Reading) → ReadsAs v g → LeastsSound g vs →
    Settled g vs sizes v.rules true → KeptFrom v.rules before sizes → Rested g vs before sizes
settled_rested v view sound settled kept = record {
  sound = sound;
  quiet = λ k h. (settled k (omega (arith, view.all_rules))).0;
  sized = λ k h. (settled k (omega (arith, view.all_rules))).1;
  past = record { same = λ k h. kept.same k (omega (arith, view.all_rules)) };
}

-- where the leasts are at rest, the sizes cannot say otherwise
pub quiet_rested : {g : Grammar} {vs before sizes : List ℕ} (v : Reading) (b : Bool) → ReadsAs v g → LeastsSound g vs →
    ((k : ℕ) → k < v.rules → LeastQuiet g vs k) → Settled g vs sizes v.rules b → KeptFrom v.rules before sizes →
    Rested g vs before sizes
quiet_rested v true view sound quiet settled kept = settled_rested v view sound settled kept
quiet_rested v false view sound quiet settled kept = absurd (settled quiet)

-- nothing is written past rule r
pub kept_set : {rules : ℕ} {start : List ℕ} (before : List ℕ) (r x : ℕ) → r < rules → KeptFrom rules start before →
    KeptFrom rules start (set before r x)
kept_set before r x h kept =
    record { same = λ k l. get_or-set_other before r k x 0 (λ e. omega arith) ∙ kept.same k l }

pub kept_both : {n : ℕ} {xs ys zs : List ℕ} → KeptFrom n xs ys → KeptFrom n ys zs → KeptFrom n xs zs
kept_both a b = record { same = λ k l. b.same k l ∙ a.same k l }

-- for the check of `size_settles`
pub ruleset notes = (none_settles, some_settles, figure_is)
