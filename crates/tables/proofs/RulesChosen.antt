-- The chosen rules, rule by rule: rule r, looked at after those before it, is noted at its left side where its size is the least
-- there. Assumes nothing.
use mathlib.Core.Path.{◌≡◌, refl, sym}
use mathlib.Core.List.{List}
use Prim.Native.Nat.{ℕ, ◌+◌, ◌≤◌, ◌<◌}
use native.Mathlib.Omega.{arith}
use lib.ListN.{length, replicate, get_or}
use Rattle.std.specs.Prelude.{Option, None}
use Rattle.grammar.specs.Words.{Grammar}
use Rattle.layout.specs.Read.{ReadsAs}
use Rattle.layout.specs.declared.reading.Reading.{Reading}
use Rattle.layout.proofs.RulesInView.{viewed_rule, viewed_left, viewed_room}
use Rattle.figures.specs.Figures.{figure}
use Rattle.tables.specs.Choices.{RuleFits, rule_rank, ChosenOf, Noted}
use Rattle.tables.specs.ContextSteps.{left_of}
use Rattle.tables.proofs.FirstsNoted.{firsts_empty, firsts_past, firsts_noted}

module _ (v : Reading) {g : Grammar} (view : ReadsAs v g) (vs sizes : List ℕ) where
  pub none_chosen : ChosenOf g vs sizes (replicate 128 None) 0
  none_chosen = firsts_empty rule_rank (RuleFits g vs sizes) g.N (viewed_room view (omega arith))

  module _ (r : ℕ) (h : r < v.rules) (xs : List (Option ℕ)) (so_far : ChosenOf g vs sizes xs r) where
    left_is : (A : ℕ) → RuleFits g vs sizes A r → A ≡ left_of v r
    left_is A f = sym (viewed_left view f.rule)

    pub rule_noted : {ys : List (Option ℕ)} → figure vs (left_of v r) ≡ get_or sizes r 0 → Noted xs (left_of v r) r ys →
        128 ≤ length xs → ChosenOf g vs sizes ys (r + 1)
    rule_noted same new room =
        let (A, w, rule) = viewed_rule view r h in
        let fits : RuleFits g vs sizes (left_of v r) r = record { w = w; rule = rw (viewed_left view rule) rule; same = same } in
        firsts_noted rule_rank (RuleFits g vs sizes) g.N new (viewed_room view room) refl fits
        (λ B y is f. left_is B (rw is at f)) so_far

    pub rule_passed : ¬ (figure vs (left_of v r) ≡ get_or sizes r 0) → ChosenOf g vs sizes xs (r + 1)
    rule_passed other = firsts_past rule_rank (RuleFits g vs sizes) g.N xs so_far (r + 1) (omega arith) unfit
      where
        unfit : (A q : ℕ) → A < g.N → r ≤ q → q < r + 1 → ¬ RuleFits g vs sizes A q
        unfit A q lt low high f =
            let e : q ≡ r = omega arith in
            let f' : RuleFits g vs sizes A r = rw e at f in
            other (rw (left_is A f') at f'.same)
