-- `table_test::passes::context_passes` meets its contract: what is read for the context rule is that rule. Assumes nothing.
use Prim.Native.Nat.{ℕ, ◌≤◌, ◌<◌}
use native.Mathlib.Omega.{arith}
use mathlib.Core.Path.{◌≡◌, refl, ◌∙◌}
use mathlib.Core.Logic.{◌↔◌}
use mathlib.Core.Bool.{Bool}
use mathlib.Core.List.{List}
use lib.ListN.{length, get_or}
use denote.Ref.{Bor}
use Rattle.entries.specs.Table.{place_in}
use Rattle.std.specs.Prelude.{Option, Some, None, IsTrue, MatchOption, nat_eq}
use Rattle.std.specs.List.{HoldsAt}
use Rattle.std.specs.Option.{option_eq}
use Rattle.std.proofs.lemmas.Bool.Decides.{nat_tests}
use Rattle.table_test.proofs.RulesRead.{context_tests}
use Rattle.table_test.proofs.passes.context_passes.Goals as goal

-- whether what a slice gives at a place is a
given : {b : Bool} (w : List ℕ) (i : ℕ) (o : Option (Bor ℕ)) (a : Bor ℕ) →
    MatchOption o (length w ≤ i) (λ x. (i < length w) × HoldsAt (λ y. x.now ≡ y) w i) →
    b ≡ option_eq (λ x y. nat_eq x.now y.now) o (Some a) → IsTrue b ↔ (i < length w) × (get_or w i 0 ≡ a.now)
given w i None a past is = grind arith
given w i (Some x) a (inside, there) is = let e = there 0 in grind (arith, nat_tests)

pub returns-then-reading-rule : goal.returns-then-reading-rule
returns-then-reading-rule c g view =
    let a = c.args in
    let place = place_in a.table.now a.a in
    let tests = context_tests a.reading.now view a.table.now a.a c.rule-rule.result place c.rule-rule.ensures refl in
    grind arith

pub returns-then-eq : goal.returns-then-eq
returns-then-eq c g view =
    let a = c.args in
    let place = c.from-place.ensures ∙ c.place.ensures in
    let tests = context_tests a.reading.now view a.table.now a.a c.rule-rule.result _ c.rule-rule.ensures place in
    let read = rw c.right.ensures.result_value at (given _ _ c.get.result _ c.get.ensures.lookup.3 c.eq.ensures) in
    grind arith

pub returns-else-eq : goal.returns-else-eq
returns-else-eq c g view =
    let a = c.args in
    let place = c.from-place.ensures ∙ c.place.ensures in
    let tests = context_tests a.reading.now view a.table.now a.a c.rule-rule.result _ c.rule-rule.ensures place in
    let read = rw c.right.ensures.result_value at (given _ _ c.get.result _ c.get.ensures.lookup.3 c.eq.ensures) in
    grind arith
