-- The final statements of this crate, each by one citation: the promise of each call allows exactly one outcome for each input.
-- Assumes nothing.
use Prim.Native.Nat.{ℕ}
use mathlib.Core.Path.{◌≡◌}
use mathlib.Core.List.{List}
use Rattle.std.specs.Prelude.{Option}
use Rattle.marks.specs.Marks.{FirstUnused, Marked}
use Rattle.marks.proofs.MarksSettle as MarksSettle
use Rattle.marks.proofs.MarksMet as MarksMet

-- FIRST UNUSED
pub first_unused_settles : (marks : List ℕ) (rules : ℕ) {a b : Option ℕ} →
    FirstUnused marks rules a → FirstUnused marks rules b → a ≡ b
first_unused_settles = MarksSettle.first_unused_settles

pub first_unused_met : (marks : List ℕ) (rules : ℕ) → (a : Option ℕ) × FirstUnused marks rules a
first_unused_met = MarksMet.first_unused_met

-- MARK RULES
pub mark_rules_settles : {ks before after after' : List ℕ} → Marked ks before after → Marked ks before after' → after ≡ after'
mark_rules_settles = MarksSettle.mark_rules_settles

pub marks_met : (ks before : List ℕ) → (after : List ℕ) × Marked ks before after
marks_met = MarksMet.marks_met
