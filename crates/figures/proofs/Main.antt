-- The final statements of this crate, each by one citation: the promise of each call allows exactly one outcome for each input.
-- What `figure_at` and `cap` promise is an equation; `figure_at` says besides that its number is a word's. Assumes nothing.
use Prim.Native.Nat.{ℕ, ◌≤◌, ◌<◌}
use mathlib.Core.Bool.{Bool}
use mathlib.Core.Path.{◌≡◌}
use mathlib.Core.List.{List}
use Rattle.std.specs.Prelude.{Option}
use Rattle.figures.specs.Figures.{figure, capped, Lowered, FirstAbove, turn}
use Rattle.figures.proofs.FiguresSettle as FiguresSettle
use Rattle.figures.proofs.FiguresMet as FiguresMet

-- FIGURE AT, CAP
pub figure_at_settles : (xs : List ℕ) (a : ℕ) {r s : ℕ} → (r ≡ figure xs a) × (r ≤ 65535) → (s ≡ figure xs a) × (s ≤ 65535) → r ≡ s
figure_at_settles = FiguresSettle.figure_at_settles

pub cap_settles : (size : ℕ) {r s : ℕ} → r ≡ capped size → s ≡ capped size → r ≡ s
cap_settles = FiguresSettle.cap_settles

-- LOWER
pub lower_settles : {before : List ℕ} {a to : ℕ} {after after' : List ℕ} {r s : ℕ} →
    Lowered before a to after r → Lowered before a to after' s → (after ≡ after') × (r ≡ s)
lower_settles = FiguresSettle.lower_settles

pub lower_met : (before : List ℕ) (a to : ℕ) → (after : List ℕ) × (r : ℕ) × Lowered before a to after r
lower_met = FiguresMet.lower_met

-- FIRST ABOVE
pub first_above_settles : (xs : List ℕ) (n most : ℕ) {a b : Option ℕ} → FirstAbove xs n most a → FirstAbove xs n most b → a ≡ b
first_above_settles = FiguresSettle.first_above_settles

pub first_above_met : (xs : List ℕ) (n most : ℕ) → (r : Option ℕ) × FirstAbove xs n most r
first_above_met = FiguresMet.first_above_met

-- IN TURN
pub in_turn_settles : (i rules : ℕ) (up : Bool) {r s : ℕ} → (r ≡ turn up rules i) × (i < rules → r < rules) →
    (s ≡ turn up rules i) × (i < rules → s < rules) → r ≡ s
in_turn_settles = FiguresSettle.in_turn_settles

pub in_turn_met : (i rules : ℕ) (up : Bool) → (r : ℕ) × (r ≡ turn up rules i) × (i < rules → r < rules)
in_turn_met = FiguresMet.in_turn_met
