-- Each rule has its turn in a round, up or down. Assumes nothing.
use mathlib.Core.Path.{◌≡◌}
use mathlib.Core.Bool.{Bool, true, false}
use Prim.Native.Nat.{ℕ, ◌-◌, ◌<◌}
use native.Mathlib.Omega.{arith}
use Rattle.figures.specs.Figures.{turn}

pub each_turn : (Q : ℕ → Type 0) (up : Bool) (rules : ℕ) → ((j : ℕ) → j < rules → Q (turn up rules j)) →
    (k : ℕ) → k < rules → Q k
each_turn Q true rules quiet k h = quiet k h
each_turn Q false rules quiet k h =
    let e : rules - 1 - (rules - 1 - k) ≡ k = omega arith in
    rw e at (quiet (rules - 1 - k) (omega arith))
