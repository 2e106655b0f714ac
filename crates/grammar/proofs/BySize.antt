-- What holds of a thing once it holds of all smaller things holds of all things. Every construction that follows falling figures
-- or a shrinking list ends by this one law.
-- By induction on a bound n: of things below n each smaller thing is below n − 1. Assumes nothing.
use Prim.Native.Nat.{ℕ, zero, suc, ◌<◌}
use native.Mathlib.Omega.{arith}

module _ {X : Type 0} (size : X → ℕ) (P : X → Type 0) (step : (x : X) → ((y : X) → size y < size x → P y) → P x) where
  below : (n : ℕ) (x : X) → size x < n → P x
  below zero x l = absurd (omega arith)
  below (suc n) x l = step x (λ y smaller. below n y (omega arith))

  -- BY SIZE: what holds of x once it holds of all that is smaller holds of every x
  pub by_size : (x : X) → P x
  by_size x = below (suc (size x)) x (omega arith)
