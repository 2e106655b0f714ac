-- Runs of stores. Assumes nothing.
use Prim.Native.Nat.{ℕ, suc, ◌+◌}
use native.Mathlib.Nat.{add-zero}
use native.Mathlib.Omega.{arith}
use mathlib.Core.Path.{◌≡◌}
use mathlib.Core.List.{List, [], ◌∷◌, ◌++◌}
use lib.ListN.{length, set}
use lib.Seq.{sets}

-- one run after another is one run
pub sets_append : (us vs l : List ℕ) (i : ℕ) → sets l i (us ++ vs) ≡ sets (sets l i us) (i + length us) vs
sets_append [] vs l i = rw (add-zero i)
sets_append (u ∷ us) vs l i =
    let e : suc i + length us ≡ i + suc (length us) = omega arith in
    rw (← e) (sets_append us vs (set l i u) (suc i))
