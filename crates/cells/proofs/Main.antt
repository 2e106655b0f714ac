-- The final statements of this crate, each by one citation. Assumes nothing.
use Prim.Native.Nat.{ℕ, ◌≤◌, ◌%◌}
use mathlib.Core.Path.{◌≡◌}
use mathlib.Core.List.{List}
use lib.ListN.{get_or, set}
use Rattle.cells.proofs.CellsSettle as CellsSettle

-- SETTLED. Any two outcomes that a promise allows for the same input coincide.
pub read_settles : (part : List ℕ) (i : ℕ) {r s : ℕ} → r ≡ get_or part i 0 → s ≡ get_or part i 0 → r ≡ s
read_settles = CellsSettle.read_settles

pub put_settles : (before : List ℕ) (i v : ℕ) {after after' : List ℕ} →
    after ≡ set before i v → after' ≡ set before i v → after ≡ after'
put_settles = CellsSettle.put_settles

pub narrow_settles : (x : ℕ) {r s : ℕ} → (r ≡ x % 65536) × (x ≤ 65535 → r ≡ x) → (s ≡ x % 65536) × (x ≤ 65535 → s ≡ x) → r ≡ s
narrow_settles = CellsSettle.narrow_settles

pub wide_settles : (x : ℕ) {r s : ℕ} → r ≡ x → s ≡ x → r ≡ s
wide_settles = CellsSettle.wide_settles
