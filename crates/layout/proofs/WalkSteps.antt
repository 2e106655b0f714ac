-- A step of the walk, by the facts that decide it. Assumes nothing.
use mathlib.Core.Path.{◌≡◌}
use mathlib.Core.List.{List}
use Prim.Native.Nat.{ℕ, ◌+◌, ◌≤◌, ◌<◌}
use lib.ListN.{length}
use borrow.Author.Tests.{lt-ltb, le-ltb, le-leb, lt-leb}
use Rattle.std.specs.Prelude.{Some, None}
use Rattle.layout.specs.Walk.{WalkPlace, count_at, span_at, step_at}

module _ (ws : List ℕ) (v : WalkPlace) where
  -- 256 rules went before
  pub step_past_256 : 256 ≤ v.number → step_at ws v ≡ None
  step_past_256 h = rw (le-ltb v.number 256 h)

  -- no whole rule stands there
  pub step_cut : v.number < 256 → length ws < v.at + 2 + count_at ws v.at → step_at ws v ≡ None
  step_cut h l = rw (lt-ltb v.number 256 h, lt-leb (v.at + 2 + count_at ws v.at) (length ws) l)

  pub step_rule : v.number < 256 → v.at + 2 + count_at ws v.at ≤ length ws → step_at ws v ≡ Some (span_at ws v)
  step_rule h l = rw (lt-ltb v.number 256 h, le-leb (v.at + 2 + count_at ws v.at) (length ws) l)
