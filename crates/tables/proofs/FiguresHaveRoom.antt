-- Where each nonterminal has a figure, the array has a place for each: past its end there is none. Assumes nothing.
use Prim.Native.Nat.{ℕ, ◌≤◌, ◌<◌}
use mathlib.Core.List.{List}
use native.Mathlib.Decide.{dec_lt}
use native.Mathlib.Omega.{arith}
use lib.ListN.{length, get_or-eq_default}
use Rattle.figures.specs.Figures.{no_figure, Has}

pub room_for_all : (xs : List ℕ) (n : ℕ) → ((A : ℕ) → A < n → Has xs A) → n ≤ length xs
room_for_all xs n all = go (dec_lt (length xs) n)
  where
    go : Dec (length xs < n) → n ≤ length xs
    go (yes past) = absurd (all (length xs) past (get_or-eq_default xs no_figure {n = length xs} (omega arith)))
    go (no room) = omega arith
