-- The promises of this crate can be met, for any numbers, and any words of 16 bits. Assumes nothing.
use Prim.Native.Nat.{ℕ, zero, suc, ◌+◌, ◌<◌}
use native.Mathlib.Omega.{arith}
use native.Mathlib.Decide.{dec_lt}
use native.Mathlib.Numerals.{add-one}
use borrow.Author.Count.{below_more}
use mathlib.Core.Bool.{Bool, true, false}
use mathlib.Core.Path.{◌≡◌, refl}
use mathlib.Core.List.{List}
use lib.ListN.{length, set}
use Rattle.std.specs.Prelude.{Option, Some, None}
use Rattle.figures.specs.Figures.{figure, Lowered, fell, stayed, FirstAbove, found_at, found_none, turn}

pub lower_met : (before : List ℕ) (a to : ℕ) → (after : List ℕ) × (r : ℕ) × Lowered before a to after r
lower_met before a to = go (dec_lt a (length before)) (dec_lt to (figure before a))
  where
    go : Dec (a < length before) → Dec (to < figure before a) → (after : List ℕ) × (r : ℕ) × Lowered before a to after r
    go (yes h) (yes l) = (set before a to, 1, fell h l)
    go (yes h) (no l) = (before, 0, stayed (λ k. omega arith))
    go (no h) l = (before, 0, stayed (λ k. absurd (h k)))

-- the search among the places below n, and place n behind them
module _ (xs : List ℕ) (most : ℕ) where
  abbrev Search : ℕ → Type 0
  Search n = (r : Option ℕ) × FirstAbove xs n most r

  one_more : (n : ℕ) → Search n → Search (n + 1)
  one_more n (_, found_at l above low) = (Some _, found_at (omega arith) above low)
  one_more n (_, found_none low) = go (dec_lt most (figure xs n))
    where
      go : Dec (most < figure xs n) → Search (n + 1)
      go (yes above) = (Some n, found_at (omega arith) above low)
      go (no h) = (None, found_none (below_more _ n low (omega arith)))

pub first_above_met : (xs : List ℕ) (n most : ℕ) → (r : Option ℕ) × FirstAbove xs n most r
first_above_met xs zero most = (None, found_none (λ b h. absurd (omega arith)))
first_above_met xs (suc n) most = rw (← add-one) (one_more xs most n (first_above_met xs n most))

pub in_turn_met : (i rules : ℕ) (up : Bool) → (r : ℕ) × (r ≡ turn up rules i) × (i < rules → r < rules)
in_turn_met i rules true = (i, refl, λ h. h)
in_turn_met i rules false = (turn false rules i, refl, λ h. omega arith)
