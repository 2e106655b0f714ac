-- The places of a table: the five words of A stand at 5A to 5A + 4, the total of r at 5N + r, and there is no other place. So
-- what holds at these holds at each of the 5N + R; and words give figures, by these places. Assumes nothing.
use Prim.Native.Nat.{ℕ, ◌+◌, ◌*◌, ◌-◌, ◌/◌, ◌%◌, ◌≤◌, ◌<◌}
use native.Mathlib.Omega.{arith}
use native.Mathlib.Decide.{dec_lt}
use mathlib.Core.Path.{◌≡◌}
use mathlib.Core.List.{List}
use lib.ListN.{take}
use lib.Seq.{get_or-take}
use Rattle.grammar.specs.Words.{Grammar, R, InBounds}
use Rattle.entries.specs.Table.{table_length, entry, least_in, chosen_in, context_in, rule_in, place_in, total_in, most_table}

pub at_each_place : (g : Grammar) (P : ℕ → Type 0) → ((A j : ℕ) → A < g.N → j < 5 → P (5 * A + j)) →
    ((r : ℕ) → r < R g → P (5 * g.N + r)) → (i : ℕ) → i < table_length g → P i
at_each_place g P five total i l = split (dec_lt i (5 * g.N))
  where
    split : Dec (i < 5 * g.N) → P i
    split (yes h) =
        let e : 5 * (i / 5) + i % 5 ≡ i = omega arith in rw e at (five (i / 5) (i % 5) (omega arith) (omega arith))
    split (no h) = let e : 5 * g.N + (i - 5 * g.N) ≡ i = omega arith in rw e at (total (i - 5 * g.N) (omega arith))

-- the first 5N + R words stand in front, and so does each of these places
entry_front : (g : Grammar) (ws : List ℕ) (A j : ℕ) → A < g.N → j < 5 → entry (take (table_length g) ws) A j ≡ entry ws A j
entry_front g ws A j lt l = get_or-take (table_length g) ws (5 * A + j) 0 (omega arith)

module _ (g : Grammar) (ws : List ℕ) (A : ℕ) (lt : A < g.N) where
  pub least_front : least_in (take (table_length g) ws) A ≡ least_in ws A
  least_front = entry_front g ws A 0 lt (omega arith)

  pub chosen_front : chosen_in (take (table_length g) ws) A ≡ chosen_in ws A
  chosen_front = entry_front g ws A 1 lt (omega arith)

  pub context_front : context_in (take (table_length g) ws) A ≡ context_in ws A
  context_front = entry_front g ws A 2 lt (omega arith)

  pub rule_front : rule_in (take (table_length g) ws) A ≡ rule_in ws A
  rule_front = entry_front g ws A 3 lt (omega arith)

  pub place_front : place_in (take (table_length g) ws) A ≡ place_in ws A
  place_front = entry_front g ws A 4 lt (omega arith)

pub total_front : (g : Grammar) (ws : List ℕ) (r : ℕ) → r < R g → total_in g.N (take (table_length g) ws) r ≡ total_in g.N ws r
total_front g ws r l = get_or-take (table_length g) ws (5 * g.N + r) 0 (omega arith)

pub table_few : (g : Grammar) → InBounds g → table_length g ≤ most_table
table_few g ok = omega (arith, ok.nonterminals, ok.at_most_256)
