-- The first three words, one test after the other: where the layout faults them, and that it goes on to the rules.
-- Assumes nothing.
use mathlib.Core.Path.{◌≡◌, refl}
use mathlib.Core.List.{List, [], ◌∷◌}
use Prim.Native.Nat.{ℕ, ◌≤◌, ◌<◌}
use native.Mathlib.Omega.{arith}
use lib.ListN.{length, get_or, drop}
use borrow.Author.Tests.{lt-ltb, le-ltb, le-leb, lt-leb}
use Rattle.grammar.specs.Words.{faults, with_head, lefts, layout}

-- N is 0 or missing
pub no_nonterminals : (ws : List ℕ) → get_or ws 0 0 ≡ 0 → layout ws ≡ faults 0
unfolding layout
no_nonterminals [] e = refl
no_nonterminals (N ∷ []) e = rw e
no_nonterminals (N ∷ T ∷ []) e = rw e
no_nonterminals (N ∷ T ∷ S ∷ ws) e = rw e

pub many_nonterminals : (ws : List ℕ) → 128 < get_or ws 0 0 → layout ws ≡ faults 0
unfolding layout
many_nonterminals [] l = refl
many_nonterminals (N ∷ []) l = rw (lt-ltb 0 N (omega arith), lt-leb N 128 l)
many_nonterminals (N ∷ T ∷ []) l = rw (lt-ltb 0 N (omega arith), lt-leb N 128 l)
many_nonterminals (N ∷ T ∷ S ∷ ws) l = rw (lt-ltb 0 N (omega arith), lt-leb N 128 l)

pub no_terminals : (ws : List ℕ) → 0 < get_or ws 0 0 → get_or ws 0 0 ≤ 128 → length ws < 2 → layout ws ≡ faults 1
unfolding layout
no_terminals [] a b l = absurd (omega arith)
no_terminals (N ∷ []) a b l = rw (lt-ltb 0 N a, le-leb N 128 b)
no_terminals (N ∷ T ∷ ws) a b l = absurd (omega arith)

pub many_terminals : (ws : List ℕ) → 0 < get_or ws 0 0 → get_or ws 0 0 ≤ 128 → 1024 < get_or ws 1 0 → layout ws ≡ faults 1
unfolding layout
many_terminals [] a b l = absurd (omega arith)
many_terminals (N ∷ []) a b l = absurd (omega arith)
many_terminals (N ∷ T ∷ []) a b l = rw (lt-ltb 0 N a, le-leb N 128 b, lt-leb T 1024 l)
many_terminals (N ∷ T ∷ S ∷ ws) a b l = rw (lt-ltb 0 N a, le-leb N 128 b, lt-leb T 1024 l)

pub no_start : (ws : List ℕ) → 0 < get_or ws 0 0 → get_or ws 0 0 ≤ 128 → 2 ≤ length ws → get_or ws 1 0 ≤ 1024 → length ws < 3 →
    layout ws ≡ faults 2
unfolding layout
no_start [] a b c d l = absurd (omega arith)
no_start (N ∷ []) a b c d l = absurd (omega arith)
no_start (N ∷ T ∷ []) a b c d l = rw (lt-ltb 0 N a, le-leb N 128 b, le-leb T 1024 d)
no_start (N ∷ T ∷ S ∷ ws) a b c d l = absurd (omega arith)

pub start_unfit : (ws : List ℕ) → 0 < get_or ws 0 0 → get_or ws 0 0 ≤ 128 → 3 ≤ length ws → get_or ws 1 0 ≤ 1024 →
    get_or ws 0 0 ≤ get_or ws 2 0 → layout ws ≡ faults 2
unfolding layout
start_unfit [] a b c d l = absurd (omega arith)
start_unfit (N ∷ []) a b c d l = absurd (omega arith)
start_unfit (N ∷ T ∷ []) a b c d l = absurd (omega arith)
start_unfit (N ∷ T ∷ S ∷ ws) a b c d l = rw (lt-ltb 0 N a, le-leb N 128 b, le-leb T 1024 d, le-ltb S N l)

pub head_fit : (ws : List ℕ) → 0 < get_or ws 0 0 → get_or ws 0 0 ≤ 128 → 3 ≤ length ws → get_or ws 1 0 ≤ 1024 →
    get_or ws 2 0 < get_or ws 0 0 →
    layout ws ≡ with_head (get_or ws 0 0) (get_or ws 1 0) (get_or ws 2 0) (lefts (drop 3 ws) 3 256 (get_or ws 0 0) (get_or ws 1 0))
unfolding layout
head_fit [] a b c d l = absurd (omega arith)
head_fit (N ∷ []) a b c d l = absurd (omega arith)
head_fit (N ∷ T ∷ []) a b c d l = absurd (omega arith)
head_fit (N ∷ T ∷ S ∷ ws) a b c d l = rw (lt-ltb 0 N a, le-leb N 128 b, le-leb T 1024 d, lt-ltb S N l)
