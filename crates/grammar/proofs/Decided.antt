-- Rows 5, 6 and 7 are decided: of any grammar within bounds, either the row holds for no nonterminal or rule, or there is a
-- lowest for which it does. So for every grammar there is one answer, and the place that the refusals name exists.
-- Settling decides each nonterminal and rule (`tree?`, `reached?`, `total_exists`); then search from the lowest.
-- Assumes nothing.
use Prim.Native.Nat.{ℕ, ◌<◌}
use native.Mathlib.Omega.{arith}
use native.Mathlib.Decide.{dec_lt}
use mathlib.Core.Logic.{◌⊎◌, inl, inr}
use Rattle.grammar.specs.Words.{Grammar, R, InBounds}
use Rattle.grammar.specs.Tree.{Tree}
use Rattle.grammar.specs.Terms.{measure}
use Rattle.grammar.specs.Least.{Total}
use Rattle.grammar.specs.Refusals.{Lowest, NoTree, AllTrees, Reached, Unreached, AllReached, Oversize, Fits, AllFit}
use Rattle.grammar.proofs.Unique.{total_unique}
use Rattle.grammar.proofs.Search.{all_or_lowest}
use Rattle.grammar.proofs.LeastsExist.{tree?, leasts_exist}
use Rattle.grammar.proofs.ContextsExist.{reached?}
use Rattle.grammar.proofs.TreeOfExists.{total_exists}

-- 5: every nonterminal has a complete tree, or there is a lowest that has none
pub trees? : (g : Grammar) → AllTrees g ⊎ ((A : ℕ) × Lowest (NoTree g) A)
trees? g = all_or_lowest (NoTree g) (Tree g) g.N (λ A lt. go A lt (tree? measure g A lt)) (λ A t z. z.none t)
  where
    go : (A : ℕ) → A < g.N → Tree g A ⊎ ¬ Tree g A → Tree g A ⊎ NoTree g A
    go A lt (inl t) = inl t
    go A lt (inr n) = inr (record { nonterminal = lt; none = n })

-- 6: every nonterminal is reached, or there is a lowest that is not, where all have trees
pub all_reached? : (g : Grammar) → AllTrees g → AllReached g ⊎ ((A : ℕ) × Lowest (Unreached g) A)
all_reached? g trees =
    let (v, leasts) = leasts_exist measure g trees in
    all_or_lowest (Unreached g) (Reached g) g.N (λ A lt. go A lt (reached? measure g v leasts A lt)) (λ A t z. z.never t)
  where
    go : (A : ℕ) → A < g.N → Reached g A ⊎ ¬ Reached g A → Reached g A ⊎ Unreached g A
    go A lt (inl t) = inl t
    go A lt (inr n) = inr (record { nonterminal = lt; never = n })

-- 7: every Total is at most the limit, or there is a lowest rule whose Total is above, where 5 and 6 accept
pub all_fit? : (limit : ℕ) (g : Grammar) → InBounds g → AllTrees g → AllReached g →
    AllFit limit g ⊎ ((r : ℕ) × Lowest (Oversize limit g) r)
all_fit? limit g ok trees reached = all_or_lowest (Oversize limit g) (Fits limit g) (R g) each apart
  where
    go : (r x : ℕ) → Total measure g r x → Dec (limit < x) → Fits limit g r ⊎ Oversize limit g r
    go r x t (yes h) = inr (record { total = x; is = t; above = h })
    go r x t (no n) = inl (record { total = x; is = t; within = omega arith })

    each : (r : ℕ) → r < R g → Fits limit g r ⊎ Oversize limit g r
    each r l = let (x, t) = total_exists measure g ok trees reached r l in go r x t (dec_lt limit x)

    apart : (r : ℕ) → Fits limit g r → Oversize limit g r → ⊥
    apart r f o = let e = total_unique f.is o.is in let w = f.within in let a = o.above in omega arith
