-- A way up by context choices has fewer steps than there are nonterminals: contexts fall from each nonterminal to the next, and
-- with each step there is one nonterminal less whose context is below. Assumes nothing.
use Prim.Native.Nat.{ℕ, zero, suc, ◌+◌, ◌≤◌, ◌<◌}
use native.Mathlib.Decide.{dec_lt, ℕ_discrete}
use native.Mathlib.Nat.{not-suc-le-zero}
use native.Mathlib.Omega.{arith}
use mathlib.Core.List.{List}
use mathlib.Core.Path.{◌≡◌}
use lib.Dec.{ltb}
use borrow.Author.Tests.{lt-ltb, le-ltb}
use Rattle.grammar.specs.Certificates.{either}
use Rattle.entries.specs.Table.{context_in}

-- how many of the first m nonterminals have a context below x
unfoldable pub lower : List ℕ → ℕ → ℕ → ℕ
lower table zero x = 0
lower table (suc m) x = lower table m x + either (ltb (context_in table m) x) 1 0

one_few : (c x : ℕ) → either (ltb c x) 1 0 ≤ 1
one_few c x = go (dec_lt c x)
  where
    go : Dec (c < x) → either (ltb c x) 1 0 ≤ 1
    go (yes p) = rw (lt-ltb c x p) (omega arith)
    go (no p) = rw (le-ltb c x (omega arith)) (omega arith)

one_grows : (c x y : ℕ) → x ≤ y → either (ltb c x) 1 0 ≤ either (ltb c y) 1 0
one_grows c x y h = go (dec_lt c x)
  where
    go : Dec (c < x) → either (ltb c x) 1 0 ≤ either (ltb c y) 1 0
    go (yes p) = rw (lt-ltb c x p, lt-ltb c y (omega arith)) (omega arith)
    go (no p) = rw (le-ltb c x (omega arith)) (omega arith)

module _ (table : List ℕ) where
  lower_few : (m x : ℕ) → lower table m x ≤ m
  unfolding lower
  lower_few zero x = omega arith
  lower_few (suc m) x = omega (arith, lower_few m x, one_few (context_in table m) x)

  lower_grows : (m x y : ℕ) → x ≤ y → lower table m x ≤ lower table m y
  unfolding lower
  lower_grows zero x y h = omega arith
  lower_grows (suc m) x y h = omega (arith, lower_grows m x y h, one_grows (context_in table m) x y h)

  -- one less is below a context than below a higher figure: that context itself
  pub lower_falls : (m B x : ℕ) → B < m → context_in table B < x → lower table m (context_in table B) < lower table m x
  unfolding lower
  lower_falls zero B x l h = absurd (not-suc-le-zero l)
  lower_falls (suc m) B x l h = go (λ k. lower_falls m B x k h) (ℕ_discrete B m)
    where
      go : (B < m → lower table m (context_in table B) < lower table m x) → Dec (B ≡ m) →
          lower table m (context_in table B) + either (ltb (context_in table m) (context_in table B)) 1 0 <
          lower table m x + either (ltb (context_in table m) x) 1 0
      go again (yes e) =
          let here = context_in table m in
          let at_most = lower_grows m here x (omega (arith, rw e at h)) in
          rw (e, le-ltb here here (omega arith), lt-ltb here x (rw e at h)) (omega (arith, at_most))
      go again (no d) = omega (arith, again (omega arith), one_grows (context_in table m) (context_in table B) x (omega arith))

  pub lower_within : (m A : ℕ) → A < m → lower table m (context_in table A) < m
  lower_within m A l =
      let x = suc (context_in table A) in
      omega (arith, lower_falls m A x l (omega arith), lower_few m x)
