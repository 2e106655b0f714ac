-- Each symbol of a rule comes to 1 at least where the leasts are sound. So a rule with one symbol less than the least of its left
-- side, or with more, does not lower it. Assumes nothing.
use mathlib.Core.List.Memᴰ
use mathlib.Core.List.{List, [], ◌∷◌}
use mathlib.Core.Path.{refl}
use Prim.Native.Nat.{ℕ, ◌+◌, ◌≤◌, ◌<◌}
use native.Mathlib.Decide.{dec_lt}
use native.Mathlib.Omega.{arith}
use lib.ListN.{length}
use Rattle.grammar.specs.Words.{Grammar}
use Rattle.grammar.specs.Tree.{Tree, node}
use Rattle.grammar.specs.Measure.{tree_cost}
use Rattle.grammar.specs.Certificates.{word_size, symbol_size}
use Rattle.grammar.specs.Terms.{measure}
use Rattle.grammar.proofs.Certificate.{symbol_nonterminal, symbol_terminal}
use Rattle.figures.specs.Figures.{figure, Has, capped}
use Rattle.leasts.specs.LeastSteps.{HaveIn, LeastsSound}

tree_costs : {g : Grammar} {A : ℕ} (t : Tree g A) → 1 ≤ tree_cost measure t
unfolding tree_cost
tree_costs (node k r f) = omega arith

module _ (g : Grammar) (vs : List ℕ) (sound : LeastsSound g vs) where
  symbol_costs : (s : ℕ) → (s < g.N → Has vs s) → 1 ≤ symbol_size measure g (figure vs) s
  symbol_costs s has = go (dec_lt s g.N)
    where
      go : Dec (s < g.N) → 1 ≤ symbol_size measure g (figure vs) s
      go (yes l) =
          let (t, e) = sound s (has l) in
          omega (arith, symbol_nonterminal measure g (figure vs) s l, tree_costs t)
      go (no l) = omega (arith, symbol_terminal measure g (figure vs) s (omega arith))

  symbols_cost : (w : List ℕ) → HaveIn g.N vs w → length w ≤ word_size measure g (figure vs) w
  unfolding word_size
  symbols_cost [] have = omega arith
  symbols_cost (s ∷ w) have =
      let first = symbol_costs s (λ l. have s (Memᴰ.head refl) l) in
      let others = symbols_cost w (λ B m l. have B (Memᴰ.tail m) l) in
      omega arith

  pub quiet_too_many : (w : List ℕ) (A : ℕ) → length w ≤ 32 → figure vs A ≤ length w + 1 → HaveIn g.N vs w →
      figure vs A ≤ capped (1 + word_size measure g (figure vs) w)
  quiet_too_many w A short few have = omega (arith, symbols_cost w have)
