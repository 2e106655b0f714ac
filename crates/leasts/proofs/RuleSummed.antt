-- The size of a rule, summed symbol by symbol: what is summed so far and the sizes of the symbols from i on are the whole, and if
-- those have sizes then all have. Assumes nothing.
use mathlib.Core.Path.{◌≡◌, refl, ap}
use mathlib.Core.List.Memᴰ
use mathlib.Core.List.{List, [], ◌∷◌}
use mathlib.Core.Logic.{⊎_elim}
use Prim.Native.Nat.{ℕ, zero, suc, ◌+◌, ◌*◌, ◌≤◌, ◌<◌}
use native.Mathlib.Omega.{arith}
use native.Mathlib.Numerals.{add-one}
use lib.ListN.{length, get_or, drop, drop_of_length-le}
use lib.Seq.{drop-cons}
use Rattle.std.specs.Prelude.{Some, None}
use Rattle.grammar.specs.Words.{Grammar}
use Rattle.grammar.specs.Tree.{◌∈◌}
use Rattle.grammar.specs.Terms.{measure}
use Rattle.grammar.specs.Certificates.{symbol_size, word_size}
use Rattle.grammar.proofs.Certificate.{symbol_nonterminal, symbol_terminal}
use Rattle.figures.specs.Figures.{no_figure, figure, Has}
use Rattle.figures.proofs.FiguresFall.{figure_is}
use Rattle.leasts.specs.LeastSteps.{HaveIn, Sized, has_size, no_size}
use Rattle.leasts.specs.declared.rule.Rule.{Rule}

-- the sum of the symbols before place i, and one
pub record Summed (rule : Rule) (vs : List ℕ) (i sum : ℕ) : Type 0 where
  pub have : HaveIn rule.reading.now.nonterminals vs (drop i rule.symbols.now) →
      HaveIn rule.reading.now.nonterminals vs rule.symbols.now
  pub rest : (g : Grammar) → rule.reading.now.nonterminals ≡ g.N →
      sum + word_size measure g (figure vs) (drop i rule.symbols.now) ≡ 1 + word_size measure g (figure vs) rule.symbols.now
  pub small : sum ≤ 1 + 65535 * i

module _ (rule : Rule) (vs : List ℕ) where
  abbrev n : ℕ
  n = rule.reading.now.nonterminals

  abbrev w : List ℕ
  w = rule.symbols.now

  pub summed_all : {i sum : ℕ} → Summed rule vs i sum → length w ≤ i → i ≤ length w → Sized rule vs (Some sum)
  unfolding word_size
  summed_all {i} {sum} so_far past within = has_size (record {
    have = so_far.have (rw end (λ B m l. absurd (Memᴰ.not-nil m)));
    is = λ g e. omega (arith, so_far.rest g e, ap (word_size measure g (figure vs)) end);
    fits = omega (arith, so_far.small, rule.few);
  })
    where
      end : drop i w ≡ []
      end = drop_of_length-le w past

  -- the symbol at place i
  module _ {i : ℕ} (inside : i < length w) where
    abbrev s : ℕ
    s = get_or w i 0

    pub summed_more : {sum : ℕ} (x : ℕ) → (s < n → Has vs s) → ((g : Grammar) → n ≡ g.N → symbol_size measure g (figure vs) s ≡ x) →
        x ≤ 65535 → Summed rule vs i sum → Summed rule vs (i + 1) (sum + x)
    unfolding word_size
    summed_more {sum} x has size small so_far = record {
      have = λ have. so_far.have (rw next (more have));
      rest = λ g e. omega (arith, size g e, so_far.rest g e, ap (word_size measure g (figure vs)) next);
      small = omega (arith, so_far.small);
    }
      where
        next : drop i w ≡ s ∷ drop (i + 1) w
        next = rw (add-one, drop-cons w i 0)

        more : HaveIn n vs (drop (i + 1) w) → HaveIn n vs (s ∷ drop (i + 1) w)
        more have B m l = ⊎_elim (λ e. rw e (has (rw e at l))) (λ m'. have B m' l) (Memᴰ.cases_cons m)

    pub terminal_summed : {sum : ℕ} → n ≤ s → Summed rule vs i sum → Summed rule vs (i + 1) (sum + 1)
    terminal_summed past =
        summed_more 1 (λ l. absurd (omega arith)) (λ g e. symbol_terminal measure g (figure vs) s (omega arith)) (omega arith)

    module _ (room : length vs ≡ 128) (below : s < n) where
      least_is : get_or vs s 0 ≡ figure vs s
      least_is = figure_is vs s 0 (omega (arith, rule.few))

      pub nonterminal_summed : {sum : ℕ} → ¬ (get_or vs s 0 ≡ no_figure) → get_or vs s 0 < 65536 → Summed rule vs i sum →
          Summed rule vs (i + 1) (sum + get_or vs s 0)
      nonterminal_summed has fits =
          summed_more (get_or vs s 0) (λ l. rw least_is at has)
          (λ g e. rw least_is (symbol_nonterminal measure g (figure vs) s (omega arith))) (omega arith)

      -- it has no size
      pub nonterminal_lacks : get_or vs s 0 ≡ no_figure → Sized rule vs None
      nonterminal_lacks e = no_size (λ have. have s (at_place w i inside) below (rw least_is at e))
        where
          at_place : (u : List ℕ) (k : ℕ) → k < length u → get_or u k 0 ∈ u
          at_place [] k h = absurd (omega arith)
          at_place (t ∷ u) zero h = Memᴰ.head refl
          at_place (t ∷ u) (suc k) h = Memᴰ.tail (at_place u k (omega arith))

-- for the check of `rule_size`
pub ruleset sums = (nonterminal_summed, nonterminal_lacks, terminal_summed, summed_all)
