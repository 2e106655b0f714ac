-- The places of a rule, tested while its sizes are summed, symbol by symbol: what is summed so far and the sizes of the symbols
-- from i on are the whole size, and every place before i passes. Assumes nothing.
use mathlib.Core.Path.{◌≡◌, ap}
use mathlib.Core.List.{List, [], ◌∷◌}
use Prim.Native.Nat.{ℕ, ◌+◌, ◌*◌, ◌≤◌, ◌<◌}
use native.Mathlib.Omega.{arith}
use native.Mathlib.Numerals.{add-one}
use borrow.Author.Count.{below_more}
use lib.ListN.{length, get_or, drop, drop_of_length-le}
use lib.Seq.{drop-cons}
use Rattle.grammar.specs.Words.{Grammar}
use Rattle.grammar.specs.Terms.{measure}
use Rattle.grammar.specs.Certificates.{symbol_size, word_size, Holds}
use Rattle.grammar.proofs.Certificate.{symbol_nonterminal, symbol_terminal}
use Rattle.entries.specs.Table.{least_in}
use Rattle.table_test.specs.Passes.{PlacePasses, PlacesPass, size_in}
use Rattle.grammar.proofs.ContextsExist.{holds_below, held_there}

module _ (table : List ℕ) (n k t : ℕ) (w : List ℕ) where
  abbrev PassesAt : ℕ → Type 0
  PassesAt i = (B : ℕ) → Holds w i B → B < n → PlacePasses table B k i t

  pub record Summed (i sum : ℕ) : Type 0 where
    pub passed : (j : ℕ) → j < i → PassesAt j
    pub rest : (g : Grammar) → n ≡ g.N → sum + word_size measure g (least_in table) (drop i w) ≡ size_in g table w
    pub small : sum ≤ 1 + 65535 * i

module _ {table : List ℕ} {n k t : ℕ} (w : List ℕ) where
  -- the symbol at place i
  module _ {i sum : ℕ} (there : i < length w) (so_far : Summed table n k t w i sum) where
    summed_more : (x : ℕ) → x ≤ 65535 → ((g : Grammar) → n ≡ g.N → symbol_size measure g (least_in table) (get_or w i 0) ≡ x) →
        (get_or w i 0 < n → PlacePasses table (get_or w i 0) k i t) → Summed table n k t w (i + 1) (sum + x)
    unfolding word_size
    summed_more x l size here = record {
      passed = below_more (PassesAt table n k t w) i so_far.passed (λ B h. rw (held_there w i B h) at here);
      rest = λ g e. omega (arith, size g e, so_far.rest g e, ap (word_size measure g (least_in table)) next);
      small = omega (arith, so_far.small);
    }
      where
        next : drop i w ≡ get_or w i 0 ∷ drop (i + 1) w
        next = rw (add-one, drop-cons w i 0)

    pub summed_nonterminal : (x : ℕ) → x ≡ least_in table (get_or w i 0) → x < 65536 → get_or w i 0 < n →
        PlacePasses table (get_or w i 0) k i t → Summed table n k t w (i + 1) (sum + x)
    summed_nonterminal x e h l p =
        summed_more x (omega arith)
        (λ g q. omega (arith, symbol_nonterminal measure g (least_in table) (get_or w i 0) (omega arith))) (λ l. p)

    pub summed_terminal : n ≤ get_or w i 0 → Summed table n k t w (i + 1) (sum + 1)
    summed_terminal l =
        summed_more 1 (omega arith) (λ g e. symbol_terminal measure g (least_in table) (get_or w i 0) (omega arith))
        (λ h. absurd (omega arith))

  pub summed_all : {i sum : ℕ} → i ≡ length w → Summed table n k t w i sum →
      PlacesPass table n k t w × ((g : Grammar) → n ≡ g.N → sum ≡ size_in g table w)
  unfolding word_size
  summed_all {i} {sum} e z = (λ j B h. z.passed j (omega (arith, holds_below w j B h)) B h, size)
    where
      end : drop i w ≡ []
      end = let past : length w ≤ i = omega arith in drop_of_length-le w past

      size : (g : Grammar) → n ≡ g.N → sum ≡ size_in g table w
      size g q = omega (arith, z.rest g q, ap (word_size measure g (least_in table)) end)
