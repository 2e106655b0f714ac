-- The words of an accepted grammar's table are 16-bit words: no figure is above 4,096, for each is part of a Total, no rule is
-- above 255, no place above 31, and the start's two are 65535. Assumes nothing.
use Prim.Native.Nat.{ℕ, zero, suc, ◌+◌, ◌≤◌, ◌<◌}
use native.Mathlib.Omega.{arith}
use native.Mathlib.Decide.{dec_lt, ℕ_discrete}
use mathlib.Core.Path.{◌≡◌, refl}
use mathlib.Core.List.{List}
use lib.ListN.{get_or, get_or-eq_default}
use Rattle.grammar.specs.Words.{Grammar, R, InBounds}
use Rattle.grammar.specs.Terms.{measure, limit}
use Rattle.grammar.specs.Least.{Total}
use Rattle.grammar.specs.Refusals.{AllFit}
use Rattle.grammar.proofs.LayoutExact.{rule_below, rule_short}
use Rattle.grammar.proofs.Unique.{least_unique, total_unique}
use Rattle.grammar.proofs.ContextsExist.{holds_below}
use Rattle.grammar.proofs.TreeOfExists.{beside_holds}
use Rattle.entries.specs.Table.{table_length, entry, total_in, IsTable}
use Rattle.entries.proofs.TablePlaces.{at_each_place}

module _ {g : Grammar} {ws : List ℕ} (ok : InBounds g) (fit : AllFit limit g) (table : IsTable g ws) where
  pub total_fits : (r : ℕ) → r < R g → total_in g.N ws r ≤ limit
  total_fits r l = omega (arith, total_unique (table.totals r l) (fit r l).is, (fit r l).within)

  -- the least and the context of A are together the Total of its chosen rule
  pub sizes_fit : (A : ℕ) → A < g.N → entry ws A 0 + entry ws A 2 ≤ limit
  sizes_fit A lt =
      let k = table.chosen A lt in
      let f = fit (entry ws A 1) (rule_below g.rules _ _ k.attains.rule.stands) in
      let t : Total measure g (entry ws A 1) (entry ws A 2 + k.figure) =
      record { A = A; outer = entry ws A 2; context = table.contexts A lt; size = k.figure; rule = k.attains; is = refl } in
      omega (arith, total_unique t f.is, least_unique (table.leasts A lt) k.least, f.within)

  choice_fits : (A : ℕ) → A < g.N → (entry ws A 3 < 65536) × (entry ws A 4 < 65536)
  choice_fits A lt = start? (ℕ_discrete A g.start)
    where
      start? : Dec (A ≡ g.start) → (entry ws A 3 < 65536) × (entry ws A 4 < 65536)
      start? (yes e) = rw e (omega (arith, table.start_rule), omega (arith, table.start_place))
      start? (no d) =
          let z = (table.choices A lt d).attains in
          let i = holds_below z.w (entry ws A 4) A (beside_holds z.beside) in
          (omega (arith, rule_below g.rules _ _ z.rule.stands, ok.at_most_256), omega (arith, rule_short ok z.rule))

  entry_fits : (A j : ℕ) → A < g.N → j < 5 → entry ws A j < 65536
  entry_fits A zero lt l = omega (arith, sizes_fit A lt)
  entry_fits A (suc zero) lt l =
      omega (arith, rule_below g.rules _ _ (table.chosen A lt).attains.rule.stands, ok.at_most_256)
  entry_fits A (suc (suc zero)) lt l = omega (arith, sizes_fit A lt)
  entry_fits A (suc (suc (suc zero))) lt l = (choice_fits A lt).0
  entry_fits A (suc (suc (suc (suc zero)))) lt l = (choice_fits A lt).1
  entry_fits A (suc (suc (suc (suc (suc j))))) lt l = absurd (omega arith)

  -- SIXTEEN BITS, at each place, and past the end, where a word counts as 0
  pub table_words_fit : (i : ℕ) → get_or ws i 0 < 65536
  table_words_fit i = there? (dec_lt i (table_length g))
    where
      there? : Dec (i < table_length g) → get_or ws i 0 < 65536
      there? (yes l) = at_each_place g (λ i. get_or ws i 0 < 65536) entry_fits (λ r h. omega (arith, total_fits r h)) i l
      there? (no l) = let e : get_or ws i 0 ≡ 0 = get_or-eq_default ws 0 (omega (arith, table.long)) in omega arith
