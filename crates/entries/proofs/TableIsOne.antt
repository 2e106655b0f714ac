-- A grammar has one table: each of its words is a figure or a choice, and these are unique. Assumes nothing.
use Prim.Native.Nat.{ℕ, zero, suc, ◌<◌}
use native.Mathlib.Omega.{arith}
use native.Mathlib.Decide.{ℕ_discrete}
use mathlib.Core.Path.{◌≡◌, sym, ◌∙◌}
use mathlib.Core.List.{List}
use lib.ListN.{length, get_or}
use lib.Seq.{ext_get_or}
use Rattle.grammar.specs.Words.{Grammar}
use Rattle.grammar.proofs.Unique.{least_unique, chosen_unique, context_unique, choice_unique, total_unique}
use Rattle.entries.specs.Table.{entry, IsTable}
use Rattle.entries.proofs.TablePlaces.{at_each_place}

module _ {g : Grammar} {ws vs : List ℕ} (a : IsTable g ws) (b : IsTable g vs) where
  same_choice : (A : ℕ) → A < g.N → (entry ws A 3 ≡ entry vs A 3) × (entry ws A 4 ≡ entry vs A 4)
  same_choice A lt = start? (ℕ_discrete A g.start)
    where
      start? : Dec (A ≡ g.start) → (entry ws A 3 ≡ entry vs A 3) × (entry ws A 4 ≡ entry vs A 4)
      start? (yes e) = rw e (a.start_rule ∙ sym b.start_rule, a.start_place ∙ sym b.start_place)
      start? (no d) = choice_unique (a.choices A lt d) (b.choices A lt d)

  same_entry : (A j : ℕ) → A < g.N → j < 5 → entry ws A j ≡ entry vs A j
  same_entry A zero lt l = least_unique (a.leasts A lt) (b.leasts A lt)
  same_entry A (suc zero) lt l = chosen_unique (a.chosen A lt) (b.chosen A lt)
  same_entry A (suc (suc zero)) lt l = context_unique (a.contexts A lt) (b.contexts A lt)
  same_entry A (suc (suc (suc zero))) lt l = (same_choice A lt).0
  same_entry A (suc (suc (suc (suc zero)))) lt l = (same_choice A lt).1
  same_entry A (suc (suc (suc (suc (suc j))))) lt l = absurd (omega arith)

  -- ONE TABLE
  pub table_unique : ws ≡ vs
  table_unique =
      let same : (i : ℕ) → i < length ws → get_or ws i 0 ≡ get_or vs i 0 = λ i l.
      at_each_place g (λ i. get_or ws i 0 ≡ get_or vs i 0) same_entry (λ r h. total_unique (a.totals r h) (b.totals r h)) i
      (omega (arith, a.long)) in
      ext_get_or 0 ws vs (a.long ∙ sym b.long) same
