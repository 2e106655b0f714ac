-- The words that figures make, by index: the five of nonterminal A stand at 5A to 5A + 4, the total of rule r at 5n + r. And what a
-- buffer holds when some of them are written. Assumes nothing.
use Prim.Native.Nat.{ℕ, ◌+◌, ◌-◌, ◌*◌, ◌/◌, ◌%◌, ◌≤◌, ◌<◌}
use native.Mathlib.Omega.{arith}
use mathlib.Core.Path.{◌≡◌, refl, ◌∙◌}
use mathlib.Core.List.{List, ◌++◌}
use lib.ListN.{length, get_or, set, take, drop}
use borrow.Author.Tests.{lt-ltb, le-ltb}
use Rattle.answers.specs.Buffers.{over}
use Rattle.answers.proofs.WrittenFromFront.{store_next, all_over}
use Rattle.answers.proofs.Tabulate.{length-tabulate, get_d_tabulate}
use Rattle.grammar.specs.Certificates.{Figures}
use Rattle.grammar.specs.Terms.{measure}
use Rattle.entries.specs.Table.{length_for, entry, least_in, chosen_in, context_in, rule_in, place_in, total_in}
use Rattle.entries.specs.Writing.{with_entries, with_total, entries_of, word_of, word_at, table_of, entered_to, totalled_to}

module _ (n rules : ℕ) (F : Figures measure) where
  pub table_long : length (table_of n rules F) ≡ length_for n rules
  unfolding table_of
  table_long = length-tabulate (word_at n F) (length_for n rules)

  -- each word, by its index
  at_index : (i : ℕ) → i < length_for n rules → get_or (table_of n rules F) i 0 ≡ word_at n F i
  unfolding table_of
  at_index i h = get_d_tabulate (word_at n F) (length_for n rules) i h

  at_entry : (A j : ℕ) → A < n → j < 5 → entry (table_of n rules F) A j ≡ word_of F A j
  at_entry A j lt l =
      let inside = lt-ltb (5 * A + j) (5 * n) (omega arith) in
      let e : (5 * A + j) / 5 ≡ A = omega arith in
      let e' : (5 * A + j) % 5 ≡ j = omega arith in
      at_index (5 * A + j) (omega arith) ∙ rw (inside, e, e') refl

  -- BY NAME
  pub at_least : (A : ℕ) → A < n → least_in (table_of n rules F) A ≡ F.least A
  at_least A lt = at_entry A 0 lt (omega arith)

  pub at_chosen : (A : ℕ) → A < n → chosen_in (table_of n rules F) A ≡ F.chosen A
  at_chosen A lt = at_entry A 1 lt (omega arith)

  pub at_context : (A : ℕ) → A < n → context_in (table_of n rules F) A ≡ F.context A
  at_context A lt = at_entry A 2 lt (omega arith)

  pub at_rule : (A : ℕ) → A < n → rule_in (table_of n rules F) A ≡ F.rule A
  at_rule A lt = at_entry A 3 lt (omega arith)

  pub at_place : (A : ℕ) → A < n → place_in (table_of n rules F) A ≡ F.place A
  at_place A lt = at_entry A 4 lt (omega arith)

  pub at_total : (r : ℕ) → r < rules → total_in n (table_of n rules F) r ≡ F.total r
  at_total r l =
      let past = le-ltb (5 * n + r) (5 * n) (omega arith) in
      let e : 5 * n + r - 5 * n ≡ r = omega arith in
      at_index (5 * n + r) (omega arith) ∙ rw (past, e) refl

  -- WRITTEN one after the other into a buffer
  module _ (before : List ℕ) where
    abbrev written : ℕ → List ℕ
    written i = take i (table_of n rules F) ++ drop i before

    pub none_entered : before ≡ entered_to n rules F before 0
    unfolding entered_to
    none_entered = refl

    -- which has room for all
    module _ (room : length_for n rules ≤ length before) where
      store_word : {i j x : ℕ} {xs : List ℕ} → i < length_for n rules → j ≡ i + 1 → get_or (table_of n rules F) i 0 ≡ x →
          xs ≡ written i → set xs i x ≡ written j
      store_word {i} h next is so_far =
          rw (next, ← is, so_far) (store_next (table_of n rules F) before i (omega (arith, table_long)) (omega arith))

      pub enter_next : (A : ℕ) {xs ys : List ℕ} → A < n → xs ≡ entered_to n rules F before A →
          ys ≡ with_entries xs A (entries_of F A) → ys ≡ entered_to n rules F before (A + 1)
      unfolding entered_to
      enter_next A h so_far stored =
          let e : 5 * A + 0 ≡ 5 * A = omega arith in
          let first = store_word {j = 5 * A + 1} (omega arith) refl (rw e at (at_entry A 0 h (omega arith))) so_far in
          let second = store_word {j = 5 * A + 2} (omega arith) (omega arith) (at_entry A 1 h (omega arith)) first in
          let third = store_word {j = 5 * A + 3} (omega arith) (omega arith) (at_entry A 2 h (omega arith)) second in
          let fourth = store_word {j = 5 * A + 4} (omega arith) (omega arith) (at_entry A 3 h (omega arith)) third in
          stored ∙ store_word {j = 5 * (A + 1)} (omega arith) (omega arith) (at_entry A 4 h (omega arith)) fourth

      pub all_entered : {xs : List ℕ} → xs ≡ entered_to n rules F before n → xs ≡ totalled_to n rules F before 0
      unfolding entered_to totalled_to
      all_entered e = let z : 5 * n + 0 ≡ 5 * n = omega arith in rw z e

      pub total_next : (r : ℕ) {xs ys : List ℕ} → r < rules → xs ≡ totalled_to n rules F before r →
          ys ≡ with_total xs n r (F.total r) → ys ≡ totalled_to n rules F before (r + 1)
      unfolding totalled_to
      total_next r l so_far stored =
          stored ∙ store_word {j = 5 * n + (r + 1)} (omega arith) (omega arith) (at_total r l) so_far

      -- ALL of them
      pub all_written : {xs : List ℕ} → xs ≡ totalled_to n rules F before rules → xs ≡ over (table_of n rules F) before
      unfolding totalled_to
      all_written so_far = so_far ∙ all_over (table_of n rules F) before (length_for n rules) (omega (arith, table_long))
