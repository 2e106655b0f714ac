-- For each words, table and three buffers before, the promise of `next` allows an outcome; with NextSettles, exactly one. Rows 4
-- to 7 are decided as everywhere, 8 by the table that the grammar has, the others by comparing lengths and searching the marks; a
-- rule of an accepted grammar has a tree, and there are marks to go with it. Assumes nothing.
use Prim.Native.Nat.{ℕ, ◌≤◌, ◌<◌}
use native.Mathlib.Omega.{arith}
use native.Mathlib.Decide.{dec_lt}
use mathlib.Core.Path.{◌≡◌}
use mathlib.Core.Logic.{◌⊎◌, inl, inr}
use mathlib.Core.List.{List}
use lib.ListN.{length}
use Rattle.answers.specs.GrammarRefusals.{GrammarRefusal}
use Rattle.grammar.specs.Words.{Grammar, R, layout, reads, Are}
use Rattle.grammar.specs.Tree.{Tree, sentence, derivation}
use Rattle.grammar.specs.Terms.{measure, limit}
use Rattle.grammar.specs.Refusals.{Lowest, Accepted}
use Rattle.grammar.specs.Rows.{GrammarRefused}
use Rattle.grammar.proofs.LayoutExact.{in_bounds}
use Rattle.grammar.proofs.TreeOfExists.{tree_of_exists}
use Rattle.grammar.proofs.FirstRowsMet.{refused?}
use Rattle.entries.specs.Table.{HasTable}
use Rattle.entries.proofs.Main.{tabled?}
use Rattle.marks.proofs.Main.{marks_met}
use Rattle.handout.specs.Next.{NextPromise, Unused, AllUsed, Wanted, Lent}
use Rattle.handout.specs.Next.{row_4_7, row_8, row_9, row_finished, row_3, row_10, row_next}
use Rattle.handout.specs.declared.NextAnswer.{NextAnswer}
use Rattle.handout.proofs.Targets.{unused?}

-- the target of an accepted grammar has its tree
pub wanted_exists : {ws table marks : List ℕ} {g : Grammar} {r : ℕ} → layout ws ≡ reads g → Accepted limit g → HasTable g table →
    R g ≤ length marks → Lowest (Unused g marks) r → (t : Tree g g.start) × Wanted ws table marks g r t
wanted_exists {ws} {g = g} {r = r} e a h l low =
    let (t, o) = tree_of_exists measure g (in_bounds ws e) a.trees a.reached r low.such.rule in
    (t, record { grammar = e; accepted = a; tabled = h; marked = l; target = low; tree = o })

module _ (ws table : List ℕ) (before : Lent) where
  abbrev Met : Type 0
  Met = (a : NextAnswer) × (after : Lent) × NextPromise ws table before a after

  -- rows 3, 10 and next, of the target's tree
  hand : {g : Grammar} {r : ℕ} (t : Tree g g.start) → Wanted ws table before.marks g r t →
      Dec (length before.tokens < length (sentence t)) → Dec (length before.rules < length (derivation t)) → Met
  hand t w (yes l) d = (_, _, row_3 w l)
  hand t w (no l) (yes m) = (_, _, row_10 w (omega arith) m)
  hand t w (no l) (no m) = (_, _, row_next w (omega arith) (omega arith) (marks_met (derivation t) before.marks).1)

  module _ {g : Grammar} (e : layout ws ≡ reads g) (a : Accepted limit g) where
    target : HasTable g table → R g ≤ length before.marks →
        AllUsed g before.marks ⊎ ((r : ℕ) × Lowest (Unused g before.marks) r) → Met
    target h l (inl u) = (_, _, row_finished e a h l u)
    target h l (inr (r, low)) =
        let (t, w) = wanted_exists e a h l low in
        hand t w (dec_lt (length before.tokens) (length (sentence t))) (dec_lt (length before.rules) (length (derivation t)))

    marks : HasTable g table → Dec (length before.marks < R g) → Met
    marks h (yes l) = (_, _, row_9 e a h l)
    marks h (no l) = target h (omega arith) (unused? g before.marks)

    rest : Dec (HasTable g table) → Met
    rest (yes h) = marks h (dec_lt (length before.marks) (R g))
    rest (no n) = (_, _, row_8 e a n)

  met : ((x : GrammarRefusal) × GrammarRefused limit ws x) ⊎ Are ws (Accepted limit) → Met
  met (inl (x, r)) = (_, _, row_4_7 r)
  met (inr (g, e, a)) = rest e a (tabled? table g (in_bounds ws e) a)

  -- AT LEAST ONE
  pub next_met : (a : NextAnswer) × (after : Lent) × NextPromise ws table before a after
  next_met = met (refused? limit ws)
