-- The two nights of document 01's rows. In each the sentence of rule 0 uses every rule, so that the next call answers Finished.
-- Their trees are written out; that every nonterminal is opened by its chosen rule is read off the sample's table.
-- Assumes nothing.
use Prim.Native.Nat.{ℕ, zero, suc, ◌<◌}
use native.Mathlib.Omega.{arith}
use mathlib.Core.Path.{◌≡◌, refl, subst}
use mathlib.Core.List.Memᴰ
use mathlib.Core.List.{List, [], ◌∷◌, ◌++◌}
use lib.ListN.{length}
use lib.Seq.{take_at}
use Rattle.grammar.specs.Words.{Grammar, R, RuleAt, layout, lefts, reads}
use Rattle.grammar.specs.Tree.{Tree, Forest, node, nil, leaf, child, root, plug, sentence, derivation, ◌∈◌}
use Rattle.grammar.specs.Terms.{measure, limit}
use Rattle.grammar.specs.Least.{TreeOf}
use Rattle.grammar.specs.Refusals.{Lowest, Accepted}
use Rattle.grammar.proofs.Main.{tree_of_same}
use Rattle.grammar.specs.Samples.{empty_rule, loop}
use Rattle.entries.specs.Table.{IsTable, HasTable}
use Rattle.entries.proofs.Main.{empty_has_table, loop_has_table}
use Rattle.handout.specs.Next.{Unused, AllUsed, Marked, Wanted, row_next, row_finished}
use Rattle.handout.specs.Night.{handout}
use Rattle.handout.specs.Given.{GivenNext, Handed}
use Rattle.handout.proofs.Main.{next_met, next_next, next_writes}
use Rattle.samples.specs.Row.{night_of, lent, ClearMarks, Hands, Holds}
use Rattle.samples.specs.Rows.{empty_words, empty_table, loop_words, loop_table}
use Rattle.samples.proofs.RowsTested.{table_accepts}

-- A night of one sentence: the tree of rule 0 uses every rule.
module _ (words table : List ℕ) {g : Grammar} (e : layout words ≡ reads g) (a : Accepted limit g) (is : IsTable g table)
    {t : Tree g g.start} (tree : TreeOf measure g 0 t) (some-rule : 0 < R g)
    (uses-all : (k : ℕ) → k < R g → k ∈ derivation t) where
  tabled : (rest : List ℕ) → HasTable g (table ++ rest)
  tabled rest = rw (take_at table rest _ is.long) is

  all_used : {marks marked : List ℕ} → ClearMarks g marks → Marked (derivation t) marks marked → AllUsed g marked
  all_used c m k l zero-mark = omega (arith, m.sets k (omega (arith, c.enough)) (uses-all k l) (c.clear k l))

  -- the marks that a call with this target leaves, whatever its buffers
  marks_left : (rest marks : List ℕ) → Wanted words (table ++ rest) marks g 0 t →
      (marked : List ℕ) × Marked (derivation t) marks marked
  marks_left rest marks wanted =
      let n = length (sentence t) in
      let m = length (derivation t) in
      let before = lent marks (sentence t) (derivation t) in
      let (a, after, p) = next_met words (table ++ rest) before in
      let given : GivenNext words (table ++ rest) before 0 n m =
      record { g = g; r = 0; t = t; wanted = wanted; holds = (refl, refl, refl, omega arith, omega arith) } in
      let (k, read, there) = next_writes p 0 n m ((next_next p 0 n m).1 given) in
      let same : k ≡ g = cc in
      let h = subst (λ (j : Grammar). Handed words (table ++ rest) before after 0 n m j) same there in
      let same_tree = (tree_of_same measure h.wanted.tree tree).1 in
      (after.marks, subst (λ (ks : List ℕ). Marked ks marks after.marks) same_tree h.marks)

  hands : (rest marks : List ℕ) → ClearMarks g marks →
      Hands words (table ++ rest) marks (handout 0 (sentence t) (derivation t) ∷ [])
  hands rest marks c =
      let target : Lowest (Unused g marks) 0 =
      record { such = record { rule = some-rule; zero = c.clear 0 some-rule }; lowest = λ k u. omega arith } in
      let wanted : Wanted words (table ++ rest) marks g 0 t = record {
        grammar = e;
        accepted = a;
        tabled = tabled rest;
        marked = c.enough;
        target = target;
        tree = tree;
      } in
      let (marked, m) = marks_left rest marks wanted in (
        marked,
        λ tokens rules l k. row_next wanted l k m,
        λ tokens rules. row_finished e a (tabled rest) (omega (arith, c.enough, m.long)) (all_used c m),
      )

  pub one_sentence : Holds (night_of words table (handout 0 (sentence t) (derivation t) ∷ []))
  one_sentence = (g, e, hands)

-- S gives nothing
empty_reads : layout empty_words ≡ reads empty_rule
unfolding layout lefts
empty_reads = refl

empty_rule_0 : RuleAt empty_rule 0 0 []
empty_rule_0 = record { stands = refl; left = omega arith }

empty_tree : TreeOf measure empty_rule 0 (node 0 empty_rule_0 nil)
unfolding plug
empty_tree = record {
  A = 0;
  w = [];
  rule = empty_rule_0;
  above = root;
  follows = tt;
  under = nil;
  opens = tt;
  whole = refl;
}

empty_uses : (k : ℕ) → k < 1 → k ∈ (0 ∷ [])
empty_uses zero l = Memᴰ.head refl
empty_uses (suc k) l = absurd (omega arith)

-- "sentence empty, derivation 0"
pub empty_night : Holds (night_of empty_words empty_table (handout 0 [] (0 ∷ []) ∷ []))
empty_night =
    one_sentence empty_words empty_table empty_reads (table_accepts empty_has_table refl) empty_has_table
    empty_tree (omega arith) empty_uses

-- S gives S, or a: the tree of rule 0 opens its S by rule 1, which is the chosen one
loop-reads : layout loop_words ≡ reads loop
unfolding layout lefts
loop-reads = refl

loop_rule_0 : RuleAt loop 0 0 (0 ∷ [])
loop_rule_0 = record { stands = refl; left = omega arith }

loop_rule_1 : RuleAt loop 1 0 (1 ∷ [])
loop_rule_1 = record { stands = refl; left = omega arith }

abbrev under_0 : Forest loop (0 ∷ [])
under_0 = child (node 1 loop_rule_1 (leaf {s = 1} (omega arith) nil)) nil

loop_tree : TreeOf measure loop 0 (node 0 loop_rule_0 under_0)
unfolding plug
loop_tree = record {
  A = 0;
  w = 0 ∷ [];
  rule = loop_rule_0;
  above = root;
  follows = tt;
  under = under_0;
  opens = ((loop_has_table.chosen 0 (omega arith), tt), tt);
  whole = refl;
}

loop_uses : (k : ℕ) → k < 2 → k ∈ (0 ∷ 1 ∷ [])
loop_uses zero l = Memᴰ.head refl
loop_uses (suc zero) l = Memᴰ.tail (Memᴰ.head refl)
loop_uses (suc (suc k)) l = absurd (omega arith)

-- "one sentence 1, derivation 0 1, then Finished"
pub loop_night : Holds (night_of loop_words loop_table (handout 0 (1 ∷ []) (0 ∷ 1 ∷ []) ∷ []))
loop_night =
    one_sentence loop_words loop_table loop-reads (table_accepts loop_has_table refl) loop_has_table
    loop_tree (omega arith) loop_uses
