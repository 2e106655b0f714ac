-- The outcomes of `next`, each a row of document 01: what the functions on the way promise each other, put together.
-- Assumes nothing.
use Prim.Native.Nat.{ℕ, ◌≤◌, ◌<◌}
use native.Mathlib.Nat.{zero-add}
use native.Mathlib.Omega.{arith}
use mathlib.Core.Path.{◌≡◌, ap, sym, ◌∙◌}
use mathlib.Core.List.{List}
use lib.ListN.{length, take}
use lib.Seq.{sets, sets-eq}
use Rattle.std.specs.Prelude.{Some, None}
use Rattle.std.specs.Borrow.{Bor}
use Rattle.answers.specs.GrammarRefusals.{GrammarRefusal, number, place, broken_layout, no_tree, unreached, oversize}
use Rattle.answers.specs.Buffers.{over}
use Rattle.answers.specs.Refusals.{number_of, place_of}
use Rattle.answers.specs.declared.Refusal.{Refusal}
use Rattle.answers.specs.declared.Refusal.TheVariants as refusal
use Rattle.answers.proofs.WrittenFromFront.{written}
use Rattle.grammar.specs.Words.{Grammar}
use Rattle.grammar.specs.Tree.{Tree, sentence, derivation}
use Rattle.layout.proofs.WordsRead.{view_few}
use Rattle.table_test.specs.Promise.{Tested, not_its}
use Rattle.tables.specs.Promise as tables
use Rattle.tables.specs.declared.TableAnswer.{TableAnswer}
use Rattle.tables.specs.declared.TableAnswer.TheVariants as table-answer
use Rattle.marks.specs.Marks.{FirstUnused}
use Rattle.handout.specs.Answers.{told}
use Rattle.handout.specs.Next.{Lent, Marked, Wanted, NextPromise}
use Rattle.handout.specs.Next.{row_4_7, row_8, row_9, row_finished, row_3, row_10, row_next}
use Rattle.handout.specs.RowsPassed.{UpToEight, words_refused, table_refused, Wants, Short, short_sentence, short_derivation, TreeShort}
use Rattle.handout.specs.Listing.{grammar_of}
use Rattle.handout.specs.TreeListing.{total_by, TreeListed, TreeFits}
use Rattle.handout.specs.declared.NextAnswer.TheVariants.{Finished, Next}
use Rattle.handout.specs.declared.tabled.Tabled.{Tabled}
use Rattle.handout.specs.declared.listing.Listing.{Listing}
use Rattle.handout.proofs.Targets.{lowest_found, none_found}
use Rattle.handout.proofs.OwnTable.{view_of, accepted_of, has_table}
use Rattle.handout.proofs.SizesByTable.{tree_within}
use Rattle.handout.proofs.TreeWrites.{the_tree}

-- rows 4 to 7 are not 3
pub not_3 : (x : GrammarRefusal) → ¬ (number x ≡ 3)
not_3 (broken_layout p) e = omega arith
not_3 (no_tree A) e = omega arith
not_3 (unreached A) e = omega arith
not_3 (oversize r) e = omega arith

-- without the table: what working one out is refused with, but for 3; and 8 where that, or nothing, refuses it
module _ {words buffer : List ℕ} where
  pub by_row : {a : TableAnswer} {after : List ℕ} {k p : ℕ} → tables.Tables words buffer a after → a ≡ table-answer.Refused k p →
      ¬ (k ≡ 3) → (y : Refusal) → number_of y ≡ k → place_of y ≡ p → UpToEight words y
  by_row {k = k} {p = p} (tables.row_4_7 {x = x} r) e n y f h =
      let same : number x ≡ k = cc in
      let there : place x ≡ p = cc in
      words_refused r (f ∙ sym same) (h ∙ sym there)
  by_row {k = k} (tables.row_3 {g = g} read ok l) e n y f h = absurd (n (let same : k ≡ 3 = cc in same))
  by_row (tables.row_done read ok l is) e n y f h = absurd (let z : ◌≡◌ {A = ℕ} 0 1 = cc in omega arith)

  pub by_8 : {a : TableAnswer} {after : List ℕ} {k p : ℕ} → tables.Tables words buffer a after → a ≡ table-answer.Refused k p →
      ¬ (k ≡ 4) → ¬ (k ≡ 5) → ¬ (k ≡ 6) → ¬ (k ≡ 7) → UpToEight words refusal.NotItsTable
  by_8 {k = k} (tables.row_4_7 {x = x} r) e n4 n5 n6 n7 = absurd (go x (let same : number x ≡ k = cc in same))
    where
      go : (x : GrammarRefusal) → ¬ (number x ≡ k)
      go (broken_layout p) e = n4 (sym e)
      go (no_tree A) e = n5 (sym e)
      go (unreached A) e = n6 (sym e)
      go (oversize r) e = n7 (sym e)
  by_8 (tables.row_3 {g = g} read ok l) e n4 n5 n6 n7 = table_refused (g, read, ok)
  by_8 (tables.row_done {g = g} read ok l is) e n4 n5 n6 n7 = table_refused (g, read, ok)

-- the table is not the grammar's own
module _ {words : Bor (List ℕ)} {table : List ℕ} where
  pub refuses_untabled : {y : Refusal} {before : Lent} → Tested words table None → UpToEight words.now y →
      NextPromise words.now table before (told y) before
  refuses_untabled (not_its n) (words_refused r e f) = rw (e, f) (row_4_7 r)
  refuses_untabled (not_its n) (table_refused (g, read, ok)) = row_8 read ok (λ has. n (g, read, (ok, has)))

-- what is written from the front on, where there is room
pub at_front : (us buffer : List ℕ) → length us ≤ length buffer → sets buffer 0 us ≡ over us buffer
unfolding over
at_front us buffer h = sets-eq us buffer 0 (omega arith) ∙ rw (zero-add (length us))

in_front : {n : ℕ} (us buffer : List ℕ) → n ≡ length us → length us ≤ length buffer → take n (over us buffer) ≡ us
in_front us buffer e h = rw e (written us buffer h).front

module _ (t : Tabled) where
  abbrev g : Grammar
  g = grammar_of t

  abbrev words : List ℕ
  words = t.reading.now.words.now

  abbrev table : List ℕ
  table = t.table.now

  -- with the table: 9, Finished, or a target
  pub refuses_9 : {lent : Lent} {n : ℕ} → n ≡ t.reading.now.rules → length lent.marks < n →
      NextPromise words table lent (told (refusal.FewMarks n)) lent
  refuses_9 e l =
      rw (e ∙ (view_of t).all_rules)
      (row_9 (view_of t).is (accepted_of t) (has_table t) (omega (arith, e, l, (view_of t).all_rules)))

  module _ {n : ℕ} (e : n ≡ t.reading.now.rules) where
    pub finishes : {lent : Lent} → n ≤ length lent.marks → FirstUnused lent.marks n None → NextPromise words table lent Finished lent
    finishes l none =
        let all = e ∙ (view_of t).all_rules in
        row_finished (view_of t).is (accepted_of t) (has_table t) (omega (arith, l, all)) (none_found g all none)

    -- whose number is a word
    pub wants : {marks : List ℕ} {r r' : ℕ} → n ≤ length marks → FirstUnused marks n (Some r) → (r ≤ 65535 → r' ≡ r) →
        Wants t marks r'
    wants {r = r} l found narrowed =
        let all = e ∙ (view_of t).all_rules in
        let low = lowest_found g all found in
        let few : r ≤ 65535 = omega (arith, e, low.such.rule, all, (view_few (view_of t)).1) in
        rw (narrowed few) (record { marked = omega (arith, l, all); target = low })

  -- the target's tree
  pub below : {marks : List ℕ} {r : ℕ} → Wants t marks r → r < t.reading.now.rules
  below w = omega (arith, (view_of t).all_rules, w.target.such.rule)

  module _ (lent : Lent) {r : ℕ} (w : Wants t lent.marks r) where
    wanted : (u : Tree g g.start) × Wanted words table lent.marks g r u
    wanted =
        let (u, tree) = the_tree t r (below w) in (
          u,
          record {
            grammar = (view_of t).is;
            accepted = accepted_of t;
            tabled = has_table t;
            marked = w.marked;
            target = w.target;
            tree = tree;
          },
        )

    -- 3 and 10, where there is too little room for it
    pub refuses_room : {x : Refusal} → TreeShort t r (length lent.tokens) (length lent.rules) x →
        NextPromise words table lent (told x) lent
    refuses_room short = go (short.of_tree wanted.0 wanted.1.tree)
      where
        go : {x : Refusal} → Short (length lent.tokens) (length lent.rules) (sentence wanted.0) (derivation wanted.0) x →
            NextPromise words table lent (told x) lent
        go (short_sentence l) = row_3 wanted.1 l
        go (short_derivation l m) = row_10 wanted.1 l m

    -- what was written, and marked
    pub hands_out : {p q : Listing} {marks tokens rules : List ℕ} → p.sentence.now ≡ lent.tokens → p.derivation.now ≡ lent.rules →
        p.tokens ≡ 0 → p.rules ≡ 0 → TreeFits t r (length lent.tokens) (length lent.rules) → TreeListed t r p q →
        tokens ≡ q.sentence.now → rules ≡ q.derivation.now → Marked (take q.rules rules) lent.marks marks →
        NextPromise words table lent (Next r q.tokens q.rules) (record { marks = marks; tokens = tokens; rules = rules })
    hands_out {p} {q} {marks} {tokens} {rules} es ed et er fits listed fs fd marked =
        let s = sentence wanted.0 in
        let d = derivation wanted.0 in
        let wrote = listed.of_tree wanted.0 wanted.1.tree in
        let room = fits.of_tree wanted.0 wanted.1.tree in
        let ns : q.tokens ≡ length s = omega (arith, wrote.more_tokens) in
        let nd : q.rules ≡ length d = omega (arith, wrote.more_rules) in
        let ts : tokens ≡ over s lent.tokens = fs ∙ wrote.sentence ∙ rw (es, et) (at_front s lent.tokens room.0) in
        let td : rules ≡ over d lent.rules = fd ∙ wrote.derivation ∙ rw (ed, er) (at_front d lent.rules room.1) in
        let front = ap (λ (l : List ℕ). take q.rules l) td ∙ in_front d lent.rules nd room.1 in
        rw (ts, td, ns, nd) (row_next wanted.1 room.0 room.1 (rw front at marked))

  -- the tree of a rule has no more numbers than its total
  pub fits_total : {r n tokens rules : ℕ} → n ≡ total_by t r → n ≤ tokens → n ≤ rules → TreeFits t r tokens rules
  fits_total e l m = record { of_tree = λ u z. let within = tree_within t z in (omega (arith, within), omega (arith, within)) }

  -- what there is no room for, of what was counted
  module _ {r tokens rules : ℕ} {p q : Listing} (counted : TreeListed t r p q) (e : p.tokens ≡ 0) (f : p.rules ≡ 0) where
    pub short_tokens : tokens < q.tokens → TreeShort t r tokens rules (refusal.TooShort q.tokens)
    short_tokens l = record {
      of_tree = λ u z.
          let wrote = counted.of_tree u z in
          let is : q.tokens ≡ length (sentence u) = omega (arith, wrote.more_tokens) in
          rw is (short_sentence (omega arith));
    }

    pub short_rules : q.tokens ≤ tokens → rules < q.rules → TreeShort t r tokens rules (refusal.DerivationShort q.rules)
    short_rules l m = record {
      of_tree = λ u z.
          let wrote = counted.of_tree u z in
          let is : q.rules ≡ length (derivation u) = omega (arith, wrote.more_rules) in
          rw is (short_derivation (omega (arith, wrote.more_tokens)) (omega arith));
    }

    pub fits_counted : q.tokens ≤ tokens → q.rules ≤ rules → TreeFits t r tokens rules
    fits_counted l m = record {
      of_tree = λ u z.
          let wrote = counted.of_tree u z in
          (omega (arith, wrote.more_tokens), omega (arith, wrote.more_rules));
    }
