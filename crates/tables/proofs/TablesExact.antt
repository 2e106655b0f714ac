-- Each answer of `tables` is given exactly when document 01 says so. One way, only the row of an answer has it, for each answer is
-- one case's; the other way, its row allows it, and what is allowed is settled. Assumes nothing.
use Prim.Native.Nat.{ℕ}
use native.Mathlib.Omega.{arith}
use mathlib.Core.Bool.{Bool, true, false}
use mathlib.Core.Path.{◌≡◌, refl, sym, ap, ◌∙◌, subst}
use mathlib.Core.Logic.{◌↔◌}
use mathlib.Core.List.{List, ◌++◌}
use lib.Dec.{eqb}
use lib.ListN.{length, drop}
use lib.Seq.{take_at, drop_at}
use Rattle.answers.specs.GrammarRefusals.{broken_layout, no_tree, unreached, oversize}
use Rattle.answers.specs.Buffers.{over}
use Rattle.grammar.specs.Words.{Are, FaultAt, layout, faults}
use Rattle.grammar.specs.Rows.{GrammarRefused, row_4}
use Rattle.grammar.specs.Terms.{limit}
use Rattle.grammar.proofs.LayoutExact.{in_bounds, reads_unique}
use Rattle.grammar.proofs.FirstOffence.{layout-faults_exact}
use Rattle.entries.specs.Table.{table_length, Own}
use Rattle.tables.specs.Answers.{Case, answer, done, of_words, too_short}
use Rattle.tables.specs.Promise.{Tables, row_4_7, row_3, row_done}
use Rattle.tables.specs.declared.TableAnswer.{TableAnswer}
use Rattle.tables.specs.declared.TableAnswer.TheVariants.{Done, Refused}
use Rattle.tables.specs.Given.{Given, TableInFront}
use Rattle.entries.proofs.TableExists.{table_exists}
use Rattle.tables.proofs.TablesSettles.{tables_settles}

-- the case of an answer
abbrev pick : Bool → Case → Case → Case
pick true x y = x
pick false x y = y

abbrev case_of : TableAnswer → Case
case_of (Done n) = done n
case_of (Refused k p) =
    pick (eqb k 4) (of_words (broken_layout p)) (pick (eqb k 5) (of_words (no_tree p)) (pick (eqb k 6) (of_words (unreached p))
    (pick (eqb k 7) (of_words (oversize p)) (too_short p))))

case_of_lem : (x : Case) → case_of (answer x) ≡ x
case_of_lem (done n) = refl
case_of_lem (of_words (broken_layout p)) = refl
case_of_lem (of_words (no_tree A)) = refl
case_of_lem (of_words (unreached A)) = refl
case_of_lem (of_words (oversize r)) = refl
case_of_lem (too_short n) = refl

pub one_case : (x y : Case) → answer x ≡ answer y → x ≡ y
one_case x y e = sym (case_of_lem x) ∙ ap case_of e ∙ case_of_lem y

module _ (words before : List ℕ) where
  -- an answer is that of a case that is given
  given : {a : TableAnswer} {after : List ℕ} → Tables words before a after → (x : Case) × (a ≡ answer x) × Given words before x
  given (row_4_7 {x = x} r) = (of_words x, refl, r)
  given (row_3 {g = g} e a l) = (too_short _, refl, (g, e, (a, refl, l)))
  given (row_done {g = g} e a l is) = (done _, refl, (g, e, (a, refl, l)))

  allowed : (x : Case) → Given words before x → (after : List ℕ) × Tables words before (answer x) after
  allowed (of_words x) r = (before, row_4_7 r)
  allowed (too_short n) (g, e, (a, same, l)) = (before, rw same (row_3 e a (rw same at l)))
  allowed (done n) (g, e, (a, same, l)) =
      let (table, is) = table_exists g (in_bounds words e) a.trees a.reached in
      (over table before, rw same (row_done e a (rw same at l) is))

  -- "no buffer changes"
  kept : {k p : ℕ} {a : TableAnswer} {after : List ℕ} → Tables words before a after → a ≡ Refused k p → after ≡ before
  kept (row_4_7 r) e = refl
  kept (row_3 e a l) q = refl
  kept (row_done e a l is) q = absurd (not_refused q)
    where
      not_refused : {n k p : ℕ} → Done n ≡ Refused k p → ⊥
      not_refused e = let z : ◌≡◌ {A = ℕ} 0 1 = cc in omega arith

  filled : {n : ℕ} {after : List ℕ} → Tables words before (Done n) after → Are words (TableInFront before after)
  unfolding over
  filled (row_done {g = g} {table = table} e a l is) =
      let behind = drop (length table) before in
      let z : TableInFront before (table ++ behind) g = record {
        table = rw (take_at table behind (table_length g) is.long) is;
        behind = drop_at table behind (table_length g) is.long ∙ ap (λ (n : ℕ). drop n before) is.long;
      } in
      (g, e, z)

module _ {words before after : List ℕ} {a : TableAnswer} (p : Tables words before a after) where
  -- EXACTLY WHEN, of every answer
  pub tables_exactly : (x : Case) → (a ≡ answer x) ↔ Given words before x
  tables_exactly x = (
    λ e. let (y, is, g) = given words before p in subst (Given words before) {x = y} {y = x} (one_case y x (sym is ∙ e)) g,
    λ h. (tables_settles words before p (allowed words before x h).1).0,
  )

  -- 4, with the place said of grammars and their words
  pub tables_first_offence : (q : ℕ) → (a ≡ answer (of_words (broken_layout q))) ↔ FaultAt words q
  tables_first_offence q =
      let (to, from) = tables_exactly (of_words (broken_layout q)) in
      let (there, back) = layout-faults_exact words q in
      (λ e. there (breaks (to e)), λ h. from (row_4 (back h)))
    where
      breaks : {q : ℕ} → GrammarRefused limit words (broken_layout q) → layout words ≡ faults q
      breaks (row_4 e) = e

  -- "no buffer changes" at a refusal; at Done the front is the table, and the rest keeps its content
  pub tables_keeps : (k q : ℕ) → a ≡ Refused k q → after ≡ before
  tables_keeps k q e = kept words before p e

  pub tables_writes : (n : ℕ) → a ≡ Done n → Are words (TableInFront before after)
  tables_writes n e = filled words before (rw e at p)

  -- so that what was written is the own table of an accepted grammar
  pub tables_own : (n : ℕ) → a ≡ Done n → Are words (Own after)
  tables_own n e =
      let (g, read, (accepted, same, room)) = (tables_exactly (done n)).0 e in
      let (h, read', z) = tables_writes n e in
      let eq : h ≡ g = reads_unique words read' read in
      (g, read, (accepted, rw eq at z.table))
