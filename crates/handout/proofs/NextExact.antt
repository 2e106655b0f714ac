-- Each answer of `next` is given exactly when document 01 says so, and what it says of the buffers. One way, an answer is that of
-- one case, and only that case's row has it; the other way, its row allows it, and what is allowed is settled. Assumes nothing.
use Prim.Native.Nat.{ℕ}
use native.Mathlib.Omega.{arith}
use mathlib.Core.Bool.{Bool, true, false}
use mathlib.Core.Path.{◌≡◌, refl, sym, ap, ◌∙◌, subst}
use mathlib.Core.Logic.{◌↔◌}
use mathlib.Core.List.{List}
use lib.Dec.{eqb}
use Rattle.answers.specs.GrammarRefusals.{broken_layout, no_tree, unreached, oversize}
use Rattle.answers.specs.Buffers.{over}
use Rattle.answers.proofs.WrittenFromFront.{written}
use Rattle.grammar.specs.Words.{Are, FaultAt, layout, faults}
use Rattle.grammar.specs.Rows.{GrammarRefused, row_4}
use Rattle.grammar.specs.Terms.{limit}
use Rattle.grammar.specs.Tree.{sentence, derivation}
use Rattle.grammar.proofs.FirstOffence.{layout-faults_exact}
use Rattle.marks.proofs.Main.{marks_met}
use Rattle.handout.specs.Answers.{Case, answer, next, finished, of_words, not_its_table, few_marks, too_short}
use Rattle.handout.specs.Answers.{derivation_short}
use Rattle.handout.specs.Given.{Given, GivenFinished, GivenNext, Handed}
use Rattle.handout.specs.Next.{NextPromise, Lent}
use Rattle.handout.specs.Next.{row_4_7, row_8, row_9, row_finished, row_3, row_10, row_next}
use Rattle.handout.specs.declared.NextAnswer.{NextAnswer}
use Rattle.handout.specs.declared.NextAnswer.TheVariants.{Next, Finished, Refused}
use Rattle.handout.proofs.NextSettles.{next_settles}

-- the case of an answer
abbrev pick : Bool → Case → Case → Case
pick true x y = x
pick false x y = y

abbrev case_of : NextAnswer → Case
case_of (Next r n m) = next r n m
case_of Finished = finished
case_of (Refused k p) =
    pick (eqb k 4) (of_words (broken_layout p)) (pick (eqb k 5) (of_words (no_tree p)) (pick (eqb k 6) (of_words (unreached p))
    (pick (eqb k 7) (of_words (oversize p)) (pick (eqb k 8) not_its_table (pick (eqb k 9) (few_marks p)
    (pick (eqb k 3) (too_short p) (derivation_short p)))))))

case_of_lem : (x : Case) → case_of (answer x) ≡ x
case_of_lem (next r n m) = refl
case_of_lem finished = refl
case_of_lem (of_words (broken_layout p)) = refl
case_of_lem (of_words (no_tree A)) = refl
case_of_lem (of_words (unreached A)) = refl
case_of_lem (of_words (oversize r)) = refl
case_of_lem not_its_table = refl
case_of_lem (few_marks n) = refl
case_of_lem (too_short n) = refl
case_of_lem (derivation_short n) = refl

one_case : (x y : Case) → answer x ≡ answer y → x ≡ y
one_case x y e = sym (case_of_lem x) ∙ ap case_of e ∙ case_of_lem y

module _ (words table : List ℕ) (before : Lent) where
  -- an answer is that of a case that is given
  record OfCase (a : NextAnswer) : Type 0 where
    x : Case
    is : a ≡ answer x
    given : Given words table before x

  of_case : {a : NextAnswer} {after : Lent} → NextPromise words table before a after → OfCase a
  of_case (row_4_7 {x = x} r) = record { x = of_words x; is = refl; given = r }
  of_case (row_8 {g = g} e a n) = record { x = not_its_table; is = refl; given = (g, e, (a, n)) }
  of_case (row_9 {g = g} e a h l) = record { x = few_marks _; is = refl; given = (g, e, ((a, h), refl, l)) }
  of_case (row_finished {g = g} e a h l u) = record { x = finished; is = refl; given = (g, e, ((a, h), l, u)) }
  of_case (row_3 {g = g} {r = r} {t = t} w l) =
      record { x = too_short _; is = refl; given = record { g = g; r = r; t = t; wanted = w; holds = (refl, l) } }
  of_case (row_10 {g = g} {r = r} {t = t} w l m) =
      record { x = derivation_short _; is = refl; given = record { g = g; r = r; t = t; wanted = w; holds = (l, refl, m) } }
  of_case (row_next {g = g} {r = r} {t = t} w l m k) =
      record { x = next r _ _; is = refl; given = record { g = g; r = r; t = t; wanted = w; holds = (refl, refl, refl, l, m) } }

  allowed : (x : Case) → Given words table before x → (after : Lent) × NextPromise words table before (answer x) after
  allowed (of_words x) r = (before, row_4_7 r)
  allowed not_its_table (g, e, (a, n)) = (before, row_8 e a n)
  allowed (few_marks n) (g, e, ((a, h), same, l)) = (before, rw same (row_9 e a h (rw same at l)))
  allowed finished (g, e, ((a, h), l, u)) = (before, row_finished e a h l u)
  allowed (too_short n) z = let (same, l) = z.holds in (before, rw same (row_3 z.wanted (rw same at l)))
  allowed (derivation_short n) z = let (fits, same, l) = z.holds in (before, rw same (row_10 z.wanted fits (rw same at l)))
  allowed (next r n m) z =
      let (target, n-is, m-is, l, k) = z.holds in
      let (marks, marked) = marks_met (derivation z.t) before.marks in
      let after : Lent = record {
        marks = marks;
        tokens = over (sentence z.t) before.tokens;
        rules = over (derivation z.t) before.rules;
      } in
      (after, rw (target, n-is, m-is) (row_next z.wanted (rw n-is at l) (rw m-is at k) marked))

  -- "no buffer changes" at a refusal, and Finished "writes nothing"
  refused_keeps : {k p : ℕ} {after : Lent} → NextPromise words table before (Refused k p) after → after ≡ before
  refused_keeps p = kept p refl
    where
      not_next : {r n m k p : ℕ} → Next r n m ≡ Refused k p → ⊥
      not_next e = let z : ◌≡◌ {A = ℕ} 0 1 = cc in omega arith

      kept : {a : NextAnswer} {after : Lent} → NextPromise words table before a after → {k p : ℕ} → a ≡ Refused k p → after ≡ before
      kept (row_4_7 r) e = refl
      kept (row_8 e a n) q = refl
      kept (row_9 e a h l) q = refl
      kept (row_finished e a h l u) q = refl
      kept (row_3 w l) q = refl
      kept (row_10 w l m) q = refl
      kept (row_next w l m k) q = absurd (not_next q)

  finished_keeps : {after : Lent} → NextPromise words table before Finished after → after ≡ before
  finished_keeps (row_finished e a h l u) = refl

  hands : {after : Lent} {r n m : ℕ} → NextPromise words table before (Next r n m) after →
      Are words (Handed words table before after r n m)
  hands (row_next {g = g} {t = t} w l m k) = (
    g,
    w.grammar,
    record {
      t = t;
      wanted = w;
      tokens = written (sentence t) before.tokens l;
      rules = written (derivation t) before.rules m;
      marks = k;
    },
  )

module _ {words table : List ℕ} {before after : Lent} {a : NextAnswer} (p : NextPromise words table before a after) where
  -- EXACTLY WHEN, of every answer
  pub next_exactly : (x : Case) → (a ≡ answer x) ↔ Given words table before x
  next_exactly x = (
    λ e.
        let o = of_case words table before p in
        subst (Given words table before) (one_case o.x x (sym o.is ∙ e)) o.given,
    λ h. (next_settles words table before p (allowed words table before x h).1).0,
  )

  pub next-finished : (a ≡ Finished) ↔ GivenFinished words table before
  next-finished = next_exactly finished

  pub next_next : (r n m : ℕ) → (a ≡ Next r n m) ↔ GivenNext words table before r n m
  next_next r n m = next_exactly (next r n m)

  -- 4, with the place said of grammars and their words
  pub next_first_offence : (q : ℕ) → (a ≡ answer (of_words (broken_layout q))) ↔ FaultAt words q
  next_first_offence q =
      let (to, from) = next_exactly (of_words (broken_layout q)) in
      let (there, back) = layout-faults_exact words q in
      (λ e. there (breaks (to e)), λ h. from (row_4 (back h)))
    where
      breaks : {q : ℕ} → GrammarRefused limit words (broken_layout q) → layout words ≡ faults q
      breaks (row_4 e) = e

  -- "no buffer changes" at a refusal, and Finished "writes nothing"
  pub next_keeps : {k q : ℕ} → a ≡ Refused k q → after ≡ before
  next_keeps e = refused_keeps words table before (rw e at p)

  pub next_finished_keeps : a ≡ Finished → after ≡ before
  next_finished_keeps e = finished_keeps words table before (rw e at p)

  -- at Next the buffers are as `Handed` says
  pub next_writes : (r n m : ℕ) → a ≡ Next r n m → Are words (Handed words table before after r n m)
  next_writes r n m e = hands words table before (rw e at p)
