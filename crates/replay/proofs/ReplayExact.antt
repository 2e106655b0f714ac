-- Each answer of `replay` is given exactly when document 01 says so: Done with a sentence exactly where the list is a complete
-- leftmost derivation of it, 11 exactly at the place where it stops. One way, only the row of an answer has it; the other way,
-- its row allows it, and what is allowed is settled. Assumes nothing.
use Prim.Native.Nat.{ℕ}
use native.Mathlib.Omega.{arith}
use mathlib.Core.Path.{◌≡◌, refl, sym, ap, ◌∙◌}
use mathlib.Core.Logic.{◌↔◌}
use mathlib.Core.List.{List}
use lib.ListN.{length, take}
use Rattle.answers.specs.Buffers.{over}
use Rattle.answers.proofs.WrittenFromFront.{written}
use Rattle.grammar.specs.Words.{FaultAt}
use Rattle.grammar.proofs.FirstOffence.{layout-faults_exact}
use Rattle.replay.specs.Answers.{Case, answer, done, broken_layout, long_list, no_derivation, too_short}
use Rattle.replay.specs.Replay.{Replay, row_4, row_12, row_11, row_3, row_done}
use Rattle.replay.specs.Given.{Given, GivenDone}
use Rattle.replay.specs.declared.ReplayAnswer.{ReplayAnswer}
use Rattle.replay.specs.declared.ReplayAnswer.TheVariants.{Refused}
use Rattle.replay.proofs.ReplaySettles.{replay_settles}

module _ (words list before : List ℕ) where
  was_done : {n : ℕ} {after : List ℕ} → Replay words list before (answer (done n)) after →
      (t : List ℕ) × GivenDone words list before t × (n ≡ length t) × (after ≡ over t before)
  was_done (row_done {g = g} {t = t} e l d h) = (t, (g, e, (l, d, h)), refl, refl)

  was_refused : {number place : ℕ} {after : List ℕ} → Replay words list before (Refused number place) after → after ≡ before
  was_refused (row_4 e) = refl
  was_refused (row_12 e l) = refl
  was_refused (row_11 e l s) = refl
  was_refused (row_3 e l d h) = refl

  only : {after : List ℕ} (x : Case) → Replay words list before (answer x) after → Given words list before x
  only (broken_layout p) (row_4 e) = e
  only long_list (row_12 {g = g} e l) = (g, e, l)
  only (no_derivation p) (row_11 {g = g} e l s) = (g, e, (l, s))
  only (too_short n) (row_3 {g = g} {t = t} e l d h) = (g, e, (l, (t, d, refl, h)))
  only (done n) p = let (t, given, long, is) = was_done p in (t, given, long)

  written_done : {t : List ℕ} → GivenDone words list before t → Replay words list before (answer (done (length t))) (over t before)
  written_done (g, e, (l, d, h)) = row_done e l d h

  allowed : (x : Case) → Given words list before x → (after : List ℕ) × Replay words list before (answer x) after
  allowed (broken_layout p) e = (before, row_4 e)
  allowed long_list (g, e, l) = (before, row_12 e l)
  allowed (no_derivation p) (g, e, (l, s)) = (before, row_11 e l s)
  allowed (too_short n) (g, e, (l, (t, d, same, h))) = (before, rw same (row_3 e l d (rw same at h)))
  allowed (done n) (t, given, same) = (over t before, rw same (written_done given))

module _ {words list before after : List ℕ} {a : ReplayAnswer} (p : Replay words list before a after) where
  -- EXACTLY WHEN, of every answer
  pub replay_exactly : (x : Case) → (a ≡ answer x) ↔ Given words list before x
  replay_exactly x = (
    λ e. only words list before x (rw e at p),
    λ h. (replay_settles words list before p (allowed words list before x h).1).0,
  )

  -- a sentence t is written exactly where the list is a complete leftmost derivation of t
  pub replay_done : (t : List ℕ) → ((a ≡ answer (done (length t))) × (after ≡ over t before)) ↔ GivenDone words list before t
  replay_done t = (to, λ h. replay_settles words list before p (written_done words list before h))
    where
      to : (a ≡ answer (done (length t))) × (after ≡ over t before) → GivenDone words list before t
      to (e, is) =
          let (u, given, long, is') = was_done words list before (rw e at p) in
          let fits = given.2.2 in
          let same : t ≡ u =
          sym (written t before (omega arith)).front ∙ ap (λ (l : List ℕ). take (length t) l) (sym is ∙ is') ∙
          ap (λ (n : ℕ). take n (over u before)) long ∙ (written u before fits).front in
          rw same given

  -- and at Done there is such a sentence
  pub replay_writes : (n : ℕ) → a ≡ answer (done n) →
      (t : List ℕ) × GivenDone words list before t × (n ≡ length t) × (after ≡ over t before)
  replay_writes n e = was_done words list before (rw e at p)

  -- 4, with the place said of grammars and their words
  pub replay_first_offence : (q : ℕ) → (a ≡ answer (broken_layout q)) ↔ FaultAt words q
  replay_first_offence q =
      let (to, from) = replay_exactly (broken_layout q) in
      let (there, back) = layout-faults_exact words q in
      (λ e. there (to e), λ h. from (back h))

  -- "no buffer changes" at a refusal
  pub replay_keeps : {number place : ℕ} → a ≡ Refused number place → after ≡ before
  replay_keeps e = was_refused words list before (rw e at p)
