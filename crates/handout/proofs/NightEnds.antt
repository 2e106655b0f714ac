-- A night comes to its end: over an accepted grammar with its table, marks for all rules and room for 4,096 numbers in each
-- buffer, no call of `next` is refused, and calls hand out sentences until one answers Finished. By the limit each sentence and
-- its derivation fit; and as a night has at most R sentences, there comes a call with no rule unused. Assumes nothing.
use Prim.Native.Nat.{ℕ, zero, suc, ◌+◌, ◌≤◌, ◌<◌}
use native.Mathlib.Omega.{arith}
use mathlib.Core.Path.{◌≡◌, refl}
use mathlib.Core.Logic.{◌⊎◌, inl, inr}
use mathlib.Core.List.{List, [], ◌∷◌}
use lib.ListN.{length, replicate, length-replicate}
use Rattle.answers.proofs.Tabulate.{zeros}
use Rattle.grammar.specs.Words.{Grammar, R, layout, reads}
use Rattle.grammar.specs.Tree.{sentence, derivation}
use Rattle.grammar.specs.Refusals.{Lowest, Accepted}
use Rattle.grammar.specs.Terms.{limit}
use Rattle.entries.specs.Table.{HasTable}
use Rattle.marks.proofs.Main.{marks_met}
use Rattle.handout.specs.Next.{NextPromise, Unused, AllUsed, Lent, row_finished, row_next}
use Rattle.handout.specs.Night.{Handout, Night, clear, later, Over, Enough, GoesOn}
use Rattle.handout.specs.declared.NextAnswer.{NextAnswer}
use Rattle.handout.specs.declared.NextAnswer.TheVariants.{Next, Finished}
use Rattle.handout.proofs.Targets.{unused?}
use Rattle.handout.proofs.NextSettles.{next_settles}
use Rattle.handout.proofs.NextMet.{wanted_exists, next_met}
use Rattle.handout.proofs.NextExact.{next_writes}
use Rattle.handout.proofs.NightProper.{tree_of_limit}
use Rattle.handout.proofs.NightCovers.{at_most_R}

module _ (words table : List ℕ) {g : Grammar} (e : layout words ≡ reads g) (a : Accepted limit g) (h : HasTable g table) where
  one_allowed : (before : Lent) → Enough g before →
      (o : NextAnswer) × (after : Lent) × NextPromise words table before o after × GoesOn o
  one_allowed before enough = go (unused? g before.marks)
    where
      go : AllUsed g before.marks ⊎ ((r : ℕ) × Lowest (Unused g before.marks) r) →
          (o : NextAnswer) × (after : Lent) × NextPromise words table before o after × GoesOn o
      go (inl u) = (Finished, before, row_finished e a h enough.marks u, inl refl)
      go (inr (r, low)) =
          let (t, w) = wanted_exists e a h enough.marks low in
          let limit = tree_of_limit a low.such.rule w.tree in
          let marked = (marks_met (derivation t) before.marks).1 in (
            Next r (length (sentence t)) (length (derivation t)),
            _,
            row_next w (omega (arith, enough.tokens)) (omega (arith, enough.rules)) marked,
            inr (r, _, _, refl),
          )

  -- NO CALL is refused
  pub never_refused : {before after : Lent} {o : NextAnswer} → Enough g before → NextPromise words table before o after → GoesOn o
  never_refused {before} enough p =
      let (o, after, allowed, goes_on) = one_allowed before enough in
      rw (next_settles words table before p allowed).0 goes_on

  module _ (tokens rules : List ℕ) (room : limit ≤ length tokens) (room-rules : limit ≤ length rules) where
    record SoFar (hs : List Handout) : Type 0 where
      marks : List ℕ
      night : Night words table hs marks
      enough : R g ≤ length marks

    abbrev Ended : Type 0
    Ended = (hs : List Handout) × Over words table hs

    -- one more call: the night is over, or there is one more sentence
    call : (hs : List Handout) → SoFar hs → Ended ⊎ ((k : Handout) × SoFar (k ∷ hs))
    call hs s = go (next_met words table lent)
      where
        lent : Lent
        lent = record { marks = s.marks; tokens = tokens; rules = rules }

        of_answer : {o : NextAnswer} {after : Lent} → NextPromise words table lent o after → GoesOn o →
            Ended ⊎ ((k : Handout) × SoFar (k ∷ hs))
        of_answer {after = after} p (inl is) =
            inl (hs, record { before = lent; after = after; night = s.night; ends = rw is at p })
        of_answer {after = after} p (inr (r, n, m, is)) =
            let p' : NextPromise words table lent (Next r n m) after = rw is at p in
            let long = (next_writes p' r n m refl).2.marks.long in
            inr (
              _,
              record {
                marks = after.marks;
                night = later {before = lent} s.night p';
                enough = omega (arith, s.enough);
              },
            )

        go : (o : NextAnswer) × (after : Lent) × NextPromise words table lent o after → Ended ⊎ ((k : Handout) × SoFar (k ∷ hs))
        go (o, after, p) = of_answer p (never_refused (record { marks = s.enough; tokens = room; rules = room-rules }) p)

    run : (n : ℕ) (hs : List Handout) → R g < n + length hs → SoFar hs → Ended
    run zero hs l s = absurd (omega (arith, at_most_R e s.night))
    run (suc n) hs l s = go (λ k z. run n (k ∷ hs) (omega arith) z) (call hs s)
      where
        go : ((k : Handout) → SoFar (k ∷ hs) → Ended) → Ended ⊎ ((k : Handout) × SoFar (k ∷ hs)) → Ended
        go again (inl z) = z
        go again (inr (k, z)) = again k z

    -- THE NIGHT ENDS
    pub night_ends : (hs : List Handout) × Over words table hs
    night_ends =
        run (suc (R g)) [] (omega arith) (record {
          marks = replicate (R g) 0;
          night = clear e (λ r _. zeros (R g) r);
          enough = omega (arith, length-replicate {A = ℕ} (R g) 0);
        })
