-- Where calls of `next` hand out a row's sentences and derivations and then answer Finished, no night comes to another end:
-- whichever calls come to Finished from clear marks, they have handed out the row's, in the row's order. A call that answers Next
-- hands out what it would into larger buffers, and there the row says what that is; so a night so far, and what the row still has
-- to come, are together the row. Assumes nothing.
use Prim.Native.Nat.{ℕ, ◌≤◌}
use native.Mathlib.Omega.{arith}
use mathlib.Core.Path.{◌≡◌, refl, sym, ap, ◌∙◌, subst}
use mathlib.Core.List.{List, [], ◌∷◌, ◌++◌, reverse, reverse_aux}
use lib.ListN.{length, take, length-append}
use Rattle.answers.specs.Buffers.{over}
use Rattle.answers.proofs.WrittenFromFront.{written}
use Rattle.grammar.specs.Words.{Grammar, R, layout, reads}
use Rattle.grammar.specs.Tree.{sentence, derivation}
use Rattle.handout.specs.Next.{NextPromise, Lent, AllUnused, row_next, row_finished}
use Rattle.handout.specs.Night.{Handout, handout, Night, clear, later, Over}
use Rattle.handout.specs.declared.NextAnswer.TheVariants.{Next, Finished}
use Rattle.handout.specs.Given.{Handed}
use Rattle.handout.proofs.Main.{next_settles, next_writes, next-finished}
use Rattle.samples.specs.Row.{lent, HandsOut, Hands, ClearMarks}

-- A CALL that answered Next, by what it says of the buffers (`h`), and what the row has for it. In buffers with room for both,
-- the promise allows both, so they are the same.
module _ (words table : List ℕ) {target n m : ℕ} {before after : Lent} {g : Grammar}
    (h : Handed words table before after target n m g) (r : ℕ) (s d marked : List ℕ)
    (row : HandsOut words table before.marks (handout r s d) marked) where
  abbrev tokens_room : List ℕ
  tokens_room = s ++ sentence h.t

  abbrev rules_room : List ℕ
  rules_room = d ++ derivation h.t

  room_for : (xs ys : List ℕ) → (length xs ≤ length (xs ++ ys)) × (length ys ≤ length (xs ++ ys))
  room_for xs ys = let l = length-append xs ys in (omega arith, omega arith)

  both : (Next target (length (sentence h.t)) (length (derivation h.t)) ≡ Next r (length s) (length d)) ×
      (lent after.marks (over (sentence h.t) tokens_room) (over (derivation h.t) rules_room) ≡
      lent marked (over s tokens_room) (over d rules_room))
  both =
      let (s-fits, t-fits) = room_for s (sentence h.t) in
      let (d-fits, u-fits) = room_for d (derivation h.t) in
      next_settles words table (lent before.marks tokens_room rules_room)
      (row_next h.wanted t-fits u-fits h.marks)
      (row tokens_room rules_room s-fits d-fits)

  -- what stands in front of two equal buffers
  same_front : (xs ys room : List ℕ) → length xs ≤ length room → length xs ≡ length ys → over xs room ≡ over ys room → xs ≡ ys
  same_front xs ys room l long e =
      sym (written xs room l).front ∙ ap (take (length xs)) e ∙ ap (λ (k : ℕ). take k (over ys room)) long ∙
      (written ys room (omega arith)).front

  same_sentence : sentence h.t ≡ s
  same_sentence =
      let e = both.0 in
      let long : length (sentence h.t) ≡ length s = cc in
      let same : over (sentence h.t) tokens_room ≡ over s tokens_room = ap (λ (l : Lent). l.tokens) both.1 in
      same_front (sentence h.t) s tokens_room (room_for s (sentence h.t)).1 long same

  same_derivation : derivation h.t ≡ d
  same_derivation =
      let e = both.0 in
      let long : length (derivation h.t) ≡ length d = cc in
      let same : over (derivation h.t) rules_room ≡ over d rules_room = ap (λ (l : Lent). l.rules) both.1 in
      same_front (derivation h.t) d rules_room (room_for d (derivation h.t)).1 long same

  same_handout : handout target (take n after.tokens) (take m after.rules) ≡ handout r s d
  same_handout =
      let e = both.0 in
      let same_target : target ≡ r = cc in
      rw (h.tokens.front, h.rules.front, same_sentence, same_derivation, same_target) refl

  same_marks : after.marks ≡ marked
  same_marks = ap (λ (l : Lent). l.marks) both.1

-- A NIGHT
module _ (words table : List ℕ) {g : Grammar} (e : layout words ≡ reads g) (hs : List Handout)
    (row : (marks : List ℕ) → ClearMarks g marks → Hands words table marks hs) where
  record SoFar (handed : List Handout) (marks : List ℕ) : Type 0 where
    to_come : List Handout
    are : reverse_aux to_come handed ≡ reverse hs
    hands : Hands words table marks to_come

  -- the words are one grammar
  same_grammar : {k : Grammar} → layout words ≡ reads k → k ≡ g
  same_grammar read = cc

  -- with nothing to come the call would have answered Finished
  one_more : {target n m : ℕ} {before after : Lent} {handed : List Handout} →
      NextPromise words table before (Next target n m) after → SoFar handed before.marks →
      SoFar (handout target (take n after.tokens) (take m after.rules) ∷ handed) after.marks
  one_more {target} {n} {m} {before} {after} {handed} p z = go z.to_come z.are z.hands
    where
      go : (hs' : List Handout) → reverse_aux hs' handed ≡ reverse hs → Hands words table before.marks hs' →
          SoFar (handout target (take n after.tokens) (take m after.rules) ∷ handed) after.marks
      go [] are hands =
          let over = (next_settles words table before p (hands before.tokens before.rules)).0 in
          absurd (let z : ◌≡◌ {A = ℕ} 0 1 = cc in omega arith)
      go (handout r s d ∷ more) are (marked, out, hands) =
          let h = (next_writes p target n m refl).2 in
          record {
            to_come = more;
            are = rw (same_handout words table h r s d marked out) are;
            hands = rw (same_marks words table h r s d marked out) hands;
          }

  so_far : {handed : List Handout} {marks : List ℕ} → Night words table handed marks → R g ≤ length marks → SoFar handed marks
  so_far {marks = marks} (clear read zeros) l =
      let unused = subst (λ (k : Grammar). AllUnused k marks) (same_grammar read) zeros in
      record { to_come = hs; are = refl; hands = row marks (record { enough = l; clear = unused }) }
  so_far (later {target = target} {n = n} {m = m} night p) l =
      let long = (next_writes p target n m refl).2.marks.long in
      one_more p (so_far night (omega arith))

  -- at Finished nothing is to come: the call would have handed it out
  pub night_only : (handed : List Handout) → Over words table handed → handed ≡ reverse hs
  night_only handed o = go z.to_come z.are z.hands
    where
      given : (R g ≤ length o.before.marks) × ((tokens rules : List ℕ) →
          NextPromise words table (lent o.before.marks tokens rules) Finished (lent o.before.marks tokens rules))
      given =
          let (k, read, (own, l, used)) = (next-finished o.ends).0 refl in
          (rw (same_grammar read) at l, λ tokens rules. row_finished read own.0 own.1 l used)

      z : SoFar handed o.before.marks
      z = so_far o.night given.0

      go : (hs' : List Handout) → reverse_aux hs' handed ≡ reverse hs → Hands words table o.before.marks hs' →
          handed ≡ reverse hs
      go [] are hands = are
      go (handout r s d ∷ more) are (marked, out, hands) =
          let l : length s ≤ length s = omega arith in
          let k : length d ≤ length d = omega arith in
          let over = (next_settles words table (lent o.before.marks s d) (given.1 s d) (out s d l k)).0 in
          absurd (let z : ◌≡◌ {A = ℕ} 0 1 = cc in omega arith)
