-- What the check leaves of `replay::forms::store_tokens`; the argument stands in Invariants.antt. Assumes nothing.
use Rattle.std.proofs.Common.{ℕ, ◌≡◌, ◌+◌, ◌-◌, ◌≤◌, ◌<◌, min, List, length, get_or, take, drop}
use Rattle.std.proofs.Common.{◌⊎◌, inl, inr, sym, ap, ◌∙◌, arith}
use Rattle.std.proofs.Math.Seq.{length-sets, take-add}
use Rattle.std.proofs.lemmas.List.{take_rest, length-take-le, length-drop, get_or-drop}
use Rattle.std.proofs.lemmas.List.Edits.{sets}
use Rattle.std.proofs.lemmas.Bool.{cases_lt}
use Rattle.std.proofs.lemmas.Grind.{common_steps}
use Rattle.answers.proofs.Stores.{sets_append}
use Rattle.replay.specs.Forms.{InFront}
use Rattle.replay.proofs.TokensStored.{stored_more, sets_out}
use Rattle.replay.proofs.forms.store_tokens.Goals as goal

-- and those behind so many have no room, or there are none
stored_all : (vs l : List ℕ) (from a k : ℕ) → a ≤ length vs → (length l ≤ from + a) ⊎ (k ≡ 0) →
    sets l from (take a vs) ≡ sets l from (take (a + k) vs)
stored_all vs l from a k h (inl full) =
    let long = length-take-le a vs h in
    let so_far = sets l from (take a vs) in
    sym (ap (sets l from) (take-add a k vs) ∙ sets_append (take a vs) (take k (drop a vs)) l from ∙
    sets_out (take k (drop a vs)) so_far (from + length (take a vs)) (omega (arith, length-sets l from (take a vs))))
stored_all vs l from a k h (inr none) = let e : a + k ≡ a = omega arith in rw e

-- so many are tokens, and then those in front of the others
more_in_front : (vs : List ℕ) (n a k : ℕ) → a ≤ length vs → ((j : ℕ) → j < a → n ≤ get_or vs j 0) →
    InFront (take (length vs - a) (drop a vs)) n k → InFront vs n (a + k)
more_in_front vs n a k h tokens others =
    let p = rw take_rest at others in
    record {
      within = omega (arith, p.within, length-drop a vs);
      tokens = λ j l. at j l (cases_lt j a);
      stops = λ l. omega (arith, p.stops (omega (arith, length-drop a vs)), get_or-drop a vs k 0);
    }
  where
    at : (j : ℕ) → j < a + k → (j < a) ⊎ (a ≤ j) → n ≤ get_or vs j 0
    at j l (inl below) = tokens j below
    at j l (inr above) =
        let p = rw take_rest at others in
        let e : a + (j - a) ≡ j = omega arith in
        omega (arith, p.tokens (j - a) (omega arith), get_or-drop a vs (j - a) 0, ap (λ (i : ℕ). get_or vs i 0) e)

-- there are others only where the room is full
full_or_none : (len from n room k : ℕ) → room ≡ min (len - from) n → room + k ≤ n → (len ≤ from + room) ⊎ (k ≡ 0)
full_or_none len from n room k e h = at (cases_lt room n)
  where
    at : (room < n) ⊎ (n ≤ room) → (len ≤ from + room) ⊎ (k ≡ 0)
    at (inl less) = inl (omega arith)
    at (inr all) = inr (omega arith)

pub loop-i-preserved : goal.loop-i-preserved
loop-i-preserved c = grind (arith, common_steps, stored_more)

pub returns : goal.returns
returns c =
    let a = c.args in
    let vs = a.symbols.now in
    let k = c.tokens_in_front.result in
    let end : c.min-room.result ≡ c.loop-i.i = omega arith in
    let room : c.loop-i.i ≡ min (length a.sentence.now - a.from) (length vs) = omega (arith, c.saturating_sub.ensures) in
    let others = rw end at c.tokens_in_front.ensures in
    let front = more_in_front vs a.nonterminals c.loop-i.i k (omega arith) c.loop-i.invariant.tokens others in
    let full = full_or_none (length a.sentence.now) a.from (length vs) c.loop-i.i k room front.within in
    rw end (record {
      counted = front;
      stored = c.loop-i.invariant.stored ∙ stored_all vs a.sentence.now a.from c.loop-i.i k (omega arith) full;
    })
