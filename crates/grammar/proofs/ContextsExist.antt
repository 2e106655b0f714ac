-- Where moreover every nonterminal is reached, every nonterminal has a context; and whether one is reached is decided. By any
-- Cost. The tables of contexts, and row 6 of the refusals, stand on this.
-- Settle the nonterminals one at a time (`Settles`), from the start, whose context is 𝟎: a rule of a settled B offers each
-- nonterminal among its symbols the context of B, 1 and the sizes of the other symbols. Let m be the smallest offer to an
-- unsettled one. An open tree of an unsettled nonterminal costs at least m: follow it up to where it leaves the settled ones; the
-- rule there made an offer. So m is the context of the nonterminal to which it is offered. With no offer left the settled ones
-- are closed, and all that is reached is settled.
-- Assumes nothing.
use Prim.Native.Nat.{ℕ, zero, suc, ◌<◌}
use native.Mathlib.Omega.{arith}
use native.Mathlib.Decide.{dec_lt, ℕ_discrete}
use mathlib.Core.Path.{◌≡◌, refl, sym}
use mathlib.Core.Logic.{◌⊎◌, inl, inr}
use mathlib.Core.List.{List, [], ◌∷◌}
use lib.ListN.{length, get_or}
use Rattle.grammar.specs.Words.{Grammar, RuleAt, R}
use Rattle.grammar.specs.Tree.{Open, root, down, ◌∈◌}
use Rattle.grammar.specs.Measure.{Cost, gap_cost, open_cost}
use Rattle.grammar.specs.Least.{Context}
use Rattle.grammar.specs.Refusals.{Reached, AllReached}
use Rattle.grammar.proofs.RuleNumbers.{rule_left, rule_right, rule_below, rule_number, RuleOrNone, rule?}
use Rattle.grammar.proofs.CostOrder.{le_of_eq, at_most_left}
use Rattle.grammar.proofs.Places.{ElementOrNone, element?, place_of_lem}
use Rattle.grammar.specs.Certificates.{Holds, Closed, Leasts, others_size, Contexts}
use Rattle.grammar.proofs.Totals.{context-start}
use Rattle.grammar.proofs.Dead.{closed_reached, gap_nonterminal, open_reached}
use Rattle.grammar.proofs.Search.{member?, upto, in_upto, Except, except, Smallest, NoOffer, Best, smallest}
use Rattle.grammar.proofs.Settles.{Settled, Made, Halt, settles, settled_or_left}
use Rattle.grammar.proofs.ContextCertificate.{gap_holds, gap_above, least_gap}

-- a place that holds a symbol is below the length
pub holds_below : (w : List ℕ) (i A : ℕ) → Holds w i A → i < length w
holds_below w i A h = rule_below w i A h

-- and what symbols hold at a place below their number is the symbol there, as a slice is read
pub holds_there : (w : List ℕ) (i : ℕ) → i < length w → Holds w i (get_or w i 0)
holds_there [] i h = absurd (omega arith)
holds_there (s ∷ w) zero h = refl
holds_there (s ∷ w) (suc i) h = holds_there w i (omega arith)

pub held_there : (w : List ℕ) (i A : ℕ) → Holds w i A → get_or w i 0 ≡ A
held_there w i A h = cc (holds_there w i (holds_below w i A h))

module _ (c : Cost) (g : Grammar) (v : ℕ → c.C) (leasts : Leasts c g v) where
  open c use {C, 𝟎, ◌⊕◌, ◌≼◌, once, le_refl, le_trans, mono}

  infixl 60 ◌⊕◌
  infix 40 ◌≼◌
  -- all nonterminals but the start, to begin with
  others : Except g.start (upto g.N)
  others = except g.start (upto g.N)

  -- the contexts of all nonterminals but those of todo
  abbrev State : List ℕ → Type 0
  State todo = Settled c g.N others.list (Context c g) todo

  not_start : {todo : List ℕ} → State todo → ¬ (g.start ∈ todo)
  not_start state m = others.gone (state.among g.start m)

  -- place i of w, a right side of B, holds A and comes to x
  record AtPlace (B : ℕ) (w : List ℕ) (todo : List ℕ) (state : State todo) (i A : ℕ) (x : C) : Type 0 where
    holds : Holds w i A
    below : A < g.N
    is : x ≡ state.figures B ⊕ (once ⊕ others_size c g v w i)

  -- rule k of a settled B does so at some place
  record Offer (todo : List ℕ) (state : State todo) (k A : ℕ) (x : C) : Type 0 where
    B : ℕ
    w : List ℕ
    rule : RuleAt g k B w
    settled : ¬ (B ∈ todo)
    i : ℕ
    place : AtPlace B w todo state i A x

  -- places, and rules, that offer x to an unsettled nonterminal
  abbrev PlaceOffers : (B : ℕ) (w todo : List ℕ) → State todo → ℕ → C → Type 0
  PlaceOffers B w todo state i x = Made c g.N others.list (Context c g) (AtPlace B w) (length w) todo state i x

  abbrev Offered : (todo : List ℕ) → State todo → ℕ → C → Type 0
  Offered todo state k x = Made c g.N others.list (Context c g) Offer (R g) todo state k x

  module _ (todo : List ℕ) (state : State todo) where
    best_at : (B : ℕ) (w : List ℕ) (i : ℕ) → Best c (PlaceOffers B w todo state i)
    best_at B w i = go (element? w i)
      where
        go : ElementOrNone w i → Best c (PlaceOffers B w todo state i)
        go (inr no_one) = inr (λ y o. no_one o.to o.offer.holds)
        go (inl (A, h)) = pick (dec_lt A g.N) (member? A todo)
          where
            same : {y : C} (o : PlaceOffers B w todo state i y) → o.to ≡ A
            same o = let k = o.offer.holds in cc

            pick : Dec (A < g.N) → Dec (A ∈ todo) → Best c (PlaceOffers B w todo state i)
            pick (yes lt) (yes m) =
                inl (
                  state.figures B ⊕ (once ⊕ others_size c g v w i),
                  record { to = A; unsettled = m; offer = record { holds = h; below = lt; is = refl } },
                  λ y o. le_of_eq c (sym o.offer.is),
                )
            pick (yes lt) (no n) = inr (λ y o. n (rw (same o) at o.unsettled))
            pick (no n) d = inr (λ y o. n (rw (same o) at o.offer.below))

    best : (k : ℕ) → Best c (Offered todo state k)
    best k = go (rule? g k)
      where
        go : RuleOrNone g k → Best c (Offered todo state k)
        go (inr no_one) = inr (λ y o. no_one o.offer.B o.offer.w o.offer.rule)
        go (inl (B, w, r)) = pick (member? B todo) (smallest c (PlaceOffers B w todo state) (best_at B w) (length w))
          where
            by_place : {y : C} (o : Offered todo state k y) → PlaceOffers B w todo state o.offer.i y
            by_place o =
                let e : o.offer.B ≡ B = rule_left refl o.offer.rule r in
                let e' : o.offer.w ≡ w = rule_right refl o.offer.rule r in
                record { to = o.to; unsettled = o.unsettled; offer = rw (e, e') at o.offer.place }

            in_range : {y : C} (o : Offered todo state k y) → o.offer.i < length w
            in_range o = holds_below w o.offer.i o.to (by_place o).offer.holds

            pick : Dec (B ∈ todo) → Smallest c (PlaceOffers B w todo state) (length w) ⊎
                NoOffer c (PlaceOffers B w todo state) (length w) → Best c (Offered todo state k)
            pick (yes m) h = inr (λ y o. o.offer.settled (rw (rule_left refl r o.offer.rule) at m))
            pick (no n) (inl s) =
                let a = s.offers in
                inl (
                  s.cost,
                  record {
                    to = a.to;
                    unsettled = a.unsettled;
                    offer = record { B = B; w = w; rule = r; settled = n; i = s.who; place = a.offer };
                  },
                  λ y o. s.below o.offer.i y (in_range o) (by_place o),
                )
            pick (no n) (inr no_one) = inr (λ y o. no_one o.offer.i y (in_range o) (by_place o))

    offers : {k B A : ℕ} {w : List ℕ} (i : ℕ) → RuleAt g k B w → ¬ (B ∈ todo) → Holds w i A → A < g.N → A ∈ todo →
        Offered todo state k (state.figures B ⊕ (once ⊕ others_size c g v w i))
    offers {B = B} {A = A} {w = w} i r n h lt m = record {
      to = A;
      unsettled = m;
      offer = record { B = B; w = w; rule = r; settled = n; i = i; place = record { holds = h; below = lt; is = refl } };
    }

    module _ (s : Smallest c (Offered todo state) (R g)) where
      -- an open tree of an unsettled nonterminal costs at least the smallest offer
      smallest-below : {A : ℕ} (x : Open g A) → A ∈ todo → s.cost ≼ open_cost c x
      unfolding open_cost
      smallest-below root m = absurd (not_start state m)
      smallest-below (down {A} {B} {i} {w} k r x a) m = go (member? B todo) (λ m'. smallest-below x m')
        where
          go : Dec (B ∈ todo) → (B ∈ todo → s.cost ≼ open_cost c x) → s.cost ≼ open_cost c x ⊕ (once ⊕ gap_cost c a)
          go (yes m') above = le_trans (above m') (at_most_left c)
          go (no n) above =
              le_trans (s.below k _ (rule_number r) (offers i r n (gap_holds a) (gap_nonterminal a) m))
              (mono ((state.right B r.left n).smallest x) (mono (le_refl once) (gap_above c g v leasts a)))

      -- and the rule that makes it attains it, beside least trees
      smallest-right : Context c g s.offers.to s.cost
      unfolding open_cost
      smallest-right =
          let o = s.offers.offer in
          let p = o.place in
          let (a, e) = least_gap c g v leasts o.w o.i s.offers.to p.below p.holds in
          let z = state.right o.B o.rule.left o.settled in
          let e₁ = z.costs in
          let e₂ = p.is in
          record {
            tree = down s.who o.rule z.tree a;
            costs = cc;
            smallest = λ t. smallest-below t s.offers.unsettled;
          }

    -- with no offer the settled ones are closed
    no_offer_closed : NoOffer c (Offered todo state) (R g) → Closed g (λ A. ¬ (A ∈ todo))
    no_offer_closed no_offer = record {
      start = not_start state;
      names = λ k B w A r n m lt h. let (i, at) = place_of_lem w A m in no_offer k _ (rule_number r) (offers i r n at lt h);
    }

  -- the start is settled by 𝟎, before any offer
  start_settled : State others.list
  start_settled = record { figures = λ A. 𝟎; among = λ A m. m; right = λ A lt n. only A lt n (ℕ_discrete A g.start) }
    where
      only : (A : ℕ) → A < g.N → ¬ (A ∈ others.list) → Dec (A ≡ g.start) → Context c g A 𝟎
      only A lt n (yes e) = rw e (context-start c)
      only A lt n (no d) = absurd (n (others.kept A (in_upto g.N A lt) d))

  halt : Halt c g.N others.list (Context c g) Offer (R g)
  halt = settles c g.N others.list (Context c g) Offer (R g) (record { best = best; meets = smallest-right }) start_settled

  left_unreached : (A : ℕ) → A ∈ halt.todo → A < g.N → ¬ Reached g A
  left_unreached A m lt r =
      closed_reached g (λ B. ¬ (B ∈ halt.todo)) (no_offer_closed halt.todo halt.state halt.no_offer) r lt m

  -- DECIDED: whether a nonterminal is reached
  pub reached? : (A : ℕ) → A < g.N → Reached g A ⊎ ¬ Reached g A
  reached? A lt = go (settled_or_left c g.N others.list (Context c g) Offer (R g) halt A lt)
    where
      go : Context c g A (halt.state.figures A) ⊎ A ∈ halt.todo → Reached g A ⊎ ¬ Reached g A
      go (inl context) = inl (open_reached context.tree)
      go (inr m) = inr (left_unreached A m lt)

  -- CONTEXTS EXIST where all are reached
  pub contexts_exist : AllReached g → (u : ℕ → C) × Contexts c g v u
  contexts_exist reached = (halt.state.figures, λ A lt. halt.state.right A lt (λ m. left_unreached A m lt (reached A lt)))
