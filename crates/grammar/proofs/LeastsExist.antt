-- Where every nonterminal has a tree, every nonterminal has a least one; and whether a nonterminal has a tree is decided. By any
-- Cost. The tables of leasts, and row 5 of the refusals, stand on this.
-- Settle the nonterminals one at a time (`Settles`): a rule whose nonterminals are all settled offers its left side its size. Let
-- m be the smallest offer to an unsettled nonterminal. A tree of an unsettled nonterminal costs at least m: follow it down along
-- unsettled nonterminals, to a node over settled ones only; its rule made an offer, which is at most what the node costs. So m is
-- the least of the nonterminal to which it is offered, and the rule over least trees attains it. With no offer left, every rule
-- of an unsettled nonterminal names an unsettled one: these are stuck, and have no tree.
-- Assumes nothing.
use Prim.Native.Nat.{ℕ, ◌<◌}
use native.Mathlib.Decide.{dec_lt}
use mathlib.Core.Path.{◌≡◌, refl, sym, ap, ◌∙◌}
use mathlib.Core.Logic.{◌⊎◌, inl, inr}
use mathlib.Core.List.Memᴰ
use mathlib.Core.List.{List, [], ◌∷◌}
use Rattle.grammar.specs.Words.{Grammar, RuleAt, R}
use Rattle.grammar.specs.Tree.{Tree, Forest, node, ◌∈◌}
use Rattle.grammar.specs.Measure.{Cost, tree_cost, forest_cost}
use Rattle.grammar.specs.Least.{Least}
use Rattle.grammar.specs.Refusals.{AllTrees}
use Rattle.grammar.proofs.RuleNumbers.{rule_left, rule_right, rule_number, RuleOrNone}
use Rattle.grammar.proofs.CostOrder.{le_of_eq, at_most_left, at_most_right}
use Rattle.grammar.proofs.AlongMembers.{along_members}
use Rattle.grammar.specs.Certificates.{Stuck, word_size, Leasts}
use Rattle.grammar.proofs.Dead.{stuck_no_tree}
use Rattle.grammar.proofs.Search.{member?, in_cons, Smallest, NoOffer, Best}
use Rattle.grammar.proofs.Settles.{Settled, Made, Halt, settles, settled_or_left}
use Rattle.grammar.proofs.Certificate.{known_forest, known_least}
pub use Rattle.grammar.proofs.RuleNumbers.{rule?}
pub use Rattle.grammar.proofs.Search.{upto, in_upto}
pub use Rattle.grammar.proofs.Settles.{put, put_here, put_there}

-- all nonterminals of w are settled
abbrev pub Ready : ℕ → List ℕ → List ℕ → Type 0
Ready N todo w = (B : ℕ) → B ∈ w → B < N → ¬ (B ∈ todo)

-- one of them is not
abbrev pub Waits : ℕ → List ℕ → List ℕ → Type 0
Waits N todo w = (B : ℕ) × B ∈ w × B < N × B ∈ todo

-- each right side is ready, or waits
pub all_or_one : (N : ℕ) (todo w : List ℕ) → Ready N todo w ⊎ Waits N todo w
all_or_one N todo [] = inl (λ B m lt. absurd (Memᴰ.not-nil m))
all_or_one N todo (s ∷ w) = go (all_or_one N todo w) (dec_lt s N) (member? s todo)
  where
    ready_cons : (s < N → ¬ (s ∈ todo)) → Ready N todo w → Ready N todo (s ∷ w)
    ready_cons first later = in_cons (λ B. B < N → ¬ (B ∈ todo)) first later

    go : Ready N todo w ⊎ Waits N todo w → Dec (s < N) → Dec (s ∈ todo) → Ready N todo (s ∷ w) ⊎ Waits N todo (s ∷ w)
    go (inr z) d d' = inr (z.0, Memᴰ.tail z.1, z.2, z.3)
    go (inl ready) (yes lt) (yes m) = inr (s, Memᴰ.head refl, lt, m)
    go (inl ready) (yes lt) (no n) = inl (ready_cons (λ l. n) ready)
    go (inl ready) (no n) d = inl (ready_cons (λ l. absurd (n l)) ready)

module _ (c : Cost) (g : Grammar) where
  open c use {C, 𝟎, ◌⊕◌, ◌≼◌, once, le_refl, le_trans, mono}

  infixl 60 ◌⊕◌
  infix 40 ◌≼◌
  -- a part is at most the whole
  pub more_right : {x y : C} → y ≼ x ⊕ y
  more_right = at_most_right c

  pub more_left : {x y : C} → x ≼ x ⊕ y
  more_left = at_most_left c

  -- the leasts of all nonterminals but those of todo
  abbrev State : List ℕ → Type 0
  State todo = Settled c g.N (upto g.N) (Least c g) todo

  -- rule k of A, over settled nonterminals, comes to x
  record Offer (todo : List ℕ) (state : State todo) (k A : ℕ) (x : C) : Type 0 where
    w : List ℕ
    rule : RuleAt g k A w
    ready : Ready g.N todo w
    is : x ≡ once ⊕ word_size c g state.figures w

  abbrev Offered : (todo : List ℕ) → State todo → ℕ → C → Type 0
  Offered todo state k x = Made c g.N (upto g.N) (Least c g) Offer (R g) todo state k x

  module _ (todo : List ℕ) (state : State todo) where
    offers : {k A : ℕ} {w : List ℕ} → RuleAt g k A w → A ∈ todo → Ready g.N todo w →
        Offered todo state k (once ⊕ word_size c g state.figures w)
    offers {A = A} {w = w} r m ready = record {
      to = A;
      unsettled = m;
      offer = record { w = w; rule = r; ready = ready; is = refl };
    }

    best : (k : ℕ) → Best c (Offered todo state k)
    best k = go (rule? g k)
      where
        go : RuleOrNone g k → Best c (Offered todo state k)
        go (inr none) = inr (λ y o. none o.to o.offer.w o.offer.rule)
        go (inl (A, w, r)) = at (member? A todo) (all_or_one g.N todo w)
          where
            at : Dec (A ∈ todo) → Ready g.N todo w ⊎ Waits g.N todo w → Best c (Offered todo state k)
            at (yes m) (inl ready) =
                inl (
                  once ⊕ word_size c g state.figures w,
                  offers r m ready,
                  λ y o.
                      let e : o.offer.w ≡ w = rule_right refl o.offer.rule r in
                      let e' = o.offer.is in
                      le_of_eq c cc,
                )
            at (no n) h = inr (λ y o. n (rw (rule_left refl o.offer.rule r) at o.unsettled))
            at (yes m) (inr z) =
                inr (λ y o. (rw (rule_right refl o.offer.rule r) at o.offer.ready) z.0 z.1 z.2 z.3)

    -- a tree of an unsettled nonterminal costs at least the smallest offer
    smallest-below : (s : Smallest c (Offered todo state) (R g)) {A : ℕ} (t : Tree g A) → A ∈ todo → s.cost ≼ tree_cost c t
    unfolding tree_cost
    smallest-below s = along_members (λ B. B ∈ todo) (λ A t. s.cost ≼ tree_cost c t) (λ w f. s.cost ≼ forest_cost c f) (record {
      at_node = λ k A w r f m below. at_node k A w r f m below (all_or_one g.N todo w);
      from_first = λ x w t f le. le_trans le more_left;
      past_child = λ x w t f le. le_trans le more_right;
      past_leaf = λ x w p f le. le_trans le more_right;
    })
      where
        at_node : (k A : ℕ) (w : List ℕ) (r : RuleAt g k A w) (f : Forest g w) → A ∈ todo →
            ((B : ℕ) → B ∈ w → B < g.N → B ∈ todo → s.cost ≼ forest_cost c f) → Ready g.N todo w ⊎ Waits g.N todo w →
            s.cost ≼ once ⊕ forest_cost c f
        at_node k A w r f m below (inl ready) =
            le_trans (s.below k _ (rule_number r) (offers r m ready))
            (mono (le_refl once) (known_least c g state.figures f (λ B n lt. state.right B lt (ready B n lt))))
        at_node k A w r f m below (inr z) = le_trans (below z.0 z.1 z.2 z.3) more_right

    -- and the rule that makes it attains it, over least trees
    smallest-right : (s : Smallest c (Offered todo state) (R g)) → Least c g s.offers.to s.cost
    unfolding tree_cost
    smallest-right s =
        let o = s.offers.offer in
        let (f, e) = known_forest c g state.figures o.w (λ B n lt. state.right B lt (o.ready B n lt)) in
        record {
          tree = node s.who o.rule f;
          costs = ap (λ d. once ⊕ d) e ∙ sym o.is;
          smallest = λ t. smallest-below s t s.offers.unsettled;
        }

    -- with no offer the unsettled ones are stuck
    no_offer_stuck : NoOffer c (Offered todo state) (R g) → Stuck g (λ A. A ∈ todo)
    no_offer_stuck no_offer = record { names = λ k A w r m. go k A w r m (all_or_one g.N todo w) }
      where
        go : (k A : ℕ) (w : List ℕ) → RuleAt g k A w → A ∈ todo → Ready g.N todo w ⊎ Waits g.N todo w → Waits g.N todo w
        go k A w r m (inl ready) = absurd (no_offer k _ (rule_number r) (offers r m ready))
        go k A w r m (inr z) = z

  halt : Halt c g.N (upto g.N) (Least c g) Offer (R g)
  halt = settles c g.N (upto g.N) (Least c g) Offer (R g) (record { best = best; meets = smallest-right })
      (record { figures = λ A. 𝟎; among = λ A m. m; right = λ A lt n. absurd (n (in_upto g.N A lt)) })

  left_treeless : (A : ℕ) → A ∈ halt.todo → ¬ Tree g A
  left_treeless A m = stuck_no_tree g (λ B. B ∈ halt.todo) (no_offer_stuck halt.todo halt.state halt.no_offer) m

  -- DECIDED: a nonterminal has a least, or it has no tree
  pub least? : (A : ℕ) → A < g.N → ((x : C) × Least c g A x) ⊎ ¬ Tree g A
  least? A lt = go (settled_or_left c g.N (upto g.N) (Least c g) Offer (R g) halt A lt)
    where
      go : Least c g A (halt.state.figures A) ⊎ A ∈ halt.todo → ((x : C) × Least c g A x) ⊎ ¬ Tree g A
      go (inl least) = inl (halt.state.figures A, least)
      go (inr m) = inr (left_treeless A m)

  pub tree? : (A : ℕ) → A < g.N → Tree g A ⊎ ¬ Tree g A
  tree? A lt = go (least? A lt)
    where
      go : ((x : C) × Least c g A x) ⊎ ¬ Tree g A → Tree g A ⊎ ¬ Tree g A
      go (inl (x, least)) = inl least.tree
      go (inr none) = inr none

  -- LEASTS EXIST where all have trees
  pub leasts_exist : AllTrees g → (v : ℕ → C) × Leasts c g v
  leasts_exist trees = (halt.state.figures, λ A lt. halt.state.right A lt (λ m. left_treeless A m (trees A lt)))
