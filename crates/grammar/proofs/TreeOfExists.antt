-- Where every nonterminal has a tree and is reached, there is everything that document 01 speaks of: chosen rules, context
-- choices, totals, and the tree of each rule. So the tables can be filled, and the tree of a rule drawn, for every grammar that
-- rows 5 and 6 accept.
-- Some rule attains the least of A, by the certificate, and whether a rule does is decided: so a lowest one does, the chosen
-- rule. The nonterminals of a chosen rule have leasts of lower rank, so following chosen rules ends, in a tree. In the same way
-- some rule and place attain the context of A: take the lowest rule, then the leftmost place in it; the context of its left side
-- has lower rank, so following the context choices ends, at the start. The tree of r is r at the end of these choices, with
-- chosen trees everywhere else.
-- Assumes nothing.
use Prim.Native.Nat.{ℕ, ◌≤◌, ◌<◌}
use native.Mathlib.Omega.{arith}
use native.Mathlib.Decide.{ℕ_discrete}
use mathlib.Core.Path.{◌≡◌, refl, ap, ◌∙◌}
use mathlib.Core.Logic.{◌⊎◌, inl, inr}
use mathlib.Core.List.{List}
use lib.ListN.{length}
use Rattle.grammar.specs.Words.{Grammar, RuleAt, R, InBounds}
use Rattle.grammar.specs.Tree.{Tree, Forest, node, Gap, Open, root, down, plug}
use Rattle.grammar.specs.Measure.{Cost, tree_cost}
use Rattle.grammar.specs.Least.{Least, RuleSize, Chosen, Context, Beside, at_place, past_terminal, past_nonterminal}
use Rattle.grammar.specs.Least.{Candidate, ContextChoice, Total, ChosenTree, ChosenForest, ChosenGap, ChosenOpen, TreeOf}
use Rattle.grammar.specs.Refusals.{AllTrees, AllReached}
use Rattle.grammar.proofs.LayoutExact.{rule_at}
use Rattle.grammar.proofs.BySize.{by_size}
use Rattle.grammar.proofs.CostOrder.{rank_of_context}
use Rattle.grammar.specs.Certificates.{Holds, word_size, Leasts, others_size, Contexts}
use Rattle.grammar.proofs.Places.{holds?}
use Rattle.grammar.proofs.RuleNumbers.{OfRule, of_rule?}
use Rattle.grammar.proofs.OpenEach.{Carries, forest_of, CarriesGap, gap_of}
use Rattle.grammar.proofs.Unique.{sizes_unique, beside_unique, context_unique}
use Rattle.grammar.proofs.Totals.{tree_of_total}
use Rattle.grammar.proofs.Search.{both?, lowest, some_below, equal?}
use Rattle.grammar.proofs.Certificate.{rank_falls, least_certificate, word_sizes, rule_size}
use Rattle.grammar.proofs.ContextCertificate.{others_beside, context_certificate, candidate}
use Rattle.grammar.proofs.LeastsExist.{leasts_exist}
use Rattle.grammar.proofs.ContextsExist.{holds_below, contexts_exist}

-- where symbols stand beside A at place i, A stands at place i
pub beside_holds : {c : Cost} {g : Grammar} {w : List ℕ} {i A : ℕ} {x : c.C} → Beside c g w i A x → Holds w i A
beside_holds (at_place p h) = refl
beside_holds (past_terminal p h) = beside_holds h
beside_holds (past_nonterminal p l h) = beside_holds h

module _ (c : Cost) (g : Grammar) (v : ℕ → c.C) (leasts : Leasts c g v) where
  open c use {C, ◌⊕◌, once, rank}

  infixl 60 ◌⊕◌
  -- rule k is one of A, and its size is the figure of A
  abbrev Attains : ℕ → ℕ → Type 0
  Attains A k = OfRule g k (λ B w. (B ≡ A) × (v A ≡ once ⊕ word_size c g v w))

  attains? : (A k : ℕ) → Dec (Attains A k)
  attains? A k = of_rule? g k _ (λ B w. both? (ℕ_discrete B A) (equal? c (v A) (once ⊕ word_size c g v w)))

  -- the chosen rule, and that it attains the figure
  record Choice (A : ℕ) : Type 0 where
    k : ℕ
    w : List ℕ
    rule : RuleAt g k A w
    cost : v A ≡ once ⊕ word_size c g v w
    chosen : Chosen c g A k

  size_attains : {A j : ℕ} → RuleSize c g A j (v A) → Attains A j
  size_attains {A} h =
      let e = sizes_unique h.sizes (word_sizes c g v leasts h.w) in
      record { A = A; w = h.w; rule = h.rule; has = (refl, h.is ∙ ap (λ d. once ⊕ d) e) }

  choice : (A : ℕ) → A < g.N → Choice A
  choice A lt =
      let (k₀, w₀, r₀, e₀) = ((least_certificate c g v).1 leasts).attained A lt in
      let (k, low) = lowest (Attains A) (attains? A) k₀ (record { A = A; w = w₀; rule = r₀; has = (refl, e₀) }) in
      let a = low.such in
      let r = rw a.has.0 at a.rule in
      record {
        k = k;
        w = a.w;
        rule = r;
        cost = a.has.1;
        chosen = record {
          figure = v A;
          least = leasts A lt;
          attains = rw (← a.has.1) at (rule_size c g v leasts k A a.w r);
          lowest = λ j h. low.lowest j (size_attains h);
        };
      }

  abbrev ChosenAt : (A : ℕ) → Tree g A → Type 0
  ChosenAt A t = ChosenTree c g t

  abbrev ChosenIn : (w : List ℕ) → Forest g w → Type 0
  ChosenIn w f = ChosenForest c g f

  abbrev ChosenBeside : (w : List ℕ) (i A : ℕ) → Gap g w i A → Type 0
  ChosenBeside w i A a = ChosenGap c g a

  chosen_carry : Carries ChosenAt ChosenIn
  chosen_carry = record { at_nil = tt; at_leaf = λ s w p f h. h; at_child = λ s w t f h k. (h, k) }

  chosen_gaps_carry : CarriesGap ChosenAt ChosenIn ChosenBeside
  chosen_gaps_carry = record {
    at_here = λ A w p f h. h;
    at_past_leaf = λ s i A w p a h. h;
    at_past_child = λ s i A w t a h k. (h, k);
  }

  -- follow the chosen rules: the rank of the least falls
  chosen_tree : (A : ℕ) → A < g.N → (t : Tree g A) × ChosenTree c g t
  chosen_tree = by_size (λ A. rank (v A)) (λ A. A < g.N → (t : Tree g A) × ChosenTree c g t) (λ A lower lt.
      let z = choice A lt in
      let (f, h) = forest_of chosen_carry z.w (λ B m l. lower B (rank_falls c g v z.cost m l) l) in
      (node z.k z.rule f, (z.chosen, h)))

  chosen_forest : (w : List ℕ) → (f : Forest g w) × ChosenForest c g f
  chosen_forest w = forest_of chosen_carry w (λ A m. chosen_tree A)

  chosen_gap : (w : List ℕ) (i A : ℕ) → A < g.N → Holds w i A → (a : Gap g w i A) × ChosenGap c g a
  chosen_gap = gap_of chosen_carry chosen_gaps_carry chosen_tree

  module _ (u : ℕ → C) (within : g.start < g.N) (contexts : Contexts c g v u) where
    -- w, a right side of B, has A at place i, and comes there to the context of A
    abbrev ReachesAt : (A B : ℕ) (w : List ℕ) → ℕ → Type 0
    ReachesAt A B w i = Holds w i A × (u A ≡ u B ⊕ (once ⊕ others_size c g v w i))

    -- the right side of rule k does so at place i, or at some place
    abbrev Reaches : (A k i : ℕ) → Type 0
    Reaches A k i = OfRule g k (λ B w. ReachesAt A B w i)

    abbrev ReachesSomewhere : (A k : ℕ) → Type 0
    ReachesSomewhere A k = OfRule g k (λ B w. (i : ℕ) × ReachesAt A B w i)

    reaches_at? : (A B : ℕ) (w : List ℕ) (i : ℕ) → Dec (ReachesAt A B w i)
    reaches_at? A B w i = both? (holds? w i A) (equal? c (u A) (u B ⊕ (once ⊕ others_size c g v w i)))

    reaches? : (A k i : ℕ) → Dec (Reaches A k i)
    reaches? A k i = of_rule? g k _ (λ B w. reaches_at? A B w i)

    reaches_somewhere? : (A k : ℕ) → Dec (ReachesSomewhere A k)
    reaches_somewhere? A k = of_rule? g k _ (λ B w. go B w (some_below (ReachesAt A B w) (reaches_at? A B w) (length w)))
      where
        go : (B : ℕ) (w : List ℕ) → Dec ((i : ℕ) × (i < length w) × ReachesAt A B w i) → Dec ((i : ℕ) × ReachesAt A B w i)
        go B w (yes z) = yes (z.0, z.2)
        go B w (no n) = no (λ z. n (z.0, holds_below w z.0 A z.1.0, z.1))

    candidate_reaches : {A j h : ℕ} → A < g.N → Candidate c g A j h (u A) → Reaches A j h
    candidate_reaches {A} {j} {h} lt z =
        let holds = beside_holds z.beside in
        let e = beside_unique z.beside (others_beside c g v leasts z.w h A lt holds) in
        let e' : z.outer ≡ u z.B = context_unique z.context (contexts z.B z.rule.left) in
        let q = z.is in
        record { A = z.B; w = z.w; rule = z.rule; has = (holds, cc) }

    -- the context choice, and that it attains the context
    record Upward (A : ℕ) : Type 0 where
      k : ℕ
      i : ℕ
      B : ℕ
      w : List ℕ
      rule : RuleAt g k B w
      holds : Holds w i A
      cost : u A ≡ u B ⊕ (once ⊕ others_size c g v w i)
      choice_is : ContextChoice c g A k i

    upward : (A : ℕ) → A < g.N → ¬ (A ≡ g.start) → Upward A
    upward A lt d =
        let (k₀, B₀, w₀, i₀, r₀, p₀, e₀) = ((context_certificate c g v leasts u within).1 contexts).attained A lt d in
        let found : ReachesSomewhere A k₀ = record { A = B₀; w = w₀; rule = r₀; has = (i₀, (p₀, e₀)) } in
        let (k, low) = lowest (ReachesSomewhere A) (reaches_somewhere? A) k₀ found in
        let s = low.such in
        let there : Reaches A k s.has.0 = record { A = s.A; w = s.w; rule = s.rule; has = s.has.1 } in
        let (i, left) = lowest (Reaches A k) (reaches? A k) s.has.0 there in
        let z = left.such in
        record {
          k = k;
          i = i;
          B = z.A;
          w = z.w;
          rule = z.rule;
          holds = z.has.0;
          cost = z.has.1;
          choice_is = record {
            other = d;
            figure = u A;
            context = contexts A lt;
            attains =
                rw (← z.has.1) at (candidate c g v leasts u within contexts k z.A z.w i A z.rule z.has.0 lt);
            first = λ j h q.
                let y = candidate_reaches lt q in
                order k i j h (low.lowest j (record { A = y.A; w = y.w; rule = y.rule; has = (h, y.has) }))
                (λ e. left.lowest h (rw (← e) at y)) (ℕ_discrete k j);
          };
        }
      where
        order : (k i j h : ℕ) → k ≤ j → (k ≡ j → i ≤ h) → Dec (k ≡ j) → (k < j) ⊎ ((k ≡ j) × (i ≤ h))
        order k i j h l m (yes e) = inr (e, m e)
        order k i j h l m (no n) = inl (omega arith)

    -- follow the context choices up to the start: the rank of the context falls
    chosen_open : (A : ℕ) → A < g.N → (x : Open g A) × ChosenOpen c g x
    chosen_open =
        by_size (λ A. rank (u A)) (λ A. A < g.N → (x : Open g A) × ChosenOpen c g x)
        (λ A lower lt. go A lt lower (ℕ_discrete A g.start))
      where
        go : (A : ℕ) → A < g.N → ((B : ℕ) → rank (u B) < rank (u A) → B < g.N → (x : Open g B) × ChosenOpen c g x) →
            Dec (A ≡ g.start) → (x : Open g A) × ChosenOpen c g x
        go A lt lower (yes e) = rw e (root, tt)
        go A lt lower (no d) =
            let z = upward A lt d in
            let (x, h) = lower z.B (rank_of_context c z.cost) z.rule.left in
            let (a, h') = chosen_gap z.w z.i A lt z.holds in
            (down z.k z.rule x a, (z.choice_is, h, h'))

    tree_of_rule : (r A : ℕ) (w : List ℕ) → RuleAt g r A w → (t : Tree g g.start) × TreeOf c g r t
    tree_of_rule r A w rule =
        let (x, h) = chosen_open A rule.left in
        let (f, h') = chosen_forest w in
        let tree = plug x (node r rule f) in
        (tree, record { A = A; w = w; rule = rule; above = x; follows = h; under = f; opens = h'; whole = refl })

-- THE TREE OF A RULE EXISTS, by any cost, where all have trees and are reached
pub tree_of_exists : (c : Cost) (g : Grammar) → InBounds g → AllTrees g → AllReached g → (r : ℕ) → r < R g →
    (t : Tree g g.start) × TreeOf c g r t
tree_of_exists c g ok trees reached r l =
    let (v, leasts) = leasts_exist c g trees in
    let (u, contexts) = contexts_exist c g v leasts reached in
    let (A, w, rule) = rule_at ok r l in
    tree_of_rule c g v leasts u ok.start_below contexts r A w rule

-- and so does everything else that a table holds
pub chosen_exists : (c : Cost) (g : Grammar) → AllTrees g → (A : ℕ) → A < g.N → (k : ℕ) × Chosen c g A k
chosen_exists c g trees A lt = let (v, leasts) = leasts_exist c g trees in let z = choice c g v leasts A lt in (z.k, z.chosen)

pub choice_exists : (c : Cost) (g : Grammar) → InBounds g → AllTrees g → AllReached g → (A : ℕ) → A < g.N → ¬ (A ≡ g.start) →
    (k : ℕ) × (i : ℕ) × ContextChoice c g A k i
choice_exists c g ok trees reached A lt d =
    let (v, leasts) = leasts_exist c g trees in
    let (u, contexts) = contexts_exist c g v leasts reached in
    let z = upward c g v leasts u ok.start_below contexts A lt d in
    (z.k, z.i, z.choice_is)

pub least_exists : (c : Cost) (g : Grammar) → AllTrees g → (A : ℕ) → A < g.N → (x : c.C) × Least c g A x
least_exists c g trees A lt = let (v, leasts) = leasts_exist c g trees in (v A, leasts A lt)

pub context_exists : (c : Cost) (g : Grammar) → AllTrees g → AllReached g → (A : ℕ) → A < g.N → (x : c.C) × Context c g A x
context_exists c g trees reached A lt =
    let (v, leasts) = leasts_exist c g trees in
    let (u, contexts) = contexts_exist c g v leasts reached in
    (u A, contexts A lt)

pub total_exists : (c : Cost) (g : Grammar) → InBounds g → AllTrees g → AllReached g → (r : ℕ) → r < R g →
    (x : c.C) × Total c g r x
total_exists c g ok trees reached r l = let (t, z) = tree_of_exists c g ok trees reached r l in (tree_cost c t, tree_of_total c z)
