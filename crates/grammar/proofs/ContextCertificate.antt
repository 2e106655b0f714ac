-- Contexts are certified as leasts are, upwards: over leasts v, figures u are the contexts exactly where u is 𝟎 at the start,
-- u(A) is at most what each rule that names A comes to (u of its left side, 1, and the sizes of its other symbols), and for each
-- nonterminal but the start is one of these. The tables of contexts are checked by these local tests, and the context choices are
-- found through them.
-- Below: any open tree of A costs at least u(A), by induction on it from the start down. Attained: take a rule and a place that
-- attain u(A); u of its left side has the lower rank, so by induction on the rank there is an open tree that costs it; put the
-- rule there, with least trees beside the place. Back: a rule put under a least open tree, beside least trees, is an open tree of
-- A; and the last rule of a least open tree attains.
-- Assumes nothing.
use Prim.Native.Nat.{ℕ, zero, suc, ◌≤◌, ◌<◌}
use native.Mathlib.Omega.{arith}
use native.Mathlib.Decide.{dec_lt, ℕ_discrete}
use mathlib.Core.Path.{◌≡◌, refl, sym}
use mathlib.Core.Logic.{◌↔◌}
use mathlib.Core.List.{List, [], ◌∷◌}
use Rattle.grammar.specs.Words.{Grammar, RuleAt}
use Rattle.grammar.specs.Tree.{Gap, here, past_leaf, past_child, Open, root, down}
use Rattle.grammar.specs.Measure.{Cost, gap_cost, open_cost}
use Rattle.grammar.specs.Least.{Beside, at_place, past_terminal, past_nonterminal, Candidate}
use Rattle.grammar.proofs.ConstructorsDiffer.{none_not_some}
use Rattle.grammar.proofs.BySize.{by_size}
use Rattle.grammar.proofs.CostOrder.{le_of_eq, rank_of_context}
use Rattle.grammar.proofs.OpenEach.{CarriesGap, gap_of}
use Rattle.grammar.proofs.SameListing.{tree_nonterminal}
use Rattle.grammar.proofs.Dead.{gap_nonterminal}
use Rattle.grammar.specs.Certificates.{symbol_size, Leasts}
use Rattle.grammar.specs.Certificates.{Holds, others_size, Attained, ContextCertificate, Contexts}
use Rattle.grammar.proofs.Certificate.{symbol_nonterminal, symbol_terminal}
use Rattle.grammar.proofs.Certificate.{CostsFigure, CostsSizes, costs_carry, word_sizes, forest_least}

-- a gap at place i of w, for A, is where w holds A
pub gap_holds : {g : Grammar} {w : List ℕ} {i A : ℕ} → Gap g w i A → Holds w i A
gap_holds (here p f) = refl
gap_holds (past_leaf p a) = gap_holds a
gap_holds (past_child t a) = gap_holds a

module _ (c : Cost) (g : Grammar) (v : ℕ → c.C) where
  open c use {C, 𝟎, ◌⊕◌, ◌≼◌, once, le_refl, le_trans, le_antisym, least, mono, rank}

  infixl 60 ◌⊕◌
  infix 40 ◌≼◌
  -- trees that cost their figures leave a gap that costs the sizes of the other symbols
  abbrev CostsOthers : (w : List ℕ) (i A : ℕ) → Gap g w i A → Type 0
  CostsOthers w i A a = gap_cost c a ≡ others_size c g v w i

  gap_costs_carry : CarriesGap (CostsFigure c g v) (CostsSizes c g v) CostsOthers
  unfolding others_size gap_cost
  gap_costs_carry = record {
    at_here = λ A w p f e. e;
    at_past_leaf = λ s i A w p a e. let e₁ = symbol_terminal c g v s p in cc;
    at_past_child = λ s i A w t a e e'. let e₁ = symbol_nonterminal c g v s (tree_nonterminal t) in cc;
  }

  module _ (leasts : Leasts c g v) where
    -- what stands beside a gap costs at least the sizes of the other symbols
    pub gap_above : {w : List ℕ} {i A : ℕ} (a : Gap g w i A) → others_size c g v w i ≼ gap_cost c a
    unfolding others_size gap_cost
    gap_above (here p f) = forest_least c g v leasts f
    gap_above (past_leaf {s} p a) = mono (le_of_eq c (symbol_terminal c g v s p)) (gap_above a)
    gap_above (past_child {s} t a) =
        let lt = tree_nonterminal t in
        mono (le_trans (le_of_eq c (symbol_nonterminal c g v s lt)) ((leasts s lt).smallest t)) (gap_above a)

    -- and wherever w holds a nonterminal there is a gap with just that cost
    pub least_gap : (w : List ℕ) (i A : ℕ) → A < g.N → Holds w i A → (a : Gap g w i A) × (gap_cost c a ≡ others_size c g v w i)
    least_gap = gap_of (costs_carry c g v) gap_costs_carry (λ A lt. ((leasts A lt).tree, (leasts A lt).costs))

    -- in the terms of specs/Least
    pub others_beside : (w : List ℕ) (i A : ℕ) → A < g.N → Holds w i A → Beside c g w i A (others_size c g v w i)
    unfolding others_size
    others_beside [] i A lt h = absurd (none_not_some h)
    others_beside (s ∷ w) zero A lt h = let e : s ≡ A = cc in rw e (at_place lt (word_sizes c g v leasts w))
    others_beside (s ∷ w) (suc i) A lt h = go (dec_lt s g.N) (others_beside w i A lt h)
      where
        go : Dec (s < g.N) → Beside c g w i A (others_size c g v w i) →
            Beside c g (s ∷ w) (suc i) A (symbol_size c g v s ⊕ others_size c g v w i)
        go (yes l) b = rw (symbol_nonterminal c g v s l) (past_nonterminal l (leasts s l) b)
        go (no ge) b = let le : g.N ≤ s = omega arith in rw (symbol_terminal c g v s le) (past_terminal le b)

    module _ (u : ℕ → C) (cert : ContextCertificate c g v u) where
      open_above : {A : ℕ} (x : Open g A) → u A ≼ open_cost c x
      unfolding open_cost
      open_above root = le_of_eq c cert.at_start
      open_above (down {A} {B} {i} {w} k r x a) =
          le_trans (cert.below k B w i A r (gap_holds a) (gap_nonterminal a))
          (mono (open_above x) (mono (le_refl once) (gap_above a)))

      attaining_open : (A : ℕ) → A < g.N → (x : Open g A) × (open_cost c x ≡ u A)
      unfolding open_cost
      attaining_open =
          by_size (λ A. rank (u A)) (λ A. A < g.N → (x : Open g A) × (open_cost c x ≡ u A))
          (λ A lower lt. go A lt lower (ℕ_discrete A g.start))
        where
          go : (A : ℕ) → A < g.N →
              ((B : ℕ) → rank (u B) < rank (u A) → B < g.N → (x : Open g B) × (open_cost c x ≡ u B)) → Dec (A ≡ g.start) →
              (x : Open g A) × (open_cost c x ≡ u A)
          go A lt lower (yes e) = rw e (root, sym cert.at_start)
          go A lt lower (no d) =
              let (k, B, w, i, r, p, e) = cert.attained A lt d in
              let (x, e₁) = lower B (rank_of_context c e) r.left in
              let (a, e₂) = least_gap w i A lt p in
              (down k r x a, cc)

      certified : Contexts c g v u
      certified A lt = let (x, e) = attaining_open A lt in record { tree = x; costs = e; smallest = open_above }

    module _ (u : ℕ → C) (within : g.start < g.N) (contexts : Contexts c g v u) where
      start_zero : u g.start ≡ 𝟎
      unfolding open_cost
      start_zero = le_antisym ((contexts g.start within).smallest root) (least (u g.start))

      place_above : (k B : ℕ) (w : List ℕ) (i A : ℕ) → RuleAt g k B w → Holds w i A → A < g.N →
          u A ≼ u B ⊕ (once ⊕ others_size c g v w i)
      unfolding open_cost
      place_above k B w i A r p lt =
          let (a, e) = least_gap w i A lt p in
          let z = contexts B r.left in
          let e' = z.costs in
          le_trans ((contexts A lt).smallest (down k r z.tree a)) (le_of_eq c cc)

      last_attains : {A : ℕ} (x : Open g A) → open_cost c x ≡ u A → ¬ (A ≡ g.start) → Attained c g v u A
      unfolding open_cost
      last_attains root e d = absurd (d refl)
      last_attains (down {A} {B} {i} {w} k r x a) e d =
          let above = place_above k B w i A r (gap_holds a) (gap_nonterminal a) in
          let parts = mono ((contexts B r.left).smallest x) (mono (le_refl once) (gap_above a)) in
          (k, B, w, i, r, gap_holds a, le_antisym above (le_trans parts (le_of_eq c e)))

      certifies : ContextCertificate c g v u
      certifies = record {
        at_start = start_zero;
        below = place_above;
        attained = λ A lt d. last_attains (contexts A lt).tree (contexts A lt).costs d;
      }

      -- what a rule and a place come to
      pub candidate : (k B : ℕ) (w : List ℕ) (i A : ℕ) → RuleAt g k B w → Holds w i A → A < g.N →
          Candidate c g A k i (u B ⊕ (once ⊕ others_size c g v w i))
      candidate k B w i A r p lt = record {
        B = B;
        w = w;
        rule = r;
        outer = u B;
        context = contexts B r.left;
        others = others_size c g v w i;
        beside = others_beside w i A lt p;
        is = refl;
      }

    -- THE CERTIFICATE: figures pass the local tests exactly where they are the contexts
    pub context_certificate : (u : ℕ → C) → g.start < g.N → ContextCertificate c g v u ↔ Contexts c g v u
    context_certificate u within = (certified u, certifies u within)
