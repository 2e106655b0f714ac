-- A table of leasts is its own certificate: figures v, one for each nonterminal, are the leasts exactly where v(A) is at most the
-- size of each rule of A and is that of some rule of A. These are local tests, that one pass over the words can make; and the
-- laws on the way are what the existence proofs build least trees with.
-- Below: any tree of A costs at least v(A), by induction on the tree. Attained: take the rule that attains v(A); its right side
-- costs less by that rule use, so its nonterminals have figures of lower rank, and by induction on the rank trees that cost their
-- figures; put together they are a tree of A that costs v(A). Back: a rule over least trees is a tree of A, so v(A) is at most
-- its size; and the rule at the root of a least tree attains, for the forest under it costs at least the sizes of its symbols.
-- Assumes nothing.
use Prim.Native.Nat.{ℕ, ◌≤◌, ◌<◌}
use native.Mathlib.Omega.{arith}
use native.Mathlib.Decide.{dec_lt}
use mathlib.Core.Path.{◌≡◌, refl, ap}
use mathlib.Core.Logic.{◌↔◌}
use mathlib.Core.List.Memᴰ
use mathlib.Core.List.{List, [], ◌∷◌}
use borrow.Author.Tests.{lt-ltb, le-ltb}
use Rattle.grammar.specs.Words.{Grammar, RuleAt}
use Rattle.grammar.specs.Tree.{Tree, Forest, node, nil, leaf, child, ◌∈◌}
use Rattle.grammar.specs.Measure.{Cost, tree_cost, forest_cost}
use Rattle.grammar.specs.Least.{Least, Sizes, no_symbols, terminal, nonterminal, RuleSize}
use Rattle.grammar.specs.Certificates.{symbol_size, word_size, LeastCertificate, Leasts}
use Rattle.grammar.proofs.BySize.{by_size}
use Rattle.grammar.proofs.CostOrder.{le_of_eq, rank_of_rule}
use Rattle.grammar.proofs.OpenEach.{Carries, forest_of}
use Rattle.grammar.proofs.SameListing.{tree_nonterminal}
use Rattle.grammar.proofs.Search.{in_cons}

module _ (c : Cost) (g : Grammar) where
  open c use {C, 𝟎, ◌⊕◌, ◌≼◌, tok, once, le_refl, le_trans, le_antisym, mono, rank, rank_add}

  infixl 60 ◌⊕◌
  infix 40 ◌≼◌
  -- a nonterminal counts its figure, a terminal what it costs
  pub symbol_nonterminal : (v : ℕ → C) (s : ℕ) → s < g.N → symbol_size c g v s ≡ v s
  unfolding symbol_size
  symbol_nonterminal v s h = rw (lt-ltb s g.N h)

  pub symbol_terminal : (v : ℕ → C) (s : ℕ) → g.N ≤ s → symbol_size c g v s ≡ tok s
  unfolding symbol_size
  symbol_terminal v s h = rw (le-ltb s g.N h)

  -- the tree, the forest, costs what the figures say
  abbrev pub CostsFigure : (ℕ → C) → (A : ℕ) → Tree g A → Type 0
  CostsFigure v A t = tree_cost c t ≡ v A

  abbrev pub CostsSizes : (ℕ → C) → (w : List ℕ) → Forest g w → Type 0
  CostsSizes v w f = forest_cost c f ≡ word_size c g v w

  -- trees that cost their figures make a forest that costs the sizes of its symbols
  pub costs_carry : (v : ℕ → C) → Carries (CostsFigure v) (CostsSizes v)
  unfolding tree_cost word_size
  costs_carry v = record {
    at_nil = refl;
    at_leaf = λ s w p f e. let e₁ = symbol_terminal v s p in cc;
    at_child = λ s w t f e e'. let e₁ = symbol_nonterminal v s (tree_nonterminal t) in cc;
  }

  member_rank : (v : ℕ → C) (w : List ℕ) (B : ℕ) → B ∈ w → B < g.N → rank (v B) ≤ rank (word_size c g v w)
  unfolding word_size
  member_rank v [] B m lt = absurd (Memᴰ.not-nil m)
  member_rank v (s ∷ w) B m lt =
      let sum = rank_add (symbol_size c g v s) (word_size c g v w) in
      in_cons (λ A. A < g.N → rank (v A) ≤ rank (symbol_size c g v s ⊕ word_size c g v w))
      (λ l. omega (arith, ap rank (symbol_nonterminal v s l))) (λ A a l. omega (arith, member_rank v w A a l)) B m lt

  -- the nonterminals of a rule that attains v(A) have figures of lower rank
  pub rank_falls : (v : ℕ → C) {A B : ℕ} {w : List ℕ} → v A ≡ once ⊕ word_size c g v w → B ∈ w → B < g.N → rank (v B) < rank (v A)
  rank_falls v {B = B} {w = w} e m lt = omega (arith, rank_of_rule c e, member_rank v w B m lt)

  module _ (v : ℕ → C) (cert : LeastCertificate c g v) where
    mutual
      unfolding tree_cost word_size

      tree_above : {A : ℕ} (t : Tree g A) → v A ≼ tree_cost c t
      tree_above (node {A} {w} k h f) = le_trans (cert.below k A w h) (mono (le_refl once) (forest_above f))

      forest_above : {w : List ℕ} (f : Forest g w) → word_size c g v w ≼ forest_cost c f
      forest_above nil = le_refl 𝟎
      forest_above (leaf {s} p f) = mono (le_of_eq c (symbol_terminal v s p)) (forest_above f)
      forest_above (child {s} t f) =
          mono (le_trans (le_of_eq c (symbol_nonterminal v s (tree_nonterminal t))) (tree_above t)) (forest_above f)

    attaining_tree : (A : ℕ) → A < g.N → (t : Tree g A) × (tree_cost c t ≡ v A)
    unfolding tree_cost
    attaining_tree = by_size (λ A. rank (v A)) (λ A. A < g.N → (t : Tree g A) × CostsFigure v A t) (λ A lower lt.
        let (k, w, r, e) = cert.attained A lt in
        let (f, e₁) = forest_of (costs_carry v) w (λ B m l. lower B (rank_falls v e m l) l) in
        (node k r f, cc))

    certified : Leasts c g v
    certified A lt = let (t, e) = attaining_tree A lt in record { tree = t; costs = e; smallest = tree_above }

  -- where v is the least of each nonterminal of w, the sizes of w are the least cost of a forest of w
  abbrev pub Known : (ℕ → C) → List ℕ → Type 0
  Known v w = (B : ℕ) → B ∈ w → B < g.N → Least c g B (v B)

  -- some forest of w costs them
  pub known_forest : (v : ℕ → C) (w : List ℕ) → Known v w → (f : Forest g w) × (forest_cost c f ≡ word_size c g v w)
  known_forest v w known = forest_of (costs_carry v) w (λ B m lt. ((known B m lt).tree, (known B m lt).costs))

  -- and every forest of w costs at least them
  pub known_least : (v : ℕ → C) {w : List ℕ} (f : Forest g w) → Known v w → word_size c g v w ≼ forest_cost c f
  unfolding word_size tree_cost
  known_least v nil known = le_refl 𝟎
  known_least v (leaf {s} p f) known =
      mono (le_of_eq c (symbol_terminal v s p)) (known_least v f (λ B m lt. known B (Memᴰ.tail m) lt))
  known_least v (child {s} t f) known =
      let lt = tree_nonterminal t in
      mono (le_trans (le_of_eq c (symbol_nonterminal v s lt)) ((known s (Memᴰ.head refl) lt).smallest t))
      (known_least v f (λ B m l. known B (Memᴰ.tail m) l))

  -- figures that are the leasts, as functions: what the relations of specs/Least say in their terms
  module _ (v : ℕ → C) (leasts : Leasts c g v) where
    -- the sizes of symbols, by figures, are those of specs/Least
    pub word_sizes : (w : List ℕ) → Sizes c g w (word_size c g v w)
    unfolding word_size
    word_sizes [] = no_symbols
    word_sizes (s ∷ w) = go (dec_lt s g.N) (word_sizes w)
      where
        go : Dec (s < g.N) → Sizes c g w (word_size c g v w) → Sizes c g (s ∷ w) (symbol_size c g v s ⊕ word_size c g v w)
        go (yes lt) h = rw (symbol_nonterminal v s lt) (nonterminal lt (leasts s lt) h)
        go (no ge) h = let le : g.N ≤ s = omega arith in rw (symbol_terminal v s le) (terminal le h)

    -- and so is the size of a rule
    pub rule_size : (k A : ℕ) (w : List ℕ) → RuleAt g k A w → RuleSize c g A k (once ⊕ word_size c g v w)
    rule_size k A w r = record { w = w; rule = r; others = word_size c g v w; sizes = word_sizes w; is = refl }

    -- symbols have a forest that costs their sizes, and none that costs less
    pub least_forest : (w : List ℕ) → (f : Forest g w) × (forest_cost c f ≡ word_size c g v w)
    least_forest w = known_forest v w (λ B m lt. leasts B lt)

    pub forest_least : {w : List ℕ} (f : Forest g w) → word_size c g v w ≼ forest_cost c f
    forest_least f = known_least v f (λ B m lt. leasts B lt)

    rule_above : (k A : ℕ) (w : List ℕ) → RuleAt g k A w → v A ≼ once ⊕ word_size c g v w
    unfolding tree_cost
    rule_above k A w r =
        let (f, e) = least_forest w in
        le_trans ((leasts A r.left).smallest (node k r f)) (le_of_eq c (ap (λ d. once ⊕ d) e))

    root_attains : {A : ℕ} (t : Tree g A) → tree_cost c t ≡ v A →
        (k : ℕ) × (w : List ℕ) × RuleAt g k A w × (v A ≡ once ⊕ word_size c g v w)
    unfolding tree_cost
    root_attains (node {A} {w} k r f) e =
        (k, w, r, le_antisym (rule_above k A w r) (le_trans (mono (le_refl once) (forest_least f)) (le_of_eq c e)))

    certifies : LeastCertificate c g v
    certifies = record { below = rule_above; attained = λ A lt. root_attains (leasts A lt).tree (leasts A lt).costs }

  -- THE CERTIFICATE: figures pass the local tests exactly where they are the leasts
  pub least_certificate : (v : ℕ → C) → LeastCertificate c g v ↔ Leasts c g v
  least_certificate v = (certified v, certifies v)
