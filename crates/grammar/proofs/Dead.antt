-- Rows 5 and 6 by sets of nonterminals, and what demand 3 calls dead. The settling of leasts ends in a stuck set, that of
-- contexts in a closed one, so these laws decide both rows.
-- No tree: if every rule of a member names a member, no member has a tree; a tree of a member has, under its root, one of a
-- member. Not reached: a set that has the start, and with B every nonterminal that a rule of B names, has every nonterminal of
-- every form derived from the start, by induction on the steps. Taken of the set of those with an open tree, it gives an open
-- tree to each nonterminal that is reached; so, where all have trees, each that is reached stands in a complete tree of the
-- start.
-- Assumes nothing.
use Prim.Native.Nat.{ℕ, ◌<◌}
use mathlib.Core.Path.{◌≡◌, refl, sym, ap, subst}
use mathlib.Core.Logic.{◌⊎◌, inl, inr, ◌↔◌}
use mathlib.Core.List.Memᴰ
use mathlib.Core.List.{List, [], ◌∷◌, ◌++◌, append_assoc}
use Rattle.grammar.specs.Words.{Grammar}
use Rattle.grammar.specs.Derivation.{Step, step, Steps, none, more, Start}
use Rattle.grammar.specs.Tree.{Tree, Forest, Gap, here, past_leaf, past_child, Open, root, down, plug, StandsIn, ◌∈◌}
use Rattle.grammar.specs.Refusals.{AllTrees, Reached, AllReached}
use Rattle.grammar.specs.Certificates.{Holds, Stuck, Closed}
use Rattle.grammar.proofs.Places.{place_of_lem}
use Rattle.grammar.proofs.OpenEach.{Carries, CarriesGap, gap_of}
use Rattle.grammar.proofs.AlongMembers.{along_members}
use Rattle.grammar.proofs.Coverage.{steps_trans}

module _ (g : Grammar) where
  module _ (D : ℕ → Type 0) (stuck : Stuck g D) where
    -- NO TREE: a tree of a member would have one of a member under it, and so on without end
    pub stuck_no_tree : {A : ℕ} → D A → Tree g A → ⊥
    stuck_no_tree d t = along_members D (λ A u. ⊥) (λ w f. ⊥) (record {
      at_node = λ k A w r f a below. let z = stuck.names k A w r a in below z.0 z.1 z.2 z.3;
      from_first = λ s w u f h. h;
      past_child = λ s w u f h. h;
      past_leaf = λ s w p f h. h;
    }) t d

  module _ (U : ℕ → Type 0) (closed : Closed g U) where
    abbrev Inside : List ℕ → Type 0
    Inside σ = (A : ℕ) → A ∈ σ → A < g.N → U A

    inside_step : {σ τ : List ℕ} → Step g σ τ → Inside σ → Inside τ
    inside_step (step γ {k = k} {A = B} {α = α} β r) h A m lt = outer (Memᴰ.append_cases γ m)
      where
        inner : (A ∈ α) ⊎ (A ∈ β) → U A
        inner (inl n) = closed.names k B α A r (h B (Memᴰ.append_right γ (Memᴰ.head refl)) r.left) n lt
        inner (inr n) = h A (Memᴰ.append_right γ (Memᴰ.tail n)) lt

        outer : (A ∈ γ) ⊎ (A ∈ (α ++ β)) → U A
        outer (inl n) = h A (Memᴰ.append_left (B ∷ β) n) lt
        outer (inr n) = inner (Memᴰ.append_cases α n)

    inside_steps : {σ τ : List ℕ} → Steps g σ τ → Inside σ → Inside τ
    inside_steps none h = h
    inside_steps (more s d) h = inside_steps d (inside_step s h)

    at_start : Inside (Start g)
    at_start A m lt = go (Memᴰ.cases_cons m)
      where
        go : (A ≡ g.start) ⊎ A ∈ [] → U A
        go (inl e) = subst U (sym e) closed.start
        go (inr n) = absurd (Memᴰ.not-nil n)

    -- REACHED: every nonterminal that occurs in a form derived from the start is a member
    pub closed_reached : {A : ℕ} → Reached g A → A < g.N → U A
    closed_reached {A} z lt = inside_steps z.derived at_start A (Memᴰ.append_right z.γ (Memᴰ.head refl)) lt

-- what stands before a gap, and after it
gap_split : {g : Grammar} {w : List ℕ} {i A : ℕ} → Gap g w i A → (x : List ℕ) × (y : List ℕ) × (w ≡ x ++ A ∷ y)
gap_split (here {w = w} p f) = ([], w, refl)
gap_split (past_leaf {s} p a) = let z = gap_split a in (s ∷ z.0, z.1, ap (s ∷◌) z.2)
gap_split (past_child {s} t a) = let z = gap_split a in (s ∷ z.0, z.1, ap (s ∷◌) z.2)

-- what a gap leaves open is a nonterminal
pub gap_nonterminal : {g : Grammar} {w : List ℕ} {i A : ℕ} → Gap g w i A → A < g.N
gap_nonterminal (here p f) = p
gap_nonterminal (past_leaf p a) = gap_nonterminal a
gap_nonterminal (past_child t a) = gap_nonterminal a

-- a nonterminal with an open tree stands in a form derived from the start
pub open_reached : {g : Grammar} {A : ℕ} → Open g A → Reached g A
open_reached root = record { γ = []; β = []; derived = none }
open_reached {A = A} (down k r x a) =
    let z = open_reached x in
    let (front, behind, e) = gap_split a in
    let same = ap (λ (v : List ℕ). z.γ ++ (v ++ z.β)) e in
    record {
      γ = z.γ ++ front;
      β = behind ++ z.β;
      derived = steps_trans z.derived (more (step z.γ z.β r) (rw same (simp append_assoc none)));
    }

-- and where all have trees, one that stands in such a form has an open tree
module _ {g : Grammar} (trees : AllTrees g) where
  -- with nothing asked of the trees
  carries : Carries (λ (A : ℕ) (t : Tree g A). Unit {0}) (λ (w : List ℕ) (f : Forest g w). Unit {0})
  carries = record { at_nil = tt; at_leaf = λ s w p f h. tt; at_child = λ s w t f h k. tt }

  carries_gap : CarriesGap (λ (A : ℕ) (t : Tree g A). Unit {0}) (λ (w : List ℕ) (f : Forest g w). Unit {0})
      (λ (w : List ℕ) (i A : ℕ) (a : Gap g w i A). Unit {0})
  carries_gap = record {
    at_here = λ A w p f h. tt;
    at_past_leaf = λ s i A w p a h. tt;
    at_past_child = λ s i A w t a h k. tt;
  }

  some_gap : (w : List ℕ) (i A : ℕ) → A < g.N → Holds w i A → Gap g w i A
  some_gap w i A lt h = (gap_of carries carries_gap (λ B l. (trees B l, tt)) w i A lt h).0

  pub reached_open : {A : ℕ} → Reached g A → A < g.N → Open g A
  reached_open z lt = closed_reached g (Open g) (record {
    start = root;
    names = λ k B w A r x m l. let (i, at) = place_of_lem w A m in down k r x (some_gap w i A l at);
  }) z lt

-- DEAD: neither 5 nor 6 is met exactly where every nonterminal stands in some complete tree of the start
pub dead : (g : Grammar) → (AllTrees g × AllReached g) ↔ ((A : ℕ) → A < g.N → (t : Tree g g.start) × StandsIn g A t)
dead g = (to, from)
  where
    to : AllTrees g × AllReached g → (A : ℕ) → A < g.N → (t : Tree g g.start) × StandsIn g A t
    to h A lt =
        let x = reached_open h.0 (h.1 A lt) lt in
        let t = h.0 A lt in
        (plug x t, record { above = x; below = t; whole = refl })

    from : ((A : ℕ) → A < g.N → (t : Tree g g.start) × StandsIn g A t) → AllTrees g × AllReached g
    from h = (λ A lt. (h A lt).1.below, λ A lt. open_reached (h A lt).1.above)
