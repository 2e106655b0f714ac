-- What each move of `replay` does to what is left of the form: terminals in front only come in front of the sentence; a
-- nonterminal in front is opened by the next number, or the list stops there; and an empty form is complete.
-- Assumes nothing.
use mathlib.Core.Path.{◌≡◌, refl, sym, ap, ◌∙◌}
use mathlib.Core.Bool.{Bool, true, false}
use mathlib.Core.List.{List, [], ◌∷◌, ◌++◌}
use mathlib.Core.Option.{Option, some, none}
use Prim.Native.Nat.{ℕ, zero, suc, ◌+◌, ◌≤◌, ◌<◌}
use native.Mathlib.Nat.{not-suc-le-zero, le_of_suc-le-suc}
use native.Mathlib.Numerals.{add-one}
use native.Mathlib.Omega.{arith}
use lib.Dec.{eqb}
use lib.ListN.{length, get_elem?, get_or, drop, drop_of_length-le}
use lib.Seq.{drop-cons}
use borrow.Author.Tests.{eqb-true, eq-eqb, lt-ltb, le-ltb}
use Rattle.grammar.specs.Words.{Grammar, Rule, RuleAt, R}
use Rattle.grammar.specs.Replaying.{Replayed, derived, stopped, replayed, stepped, complete?, before, where_true, ending}
use Rattle.replay.specs.ReplaySteps.{front, all_front}

-- no rule has a number from R on
past_rules : (rs : List Rule) (k : ℕ) → length rs ≤ k → get_elem? rs k ≡ none
past_rules [] k h = refl
past_rules (ρ ∷ rs) zero h = absurd (not-suc-le-zero h)
past_rules (ρ ∷ rs) (suc k) h = past_rules rs k (le_of_suc-le-suc h)

-- another left side
not_opened : (s A : ℕ) (w : List ℕ) → ¬ (A ≡ s) → where_true (eqb s A) w ≡ none
not_opened s A w h = go (eqb s A) refl
  where
    go : (b : Bool) → eqb s A ≡ b → where_true b w ≡ none
    go true e = absurd (h (sym (eqb-true s A e)))
    go false e = refl

-- tokens in front
pub all_front_append : (ts us : List ℕ) (z : Replayed) → all_front (ts ++ us) z ≡ all_front ts (all_front us z)
all_front_append [] us z = refl
all_front_append (t ∷ ts) us z = ap (front t) (all_front_append ts us z)

pub all_front_derived : (ts : List ℕ) → all_front ts (derived []) ≡ derived ts
all_front_derived [] = refl
all_front_derived (t ∷ ts) = ap (front t) (all_front_derived ts)

pub all_front_stopped : (ts : List ℕ) (p : ℕ) → all_front ts (stopped p) ≡ stopped p
all_front_stopped [] p = refl
all_front_stopped (t ∷ ts) p = ap (front t) (all_front_stopped ts p)

module _ (g : Grammar) where
  stepped_terminal : (k s : ℕ) (σ : List ℕ) → g.N ≤ s → stepped g k (s ∷ σ) ≡ before s (stepped g k σ)
  unfolding stepped
  stepped_terminal k s σ h = rw (le-ltb s g.N h)

  stepped_open : (k s : ℕ) (σ w : List ℕ) → RuleAt g k s w → stepped g k (s ∷ σ) ≡ some (w ++ σ)
  unfolding stepped
  stepped_open k s σ w r = rw (lt-ltb s g.N r.left, r.stands, eq-eqb s s refl)

  stepped_other : (k s A : ℕ) (σ w : List ℕ) → s < g.N → RuleAt g k A w → ¬ (A ≡ s) → stepped g k (s ∷ σ) ≡ none
  unfolding stepped
  stepped_other k s A σ w l r h = rw (lt-ltb s g.N l, r.stands) (not_opened s A (w ++ σ) h)

  stepped_past : (k s : ℕ) (σ : List ℕ) → s < g.N → R g ≤ k → stepped g k (s ∷ σ) ≡ none
  unfolding stepped
  stepped_past k s σ l h = rw (lt-ltb s g.N l, past_rules g.rules k h)

  stepped_nothing : (k : ℕ) → stepped g k [] ≡ none
  unfolding stepped
  stepped_nothing k = refl

  -- what a step's form comes to
  abbrev after : List ℕ → ℕ → Option (List ℕ) → Replayed
  after ks p o = elim o as (λ _. Replayed) [ some τ ↦ replayed g ks (suc p) τ | none ↦ stopped p ]

  stepping : (k : ℕ) (ks : List ℕ) (p : ℕ) (σ τ : List ℕ) → stepped g k σ ≡ some τ →
      replayed g (k ∷ ks) p σ ≡ replayed g ks (suc p) τ
  unfolding replayed
  stepping k ks p σ τ e = ap (after ks p) e

  stuck : (k : ℕ) (ks : List ℕ) (p : ℕ) (σ : List ℕ) → stepped g k σ ≡ none → replayed g (k ∷ ks) p σ ≡ stopped p
  unfolding replayed
  stuck k ks p σ e = ap (after ks p) e

  replayed_token : (ks : List ℕ) (p s : ℕ) (σ : List ℕ) → g.N ≤ s → replayed g ks p (s ∷ σ) ≡ front s (replayed g ks p σ)
  unfolding replayed complete?
  replayed_token [] p s σ h = rw (le-ltb s g.N h) (go (complete? g σ))
    where
      go : (b : Bool) → ending b (s ∷ σ) p ≡ front s (ending b σ p)
      go true = refl
      go false = refl
  replayed_token (k ∷ ks) p s σ h = go (stepped g k σ) refl (λ τ. replayed_token ks (suc p) s τ h)
    where
      go : (o : Option (List ℕ)) → stepped g k σ ≡ o →
          ((τ : List ℕ) → replayed g ks (suc p) (s ∷ τ) ≡ front s (replayed g ks (suc p) τ)) →
          replayed g (k ∷ ks) p (s ∷ σ) ≡ front s (replayed g (k ∷ ks) p σ)
      go none e below =
          stuck k ks p (s ∷ σ) (stepped_terminal k s σ h ∙ ap (before s) e) ∙ ap (front s) (sym (stuck k ks p σ e))
      go (some τ) e below =
          stepping k ks p (s ∷ σ) (s ∷ τ) (stepped_terminal k s σ h ∙ ap (before s) e) ∙ below τ ∙
          ap (front s) (sym (stepping k ks p σ τ e))

  pub replayed_tokens : (ts ks : List ℕ) (p : ℕ) (σ : List ℕ) → ((i : ℕ) → i < length ts → g.N ≤ get_or ts i 0) →
      replayed g ks p (ts ++ σ) ≡ all_front ts (replayed g ks p σ)
  replayed_tokens [] ks p σ h = refl
  replayed_tokens (s ∷ ts) ks p σ h =
      replayed_token ks p s (ts ++ σ) (h 0 (omega arith)) ∙
      ap (front s) (replayed_tokens ts ks p σ (λ i l. h (suc i) (omega arith)))

  replayed_remains : (p s : ℕ) (σ : List ℕ) → s < g.N → replayed g [] p (s ∷ σ) ≡ stopped p
  unfolding replayed complete?
  replayed_remains p s σ h = rw (lt-ltb s g.N h)

  replayed_complete : (p : ℕ) → replayed g [] p [] ≡ derived []
  unfolding replayed complete?
  replayed_complete p = refl

  -- with next numbers of the list used
  module _ (list : List ℕ) (next : ℕ) where
    abbrev From : List ℕ → Replayed
    From σ = replayed g (drop next list) next σ

    following : next < length list → drop next list ≡ get_or list next 0 ∷ drop (next + 1) list
    following h = rw add-one (drop-cons list next 0 h)

    from_following : (σ : List ℕ) → next < length list →
        From σ ≡ replayed g (get_or list next 0 ∷ drop (next + 1) list) next σ
    from_following σ h = ap (λ (ks : List ℕ). replayed g ks next σ) (following h)

    from_none : (σ : List ℕ) → length list ≤ next → From σ ≡ replayed g [] next σ
    from_none σ h = ap (λ (ks : List ℕ). replayed g ks next σ) (drop_of_length-le list h)

    pub opens : (s : ℕ) (σ w : List ℕ) → next < length list → RuleAt g (get_or list next 0) s w →
        From (s ∷ σ) ≡ replayed g (drop (next + 1) list) (next + 1) (w ++ σ)
    opens s σ w h r =
        from_following (s ∷ σ) h ∙ stepping _ _ next (s ∷ σ) (w ++ σ) (stepped_open _ s σ w r) ∙
        ap (λ (p : ℕ). replayed g (drop (next + 1) list) p (w ++ σ)) (sym (add-one next))

    pub stops_other : (s A : ℕ) (σ w : List ℕ) → next < length list → s < g.N → RuleAt g (get_or list next 0) A w → ¬ (A ≡ s) →
        From (s ∷ σ) ≡ stopped next
    stops_other s A σ w h l r ne = from_following (s ∷ σ) h ∙ stuck _ _ next (s ∷ σ) (stepped_other _ s A σ w l r ne)

    pub stops_past : (s : ℕ) (σ : List ℕ) → next < length list → s < g.N → R g ≤ get_or list next 0 → From (s ∷ σ) ≡ stopped next
    stops_past s σ h l ge = from_following (s ∷ σ) h ∙ stuck _ _ next (s ∷ σ) (stepped_past _ s σ l ge)

    pub stops_remaining : (s : ℕ) (σ : List ℕ) → length list ≤ next → s < g.N → From (s ∷ σ) ≡ stopped next
    stops_remaining s σ h l = from_none (s ∷ σ) h ∙ replayed_remains next s σ l

    pub stops_empty : next < length list → From [] ≡ stopped next
    stops_empty h = from_following [] h ∙ stuck _ _ next [] (stepped_nothing _)

    pub completes : length list ≤ next → From [] ≡ derived []
    completes h = from_none [] h ∙ replayed_complete next
