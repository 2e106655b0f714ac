-- Replay can be computed: a function that gives the sentence exactly where the numbers derive one, and the place exactly where
-- they stop. So a list derives one sentence at most, stops at one place at most, and never both; and the program's replay is
-- right once it is shown to give this function's answer.
-- A leftmost step by k is computed by passing the terminals and opening the first nonterminal, if k is a rule of it; the form
-- that is computed is the only one that a leftmost step by k leads to. Then both laws go by induction: on the numbers from the
-- function to the derivation, on the derivation back.
-- Assumes nothing.
use mathlib.Core.Path.{◌≡◌, refl, sym, ap, ◌∙◌}
use mathlib.Core.Bool.{Bool, true, false, false≢true}
use mathlib.Core.Logic.{◌↔◌}
use mathlib.Core.List.{List, [], ◌∷◌, ◌++◌}
use mathlib.Core.Option.{Option, some, none}
use Prim.Native.Nat.{ℕ, suc, ◌+◌, ◌≤◌, ◌<◌}
use native.Mathlib.Nat.{zero-add}
use native.Mathlib.Omega.{arith}
use lib.Dec.{eqb, ltb}
use lib.ListN.{length, get_elem?}
use borrow.Author.Tests.{eqb-true, eq-eqb, ltb-true, ltb-false, lt-ltb, le-ltb}
use Rattle.grammar.specs.Words.{Grammar, Rule, ◌⟶◌}
use Rattle.grammar.specs.Derivation.{Terminals, LeftStep, left, Leftmost, done, next, Start, Derives, Halts, remain, inapt}
use Rattle.grammar.specs.Derivation.{StopsAt}
use Rattle.grammar.specs.Replaying.{Replayed, derived, stopped, before, where_true, opened, at_symbol, stepped, neither, complete?, ending}
use Rattle.grammar.specs.Replaying.{replayed, replay}
use Rattle.grammar.proofs.ConstructorsDiffer.{none_not_some}
use Rattle.grammar.proofs.Leftmosts.{left_before}

derived_not_stopped : {t : List ℕ} {p : ℕ} → derived t ≡ stopped p → ⊥
derived_not_stopped e = let z : ◌≡◌ {A = ℕ} 0 1 = cc in omega arith

never_some : {X : Type 0} (o : Option X) → ((a : X) → ¬ (o ≡ some a)) → o ≡ none
never_some none h = refl
never_some (some a) h = absurd (h a refl)

before-some : (x : ℕ) (o : Option (List ℕ)) (ys : List ℕ) → before x o ≡ some ys →
    (xs : List ℕ) × (o ≡ some xs) × (ys ≡ x ∷ xs)
before-some x none ys e = absurd (none_not_some e)
before-some x (some xs) ys e = (xs, refl, cc)

module _ (g : Grammar) where
  opened_step : (k A : ℕ) (β τ : List ℕ) (o : Option Rule) → A < g.N → get_elem? g.rules k ≡ o → opened A β o ≡ some τ →
      LeftStep g k (A ∷ β) τ
  opened_step k A β τ none lt h e = absurd (none_not_some e)
  opened_step k A β τ (some (B ⟶ α)) lt h e = go (eqb A B) refl e
    where
      go : (b : Bool) → eqb A B ≡ b → where_true b (α ++ β) ≡ some τ → LeftStep g k (A ∷ β) τ
      go true t e =
          let q : α ++ β ≡ τ = cc in
          let same : A ≡ B = eqb-true A B t in
          rw (← q) (left [] {A = A} {α = α} β tt (record { stands = rw same h; left = lt }))
      go false t e = absurd (none_not_some e)

  -- a step that is computed is a leftmost step, and the only one
  stepped_left : (k : ℕ) (σ τ : List ℕ) → stepped g k σ ≡ some τ → LeftStep g k σ τ
  unfolding stepped
  stepped_left k [] τ e = absurd (none_not_some e)
  stepped_left k (s ∷ σ) τ e = go (λ τ' e'. stepped_left k σ τ' e') (ltb s g.N) refl e
    where
      go : ((τ' : List ℕ) → stepped g k σ ≡ some τ' → LeftStep g k σ τ') → (b : Bool) → ltb s g.N ≡ b →
          at_symbol b s (opened s σ (get_elem? g.rules k)) (stepped g k σ) ≡ some τ → LeftStep g k (s ∷ σ) τ
      go below true t e = opened_step k s σ τ (get_elem? g.rules k) (ltb-true s g.N t) refl e
      go below false t e =
          let (τ', e', q) = before-some s (stepped g k σ) τ e in
          rw q (left_before (s ∷ []) (ltb-false s g.N t, tt) (below τ' e'))

  left_stepped : {k : ℕ} {σ τ : List ℕ} → LeftStep g k σ τ → stepped g k σ ≡ some τ
  unfolding stepped
  left_stepped {k} (left w {A = A} {α = α} β T r) = go w T
    where
      go : (w : List ℕ) → Terminals g w → stepped g k (w ++ A ∷ β) ≡ some (w ++ (α ++ β))
      go [] T = rw (lt-ltb A g.N r.left, r.stands, eq-eqb A A refl)
      go (a ∷ w) T = rw (le-ltb a g.N T.0, go w T.1)

  complete_true : (σ : List ℕ) → Terminals g σ → complete? g σ ≡ true
  unfolding complete?
  complete_true [] T = refl
  complete_true (s ∷ σ) T = rw (le-ltb s g.N T.0, complete_true σ T.1)

  true_complete : (σ : List ℕ) → complete? g σ ≡ true → Terminals g σ
  unfolding complete?
  true_complete [] e = tt
  true_complete (s ∷ σ) e = go (λ e'. true_complete σ e') (ltb s g.N) refl e
    where
      go : (complete? g σ ≡ true → Terminals g σ) → (b : Bool) → ltb s g.N ≡ b → neither b (complete? g σ) ≡ true →
          (g.N ≤ s) × Terminals g σ
      go below true t e = absurd (false≢true e)
      go below false t e = (ltb-false s g.N t, below e)

  replayed-derived : (ks : List ℕ) (p : ℕ) (σ t : List ℕ) → replayed g ks p σ ≡ derived t → Leftmost g σ ks t × Terminals g t
  unfolding replayed
  replayed-derived [] p σ t e = go (complete? g σ) refl e
    where
      go : (b : Bool) → complete? g σ ≡ b → ending b σ p ≡ derived t → Leftmost g σ [] t × Terminals g t
      go true h e = let q : σ ≡ t = cc in rw (← q) (done, true_complete σ h)
      go false h e = absurd (derived_not_stopped (sym e))
  replayed-derived (k ∷ ks) p σ t e = go (λ τ e'. replayed-derived ks (suc p) τ t e') (stepped g k σ) refl e
    where
      go : ((τ : List ℕ) → replayed g ks (suc p) τ ≡ derived t → Leftmost g τ ks t × Terminals g t) → (o : Option (List ℕ)) →
          stepped g k σ ≡ o → elim o as (λ _. Replayed) [ some τ ↦ replayed g ks (suc p) τ | none ↦ stopped p ] ≡ derived t →
          Leftmost g σ (k ∷ ks) t × Terminals g t
      go below (some τ) h e = let z = below τ e in (next (stepped_left k σ τ h) z.0, z.1)
      go below none h e = absurd (derived_not_stopped (sym e))

  derived-replayed : {ks σ t : List ℕ} (p : ℕ) → Leftmost g σ ks t → Terminals g t → replayed g ks p σ ≡ derived t
  unfolding replayed
  derived-replayed {σ = σ} p done T = rw (complete_true σ T)
  derived-replayed p (next s d) T = rw (left_stepped s, replayed) (derived-replayed (suc p) d T)

  -- EXACT: the replay is the sentence t exactly where the numbers derive t
  pub replay_exact : (ks t : List ℕ) → (replay g ks ≡ derived t) ↔ Derives g ks t
  unfolding replay
  replay_exact ks t = (
    λ e. let z = replayed-derived ks 0 (Start g) t e in record { leftmost = z.0; complete = z.1 },
    λ d. derived-replayed 0 d.leftmost d.complete,
  )

  -- from σ the numbers ks stop after k of them
  record Stops (σ ks : List ℕ) (k : ℕ) : Type 0 where
    applied : List ℕ
    others : List ℕ
    form : List ℕ
    all : ks ≡ applied ++ others
    place : k ≡ length applied
    leads : Leftmost g σ applied form
    halts : Halts g form others

  -- at once, and after one more number
  stops_now : {σ ks : List ℕ} → Halts g σ ks → Stops σ ks 0
  stops_now {σ} {ks} halts =
      record { applied = []; others = ks; form = σ; all = refl; place = refl; leads = done; halts = halts }

  stops_later : {j n : ℕ} {σ τ ks : List ℕ} → LeftStep g j σ τ → Stops τ ks n → Stops σ (j ∷ ks) (suc n)
  stops_later {j} s z = record {
    applied = j ∷ z.applied;
    others = z.others;
    form = z.form;
    all = ap (j ∷◌) z.all;
    place = ap suc z.place;
    leads = next s z.leads;
    halts = z.halts;
  }

  -- the same with places counted from p: it is q
  abbrev StopsFrom : List ℕ → ℕ → List ℕ → ℕ → Type 0
  StopsFrom ks p σ q = (k : ℕ) × (q ≡ p + k) × Stops σ ks k

  replayed-stopped : (ks : List ℕ) (p : ℕ) (σ : List ℕ) (q : ℕ) → replayed g ks p σ ≡ stopped q → StopsFrom ks p σ q
  unfolding replayed
  replayed-stopped [] p σ q e = go (complete? g σ) refl e
    where
      go : (b : Bool) → complete? g σ ≡ b → ending b σ p ≡ stopped q → StopsFrom [] p σ q
      go true h e = absurd (derived_not_stopped e)
      go false h e =
          let same : p ≡ q = cc in
          (0, omega arith, stops_now (remain (λ T. false≢true (sym h ∙ complete_true σ T))))
  replayed-stopped (k ∷ ks) p σ q e = go (λ τ e'. replayed-stopped ks (suc p) τ q e') (stepped g k σ) refl e
    where
      go : ((τ : List ℕ) → replayed g ks (suc p) τ ≡ stopped q → StopsFrom ks (suc p) τ q) → (o : Option (List ℕ)) →
          stepped g k σ ≡ o → elim o as (λ _. Replayed) [ some τ ↦ replayed g ks (suc p) τ | none ↦ stopped p ] ≡ stopped q →
          StopsFrom (k ∷ ks) p σ q
      go below (some τ) h e =
          let (n, at, z) = below τ e in
          (suc n, omega arith, stops_later (stepped_left k σ τ h) z)
      go below none h e =
          let same : p ≡ q = cc in
          (0, omega arith, stops_now (inapt (λ τ s. none_not_some (sym h ∙ left_stepped s))))

  stopped-replayed : {ps : List ℕ} (qs : List ℕ) (p : ℕ) {σ τ : List ℕ} → Leftmost g σ ps τ → Halts g τ qs →
      replayed g (ps ++ qs) p σ ≡ stopped (p + length ps)
  unfolding replayed
  stopped-replayed qs p {σ} done (remain n) = go (complete? g σ) refl
    where
      go : (b : Bool) → complete? g σ ≡ b → ending (complete? g σ) σ p ≡ stopped (p + 0)
      go true h = absurd (n (true_complete σ h))
      go false h = rw h (ap stopped (omega arith))
  stopped-replayed qs p {σ} done (inapt {k} n) =
      rw (never_some (stepped g k σ) (λ τ e. n τ (stepped_left k σ τ e)), replayed) (ap stopped (omega arith))
  stopped-replayed qs p (next {ks = ks} s d) h =
      rw (left_stepped s, replayed) (stopped-replayed qs (suc p) d h ∙ ap stopped (omega arith))

  -- EXACT: it stops at p exactly where the numbers stop at p
  pub replay_stops : (ks : List ℕ) (p : ℕ) → (replay g ks ≡ stopped p) ↔ StopsAt g ks p
  unfolding replay
  replay_stops ks p = (to, from)
    where
      to : replay g ks ≡ stopped p → StopsAt g ks p
      to e =
          let (n, at, z) = replayed-stopped ks 0 (Start g) p e in
          record {
            applied = z.applied;
            others = z.others;
            form = z.form;
            all = z.all;
            place = at ∙ zero-add n ∙ z.place;
            leads = z.leads;
            halts = z.halts;
          }

      from : StopsAt g ks p → replay g ks ≡ stopped p
      from z =
          let run = stopped-replayed z.others 0 z.leads z.halts in
          rw (z.all, z.place) (run ∙ ap stopped (zero-add (length z.applied)))

  -- a list of numbers derives one sentence at most, stops at one place at most, and never both
  pub derives_unique : {ks t u : List ℕ} → Derives g ks t → Derives g ks u → t ≡ u
  derives_unique {ks} {t} {u} d e = let a = (replay_exact ks t).1 d in let b = (replay_exact ks u).1 e in cc

  pub stops_unique : {ks : List ℕ} {p q : ℕ} → StopsAt g ks p → StopsAt g ks q → p ≡ q
  stops_unique {ks} {p} {q} d e = let a = (replay_stops ks p).1 d in let b = (replay_stops ks q).1 e in cc

  pub derives_or_stops : {ks t : List ℕ} {p : ℕ} → Derives g ks t → StopsAt g ks p → ⊥
  derives_or_stops {ks} {t} {p} d e = derived_not_stopped (sym ((replay_exact ks t).1 d) ∙ (replay_stops ks p).1 e)
