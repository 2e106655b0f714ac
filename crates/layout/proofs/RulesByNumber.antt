-- The rules of words by number: what is promised of any words, by the facts that decide it, and what that is where the words are
-- a grammar: the indexes found are the places of its rules, in order, and what stands at the place of rule k is rule k.
-- Assumes nothing.
use mathlib.Core.Path.{◌≡◌, refl, ap, sym, ◌∙◌}
use mathlib.Core.List.{List, [], ◌∷◌}
use Prim.Native.Nat.{ℕ, zero, suc, ◌+◌, ◌-◌, ◌≤◌, ◌<◌}
use native.Mathlib.Nat.{add-zero, zero-add}
use native.Mathlib.Decide.{dec_lt}
use native.Mathlib.Omega.{arith}
use lib.ListN.{length, take, drop, get_or, get_or-append}
use borrow.Author.Tests.{le-leb, lt-leb}
use lib.Seq.{ext_get_or}
use Rattle.answers.specs.Buffers.{over}
use Rattle.answers.specs.Lists.{tabulate}
use Rattle.answers.proofs.Tabulate.{length-tabulate, get_d_tabulate}
use Rattle.grammar.specs.Words.{Grammar, R, RuleAt, place_of, reads, layout}
use Rattle.layout.specs.Walk.{WalkPlace, count_at, walk_start, step_at, span_at, past_rule}
use Rattle.layout.specs.Rules.{places_by, places_from, right_at}
use Rattle.layout.specs.declared.walk.RuleSpan.{RuleSpan}
use Rattle.std.specs.Prelude.{Option, Some, None}
use Rattle.grammar.proofs.LayoutExact.{in_bounds, rule_at}
use Rattle.layout.proofs.RulePlaces as places
use Rattle.layout.proofs.WalkInOrder.{walk_before, walk_hands_rule, walk_ends}
use Rattle.layout.proofs.WalkSteps.{step_past_256, step_cut, step_rule}

module _ (ws : List ℕ) (at : ℕ) where
  -- no whole rule stands there
  pub right_cut : length ws < at + 2 + count_at ws at → right_at ws at ≡ []
  right_cut h = rw (lt-leb (at + 2 + count_at ws at) (length ws) h)

  pub right_whole : at + 2 + count_at ws at ≤ length ws → right_at ws at ≡ take (count_at ws at) (drop (at + 2) ws)
  right_whole h = rw (le-leb (at + 2 + count_at ws at) (length ws) h)

-- what a step that hands out a rule says of the walk's place before it and of the rule
pub record Handed (v : WalkPlace) (s : RuleSpan) : Type 0 where
  pub room : v.number < 256
  pub number : s.number ≡ v.number

module _ (ws : List ℕ) (v : WalkPlace) where
  pub handed : {s : RuleSpan} → step_at ws v ≡ Some s → Handed v s
  handed {s} e = go (dec_lt v.number 256) (dec_lt (length ws) (v.at + 2 + count_at ws v.at))
    where
      go : Dec (v.number < 256) → Dec (length ws < v.at + 2 + count_at ws v.at) → Handed v s
      go (yes h) (yes l) = absurd (let z : ◌≡◌ {A = ℕ} 0 1 = cc (step_cut ws v h l) in omega arith)
      go (yes h) (no l) =
          let same : Some s ≡ Some (span_at ws v) = sym e ∙ step_rule ws v h (omega arith) in
          let q : s ≡ span_at ws v = cc in
          record { room = h; number = ap (λ (x : RuleSpan). x.number) q }
      go (no h) l = absurd (let z : ◌≡◌ {A = ℕ} 0 1 = cc (step_past_256 ws v (omega arith)) in omega arith)

  pub starts_handed : (room : ℕ) {s : RuleSpan} → step_at ws v ≡ Some s →
      places_from (suc room) ws v ≡ v.at ∷ places_from room ws (past_rule s)
  unfolding places_from
  starts_handed room e = ap (λ (t : Option RuleSpan). places_by t v.at (λ u. places_from room ws u)) e

  pub starts_ended : (room : ℕ) → step_at ws v ≡ None → places_from room ws v ≡ []
  unfolding places_from
  starts_ended zero e = refl
  starts_ended (suc room) e = ap (λ (t : Option RuleSpan). places_by t v.at (λ u. places_from room ws u)) e

-- these are the places of the rules of g from number k on
record PlacesFrom (g : Grammar) (k : ℕ) (places : List ℕ) : Type 0 where
  number : length places ≡ R g - k
  each : (i : ℕ) → k + i < R g → get_or places i 0 ≡ place_of g (k + i)

no_places_lem : (g : Grammar) (k : ℕ) → k ≡ R g → PlacesFrom g k []
no_places_lem g k e = record { number = omega arith; each = λ i h. absurd (omega arith) }

one_place : (g : Grammar) (k : ℕ) (places : List ℕ) → k < R g → PlacesFrom g (k + 1) places →
    PlacesFrom g k (place_of g k ∷ places)
one_place g k places h p = record { number = omega (arith, p.number); each = each }
  where
    each : (i : ℕ) → k + i < R g → get_or (place_of g k ∷ places) i 0 ≡ place_of g (k + i)
    each zero l = rw (add-zero k)
    each (suc i) l =
        let same : k + 1 + i ≡ k + suc i = omega arith in
        p.each i (omega arith) ∙ ap (place_of g) same

module _ (ws : List ℕ) (g : Grammar) (e : layout ws ≡ reads g) where
  -- the walk before rule k finds the places from number k on, where it has room for them
  places_from_lem : (room k : ℕ) → k ≤ R g → R g ≤ k + room → PlacesFrom g k (places_from room ws (walk_before g k))
  unfolding places_from
  places_from_lem zero k l h = no_places_lem g k (omega arith)
  places_from_lem (suc room) k l h = go (dec_lt k (R g)) (λ m. places_from_lem room (k + 1) m (omega arith))
    where
      go : Dec (k < R g) → (k + 1 ≤ R g → PlacesFrom g (k + 1) (places_from room ws (walk_before g (k + 1)))) →
          PlacesFrom g k (places_from (suc room) ws (walk_before g k))
      go (yes m) later =
          let step = walk_hands_rule ws g e (rule_at (in_bounds ws e) k m).2 in
          rw (starts_handed ws (walk_before g k) room step) (one_place g k _ m (later (omega arith)))
      go (no m) later =
          let end : k ≡ R g = omega arith in
          let last : step_at ws (walk_before g k) ≡ None = rw end (walk_ends ws g e) in
          rw (starts_ended ws (walk_before g k) (suc room) last) (no_places_lem g k end)

  all_places : PlacesFrom g 0 (places_from 256 ws walk_start)
  all_places = places_from_lem 256 0 (omega arith) (omega (arith, (in_bounds ws e).at_most_256))

  -- as many indexes are found as the grammar has rules
  pub starts_number : length (places_from 256 ws walk_start) ≡ R g
  starts_number = omega (arith, all_places.number)

  -- and number k of them is the place of rule k
  pub starts_of_grammar : (k : ℕ) → k < R g → get_or (places_from 256 ws walk_start) k 0 ≡ place_of g k
  starts_of_grammar k h = all_places.each k (omega arith) ∙ ap (place_of g) (zero-add k)

  -- so they are the places by number
  pub starts_are_places : places_from 256 ws walk_start ≡ tabulate (place_of g) (R g)
  starts_are_places =
      ext_get_or 0 (places_from 256 ws walk_start) (tabulate (place_of g) (R g))
      (starts_number ∙ sym (length-tabulate (place_of g) (R g)))
      (λ k h. let l : k < R g = omega (arith, starts_number) in starts_of_grammar k l ∙ sym (get_d_tabulate (place_of g) (R g) k l))

  pub left_of_rule : {k A : ℕ} {w : List ℕ} → RuleAt g k A w → get_or ws (place_of g k) 0 ≡ A
  left_of_rule {k} {A} {w} r = places.left_stands ws g e k A w r.stands

  pub right_of_rule : {k A : ℕ} {w : List ℕ} → RuleAt g k A w → right_at ws (place_of g k) ≡ w
  right_of_rule {k} {A} {w} r =
      let at = place_of g k in
      let counted = places.count_stands ws g e k A w r.stands in
      let within : at + 2 + count_at ws at ≤ length ws = rw counted (places.rule_within ws g e k A w r.stands) in
      right_whole ws at within ∙ rw counted (places.symbols_stand ws g e k A w r.stands)

-- in the front of an array too
pub place_in_front : (g : Grammar) (rest : List ℕ) (k : ℕ) → k < R g → get_or (over (tabulate (place_of g) (R g)) rest) k 0 ≡ place_of g k
unfolding over
place_in_front g rest k h =
    get_or-append (tabulate (place_of g) (R g)) _ 0 k (omega (arith, length-tabulate (place_of g) (R g)))
    ∙ get_d_tabulate (place_of g) (R g) k h

-- any two outcomes that a promise allows coincide
pub right_settles : (ws : List ℕ) (at : ℕ) {r s : List ℕ} → r ≡ right_at ws at → s ≡ right_at ws at → r ≡ s
right_settles ws at p q = p ∙ sym q
