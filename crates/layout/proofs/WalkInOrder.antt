-- The walk hands out a grammar's rules in order, and then ends: before rule k it stands at that rule's place, where it reads the
-- left side and the count, and past the last rule the words end. Said of the places one after the other, which is how loops
-- go, and of the walks that `next` hands on. Assumes nothing.
use mathlib.Core.Path.{◌≡◌, refl, ap, sym, ◌∙◌, subst⁻¹}
use mathlib.Core.List.{List, [], ◌∷◌}
use mathlib.Core.Option.{some}
use Prim.Native.Nat.{ℕ, zero, suc, ◌+◌, ◌≤◌, ◌<◌}
use native.Mathlib.Omega.{arith}
use native.Mathlib.Numerals.{add-one}
use native.Mathlib.Decide.{dec_lt}
use lib.ListN.{length, get_elem?, drop, length-drop}
use denote.Ref.{Bor}
use Rattle.grammar.specs.Words.{Grammar, Rule, ◌⟶◌, R, place_of, RuleAt, reads, layout}
use Rattle.layout.specs.Walk.{WalkPlace, place, walk_start, count_at, step_at, past_rule, past_step, walk_at}
use Rattle.layout.specs.declared.walk.RuleSpan.{RuleSpan}
use Rattle.std.specs.Prelude.{Option, Some, None}
use Rattle.layout.specs.WalkOrder.{SpanOf, HandsOut, ended, handed, NextHandsOut}
use Rattle.grammar.proofs.LayoutExact.{in_bounds, rule_below}
use Rattle.layout.proofs.RulePlaces as places
use Rattle.layout.proofs.WalkSteps.{step_past_256, step_cut, step_rule}

-- the walk before rule k
abbrev pub walk_before : Grammar → ℕ → WalkPlace
walk_before g k = place (place_of g k) k

-- the span of rule k, A ⟶ w
abbrev pub span_of : Grammar → ℕ → ℕ → List ℕ → RuleSpan
span_of g k A w = record { number = k; left = A; count = length w; first = place_of g k + 2; end = place_of g (k + 1) }

next_hands_out : (words : Bor (List ℕ)) {k : ℕ} {v : WalkPlace} {rs : List Rule} → HandsOut words.now k v rs →
    NextHandsOut k (walk_at words v) rs
next_hands_out words {k} {v} (ended e) = ended e
next_hands_out words {k} {v} (handed {rs = rs} {s = s} e span h) =
    let past : past_step (step_at words.now v) v ≡ past_rule s = ap (λ (t : Option RuleSpan). past_step t v) e in
    let later = subst⁻¹ (λ (x : WalkPlace). NextHandsOut (k + 1) (walk_at words x) rs) past (next_hands_out words h) in
    handed e span later

-- what is left from k on begins with rule k
next_left : (rs : List Rule) (k : ℕ) (ρ : Rule) (ss : List Rule) → drop k rs ≡ ρ ∷ ss →
    (get_elem? rs k ≡ some ρ) × (drop (suc k) rs ≡ ss)
next_left [] zero ρ ss q = absurd (let z : ◌≡◌ {A = ℕ} 0 1 = cc in omega arith)
next_left [] (suc k) ρ ss q = absurd (let z : ◌≡◌ {A = ℕ} 0 1 = cc in omega arith)
next_left (σ ∷ rs) zero ρ ss q = (cc, cc)
next_left (σ ∷ rs) (suc k) ρ ss q = next_left rs k ρ ss q

module _ (ws : List ℕ) (g : Grammar) (e : layout ws ≡ reads g) where
  few : R g ≤ 256
  few = (in_bounds ws e).at_most_256

  module _ (k A : ℕ) (w : List ℕ) (stands : get_elem? g.rules k ≡ some (A ⟶ w)) where
    steps : step_at ws (walk_before g k) ≡ Some (span_of g k A w)
    steps =
        let low = rule_below g.rules k (A ⟶ w) stands in
        let counted = places.count_stands ws g e k A w stands in
        let n : k < 256 = omega (arith, few) in
        let h : place_of g k + 2 + count_at ws (place_of g k) ≤ length ws = rw counted (places.rule_within ws g e k A w stands) in
        step_rule ws (walk_before g k) n h
        ∙ rw (places.left_stands ws g e k A w stands, counted, places.next_place ws g e k A w stands)

    spans : SpanOf ws k A w (span_of g k A w)
    spans = record {
      number = refl;
      left = refl;
      count = refl;
      end = sym (places.next_place ws g e k A w stands);
      symbols = places.symbols_stand ws g e k A w stands;
      each = places.symbol_stands ws g e k A w stands;
    }

  -- rule k is handed out by step k, and the walk then stands before rule k + 1, at the span's end
  pub walk_hands_rule : {k A : ℕ} {w : List ℕ} → RuleAt g k A w →
      step_at ws (walk_before g k) ≡ Some (span_of g k A w)
  walk_hands_rule {k} {A} {w} r = steps k A w r.stands

  pub walk_span : {k A : ℕ} {w : List ℕ} → RuleAt g k A w → SpanOf ws k A w (span_of g k A w)
  walk_span {k} {A} {w} r = spans k A w r.stands

  -- after R rules the walk ends
  pub walk_ends : step_at ws (walk_before g (R g)) ≡ None
  walk_ends = go (dec_lt (R g) 256)
    where
      go : Dec (R g < 256) → step_at ws (walk_before g (R g)) ≡ None
      go (yes h) = step_cut ws (walk_before g (R g)) h (omega (arith, places.places_end ws g e))
      go (no h) = step_past_256 ws (walk_before g (R g)) (omega arith)

  in_order : (rs : List Rule) (k : ℕ) → k ≤ R g → drop k g.rules ≡ rs → HandsOut ws k (walk_before g k) rs
  in_order [] k l q =
      let n : k ≡ R g = omega (arith, length-drop k g.rules, ap length q) in
      let last : step_at ws (walk_before g k) ≡ None = rw n walk_ends in
      ended last
  in_order ((A ⟶ w) ∷ rs) k l q =
      let h = next_left g.rules k (A ⟶ w) rs q in
      let low = rule_below g.rules k (A ⟶ w) h.0 in
      let later : drop (k + 1) g.rules ≡ rs = rw (add-one k) h.1 in
      handed (steps k A w h.0) (spans k A w h.0) (in_order rs (k + 1) (omega arith) later)

  -- from its start the walk hands out the grammar's rules in order, and then ends
  pub walk_in_order : HandsOut ws 0 walk_start g.rules
  walk_in_order = in_order g.rules 0 (omega arith) refl

-- and so does `next`, from `start` on
pub walk_next_in_order : (words : Bor (List ℕ)) (g : Grammar) → layout words.now ≡ reads g →
    NextHandsOut 0 (walk_at words walk_start) g.rules
walk_next_in_order words g e = next_hands_out words (walk_in_order words.now g e)
