-- The leads, symbol by symbol: place i of rule r, looked at after those before it, is noted at the symbol there where that is a
-- nonterminal and the rule's total is its least and its context. Past the last symbol of a rule no place fits, and the next rule's
-- places follow. Assumes nothing.
use mathlib.Core.Path.{◌≡◌, refl}
use mathlib.Core.List.{List}
use Prim.Native.Nat.{ℕ, ◌+◌, ◌*◌, ◌-◌, ◌≤◌, ◌<◌}
use native.Mathlib.Omega.{arith}
use lib.ListN.{length, replicate, get_or}
use Rattle.std.specs.Prelude.{Option, None}
use Rattle.grammar.specs.Words.{Grammar, RuleAt}
use Rattle.grammar.specs.Certificates.{Holds}
use Rattle.grammar.proofs.LayoutExact.{in_bounds, rule_short}
use Rattle.grammar.proofs.ContextsExist.{holds_below, holds_there}
use Rattle.grammar.proofs.RuleNumbers.{rule_right}
use Rattle.layout.specs.Read.{ReadsAs}
use Rattle.layout.specs.declared.reading.Reading.{Reading}
use Rattle.layout.proofs.RulesInView.{viewed_rule, viewed_right, viewed_room}
use Rattle.figures.specs.Figures.{figure}
use Rattle.tables.specs.Choices.{LeadFits, lead_rank, LeadsOf, Noted}
use Rattle.tables.specs.ContextSteps.{right_of}
use Rattle.tables.specs.declared.choices.Lead.{Lead}
use Rattle.tables.proofs.FirstsNoted.{firsts_empty, firsts_past, firsts_noted}

module _ (v : Reading) {g : Grammar} (view : ReadsAs v g) (vs us totals : List ℕ) where
  pub none_lead : LeadsOf g vs us totals (replicate 128 None) 0
  none_lead = firsts_empty lead_rank (LeadFits g vs us totals) g.N (viewed_room view (omega arith))

  module _ (r : ℕ) (h : r < v.rules) where
    rule_read : (B : ℕ) × RuleAt g r B (right_of v r)
    rule_read = let (B, w, rule) = viewed_rule view r h in (B, rw (viewed_right view rule) rule)

    short : {k B : ℕ} {w : List ℕ} → RuleAt g k B w → length w ≤ 32
    short rule = rule_short (in_bounds v.words.now view.is) rule

    -- what fits at place i of the rule
    record FitsHere (A i : ℕ) : Type 0 where
      holds : Holds (right_of v r) i A
      same : figure vs A + figure us A ≡ get_or totals r 0

    here : (A i : ℕ) (y : Lead) → i < 32 → lead_rank y ≡ 32 * r + i → LeadFits g vs us totals A y → FitsHere A i
    here A i y l is f =
        let below = holds_below f.w y.place A f.holds in
        let few = short f.rule in
        let rule_is : y.rule ≡ r = omega arith in
        let place_is : y.place ≡ i = omega arith in
        let w_is : f.w ≡ right_of v r = rule_right rule_is f.rule rule_read.1 in
        record { holds = rw (w_is, place_is) at f.holds; same = rw rule_is at f.same }

    module _ (xs : List (Option Lead)) (i : ℕ) (so_far : LeadsOf g vs us totals xs (32 * r + i)) where
      -- nothing fits from place i up to place j
      places_past : (j : ℕ) → i ≤ j → j ≤ 32 → ((A p : ℕ) → A < g.N → i ≤ p → p < j → ¬ FitsHere A p) →
          LeadsOf g vs us totals xs (32 * r + j)
      places_past j l m unfit = firsts_past lead_rank (LeadFits g vs us totals) g.N xs so_far (32 * r + j) (omega arith) past
        where
          past : (A : ℕ) (y : Lead) → A < g.N → 32 * r + i ≤ lead_rank y → lead_rank y < 32 * r + j → ¬ LeadFits g vs us totals A y
          past A y lt low high f =
              unfit A (lead_rank y - 32 * r) lt (omega arith) (omega arith)
              (here A (lead_rank y - 32 * r) y (omega arith) (omega arith) f)

      -- the symbol s at place i
      module _ (s : ℕ) (l : i < length (right_of v r)) (e : s ≡ get_or (right_of v r) i 0) where
        is_s : (A : ℕ) → Holds (right_of v r) i A → A ≡ s
        is_s A there = let z = holds_there (right_of v r) i l in cc

        -- is noted
        pub place_noted : {ys : List (Option Lead)} → figure vs s + figure us s ≡ get_or totals r 0 →
            Noted xs s (record { rule = r; place = i }) ys → 128 ≤ length xs → LeadsOf g vs us totals ys (32 * r + (i + 1))
        place_noted same new room =
            let fits : LeadFits g vs us totals s (record { rule = r; place = i }) = record {
              B = rule_read.0;
              w = right_of v r;
              rule = rule_read.1;
              holds = rw e (holds_there (right_of v r) i l);
              same = same;
            } in
            let next : 32 * r + i + 1 ≡ 32 * r + (i + 1) = omega arith in
            rw next at (firsts_noted lead_rank (LeadFits g vs us totals) g.N new (viewed_room view room) refl fits
            (λ A y is f. is_s A (here A i y (omega (arith, short rule_read.1)) is f).holds) so_far)

        -- does not fit
        pub place_passed : ¬ ((s < g.N) × (figure vs s + figure us s ≡ get_or totals r 0)) →
            LeadsOf g vs us totals xs (32 * r + (i + 1))
        place_passed other = places_past (i + 1) (omega arith) (omega (arith, short rule_read.1)) unfit
          where
            unfit : (A p : ℕ) → A < g.N → i ≤ p → p < i + 1 → ¬ FitsHere A p
            unfit A p lt low high f =
                let p_is : p ≡ i = omega arith in
                let A_is : A ≡ s = is_s A (rw p_is at f.holds) in
                other (rw A_is at lt, rw A_is at f.same)

      -- there are no more symbols
      pub places_end : i ≡ length (right_of v r) → LeadsOf g vs us totals xs (32 * (r + 1))
      places_end end =
          let all = places_past 32 (omega (arith, short rule_read.1)) (omega arith)
          (λ A p lt low high f. let b = holds_below (right_of v r) p A f.holds in omega arith) in
          let next : 32 * r + 32 ≡ 32 * (r + 1) = omega arith in
          rw next at all
