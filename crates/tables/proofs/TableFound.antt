-- The words that are written are the table: where no total is above 4,096 no figure is cut, so the leasts and the contexts are
-- true, and the first rule noted for each nonterminal is its chosen rule, the first lead its context rule and place. A lead's rank
-- is 32 times the rule and the place, so that the first is the lowest rule and then the leftmost place; for the start no lead can
-- be noted, since its context is 0 and every place adds a rule's use. Assumes nothing.
use Prim.Native.Nat.{ℕ, ◌+◌, ◌*◌, ◌≤◌, ◌<◌}
use native.Mathlib.Omega.{arith}
use native.Mathlib.Decide.{dec_lt}
use mathlib.Core.Path.{◌≡◌, refl, sym, ap, ◌∙◌}
use mathlib.Core.Logic.{◌⊎◌, inl, inr}
use mathlib.Core.List.{List}
use lib.ListN.{get_or}
use Rattle.std.specs.Prelude.{Option, Some, None}
use Rattle.grammar.specs.Words.{Grammar, RuleAt, R, InBounds}
use Rattle.grammar.specs.Terms.{measure}
use Rattle.grammar.specs.Refusals.{Lowest}
use Rattle.grammar.proofs.LayoutExact.{rule_short}
use Rattle.grammar.proofs.RuleNumbers.{rule_number}
use Rattle.grammar.specs.Certificates.{word_size, Leasts, Holds, Contexts, Figures}
use Rattle.grammar.proofs.ContextCertificate.{context_certificate}
use Rattle.grammar.proofs.ContextsExist.{holds_below}
use Rattle.entries.specs.Table.{IsTable}
use Rattle.figures.specs.Figures.{figure}
use Rattle.tables.specs.ContextFigures.{SizesOf}
use Rattle.tables.specs.Choices.{choice, FirstBelow, none_has, first, RuleFits, ChosenOf, LeadFits, LeadsOf}
use Rattle.tables.specs.Filling.{rule_or_none, lead_or_none, found_in}
use Rattle.tables.specs.declared.choices.Lead.{Lead}
use Rattle.entries.proofs.SizeApart.{size_apart}
use Rattle.entries.specs.Writing.{table_of}
use Rattle.entries.proofs.EntriesWritten.{table_long, at_least, at_chosen, at_context, at_rule, at_place, at_total}
use Rattle.entries.specs.TableCertificates as out
use Rattle.entries.specs.TableCertificates.{Attaining, Leading}
use Rattle.entries.proofs.TableWorkedOut.{worked_out, first_rule, first-place}

-- what is first, where there is one at all
record FirstOf {C : Type 0} (rank : C → ℕ) (P : C → Type 0) (o : Option C) : Type 0 where
  x : C
  is : o ≡ Some x
  such : P x
  least : (y : C) → P y → rank x ≤ rank y

module _ {C : Type 0} {rank : C → ℕ} {P : C → Type 0} {n : ℕ} where
  first_of : {o : Option C} → FirstBelow rank P n o → (y : C) → rank y < n → P y → FirstOf rank P o
  first_of (none_has none) y l p = absurd (none y l p)
  first_of (first {x} l p before) y m q = record { x = x; is = refl; such = p; least = λ z r. go z r (dec_lt (rank z) (rank x)) }
    where
      go : (z : C) → P z → Dec (rank z < rank x) → rank x ≤ rank z
      go z r (yes h) = absurd (before z h r)
      go z r (no h) = omega arith

  none_of : {o : Option C} → FirstBelow rank P n o → ((y : C) → ¬ P y) → o ≡ None
  none_of (none_has none) never = refl
  none_of (first {x} l p before) never = absurd (never x p)

module _ (g : Grammar) (ok : InBounds g) (vs us sizes totals : List ℕ)
    (chosen : List (Option ℕ)) (leads : List (Option Lead))
    (leasts : Leasts measure g (figure vs)) (contexts : Contexts measure g (figure vs) (figure us)) (of-sizes : SizesOf g vs sizes)
    (of-totals : (k A : ℕ) (w : List ℕ) → RuleAt g k A w → get_or totals k 0 ≡ figure us A + get_or sizes k 0)
    (of_chosen : ChosenOf g vs sizes chosen (R g)) (of_leads : LeadsOf g vs us totals leads (32 * R g)) where
  abbrev v : ℕ → ℕ
  v A = figure vs A

  abbrev u : ℕ → ℕ
  u A = figure us A

  total_of : {k B : ℕ} {w : List ℕ} → RuleAt g k B w → get_or totals k 0 ≡ u B + (1 + word_size measure g v w)
  total_of {k} {B} {w} r = of-totals k B w r ∙ ap (λ (x : ℕ). u B + x) (of-sizes k B w r)

  -- THE CHOSEN RULES
  rule_fits : {A k : ℕ} → Attaining g v A k → RuleFits g vs sizes A k
  rule_fits {A} {k} (w, r, e) = record { w = w; rule = r; same = e ∙ sym (of-sizes k A w r) }

  attains : {A k : ℕ} → RuleFits g vs sizes A k → Attaining g v A k
  attains {A} {k} f = (f.w, f.rule, f.same ∙ of-sizes k A f.w f.rule)

  chosen_lowest : (A : ℕ) → A < g.N → Lowest (Attaining g v A) (rule_or_none (choice chosen A))
  chosen_lowest A lt =
      let (k, low) = first_rule g v u ok leasts contexts A lt in
      let f = first_of (of_chosen A lt) k (rule_number low.such.1) (rule_fits low.such) in
      rw f.is (record { such = attains f.such; lowest = λ j a. f.least j (rule_fits a) })

  -- THE LEADS
  holds_few : {k B : ℕ} {w : List ℕ} (i A : ℕ) → RuleAt g k B w → Holds w i A → i < 32
  holds_few {w = w} i A r h = omega (arith, holds_below w i A h, rule_short ok r)

  lead_fits : {A k i : ℕ} → Leading g v u A k i → LeadFits g vs us totals A (record { rule = k; place = i })
  lead_fits (B, w, r, h, e) = record { B = B; w = w; rule = r; holds = h; same = e ∙ sym (total_of r) }

  leads_to : {A : ℕ} {lead : Lead} → LeadFits g vs us totals A lead → Leading g v u A lead.rule lead.place
  leads_to f = (f.B, f.w, f.rule, f.holds, f.same ∙ total_of f.rule)

  lead_below : {A k i : ℕ} → Leading g v u A k i → 32 * k + i < 32 * R g
  lead_below {A} {k} {i} (B, w, r, h, e) = omega (arith, rule_number r, holds_few i A r h)

  lead_first : (A : ℕ) → A < g.N → ¬ (A ≡ g.start) →
      out.First (Leading g v u A) (lead_or_none (choice leads A)).rule (lead_or_none (choice leads A)).place
  lead_first A lt d =
      let (k, i, p) = first-place g v u ok leasts contexts A lt d in
      let f = first_of (of_leads A lt) (record { rule = k; place = i }) (lead_below p.such) (lead_fits p.such) in
      rw f.is (record {
        such = leads_to f.such;
        first = λ j h a.
            before f.x.rule f.x.place j h (holds_few f.x.place A f.such.rule f.such.holds) (holds_few h A a.2 a.3)
            (f.least (record { rule = j; place = h }) (lead_fits a));
      })
    where
      before : (k i j h : ℕ) → i < 32 → h < 32 → 32 * k + i ≤ 32 * j + h → (k < j) ⊎ ((k ≡ j) × (i ≤ h))
      before k i j h li lh le = go (dec_lt k j)
        where
          go : Dec (k < j) → (k < j) ⊎ ((k ≡ j) × (i ≤ h))
          go (yes l) = inl l
          go (no n) = inr (omega arith, omega arith)

  -- no lead is noted for the start
  start_none : g.start < g.N → choice leads g.start ≡ None
  start_none lt = none_of (of_leads g.start lt) never
    where
      never : (lead : Lead) → ¬ LeadFits g vs us totals g.start lead
      never lead f =
          let zero = ((context_certificate measure g v leasts u lt).1 contexts).at_start in
          let apart = size_apart g v f.w lead.place g.start f.holds lt in
          let t = total_of f.rule in
          let same = f.same in
          omega arith

  abbrev F : Figures measure
  F = found_in vs chosen us leads totals

  -- THE TABLE
  pub table_found : IsTable g (table_of g.N (R g) F)
  unfolding found_in
  table_found =
      worked_out g v u ok leasts contexts (record {
        long = table_long g.N (R g) F;
        leasts = λ A lt. at_least g.N (R g) F A lt;
        chosen = λ A lt. rw (at_chosen g.N (R g) F A lt) (chosen_lowest A lt);
        contexts = λ A lt. at_context g.N (R g) F A lt;
        choices = λ A lt d. rw (at_rule g.N (R g) F A lt, at_place g.N (R g) F A lt) (lead_first A lt d);
        start_rule =
            at_rule g.N (R g) F g.start ok.start_below ∙
            ap (λ (o : Option Lead). (lead_or_none o).rule) (start_none ok.start_below);
        start_place =
            at_place g.N (R g) F g.start ok.start_below ∙
            ap (λ (o : Option Lead). (lead_or_none o).place) (start_none ok.start_below);
        totals = λ r A w rule. at_total g.N (R g) F r (rule_number rule) ∙ total_of rule;
      })
