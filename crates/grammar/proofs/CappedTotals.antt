-- Refusal 7 by figures that saturate. Over capped leasts v and capped contexts u, the capped total of a rule is the cap of its
-- Total; so it is over the limit exactly where the Total is, and where it is not it is the Total, and the figures that it sums
-- are the leasts and the context. Where no rule is over, all figures are. Assumes nothing.
use Prim.Native.Nat.{ℕ, ◌≤◌, ◌<◌}
use native.Mathlib.Omega.{arith}
use mathlib.Core.Path.{◌≡◌, refl, ap, ◌∙◌}
use mathlib.Core.Logic.{◌⊎◌, inl, inr, ◌↔◌}
use mathlib.Core.List.Memᴰ
use mathlib.Core.List.{List, [], ◌∷◌}
use Rattle.grammar.specs.Words.{Grammar, RuleAt}
use Rattle.grammar.specs.Tree.{◌∈◌}
use Rattle.grammar.specs.Measure.{Cost}
use Rattle.grammar.specs.Least.{Least, Context, Total}
use Rattle.grammar.specs.Terms.{measure, limit}
use Rattle.grammar.specs.Refusals.{Oversize, Fits, AllFit}
use Rattle.grammar.proofs.LayoutExact.{rule_below}
use Rattle.grammar.proofs.Unique.{total_unique}
use Rattle.grammar.specs.Certificates.{word_size, Leasts, Contexts}
use Rattle.grammar.proofs.Certificate.{symbol_nonterminal, rule_size, Known, least_certificate}
use Rattle.grammar.proofs.LeastsExist.{leasts_exist}
use Rattle.grammar.proofs.ContextsExist.{contexts_exist}
use Rattle.grammar.specs.Caps.{Cap, Limit, Caps, capped_total, CappedFigures, measure_cap, measure_limit, stopped_total}
use Rattle.grammar.proofs.Cap.{cap-cap, cap_same, part_left, part_right}
use Rattle.grammar.proofs.CappedLeasts.{word_caps, certificate_trees, capped_certificate}
use Rattle.grammar.proofs.CappedContexts.{certificate_reached, capped_context}

module _ (c : Cost) (κ : Cap c) (g : Grammar) (v u : ℕ → c.C) where
  open c use {C, ◌⊕◌, once}
  open κ use {cap}

  infixl 60 ◌⊕◌
  -- the true figures, which the capped ones are the caps of
  record TrueFigures : Type 0 where
    least : ℕ → C
    leasts : Leasts c g least
    context : ℕ → C
    contexts : Contexts c g least context
    least_caps : Caps c κ g v least
    context_caps : Caps c κ g u context

  module _ (figures : CappedFigures c κ g v u) where
    true_figures : TrueFigures
    true_figures =
        let (x, leasts) = leasts_exist c g (certificate_trees c κ g v figures.leasts) in
        let (y, contexts) = contexts_exist c g x leasts (certificate_reached c κ g v u figures.contexts) in
        record {
          least = x;
          leasts = leasts;
          context = y;
          contexts = contexts;
          least_caps = (capped_certificate c κ g x leasts v).0 figures.leasts;
          context_caps = λ A lt. capped_context c κ g v figures.leasts u figures.contexts lt (contexts A lt);
        }

    open true_figures use {least, leasts, context, contexts, least_caps, context_caps}

    abbrev true_total : ℕ → List ℕ → C
    true_total A w = context A ⊕ (once ⊕ word_size c g least w)

    is_total : {r A : ℕ} {w : List ℕ} → RuleAt g r A w → Total c g r (true_total A w)
    is_total {r} {A} {w} rule = record {
      A = A;
      outer = context A;
      context = contexts A rule.left;
      size = once ⊕ word_size c g least w;
      rule = rule_size c g least leasts r A w rule;
      is = refl;
    }

    -- CAPPED TOTALS. The figures are the caps of the true ones, which exist, for the certificates give each nonterminal a tree
    -- and an open tree. The cap of a sum depends on the caps of its parts alone; so the capped total by the figures is that by
    -- the true ones, and these sum to the Total, which is one.
    pub capped_total_lem : {r A : ℕ} {w : List ℕ} {x : C} → RuleAt g r A w → Total c g r x → capped_total c κ g v u A w ≡ cap x
    capped_total_lem {r} {A} {w} rule t =
        let outer : cap (u A) ≡ cap (context A) = ap cap (context_caps A rule.left) ∙ cap-cap κ (context A) in
        let size = cap_same κ {x = once} refl (word_caps c κ g v least least_caps w) in
        cap_same κ outer size ∙ ap cap (total_unique (is_total rule) t)

    module _ (limit : Limit c κ) where
      open limit use {Over, decided, exact}

      not_over : {r A : ℕ} {w : List ℕ} → RuleAt g r A w → ¬ Over (capped_total c κ g v u A w) → ¬ Over (true_total A w)
      not_over {r} {A} {w} rule n o = n (rw (capped_total_lem rule (is_total rule)) ((decided (true_total A w)).1 o))

      -- OVER exactly where the Total is
      pub over_exact : {r A : ℕ} {w : List ℕ} → RuleAt g r A w → Over (capped_total c κ g v u A w) ↔ ((x : C) × Total c g r x × Over x)
      over_exact {r} {A} {w} rule = (to, from)
        where
          to : Over (capped_total c κ g v u A w) → (x : C) × Total c g r x × Over x
          to o = (true_total A w, is_total rule, (decided (true_total A w)).0 (rw (capped_total_lem rule (is_total rule)) at o))

          from : (x : C) × Total c g r x × Over x → Over (capped_total c κ g v u A w)
          from z = rw (capped_total_lem rule z.1) ((decided z.0).1 z.2)

      -- and where it is not, the Total itself
      pub within_exact : {r A : ℕ} {w : List ℕ} → RuleAt g r A w → ¬ Over (capped_total c κ g v u A w) → Total c g r (capped_total c κ g v u A w)
      within_exact {r} {A} {w} rule n =
          rw (capped_total_lem rule (is_total rule) ∙ exact (true_total A w) (not_over rule n)) (is_total rule)

      -- The figures that such a total sums are exact: a part of a sum that is not over is not over, and there the cap changes
      -- nothing.
      exact-least : {A : ℕ} → A < g.N → ¬ Over (least A) → Least c g A (v A)
      exact-least {A} lt n = rw (least_caps A lt ∙ exact (least A) n) (leasts A lt)

      exact-context : {A : ℕ} → A < g.N → ¬ Over (context A) → Context c g A (u A)
      exact-context {A} lt n = rw (context_caps A lt ∙ exact (context A) n) (contexts A lt)

      word_parts : (w : List ℕ) → ¬ Over (word_size c g least w) → (B : ℕ) → B ∈ w → B < g.N → ¬ Over (least B)
      unfolding word_size
      word_parts [] n B m lt = absurd (Memᴰ.not-nil m)
      word_parts (s ∷ w) n B m lt = go (λ m'. word_parts w (part_right κ limit n) B m' lt) (Memᴰ.cases_cons m)
        where
          go : (B ∈ w → ¬ Over (least B)) → (B ≡ s) ⊎ B ∈ w → ¬ Over (least B)
          go later (inl e) = rw (e, ← symbol_nonterminal c g least s (rw e at lt)) (part_left κ limit n)
          go later (inr m') = later m'

      pub parts_exact : {r A : ℕ} {w : List ℕ} → RuleAt g r A w → ¬ Over (capped_total c κ g v u A w) → Context c g A (u A) × Known c g v w
      parts_exact {r} {A} {w} rule n =
          let t = not_over rule n in
          let word = word_parts w (part_right κ limit (part_right κ limit t)) in
          (exact-context rule.left (part_left κ limit t), λ B m lt. exact-least lt (word B m lt))

      -- Where no rule is over, the figures are the leasts and the contexts. The least of A is the size of some rule of A, its
      -- chosen one, and the context of A plus that size is the rule's Total; so the least of A and the context of A are parts of
      -- a sum that is not over, and are exact.
      pub all_exact : ((r A : ℕ) (w : List ℕ) → RuleAt g r A w → ¬ Over (capped_total c κ g v u A w)) → Leasts c g v × Contexts c g v u
      all_exact none = (λ A lt. exact-least lt (parts A lt).1, λ A lt. exact-context lt (parts A lt).0)
        where
          parts : (A : ℕ) → A < g.N → (¬ Over (context A)) × (¬ Over (least A))
          parts A lt =
              let (k, w, r, e) = ((least_certificate c g least).1 leasts).attained A lt in
              let t = not_over r (none k A w r) in
              (part_left κ limit t, rw e (part_right κ limit t))

-- REFUSAL 7 at any limit up to document 01's, by sums that stop at the ceiling
module _ (l : ℕ) (up_to : l ≤ limit) (g : Grammar) (v u : ℕ → ℕ) where
  module _ (figures : CappedFigures measure measure_cap g v u) {r A : ℕ} {w : List ℕ} (rule : RuleAt g r A w) where
    pub oversize_exact : (l < stopped_total g v u A w) ↔ Oversize l g r
    oversize_exact =
        let both = over_exact measure measure_cap g v u figures (measure_limit l up_to) rule in
        (λ h. let z = both.0 h in record { total = z.0; is = z.1; above = z.2 }, λ o. both.1 (o.total, o.is, o.above))

    pub fits_exact : (stopped_total g v u A w ≤ l) ↔ Fits l g r
    fits_exact = (to, from)
      where
        to : stopped_total g v u A w ≤ l → Fits l g r
        to h =
            let total = within_exact measure measure_cap g v u figures (measure_limit l up_to) rule (λ o. omega arith) in
            record { total = stopped_total g v u A w; is = total; within = h }

        from : Fits l g r → stopped_total g v u A w ≤ l
        from f = let le = f.within in omega (arith, capped_total_lem measure measure_cap g v u figures rule f.is)

  -- what 7 does not refuse has exact figures
  pub all_fit_exact : CappedFigures measure measure_cap g v u → AllFit l g → Leasts measure g v × Contexts measure g v u
  all_fit_exact figures fit = all_exact measure measure_cap g v u figures (measure_limit l up_to) within
    where
      within : (r A : ℕ) (w : List ℕ) → RuleAt g r A w → ¬ (l < stopped_total g v u A w)
      within r A w rule o =
          let le : stopped_total g v u A w ≤ l = (fits_exact figures rule).1 (fit r (rule_below g.rules r _ rule.stands)) in
          omega arith
