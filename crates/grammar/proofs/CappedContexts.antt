-- Contexts saturate in the same way: over capped leasts v, figures u are the caps of the contexts exactly where u is 𝟎 at the
-- start, at most the cap of u(B) plus 1 plus the sizes of the other symbols for each rule of each B and each place in it, and
-- each the cap of what some open tree costs. Assumes nothing.
use Prim.Native.Nat.{ℕ, zero, suc, ◌<◌}
use mathlib.Core.Path.{◌≡◌, refl, sym, ap, ◌∙◌}
use mathlib.Core.Logic.{◌↔◌}
use mathlib.Core.List.{List, [], ◌∷◌}
use Rattle.grammar.specs.Words.{Grammar, RuleAt}
use Rattle.grammar.specs.Tree.{Open, root, down}
use Rattle.grammar.specs.Measure.{Cost, gap_cost, open_cost}
use Rattle.grammar.specs.Least.{Context}
use Rattle.grammar.specs.Refusals.{AllReached}
use Rattle.grammar.proofs.Totals.{le_of_eq}
use Rattle.grammar.proofs.Dead.{gap_nonterminal, open_reached}
use Rattle.grammar.specs.Certificates.{Leasts, Holds, others_size, ContextCertificate, Contexts}
use Rattle.grammar.proofs.ContextCertificate.{gap_holds, gap_above, context_certificate}
use Rattle.grammar.proofs.LeastsExist.{leasts_exist}
use Rattle.grammar.specs.Caps.{Cap, CappedCertificate, Caps, OfOpen, CappedContextCertificate}
use Rattle.grammar.proofs.Cap.{cap-cap, cap_same, cap_below}
use Rattle.grammar.proofs.CappedLeasts.{certificate_trees, capped_certificate, symbol_caps, word_caps}

module _ (c : Cost) (κ : Cap c) (g : Grammar) where
  open c use {C, 𝟎}
  open κ use {cap, cap_zero}

  pub start_figure : OfOpen c κ g g.start 𝟎
  unfolding open_cost
  start_figure = (root, sym cap_zero)

module _ (c : Cost) (κ : Cap c) (g : Grammar) (v : ℕ → c.C) where
  open c use {C, 𝟎, ◌⊕◌, ◌≼◌, once, le_refl, le_trans, le_antisym}
  open κ use {cap, cap_zero, cap_mono}

  infixl 60 ◌⊕◌
  infix 40 ◌≼◌
  pub certificate_reached : (u : ℕ → C) → CappedContextCertificate c κ g v u → AllReached g
  certificate_reached u cert A lt = open_reached (cert.of_open A lt).0

  -- what v is the cap of, and the sizes beside a place by the one and by the other
  module _ (x : ℕ → C) (caps : Caps c κ g v x) where
    pub others_caps : (w : List ℕ) (i : ℕ) → cap (others_size c g v w i) ≡ cap (others_size c g x w i)
    unfolding others_size
    others_caps [] i = refl
    others_caps (s ∷ w) zero = word_caps c κ g v x caps w
    others_caps (s ∷ w) (suc i) = cap_same κ (symbol_caps c κ g v x caps s) (others_caps w i)

    -- No open tree of A costs less than u(A), after the cap: by induction on the open tree. Its last rule, of B, and the place
    -- there bound u(A) by the cap of u(B), which is at most the cap of the rest by induction, plus 1, plus the sizes by v of the
    -- other symbols; these have the cap of the sizes by the leasts, which are at most what the trees beside the open leaf cost.
    -- So u(A) is at most the cap of the context, and being the cap of some open tree's cost it is at least that.
    module _ (leasts : Leasts c g x) (u : ℕ → C) (cert : CappedContextCertificate c κ g v u) where
      open_above : {A : ℕ} (t : Open g A) → u A ≼ cap (open_cost c t)
      unfolding open_cost
      open_above root = le_of_eq c (cert.at_start ∙ sym cap_zero)
      open_above (down {A} {B} {i} {w} k r t a) =
          let outer : cap (u B) ≼ cap (open_cost c t) = le_trans (cap_mono (open_above t)) (le_of_eq c (cap-cap κ _)) in
          let beside : cap (others_size c g v w i) ≼ cap (gap_cost c a) =
          le_trans (le_of_eq c (others_caps w i)) (cap_mono (gap_above c g x leasts a)) in
          let sum = cap_below κ outer (cap_below κ (le_refl (cap once)) beside) in
          le_trans (cert.below k B w i A r (gap_holds a) (gap_nonterminal a)) sum

      context_caps : {A : ℕ} {y : C} → A < g.N → Context c g A y → u A ≡ cap y
      context_caps {A} {y} lt z =
          let (t, e) = cert.of_open A lt in
          let up : u A ≼ cap y = le_trans (open_above z.tree) (le_of_eq c (ap cap z.costs)) in
          le_antisym up (le_trans (cap_mono (z.smallest t)) (le_of_eq c (sym e)))

    -- THE CERTIFICATE, both ways
    module _ (leasts : Leasts c g x) (within : g.start < g.N) (y : ℕ → C) (contexts : Contexts c g x y) where
      exact : ContextCertificate c g x y
      exact = (context_certificate c g x leasts y within).1 contexts

      place_below : (u : ℕ → C) → Caps c κ g u y → (k B : ℕ) (w : List ℕ) (i A : ℕ) → RuleAt g k B w → Holds w i A → A < g.N →
          u A ≼ cap (u B ⊕ (once ⊕ others_size c g v w i))
      place_below u capped k B w i A r p lt =
          let outer : cap (y B) ≡ cap (u B) = sym (ap cap (capped B r.left) ∙ cap-cap κ (y B)) in
          let e = cap_same κ outer (cap_same κ {x = once} refl (sym (others_caps w i))) in
          le_trans (le_of_eq c (capped A lt)) (le_trans (cap_mono (exact.below k B w i A r p lt)) (le_of_eq c e))

      certifies : (u : ℕ → C) → Caps c κ g u y → CappedContextCertificate c κ g v u
      certifies u capped = record {
        at_start = capped g.start within ∙ ap cap exact.at_start ∙ cap_zero;
        below = place_below u capped;
        of_open = λ A lt. ((contexts A lt).tree, capped A lt ∙ ap cap (sym (contexts A lt).costs));
      }

      pub capped_context_certificate : (u : ℕ → C) → CappedContextCertificate c κ g v u ↔ Caps c κ g u y
      capped_context_certificate u = (λ cert A lt. context_caps leasts u cert lt (contexts A lt), certifies u)

  -- CAPPED CONTEXTS
  pub capped_context : CappedCertificate c κ g v → (u : ℕ → C) → CappedContextCertificate c κ g v u →
      {A : ℕ} {x : C} → A < g.N → Context c g A x → u A ≡ cap x
  capped_context cert u certᵤ lt z =
      let (x, leasts) = leasts_exist c g (certificate_trees c κ g v cert) in
      context_caps x ((capped_certificate c κ g x leasts v).0 cert) leasts u certᵤ lt z
