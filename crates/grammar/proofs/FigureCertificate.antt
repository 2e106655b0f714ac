-- Figures and choices for a whole grammar are their own certificate, by any cost: they are document 01's exactly where they pass
-- tests that speak of the figures and the rules alone, each rule and each place in it once. The certificates of leasts and of
-- contexts give the figures; then each choice is the first rule, or the first rule and place, that comes to its figure. So what
-- is worked out, what is lent and what a document prints are judged by the same tests. Assumes nothing.
use Prim.Native.Nat.{ℕ, ◌<◌}
use mathlib.Core.Path.{◌≡◌, refl, ap, ◌∙◌}
use mathlib.Core.Logic.{◌↔◌}
use mathlib.Core.List.{List}
use Rattle.grammar.specs.Words.{Grammar, RuleAt, InBounds}
use Rattle.grammar.specs.Measure.{Cost}
use Rattle.grammar.specs.Least.{RuleSize, Candidate, Total}
use Rattle.grammar.proofs.LayoutExact.{rule_at, rule_below}
use Rattle.grammar.proofs.Unique.{sizes_unique, beside_unique, context_unique, total_unique, least_unique}
use Rattle.grammar.specs.Certificates.{LeastCertificate, Leasts}
use Rattle.grammar.proofs.Certificate.{least_certificate, word_sizes, rule_size}
use Rattle.grammar.specs.Certificates.{Holds}
use Rattle.grammar.proofs.ContextCertificate.{others_beside, context_certificate, candidate}
use Rattle.grammar.specs.Certificates.{ContextCertificate, Contexts}
use Rattle.grammar.specs.Certificates.{Figures, AreFigures, size_by, beside_by, FigureCertificate}
use Rattle.grammar.proofs.TreeOfExists.{beside_holds}

module _ (c : Cost) (g : Grammar) (F : Figures c) where
  open c use {C, ◌⊕◌, once}
  open F use {least, chosen, context, rule, place, total}

  infixl 60 ◌⊕◌
  abbrev size : List ℕ → C
  size = size_by c g F

  abbrev beside : List ℕ → ℕ → C
  beside = beside_by c g F

  -- In the terms of specs/Least: over leasts, the size of a rule; over contexts too, what a rule and a place come to, and a Total
  module _ (leasts : Leasts c g least) where
    sized : {A k : ℕ} {x : C} (h : RuleSize c g A k x) → x ≡ size h.w
    sized h = h.is ∙ ap (λ d. once ⊕ d) (sizes_unique h.sizes (word_sizes c g least leasts h.w))

    module _ (ok : InBounds g) (contexts : Contexts c g least context) where
      comes : {k B : ℕ} {w : List ℕ} (i A : ℕ) → RuleAt g k B w → Holds w i A → A < g.N →
          Candidate c g A k i (context B ⊕ beside w i)
      comes {k} {B} {w} i A r h lt = candidate c g least leasts context ok.start_below contexts k B w i A r h lt

      came : {A k i : ℕ} {x : C} → A < g.N → (q : Candidate c g A k i x) → x ≡ context q.B ⊕ beside q.w i
      came {A} {i = i} lt q =
          let others = others_beside c g least leasts q.w i A lt (beside_holds q.beside) in
          cc (q.is, beside_unique q.beside others, context_unique q.context (contexts q.B q.rule.left))

      total_of : {r A : ℕ} {w : List ℕ} → RuleAt g r A w → Total c g r (context A ⊕ size w)
      total_of {r} {A} {w} at = record {
        A = A;
        outer = context A;
        context = contexts A at.left;
        size = size w;
        rule = rule_size c g least leasts r A w at;
        is = refl;
      }

  module _ (ok : InBounds g) (p : FigureCertificate c g F) where
    leasts : Leasts c g least
    leasts = (least_certificate c g least).0 (record {
      below = p.least_below;
      attained = λ A lt. let z = p.chosen_attains A lt in (chosen A, z.0, z.1, z.2);
    })

    contexts : Contexts c g least context
    contexts = (context_certificate c g least leasts context ok.start_below).0 (record {
      at_start = p.context-start;
      below = p.context_below;
      attained = λ A lt d. let z = p.choice_attains A lt d in (rule A, z.0, z.1, place A, z.2, z.3, z.4);
    })

    certified : AreFigures c g F
    certified = record {
      leasts = leasts;
      chosens = λ A lt.
          let z = p.chosen_attains A lt in
          record {
            figure = least A;
            least = leasts A lt;
            attains = rw z.2 (rule_size c g least leasts (chosen A) A z.0 z.1);
            lowest = λ j h. p.chosen_lowest j A h.w h.rule (sized leasts h);
          };
      contexts = contexts;
      choices = λ A lt d.
          let z = p.choice_attains A lt d in
          record {
            other = d;
            figure = context A;
            context = contexts A lt;
            attains = rw z.4 (comes leasts ok contexts (place A) A z.2 z.3 lt);
            first = λ j h q.
                p.choice_first j q.B q.w h A q.rule (beside_holds q.beside) lt d (came leasts ok contexts lt q);
          };
      totals = λ r l. let (A, w, at) = rule_at ok r l in rw (p.totals r A w at) (total_of leasts ok contexts at);
    }

  module _ (ok : InBounds g) (t : AreFigures c g F) where
    least_cert : LeastCertificate c g least
    least_cert = (least_certificate c g least).1 t.leasts

    context_cert : ContextCertificate c g least context
    context_cert = (context_certificate c g least t.leasts context ok.start_below).1 t.contexts

    certifies : FigureCertificate c g F
    certifies = record {
      least_below = least_cert.below;
      chosen_attains = λ A lt.
          let z = t.chosens A lt in
          (z.attains.w, z.attains.rule, least_unique (t.leasts A lt) z.least ∙ sized t.leasts z.attains);
      chosen_lowest = λ k A w r e.
          let z = t.chosens A r.left in
          let same : z.figure ≡ size w = least_unique z.least (t.leasts A r.left) ∙ e in
          z.lowest k (rw same (rule_size c g least t.leasts k A w r));
      context-start = context_cert.at_start;
      context_below = context_cert.below;
      choice_attains = λ A lt d.
          let z = t.choices A lt d in
          let q = z.attains in
          let same = context_unique (t.contexts A lt) z.context ∙ came t.leasts ok t.contexts lt q in
          (q.B, q.w, q.rule, beside_holds q.beside, same);
      choice_first = λ k B w i A r h lt d e.
          let z = t.choices A lt d in
          let same : z.figure ≡ context B ⊕ beside w i = context_unique z.context (t.contexts A lt) ∙ e in
          z.first k i (rw same (comes t.leasts ok t.contexts i A r h lt));
      totals = λ r A w at.
          total_unique (t.totals r (rule_below g.rules r _ at.stands)) (total_of t.leasts ok t.contexts at);
    }

  -- THE CERTIFICATE, both ways
  pub figure_certificate : InBounds g → FigureCertificate c g F ↔ AreFigures c g F
  figure_certificate ok = (certified ok, certifies ok)
