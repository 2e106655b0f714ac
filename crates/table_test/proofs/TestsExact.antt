-- The tests of passes are exact: a lent table passes them where the grammar is accepted and the table is its own, and nowhere
-- else. They are the tests of grammar's FigureCertificate with nothing taken off: the total of a rule of B is u B and its size,
-- and the size is 1, v A and the sizes of the symbols beside A; so v A + u A is at most the total exactly where u A is at most u
-- B, 1 and the sizes beside. The start's v A + 0 is below the total of each rule that names it, so its stored 65535 does no harm.
-- Assumes nothing.
use Prim.Native.Nat.{ℕ, ◌+◌, ◌≤◌, ◌<◌}
use native.Mathlib.Omega.{arith}
use native.Mathlib.Decide.{ℕ_discrete}
use mathlib.Core.Path.{◌≡◌, refl, sym, ◌∙◌}
use mathlib.Core.Logic.{◌⊎◌, ◌↔◌}
use mathlib.Core.List.{List}
use lib.ListN.{length, length-take}
use Rattle.grammar.specs.Words.{Grammar, RuleAt, R, InBounds}
use Rattle.grammar.specs.Terms.{measure, limit}
use Rattle.grammar.specs.Refusals.{Accepted}
use Rattle.grammar.proofs.LayoutExact.{rule_at, rule_below}
use Rattle.grammar.proofs.Dead.{open_reached}
use Rattle.grammar.proofs.Unique.{total_unique}
use Rattle.grammar.specs.Certificates.{word_size, Holds, others_size, AreFigures, FigureCertificate}
use Rattle.grammar.proofs.FigureCertificate.{figure_certificate}
use Rattle.entries.specs.Table.{table_length, least_in, chosen_in, context_in, rule_in, place_in, total_in, no_choice}
use Rattle.entries.specs.Table.{HasTable, Own}
use Rattle.entries.specs.TableCertificates.{figures_of}
use Rattle.entries.proofs.TablePlaces.{least_front, chosen_front, context_front, rule_front, place_front, total_front}
use Rattle.entries.proofs.SizeApart.{size_apart}
use Rattle.table_test.specs.Passes.{PlacePasses, size_in, StartPasses, TablePasses}

module _ (g : Grammar) (ok : InBounds g) (table : List ℕ) where
  -- the table is the grammar's, in the figures that all of its words give
  record AllOwn : Type 0 where
    long : table_length g ≤ length table
    figures : AreFigures measure g (figures_of g table)
    start_rule : rule_in table g.start ≡ no_choice
    start_place : place_in table g.start ≡ no_choice

  has_own : HasTable g table → AllOwn
  has_own t = record {
    long = omega (arith, t.long, length-take (table_length g) table);
    figures = record {
      leasts = λ A lt. rw (least_front g table A lt) at (t.leasts A lt);
      chosens = λ A lt. rw (chosen_front g table A lt) at (t.chosen A lt);
      contexts = λ A lt. rw (context_front g table A lt) at (t.contexts A lt);
      choices = λ A lt d. rw (rule_front g table A lt, place_front g table A lt) at (t.choices A lt d);
      totals = λ r l. rw (total_front g table r l) at (t.totals r l);
    };
    start_rule = sym (rule_front g table g.start ok.start_below) ∙ t.start_rule;
    start_place = sym (place_front g table g.start ok.start_below) ∙ t.start_place;
  }

  own_has : AllOwn → HasTable g table
  own_has o = record {
    long = omega (arith, o.long, length-take (table_length g) table);
    leasts = λ A lt. rw (least_front g table A lt) (o.figures.leasts A lt);
    chosen = λ A lt. rw (chosen_front g table A lt) (o.figures.chosens A lt);
    contexts = λ A lt. rw (context_front g table A lt) (o.figures.contexts A lt);
    choices = λ A lt d.
        rw (rule_front g table A lt, place_front g table A lt) (o.figures.choices A lt d);
    start_rule = rule_front g table g.start ok.start_below ∙ o.start_rule;
    start_place = place_front g table g.start ok.start_below ∙ o.start_place;
    totals = λ r l. rw (total_front g table r l) (o.figures.totals r l);
  }

  -- a grammar that has a table is accepted where no total is above the limit
  own_accepted : AllOwn → ((r : ℕ) → r < R g → total_in g.N table r ≤ limit) → Accepted limit g
  own_accepted o fit = record {
    trees = λ A lt. (o.figures.leasts A lt).tree;
    reached = λ A lt. open_reached (o.figures.contexts A lt).tree;
    fit = λ r l. record { total = total_in g.N table r; is = o.figures.totals r l; within = fit r l };
  }

  parted : (w : List ℕ) (i A : ℕ) → Holds w i A → A < g.N →
      word_size measure g (least_in table) w ≡ least_in table A + others_size measure g (least_in table) w i
  parted = size_apart g (least_in table)

  module _ (t : TablePasses g table) where
    start : StartPasses table g.start
    start = (t.choices g.start ok.start_below).at_start refl

    certificate : FigureCertificate measure g (figures_of g table)
    certificate = record {
      least_below = λ k A w r. (t.rules k A w r).left.below;
      chosen_attains = λ A lt.
          let z = (t.choices A lt).chosen in
          let left = (t.rules (chosen_in table A) A z.w z.rule).left in
          (z.w, z.rule, omega (arith, z.total, left.total));
      chosen_lowest = λ k A w r e. (t.rules k A w r).left.first e;
      context-start = start.context;
      context_below = λ k B w i A r h lt.
          let p = t.rules k B w r in
          omega (arith, (p.places i A h lt).below, p.left.total, parted w i A h lt);
      choice_attains = λ A lt d.
          let z = (t.choices A lt).context d in
          let left = (t.rules (rule_in table A) z.B z.w z.rule).left in
          (z.B, z.w, z.rule, z.holds, omega (arith, z.total, left.total, parted z.w (place_in table A) A z.holds lt));
      choice_first = λ k B w i A r h lt d e.
          let p = t.rules k B w r in
          (p.places i A h lt).first (omega (arith, p.left.total, parted w i A h lt));
      totals = λ r A w at. sym (t.rules r A w at).left.total;
    }

    passed_own : AllOwn
    passed_own = record {
      long = t.long;
      figures = (figure_certificate measure g (figures_of g table) ok).0 certificate;
      start_rule = start.rule;
      start_place = start.place;
    }

  module _ (accepted : Accepted limit g) (o : AllOwn) where
    cert : FigureCertificate measure g (figures_of g table)
    cert = (figure_certificate measure g (figures_of g table) ok).1 o.figures

    total_fits : (r : ℕ) → r < R g → total_in g.N table r ≤ limit
    total_fits r l = omega (arith, total_unique (o.figures.totals r l) (accepted.fit r l).is, (accepted.fit r l).within)

    place_passes : (k B : ℕ) (w : List ℕ) (i A : ℕ) → RuleAt g k B w → Holds w i A → A < g.N →
        PlacePasses table A k i (total_in g.N table k)
    place_passes k B w i A r h lt = record {
      below = omega (arith, cert.context_below k B w i A r h lt, total, parted w i A h lt);
      first = first (ℕ_discrete A g.start);
    }
      where
        total : total_in g.N table k ≡ context_in table B + size_in g table w
        total = cert.totals k B w r

        first : Dec (A ≡ g.start) → least_in table A + context_in table A ≡ total_in g.N table k →
            (rule_in table A < k) ⊎ ((rule_in table A ≡ k) × (place_in table A ≤ i))
        first (yes e) same =
            let zero : context_in table A ≡ 0 = rw e cert.context-start in
            absurd (omega (arith, total, parted w i A h lt))
        first (no d) same = cert.choice_first k B w i A r h lt d (omega (arith, total, parted w i A h lt))

    own_passed : TablePasses g table
    own_passed = record {
      long = o.long;
      choices = λ A lt. record {
        chosen =
            let z = cert.chosen_attains A lt in
            record { w = z.0; rule = z.1; total = omega (arith, z.2, cert.totals (chosen_in table A) A z.0 z.1) };
        at_start = λ e. rw e (record { context = cert.context-start; rule = o.start_rule; place = o.start_place });
        context = λ d.
            let z = cert.choice_attains A lt d in
            let size = parted z.1 (place_in table A) A z.3 lt in
            record {
              B = z.0;
              w = z.1;
              rule = z.2;
              holds = z.3;
              total = omega (arith, z.4, size, cert.totals (rule_in table A) z.0 z.1 z.2);
            };
      };
      rules = λ k A w r. record {
        fits = total_fits k (rule_below g.rules k _ r.stands);
        places = λ i B h lt. place_passes k A w i B r h lt;
        left = record {
          total = sym (cert.totals k A w r);
          below = cert.least_below k A w r;
          first = cert.chosen_lowest k A w r;
        };
      };
    }

  -- EXACT, both ways
  pub tests_exact : TablePasses g table ↔ Own table g
  tests_exact = (to, from)
    where
      to : TablePasses g table → Own table g
      to t =
          let fits : (r : ℕ) → r < R g → total_in g.N table r ≤ limit = λ r l.
          let (A, w, at) = rule_at ok r l in (t.rules r A w at).fits in
          (own_accepted (passed_own t) fits, own_has (passed_own t))

      from : Own table g → TablePasses g table
      from h = own_passed h.0 (has_own h.1)
