-- `tables::contexts::Contexts::try_rule` meets its contract: each `return` is one of `ContextStep`'s cases. Assumes nothing.
use mathlib.Core.Path.{◌≡◌, sym, ap, ◌∙◌}
use mathlib.Core.List.{List}
use Prim.Native.Nat.{ℕ, ◌+◌, ◌≤◌, ◌<◌}
use native.Mathlib.Omega.{arith}
use lib.ListN.{length, get_or, set}
use Rattle.figures.specs.Figures.{figure}
use Rattle.figures.proofs.FiguresFall.{figure_is}
use Rattle.tables.specs.ContextSteps.{PlacesStep, ContextStep, as_seen, unseen}
use Rattle.layout.proofs.ReadingBounds.{nonterminals_few, rules_few, left_is_nonterminal}
use Rattle.tables.proofs.contexts.Contexts.try_rule.Goals as goal

-- the context that was read, of the left side B, and what is seen of the rule k
module _ {n size B k left rule : ℕ} {vs w us seen : List ℕ} (of_left : left ≡ B) (of_rule : rule ≡ k)
    (has_context : left < length us) (has_seen : rule < length seen) where
  passed_over : get_or us left 0 ≡ get_or seen rule 0 → ContextStep n size vs k B w us seen us seen 0
  passed_over same =
      let context = figure_is us left 0 has_context ∙ ap (figure us) of_left in
      as_seen (sym context ∙ same ∙ figure_is seen rule 0 has_seen ∙ ap (figure seen) of_rule)

  tried_with : {us' : List ℕ} {whole f : ℕ} → get_or us left 0 ≤ 65535 → ¬ (get_or us left 0 ≡ get_or seen rule 0) →
      whole ≡ get_or us left 0 + size → PlacesStep n whole vs w us us' f →
      ContextStep n size vs k B w us seen us' (set seen rule (get_or us left 0)) f
  tried_with small differs is ps =
      let context = figure_is us left 0 has_context ∙ ap (figure us) of_left in
      let was = figure_is seen rule 0 has_seen ∙ ap (figure seen) of_rule in
      rw (context, of_rule) (unseen (rw of_rule at has_seen) (rw context at small) (λ e. differs (context ∙ e ∙ sym was))
      (rw (is, context) at ps))

pub bounds-self-left : goal.bounds-self-left
bounds-self-left c =
    let v = c.args.found.now.reading in
    omega (arith, left_is_nonterminal v c.args.r c.requires, nonterminals_few v)

pub bounds-self-k : goal.bounds-self-k
bounds-self-k c = omega (arith, rules_few c.args.found.now.reading)

pub bounds-self-k-2 : goal.bounds-self-k-2
bounds-self-k-2 c = omega (arith, rules_few c.args.found.now.reading)

pub returns-then-context-self : goal.returns-then-context-self
returns-then-context-self c =
    let v = c.args.found.now.reading in
    passed_over (c.from-left.ensures ∙ c.left.ensures) c.from-k.ensures
    (omega (arith, left_is_nonterminal v c.args.r c.requires, nonterminals_few v)) (omega (arith, rules_few v))
    c.if-context-self.true

pub returns : goal.returns
returns c =
    let v = c.args.found.now.reading in
    tried_with (c.from-left.ensures ∙ c.left.ensures) c.from-k.ensures
    (omega (arith, left_is_nonterminal v c.args.r c.requires, nonterminals_few v)) (omega (arith, rules_few v))
    (omega arith) c.if-context-self.false (omega arith) (rw c.right.ensures.result_value at c.lower_contexts.ensures)
