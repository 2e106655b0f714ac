-- What the table's context choice says of a nonterminal other than the start: its place is one of its context rule's, whose left side
-- is a nonterminal of a smaller context. Assumes nothing.
use Prim.Native.Nat.{ℕ, ◌<◌}
use native.Mathlib.Omega.{arith}
use mathlib.Core.Path.{◌≡◌, sym, ap, ◌∙◌}
use lib.ListN.{length}
use Rattle.grammar.specs.Terms.{measure}
use Rattle.grammar.specs.Least.{ContextChoice}
use Rattle.grammar.proofs.ContextsExist.{holds_below}
use Rattle.grammar.proofs.TreeOfExists.{beside_holds}
use Rattle.layout.proofs.RulesInView.{viewed_left, viewed_right}
use Rattle.entries.specs.Table.{context_in, rule_in, place_in}
use Rattle.handout.specs.declared.tabled.Tabled.{Tabled}
use Rattle.handout.specs.Listing.{grammar_of, right_of}
use Rattle.handout.specs.TreeListing.{Inner, upper}
use Rattle.handout.proofs.OwnTable.{view_of, start_of}
use Rattle.handout.proofs.SizesByTable.{known_choice, choice_within}

module _ (t : Tabled) {A : ℕ} (inner : Inner t A) where
  low : A < (grammar_of t).N
  low = omega (arith, inner.nonterminal, (view_of t).nonterminals)

  choice : ContextChoice measure (grammar_of t) A (rule_in t.table.now A) (place_in t.table.now A)
  choice = known_choice t A low (λ e. inner.other (e ∙ sym (start_of t)))

  left : upper t A ≡ choice.attains.B
  left = viewed_left (view_of t) choice.attains.rule

  pub upper_below : upper t A < t.reading.now.nonterminals
  upper_below = omega (arith, left, choice.attains.rule.left, (view_of t).nonterminals)

  pub place_within : place_in t.table.now A < length (right_of t (rule_in t.table.now A))
  place_within =
      let c = choice.attains in
      let there = holds_below c.w (place_in t.table.now A) A (beside_holds c.beside) in
      omega (arith, there, ap length (viewed_right (view_of t) c.rule))

  pub context_falls : context_in t.table.now (upper t A) < context_in t.table.now A
  context_falls =
      let less = choice_within t low choice.attains.rule choice in
      omega (arith, less, ap (λ (B : ℕ). context_in t.table.now B) left)
