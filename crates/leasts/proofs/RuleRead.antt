-- A rule that was read is the grammar's rule of that number: so are its sides, and its size or that it has none. Assumes nothing.
use mathlib.Core.Path.{◌≡◌, ◌∙◌}
use mathlib.Core.List.{List}
use Prim.Native.Nat.{ℕ}
use Rattle.grammar.specs.Words.{Grammar, RuleAt}
use Rattle.layout.specs.Read.{ReadsAs}
use Rattle.layout.proofs.RulesInView.{viewed_rule, viewed_left, viewed_right}
use Rattle.leasts.specs.LeastSteps.{HaveIn, SizeOf}
use Rattle.leasts.specs.declared.rule.Rule.{Rule}

module _ (rule : Rule) {g : Grammar} (view : ReadsAs rule.reading.now g) where
  pub the_rule : (A : ℕ) × (w : List ℕ) × RuleAt g rule.number A w
  the_rule = viewed_rule view rule.number rule.stands

  module _ {A : ℕ} {w : List ℕ} (here : RuleAt g rule.number A w) where
    pub left_is : rule.left ≡ A
    left_is = rule.left_is ∙ viewed_left view here

    pub symbols_are : rule.symbols.now ≡ w
    symbols_are = rule.symbols_are ∙ viewed_right view here

    pub size_is : {x : ℕ} {vs : List ℕ} → SizeOf rule.reading.now.nonterminals vs rule.symbols.now x → SizeOf g.N vs w x
    size_is size = rw (symbols_are, view.nonterminals) at size

    pub lacks_is : (vs : List ℕ) → ¬ HaveIn rule.reading.now.nonterminals vs rule.symbols.now → ¬ HaveIn g.N vs w
    lacks_is vs lacks = rw (symbols_are, view.nonterminals) at lacks
