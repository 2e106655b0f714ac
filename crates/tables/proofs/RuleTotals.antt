-- The totals of the rules of a grammar, as the functions read them. Assumes nothing.
use mathlib.Core.Path.{◌≡◌, ap, ◌∙◌}
use mathlib.Core.List.{List}
use Prim.Native.Nat.{ℕ, ◌+◌, ◌<◌}
use native.Mathlib.Omega.{arith}
use lib.ListN.{get_or}
use Rattle.grammar.specs.Words.{Grammar}
use Rattle.grammar.proofs.RuleNumbers.{rule_number}
use Rattle.layout.specs.Read.{ReadsAs}
use Rattle.layout.proofs.RulesInView.{viewed_left}
use Rattle.figures.specs.Figures.{figure, capped}
use Rattle.leasts.specs.declared.FoundLeasts.{FoundLeasts}
use Rattle.tables.specs.ContextFigures.{TotalsOf}
use Rattle.tables.specs.ContextSteps.{left_of}

-- the total of rule k
abbrev pub total_at : FoundLeasts → List ℕ → ℕ → ℕ
total_at found us k = capped (figure us (left_of found.reading k) + get_or found.sizes k 0)

pub totals_of : (found : FoundLeasts) {g : Grammar} → ReadsAs found.reading g → (us totals : List ℕ) →
    ((k : ℕ) → k < found.reading.rules → get_or totals k 0 ≡ total_at found us k) → TotalsOf g us found.sizes totals
totals_of found view us totals read k A w rule =
    read k (omega (arith, view.all_rules, rule_number rule)) ∙
    ap (λ (B : ℕ). capped (figure us B + get_or found.sizes k 0)) (viewed_left view rule)
