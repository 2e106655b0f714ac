-- The final statements of this crate, each by one citation: what the promises of `leasts` and `FoundLeasts::of` come to. A reader
-- who believes specs/Promise and layout's specs/Judge and reads this page is done. Assumes nothing.
use Prim.Native.Nat.{ℕ, ◌≤◌, ◌<◌}
use mathlib.Core.Path.{◌≡◌}
use mathlib.Core.Logic.{◌↔◌}
use mathlib.Core.List.{List}
use denote.Ref.{Bor}
use Rattle.std.specs.Prelude.{Result, Ok, IsOkAnd}
use Rattle.layout.specs.declared.judge.Fault.{Fault}
use Rattle.grammar.specs.Words.{Grammar, layout, reads}
use Rattle.grammar.specs.Tree.{Tree}
use Rattle.grammar.specs.Terms.{measure, limit}
use Rattle.grammar.specs.Least.{Least}
use Rattle.figures.specs.Figures.{no_figure, figure}
use Rattle.leasts.specs.Promise.{LeastsOf, FiguresFound, FoundOf, placed_leasts}
use Rattle.leasts.specs.declared.FoundLeasts.{FoundLeasts}
use Rattle.leasts.specs.declared.PlacedLeasts.{PlacedLeasts}
use Rattle.leasts.proofs.LeastsSettle as LeastsSettle
use Rattle.leasts.proofs.LeastsMet as LeastsMet
use Rattle.leasts.proofs.LeastsExact as LeastsExact

-- LEASTS. Its promise allows exactly one outcome for each words.
pub leasts_settles : (ws : List ℕ) {r s : Result PlacedLeasts Fault} → LeastsOf ws r → LeastsOf ws s → r ≡ s
leasts_settles = LeastsSettle.leasts_settles

pub leasts_met : (ws : List ℕ) → (r : Result PlacedLeasts Fault) × LeastsOf ws r
leasts_met = LeastsMet.leasts_met

-- Where the words are a grammar, the outcome is Ok; in it a nonterminal has no figure exactly where it has no complete tree, and a
-- figure up to the limit exactly where that is its least.
pub no_figure_exactly : (ws : List ℕ) {g : Grammar} → layout ws ≡ reads g → (r : Result PlacedLeasts Fault) →
    LeastsOf ws r → IsOkAnd r (λ found. (A : ℕ) → A < g.N → (figure found.leasts A ≡ no_figure) ↔ ¬ Tree g A)
no_figure_exactly = LeastsExact.no_figure_exactly

pub least_exactly : (ws : List ℕ) {g : Grammar} → layout ws ≡ reads g → (r : Result PlacedLeasts Fault) →
    LeastsOf ws r →
    IsOkAnd r (λ found. (A : ℕ) → A < g.N → (x : ℕ) → x ≤ limit → (figure found.leasts A ≡ x) ↔ Least measure g A x)
least_exactly = LeastsExact.least_exactly

-- THE SAME WITH A READING, of `FoundLeasts::of`.
pub found_settles : (words : Bor (List ℕ)) {r s : Result FoundLeasts Fault} → FoundOf words r → FoundOf words s → r ≡ s
found_settles = LeastsSettle.found_settles

pub found_met : (words : Bor (List ℕ)) → (r : Result FoundLeasts Fault) × FoundOf words r
found_met = LeastsMet.found_met

pub found_no_figure_exactly : (words : Bor (List ℕ)) {g : Grammar} → layout words.now ≡ reads g → (r : Result FoundLeasts Fault) →
    FoundOf words r → IsOkAnd r (λ found. (A : ℕ) → A < g.N → (figure found.leasts A ≡ no_figure) ↔ ¬ Tree g A)
found_no_figure_exactly = LeastsExact.found_no_figure_exactly

pub found_least_exactly : (words : Bor (List ℕ)) {g : Grammar} → layout words.now ≡ reads g → (r : Result FoundLeasts Fault) →
    FoundOf words r →
    IsOkAnd r (λ found. (A : ℕ) → A < g.N → (x : ℕ) → x ≤ limit → (figure found.leasts A ≡ x) ↔ Least measure g A x)
found_least_exactly = LeastsExact.found_least_exactly

-- Without the words it is what `leasts` answers of them.
pub found_placed : (words : Bor (List ℕ)) (found : FoundLeasts) → FiguresFound words found → LeastsOf words.now (Ok (placed_leasts found))
found_placed = LeastsExact.found_placed
