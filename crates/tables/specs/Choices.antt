-- For the private functions of choices: a choice for each nonterminal, where it has one: its chosen rule, or its lead, the context
-- rule and the place there. And what noting one does. Nobody has to believe this file; the promises do not cite it. Assumes
-- nothing.
use Rattle.std.specs.Prelude.{ℕ, ◌+◌, ◌*◌, ◌≤◌, ◌<◌, ◌≡◌, List, Option, Some, None, length, get_or, set}
use Rattle.grammar.specs.Words.{Grammar, RuleAt}
use Rattle.grammar.specs.Certificates.{Holds}
use Rattle.layout.specs.Read.{ReadsAs}
use Rattle.figures.specs.Figures.{figure}
use Rattle.leasts.specs.declared.FoundLeasts.{FoundLeasts}
use Rattle.tables.specs.declared.choices.Lead.{Lead}
use Rattle.tables.specs.declared.contexts.GrammarFigures.{GrammarFigures}

-- the choice of a nonterminal, where there is one
abbrev pub choice : {C : Type 0} → List (Option C) → ℕ → Option C
choice xs A = get_or xs A None

-- Of the choices with a property and a rank below n the one of the lowest rank, or none where there is no such choice.
pub data FirstBelow {C : Type 0} (rank : C → ℕ) (P : C → Type 0) (n : ℕ) : Option C → Type 0 where
  none_has : ((y : C) → rank y < n → ¬ P y) → FirstBelow rank P n None
  first : {x : C} → rank x < n → P x → ((y : C) → rank y < rank x → ¬ P y) → FirstBelow rank P n (Some x)

-- rule k is one of A, and its size is A's least
pub record RuleFits (g : Grammar) (vs sizes : List ℕ) (A k : ℕ) : Type 0 where
  pub w : List ℕ
  pub rule : RuleAt g k A w
  pub same : figure vs A ≡ get_or sizes k 0

abbrev pub rule_rank : ℕ → ℕ
rule_rank k = k

abbrev pub ChosenOf : Grammar → List ℕ → List ℕ → List (Option ℕ) → ℕ → Type 0
ChosenOf g vs sizes chosen n = (A : ℕ) → A < g.N → FirstBelow rule_rank (RuleFits g vs sizes A) n (choice chosen A)

-- the lead's rule has A at the lead's place, and the rule's total is the least of A and the context of A
pub record LeadFits (g : Grammar) (vs us totals : List ℕ) (A : ℕ) (lead : Lead) : Type 0 where
  pub B : ℕ
  pub w : List ℕ
  pub rule : RuleAt g lead.rule B w
  pub holds : Holds w lead.place A
  pub same : figure vs A + figure us A ≡ get_or totals lead.rule 0

-- the lowest rule comes first, and then the leftmost place: no rule has more than 32
abbrev pub lead_rank : Lead → ℕ
lead_rank lead = 32 * lead.rule + lead.place

abbrev pub LeadsOf : Grammar → List ℕ → List ℕ → List ℕ → List (Option Lead) → ℕ → Type 0
LeadsOf g vs us totals leads n = (A : ℕ) → A < g.N → FirstBelow lead_rank (LeadFits g vs us totals A) n (choice leads A)

-- what is chosen in the end: among the rules that were read, and among their places
abbrev pub RulesChosen : FoundLeasts → List (Option ℕ) → Type 0
RulesChosen found chosen =
    (g : Grammar) → ReadsAs found.reading g → ChosenOf g found.leasts found.sizes chosen found.reading.rules

abbrev pub LeadsBelow : GrammarFigures → Grammar → List (Option Lead) → ℕ → Type 0
LeadsBelow f g leads r = LeadsOf g f.leasts.now f.contexts.now f.totals.now leads (32 * r)

abbrev pub LeadsChosen : GrammarFigures → List (Option Lead) → Type 0
LeadsChosen f leads = (g : Grammar) → ReadsAs f.reading.now g → LeadsBelow f g leads f.reading.now.rules

-- the places of rule r noted: the choices among the places of the rules before it become those among its places too
abbrev pub LeadsNoted : GrammarFigures → ℕ → List (Option Lead) → List (Option Lead) → Type 0
LeadsNoted f r before after =
    (g : Grammar) → ReadsAs f.reading.now g → 128 ≤ length before → LeadsBelow f g before r → LeadsBelow f g after (r + 1)

-- a choice noted where there is none yet, and left where there is one, or no place for it
pub data Noted {C : Type 0} (before : List (Option C)) (a : ℕ) (x : C) : List (Option C) → Type 0 where
  noted : a < length before → choice before a ≡ None → Noted before a x (set before a (Some x))
  kept : (a < length before → ¬ (choice before a ≡ None)) → Noted before a x before
