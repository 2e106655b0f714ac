-- Tests of words that decide whether they are a grammar's table: those of grammar's Certificates, by the places of the table; the
-- same computed; and what a program writes that works a table out. That each is exact, or enough, are laws (proofs/TableTests,
-- TableComputed, TableWorkedOut).
-- Assumes nothing.
use Rattle.std.specs.Prelude.{ℕ, ◌+◌, ◌≤◌, ◌<◌, ◌≡◌, Bool, ◌&&◌, ◌⊎◌, List, eqb, length}
use Rattle.grammar.specs.Words.{Grammar, RuleAt}
use Rattle.grammar.specs.Terms.{measure}
use Rattle.grammar.specs.Refusals.{Lowest}
use Rattle.grammar.specs.Certificates.{Holds, word_size, Figures, FigureCertificate}
use Rattle.grammar.specs.FigureTests.{figures?}
use Rattle.entries.specs.Table.{table_length, least_in, chosen_in, context_in, rule_in, place_in, total_in, no_choice}

-- the figures that words give to a grammar, whether or not they are its own
abbrev pub figures_of : Grammar → List ℕ → Figures measure
figures_of g ws = record {
  least = λ A. least_in ws A;
  chosen = λ A. chosen_in ws A;
  context = λ A. context_in ws A;
  rule = λ A. rule_in ws A;
  place = λ A. place_in ws A;
  total = total_in g.N ws;
}

-- words are the table where they pass these
pub record Passes (g : Grammar) (ws : List ℕ) : Type 0 where
  pub long : length ws ≡ table_length g
  pub figures : FigureCertificate measure g (figures_of g ws)
  pub start_rule : rule_in ws g.start ≡ no_choice
  pub start_place : place_in ws g.start ≡ no_choice

-- the same, computed
abbrev pub start_words? : Grammar → List ℕ → Bool
start_words? g ws = eqb (rule_in ws g.start) no_choice && eqb (place_in ws g.start) no_choice

abbrev pub passes? : Grammar → List ℕ → Bool
passes? g ws = eqb (length ws) (table_length g) && (start_words? g ws && figures? g (figures_of g ws))

-- the first of two numbers, rule before place, with a property
pub record First (P : ℕ → ℕ → Type 0) (k i : ℕ) : Type 0 where
  pub such : P k i
  pub first : (j h : ℕ) → P j h → (k < j) ⊎ ((k ≡ j) × (i ≤ h))

-- worked out from leasts v and contexts u, each choice the first that comes to its figure
module _ (g : Grammar) (v : ℕ → ℕ) where
  -- rule k is one of A and comes to v(A)
  abbrev pub Attaining : ℕ → ℕ → Type 0
  Attaining A k = (w : List ℕ) × RuleAt g k A w × (v A ≡ 1 + word_size measure g v w)

  module _ (u : ℕ → ℕ) where
    -- rule k, of B, holds A at place i and comes to u(A) there
    abbrev pub Leading : ℕ → ℕ → ℕ → Type 0
    Leading A k i =
        (B : ℕ) × (w : List ℕ) × RuleAt g k B w × Holds w i A × (v A + u A ≡ u B + (1 + word_size measure g v w))

    pub record WorkedOut (ws : List ℕ) : Type 0 where
      pub long : length ws ≡ table_length g
      pub leasts : (A : ℕ) → A < g.N → least_in ws A ≡ v A
      pub chosen : (A : ℕ) → A < g.N → Lowest (Attaining A) (chosen_in ws A)
      pub contexts : (A : ℕ) → A < g.N → context_in ws A ≡ u A
      pub choices : (A : ℕ) → A < g.N → ¬ (A ≡ g.start) → First (Leading A) (rule_in ws A) (place_in ws A)
      pub start_rule : rule_in ws g.start ≡ no_choice
      pub start_place : place_in ws g.start ≡ no_choice
      pub totals : (r A : ℕ) (w : List ℕ) → RuleAt g r A w → total_in g.N ws r ≡ u A + (1 + word_size measure g v w)
