-- No words fall between rows 4 to 7: words break or are a grammar within bounds, and of such a grammar each row refuses or goes
-- on, so that there is an outcome as soon as the rest has one. Assumes nothing.
use Prim.Native.Nat.{ℕ}
use mathlib.Core.Path.{◌≡◌, refl}
use mathlib.Core.Logic.{◌⊎◌, inl, inr}
use mathlib.Core.List.{List}
use Rattle.answers.specs.GrammarRefusals.{GrammarRefusal}
use Rattle.grammar.specs.Words.{Grammar, Judged, layout, reads, faults, Are, InBounds}
use Rattle.grammar.specs.Refusals.{Lowest, NoTree, AllTrees, Unreached, AllReached, Oversize, AllFit, Accepted}
use Rattle.grammar.specs.Rows.{GrammarRefused, row_4, row_5, row_6, row_7}
use Rattle.grammar.proofs.LayoutExact.{in_bounds}
use Rattle.grammar.proofs.Decided.{trees?, all_reached?, all_fit?}
use Rattle.grammar.proofs.FirstRows.{OfWords, fault, grammar, OfAccepted, refused, accepted}

pub words_met : {Out : Type 0} (words : List ℕ) (broken : ℕ → Out) (Rows : Grammar → Out → Type 0) →
    ((g : Grammar) → InBounds g → (o : Out) × Rows g o) → (o : Out) × OfWords words broken Rows o
words_met {Out} words broken Rows rows = judged (layout words) refl
  where
    judged : (j : Judged Grammar) → layout words ≡ j → (o : Out) × OfWords words broken Rows o
    judged (faults p) e = (broken p, fault e)
    judged (reads g) e = let (o, z) = rows g (in_bounds words e) in (o, grammar e z)

-- one of rows 4 to 7 refuses the words, or they are an accepted grammar
pub refused? : (limit : ℕ) (words : List ℕ) → ((x : GrammarRefusal) × GrammarRefused limit words x) ⊎ Are words (Accepted limit)
refused? limit words = four (layout words) refl
  where
    Verdict : Type 0
    Verdict = ((x : GrammarRefusal) × GrammarRefused limit words x) ⊎ Are words (Accepted limit)

    seven : (g : Grammar) → layout words ≡ reads g → AllTrees g → AllReached g →
        AllFit limit g ⊎ ((r : ℕ) × Lowest (Oversize limit g) r) → Verdict
    seven g e t u (inl f) = inr (g, e, record { trees = t; reached = u; fit = f })
    seven g e t u (inr (r, low)) = inl (_, row_7 e t u low)

    six : (g : Grammar) → layout words ≡ reads g → AllTrees g → AllReached g ⊎ ((A : ℕ) × Lowest (Unreached g) A) → Verdict
    six g e t (inl u) = seven g e t u (all_fit? limit g (in_bounds words e) t u)
    six g e t (inr (A, low)) = inl (_, row_6 e t low)

    five : (g : Grammar) → layout words ≡ reads g → AllTrees g ⊎ ((A : ℕ) × Lowest (NoTree g) A) → Verdict
    five g e (inl t) = six g e t (all_reached? g t)
    five g e (inr (A, low)) = inl (_, row_5 e low)

    four : (j : Judged Grammar) → layout words ≡ j → Verdict
    four (faults p) e = inl (_, row_4 e)
    four (reads g) e = five g e (trees? g)

pub accepted_met : {Out : Type 0} (limit : ℕ) (words : List ℕ) (refuse : GrammarRefusal → Out) (Rows : Grammar → Out → Type 0) →
    ((g : Grammar) → InBounds g → Accepted limit g → (o : Out) × Rows g o) → (o : Out) × OfAccepted limit words refuse Rows o
accepted_met {Out} limit words refuse Rows rows = of_words (refused? limit words)
  where
    of_words : ((x : GrammarRefusal) × GrammarRefused limit words x) ⊎ Are words (Accepted limit) →
        (o : Out) × OfAccepted limit words refuse Rows o
    of_words (inl (x, r)) = (refuse x, refused r)
    of_words (inr (g, e, a)) = let (o, z) = rows g (in_bounds words e) a in (o, accepted e a z)
