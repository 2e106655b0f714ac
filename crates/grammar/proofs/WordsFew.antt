-- The words of a grammar number at most 8,707: three, and for each of at most 256 rules a left side, a count and at most 32
-- symbols. So document 01's bound on the words needs no test of its own: where there are more, there is a 257th left side.
-- Assumes nothing.
use mathlib.Core.List.{List, [], ◌∷◌}
use mathlib.Core.Path.{◌≡◌}
use Prim.Native.Nat.{ℕ, ◌*◌, ◌≤◌}
use native.Mathlib.Omega.{arith}
use lib.ListN.{length, length-append}
use Rattle.grammar.specs.Words.{Grammar, Rule, ◌⟶◌, rule_words, rules_words, RulesOk, layout, reads}
use Rattle.grammar.proofs.LayoutExact.{layout_exact}

rules_few : (N T : ℕ) (rs : List Rule) → RulesOk N T rs → length (rules_words rs) ≤ 34 * length rs
rules_few N T [] ok = omega arith
rules_few N T ((A ⟶ w) ∷ rs) ok =
    let few = ok.0.1 in
    omega (arith, rules_few N T rs ok.1, length-append (rule_words (A ⟶ w)) (rules_words rs))

pub words_few : (ws : List ℕ) (g : Grammar) → layout ws ≡ reads g → length ws ≤ 8707
words_few ws g e =
    let h = (layout_exact ws g).0 e in
    rw h.1 (omega (arith, rules_few g.N g.T g.rules h.0.rules_ok, h.0.at_most_256))
