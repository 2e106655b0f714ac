-- By document 01's measure a tree's size is the length of its sentence plus that of its derivation. So what the measure makes
-- small is what is handed out, and a bound on Total is one on the room that a sentence and a derivation take.
-- By induction on the tree: a leaf is one word of the sentence, a node one number of the derivation. Assumes nothing.
use mathlib.Core.Path.{◌≡◌, refl}
use mathlib.Core.List.{List}
use Prim.Native.Nat.{ℕ, ◌+◌}
use native.Mathlib.Omega.{arith}
use lib.ListN.{length, length-append}
use Rattle.grammar.specs.Words.{Grammar}
use Rattle.grammar.specs.Tree.{Tree, Forest, node, nil, leaf, child, sentence, sentences, derivation, derivations}
use Rattle.grammar.specs.Measure.{tree_cost, forest_cost}
use Rattle.grammar.specs.Terms.{measure}

module _ {g : Grammar} where
  mutual
    unfolding tree_cost

    -- SIZE: what a tree is measured by is what its listing takes
    pub size_is_length : {A : ℕ} (t : Tree g A) → tree_cost measure t ≡ length (sentence t) + length (derivation t)
    size_is_length (node k r f) = omega (arith, sizes_are_lengths f)

    sizes_are_lengths : {w : List ℕ} (f : Forest g w) → forest_cost measure f ≡ length (sentences f) + length (derivations f)
    sizes_are_lengths nil = refl
    sizes_are_lengths (leaf p f) = omega (arith, sizes_are_lengths f)
    sizes_are_lengths (child t f) =
        let words = length-append (sentence t) (sentences f) in
        let numbers = length-append (derivation t) (derivations f) in
        omega (arith, size_is_length t, sizes_are_lengths f)
