-- A property of every symbol of a form: of two forms together, of each of the two, of two properties at once, and what follows
-- from it. Derivations, the replay and coverage take forms apart and put them together by these.
-- Assumes nothing.
use mathlib.Core.List.{List, [], ◌∷◌, ◌++◌}
use Prim.Native.Nat.{ℕ}
use Rattle.grammar.specs.Words.{All}

pub all_append : (P : ℕ → Type 0) (u v : List ℕ) → All P u → All P v → All P (u ++ v)
all_append P [] v a b = b
all_append P (s ∷ u) v a b = (a.0, all_append P u v a.1 b)

pub all_first : (P : ℕ → Type 0) (u v : List ℕ) → All P (u ++ v) → All P u
all_first P [] v a = tt
all_first P (s ∷ u) v a = (a.0, all_first P u v a.1)

pub all_second : (P : ℕ → Type 0) (u v : List ℕ) → All P (u ++ v) → All P v
all_second P [] v a = a
all_second P (s ∷ u) v a = all_second P u v a.1

pub all_both : (P Q : ℕ → Type 0) (u : List ℕ) → All P u → All Q u → All (λ s. P s × Q s) u
all_both P Q [] a b = tt
all_both P Q (s ∷ u) a b = ((a.0, b.0), all_both P Q u a.1 b.1)

pub all_map : (P Q : ℕ → Type 0) → ((s : ℕ) → P s → Q s) → (u : List ℕ) → All P u → All Q u
all_map P Q implies [] a = tt
all_map P Q implies (s ∷ u) a = (implies s a.0, all_map P Q implies u a.1)
