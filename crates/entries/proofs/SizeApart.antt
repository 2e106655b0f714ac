-- The sizes of a rule's symbols taken apart at a place: that of the symbol there, and those of the others. Assumes nothing.
use mathlib.Core.Path.{◌≡◌}
use mathlib.Core.List.{List, [], ◌∷◌}
use Prim.Native.Nat.{ℕ, zero, suc, ◌+◌, ◌<◌}
use native.Mathlib.Omega.{arith}
use Rattle.grammar.specs.Words.{Grammar}
use Rattle.grammar.specs.Terms.{measure}
use Rattle.grammar.specs.Certificates.{word_size, Holds, others_size}
use Rattle.grammar.proofs.Certificate.{symbol_nonterminal}

pub size_apart : (g : Grammar) (v : ℕ → ℕ) (w : List ℕ) (i A : ℕ) → Holds w i A → A < g.N →
    word_size measure g v w ≡ v A + others_size measure g v w i
unfolding word_size others_size
size_apart g v [] i A h l = absurd (let z : ◌≡◌ {A = ℕ} 0 1 = cc in omega arith)
size_apart g v (s ∷ w) zero A h l = let e : s ≡ A = cc in rw e (omega (arith, symbol_nonterminal measure g v A l))
size_apart g v (s ∷ w) (suc i) A h l = omega (arith, size_apart g v w i A h l)
