-- Tokens stored one after the other, from an index of a buffer on. Assumes nothing.
use Rattle.std.proofs.Common.{ℕ, suc, ◌≡◌, ◌+◌, ◌≤◌, ◌<◌, List, [], ◌∷◌, length, get_or, take, set, refl, arith}
use Rattle.std.proofs.Math.Seq.{set_out}
use Rattle.std.proofs.lemmas.List.{take_more, length-take-le}
use Rattle.std.proofs.lemmas.List.Edits.{sets}
use Rattle.answers.proofs.Stores.{sets_append}

-- one more is stored
pub stored_more : (vs l : List ℕ) (from i : ℕ) → i < length vs →
    sets l from (take (i + 1) vs) ≡ set (sets l from (take i vs)) (from + i) (get_or vs i 0)
stored_more vs l from i h =
    let long : length (take i vs) ≡ i = length-take-le i vs (omega arith) in
    rw (take_more vs i 0 h, sets_append, long)

-- stores past the end change nothing
pub sets_out : (vs l : List ℕ) (i : ℕ) → length l ≤ i → sets l i vs ≡ l
sets_out [] l i h = refl
sets_out (v ∷ vs) l i h = rw (set_out l i v h) (sets_out vs l (suc i) (omega arith))
