-- Any two outcomes that a promise of this crate allows coincide. Only `put` is lent what it could write. Assumes nothing.
use Prim.Native.Nat.{ℕ, ◌≤◌, ◌%◌}
use mathlib.Core.Path.{◌≡◌, sym, ◌∙◌}
use mathlib.Core.List.{List}
use lib.ListN.{get_or, set}

pub read_settles : (part : List ℕ) (i : ℕ) {r s : ℕ} → r ≡ get_or part i 0 → s ≡ get_or part i 0 → r ≡ s
read_settles part i p q = p ∙ sym q

pub put_settles : (before : List ℕ) (i v : ℕ) {after after' : List ℕ} →
    after ≡ set before i v → after' ≡ set before i v → after ≡ after'
put_settles before i v p q = p ∙ sym q

pub narrow_settles : (x : ℕ) {r s : ℕ} → (r ≡ x % 65536) × (x ≤ 65535 → r ≡ x) → (s ≡ x % 65536) × (x ≤ 65535 → s ≡ x) → r ≡ s
narrow_settles x p q = p.0 ∙ sym q.0

pub wide_settles : (x : ℕ) {r s : ℕ} → r ≡ x → s ≡ x → r ≡ s
wide_settles x p q = p ∙ sym q
