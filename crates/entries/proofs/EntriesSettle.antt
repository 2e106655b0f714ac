-- Any two outcomes that a promise of this crate allows coincide. Only `write` and `write_total` are lent what they could write.
-- Assumes nothing.
use Prim.Native.Nat.{ℕ, ◌<◌}
use mathlib.Core.Path.{◌≡◌, sym, ◌∙◌}
use mathlib.Core.List.{List}
use Rattle.entries.specs.Writing.{with_entries, with_total}
use Rattle.entries.specs.declared.Entries.{Entries}

-- of `length`, `chosen`, `rule` and `place`, each by the entry that it names
pub entry_settles : (entry : ℕ) {r s : ℕ} → r ≡ entry → s ≡ entry → r ≡ s
entry_settles entry p q = p ∙ sym q

-- of `least`, `context` and `total`
pub figure_settles : (figure : ℕ) {r s : ℕ} → (r ≡ figure) × (r < 65536) → (s ≡ figure) × (s < 65536) → r ≡ s
figure_settles figure p q = p.0 ∙ sym q.0

pub write_settles : (before : List ℕ) (A : ℕ) (e : Entries) {after after' : List ℕ} →
    after ≡ with_entries before A e → after' ≡ with_entries before A e → after ≡ after'
write_settles before A e p q = p ∙ sym q

pub write_total_settles : (before : List ℕ) (n r x : ℕ) {after after' : List ℕ} →
    after ≡ with_total before n r x → after' ≡ with_total before n r x → after ≡ after'
write_total_settles before n r x p q = p ∙ sym q
