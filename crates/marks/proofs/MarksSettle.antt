-- Any two outcomes that a promise of this crate allows coincide: the lowest unused rule, and the marks after a derivation.
-- Assumes nothing.
use Prim.Native.Nat.{ℕ, ◌<◌}
use native.Mathlib.Omega.{arith}
use native.Mathlib.Decide.{dec_lt, ℕ_discrete}
use mathlib.Core.Path.{◌≡◌, refl, sym, ◌∙◌}
use mathlib.Core.Logic.{◌⊎◌, inl, inr}
use mathlib.Core.List.Memᴰ
use mathlib.Core.List.{List, [], ◌∷◌, Memᴰ}
use lib.ListN.{length, get_or}
use lib.Seq.{ext_get_or}
use Rattle.std.specs.Prelude.{Option, Some}
use Rattle.marks.specs.Marks.{FirstUnused, at, none_unused, Marked}

-- THE LOWEST UNUSED RULE: neither of two is below the other
module _ (marks : List ℕ) (rules : ℕ) where
  pub first_unused_settles : {a b : Option ℕ} → FirstUnused marks rules a → FirstUnused marks rules b → a ≡ b
  first_unused_settles (at {r} l z below) (at {r = s} m y above) = same (dec_lt r s) (dec_lt s r)
    where
      same : Dec (r < s) → Dec (s < r) → Some r ≡ Some s
      same (yes lt) e = absurd (above r lt z)
      same (no ge) (yes lt) = absurd (below s lt y)
      same (no ge) (no le) = let e : r ≡ s = omega arith in rw e refl
  first_unused_settles (at {r} l z below) (none_unused all) = absurd (all r l z)
  first_unused_settles (none_unused all) (at {r} l z below) = absurd (all r l z)
  first_unused_settles (none_unused all) (none_unused every) = refl

-- THE MARKS. Whether a mark is to be set is decided.
member? : (i : ℕ) (ks : List ℕ) → Dec (Memᴰ i ks)
member? i [] = no Memᴰ.not-nil
member? i (k ∷ ks) = go (ℕ_discrete i k) (member? i ks)
  where
    neither : ¬ (i ≡ k) → ¬ Memᴰ i ks → (i ≡ k) ⊎ Memᴰ i ks → ⊥
    neither n m (inl e) = n e
    neither n m (inr l) = m l

    go : Dec (i ≡ k) → Dec (Memᴰ i ks) → Dec (Memᴰ i (k ∷ ks))
    go (yes e) d = yes (Memᴰ.head e)
    go (no n) (yes l) = yes (Memᴰ.tail l)
    go (no n) (no m) = no (λ z. neither n m (Memᴰ.cases_cons z))

module _ (ks before : List ℕ) (i : ℕ) where
  -- the mark of i is to be set
  abbrev pub ToSet : Type 0
  ToSet = Memᴰ i ks × (get_or before i 0 ≡ 0)

  pub set? : Dec ToSet
  set? = go (member? i ks) (ℕ_discrete (get_or before i 0) 0)
    where
      go : Dec (Memᴰ i ks) → Dec (get_or before i 0 ≡ 0) → Dec ToSet
      go (yes m) (yes z) = yes (m, z)
      go (yes m) (no n) = no (λ s. n s.1)
      go (no n) d = no (λ s. n s.0)

  -- a mark that is set, and one that is kept
  abbrev Either : List ℕ → Type 0
  Either after = (ToSet × (get_or after i 0 ≡ 1)) ⊎ ((¬ ToSet) × (get_or after i 0 ≡ get_or before i 0))

  pub mark_cases : {after : List ℕ} → Marked ks before after → i < length before → Either after
  mark_cases {after} h l = go set?
    where
      go : Dec ToSet → Either after
      go (yes z) = inl (z, h.sets i l z.0 z.1)
      go (no n) = inr (n, h.keeps i l n)

pub mark_rules_settles : {ks before after after' : List ℕ} → Marked ks before after → Marked ks before after' → after ≡ after'
mark_rules_settles {ks} {before} {after} {after'} h k = ext_get_or 0 after after' (h.long ∙ sym k.long) same
  where
    one : (i : ℕ) → i < length before →
        (ToSet ks before i × (get_or after i 0 ≡ 1)) ⊎ ((¬ ToSet ks before i) × (get_or after i 0 ≡ get_or before i 0)) →
        get_or after i 0 ≡ get_or after' i 0
    one i l (inl z) = z.1 ∙ sym (k.sets i l z.0.0 z.0.1)
    one i l (inr z) = z.1 ∙ sym (k.keeps i l z.0)

    same : (i : ℕ) → i < length after → get_or after i 0 ≡ get_or after' i 0
    same i l = let below : i < length before = omega (arith, h.long) in one i below (mark_cases ks before i h below)
