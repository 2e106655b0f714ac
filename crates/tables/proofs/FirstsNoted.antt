-- Choices by notes: where candidates are looked at in the order of their ranks, and one is noted only where there is none yet,
-- those that stand are the first that fit. Whatever a candidate is, and its rank, and what it is for one to fit a nonterminal (P).
-- Assumes nothing.
use mathlib.Core.Path.{◌≡◌, refl}
use mathlib.Core.List.{List}
use Prim.Native.Nat.{ℕ, ◌+◌, ◌≤◌, ◌<◌}
use native.Mathlib.Omega.{arith}
use native.Mathlib.Decide.{dec_lt, ℕ_discrete}
use lib.ListN.{length, replicate, get_or-replicate}
use lib.Seq.{get_or-set_same, get_or-set_other}
use Rattle.std.specs.Prelude.{Option, Some, None}
use Rattle.tables.specs.Choices.{choice, FirstBelow, none_has, first, Noted, noted, kept}

module _ {C : Type 0} {rank : C → ℕ} {P : C → Type 0} {n : ℕ} where
  -- those that follow do not fit
  first_past : {o : Option C} → FirstBelow rank P n o → (m : ℕ) → n ≤ m → ((y : C) → n ≤ rank y → rank y < m → ¬ P y) →
      FirstBelow rank P m o
  first_past (none_has unfit) m l past = none_has (λ y h. split y h (dec_lt (rank y) n))
    where
      split : (y : C) → rank y < m → Dec (rank y < n) → ¬ P y
      split y h (yes low) = unfit y low
      split y h (no high) = past y (omega arith) h
  first_past (first h fits unfit) m l past = first (omega arith) fits unfit

  -- there is one already
  first_stays : {o : Option C} → FirstBelow rank P n o → ¬ (o ≡ None) → FirstBelow rank P (n + 1) o
  first_stays (none_has unfit) has = absurd (has refl)
  first_stays (first h fits unfit) has = first (omega arith) fits unfit

  -- there is none, and the next fits
  first_found : {o : Option C} {x : C} → FirstBelow rank P n o → o ≡ None → rank x ≡ n → P x →
      FirstBelow rank P (n + 1) (Some x)
  first_found (none_has unfit) none is fits = first (omega arith) fits (λ y l. unfit y (omega arith))
  first_found (first h f unfit) none is fits = cc

module _ {C : Type 0} (rank : C → ℕ) (P : ℕ → C → Type 0) (N : ℕ) where
  abbrev Firsts : List (Option C) → ℕ → Type 0
  Firsts xs n = (A : ℕ) → A < N → FirstBelow rank (P A) n (choice xs A)

  -- at the outset there is none
  pub firsts_empty : N ≤ 128 → Firsts (replicate 128 None) 0
  firsts_empty h A l = rw (get_or-replicate {A = Option C} 128 A None None (omega arith)) (none_has (λ y low. absurd (omega arith)))

  pub firsts_past : (xs : List (Option C)) {n : ℕ} → Firsts xs n → (m : ℕ) → n ≤ m →
      ((A : ℕ) (y : C) → A < N → n ≤ rank y → rank y < m → ¬ P A y) → Firsts xs m
  firsts_past xs so_far m h past A l = first_past (so_far A l) m h (λ y. past A y l)

  -- x has rank n, fits a, and is noted there; what has that rank fits a alone
  pub firsts_noted : {xs ys : List (Option C)} {a n : ℕ} {x : C} → Noted xs a x ys → N ≤ length xs → rank x ≡ n → P a x →
      ((A : ℕ) (y : C) → rank y ≡ n → P A y → A ≡ a) → Firsts xs n → Firsts ys (n + 1)
  firsts_noted {xs} {ys} {a} {n} {x} z room is fits only so_far A l = go (ℕ_discrete A a) z
    where
      others : ¬ (A ≡ a) → FirstBelow rank (P A) (n + 1) (choice xs A)
      others d = first_past (so_far A l) (n + 1) (omega arith) (λ y low high f. d (only A y (omega arith) f))

      go : {us : List (Option C)} → Dec (A ≡ a) → Noted xs a x us → FirstBelow rank (P A) (n + 1) (choice us A)
      go (yes e) (noted h none) = rw (e, get_or-set_same xs a (Some x) None h) (first_found (rw e at (so_far A l)) none is fits)
      go (yes e) (kept has) = first_stays (so_far A l) (rw e (has (omega arith)))
      go (no d) (noted h none) = rw (get_or-set_other xs a A (Some x) None d) (others d)
      go (no d) (kept has) = others d
