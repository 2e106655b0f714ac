-- The promises of this crate can be met, by the steps that its code takes: used rules are passed, and rules marked one after
-- another are marked together. Assumes nothing.
use Prim.Native.Nat.{ℕ, zero, suc, ◌+◌, ◌≤◌, ◌<◌}
use native.Mathlib.Omega.{arith}
use native.Mathlib.Decide.{dec_lt, ℕ_discrete}
use native.Mathlib.Numerals.{add-one}
use borrow.Author.Count.{below_more}
use mathlib.Core.Path.{◌≡◌, refl, sym, ◌∙◌}
use mathlib.Core.Logic.{◌⊎◌, inl, inr}
use mathlib.Core.List.Memᴰ
use mathlib.Core.List.{List, [], ◌∷◌, ◌++◌, Memᴰ}
use lib.ListN.{length, get_or, set, length-set, take}
use lib.Seq.{get_or-set_same, get_or-set_other, take-suc, take_all}
use Rattle.std.specs.Prelude.{Option, Some, None}
use Rattle.marks.specs.Marks.{FirstUnused, at, none_unused, Marked}
use Rattle.marks.proofs.MarksSettle.{ToSet, set?}

-- THE SEARCH among the rules below n, and rule n behind them
module _ (marks : List ℕ) where
  abbrev Search : ℕ → Type 0
  Search n = (a : Option ℕ) × FirstUnused marks n a

  one_more : (n : ℕ) → Search n → Search (n + 1)
  one_more n (_, at l z below) = (Some _, at (omega arith) z below)
  one_more n (_, none_unused all) = go (ℕ_discrete (get_or marks n 0) 0)
    where
      go : Dec (get_or marks n 0 ≡ 0) → Search (n + 1)
      go (yes z) = (Some n, at (omega arith) z all)
      go (no d) = (None, none_unused (below_more _ n all d))

  pub first_unused_met : (rules : ℕ) → Search rules
  first_unused_met zero = (None, none_unused (λ k l. absurd (omega arith)))
  first_unused_met (suc n) = rw (← add-one) (one_more n (first_unused_met n))

-- THE MARKING of no rule
pub marked_none : (marks : List ℕ) → Marked [] marks marks
marked_none marks = record { long = refl; sets = λ i l m z. absurd (Memᴰ.not-nil m); keeps = λ i l n. refl }

-- of one rule: its mark is 0, or there is nothing to set
module _ (marks : List ℕ) (k : ℕ) where
  pub one_marked : k < length marks → get_or marks k 0 ≡ 0 → Marked (k ∷ []) marks (set marks k 1)
  one_marked l z = record {
    long = length-set marks k 1;
    sets = λ i b m y. rw (Memᴰ.eq_of_singleton m) (get_or-set_same marks k 1 0 l);
    keeps = λ i b n. kept i n (ℕ_discrete i k);
  }
    where
      kept : (i : ℕ) → ¬ ToSet (k ∷ []) marks i → Dec (i ≡ k) → get_or (set marks k 1) i 0 ≡ get_or marks i 0
      kept i n (yes e) = absurd (n (Memᴰ.head e, rw e z))
      kept i n (no e) = get_or-set_other marks k i 1 0 e

  pub one_kept : ¬ ((k < length marks) × (get_or marks k 0 ≡ 0)) → Marked (k ∷ []) marks marks
  one_kept n = record {
    long = refl;
    sets = λ i b m z. let e = Memᴰ.eq_of_singleton m in absurd (n (rw e at b, rw e at z));
    keeps = λ i b m. refl;
  }

  one_met : (after : List ℕ) × Marked (k ∷ []) marks after
  one_met = go (dec_lt k (length marks)) (ℕ_discrete (get_or marks k 0) 0)
    where
      go : Dec (k < length marks) → Dec (get_or marks k 0 ≡ 0) → (after : List ℕ) × Marked (k ∷ []) marks after
      go (yes l) (yes z) = (set marks k 1, one_marked l z)
      go (yes l) (no n) = (marks, one_kept (λ p. n p.1))
      go (no n) d = (marks, one_kept (λ p. n p.0))

-- of some rules and then of others
pub marked_then : {ks js before between after : List ℕ} → Marked ks before between → Marked js between after →
    Marked (ks ++ js) before after
marked_then {ks} {js} {before} {between} {after} h j = record {
  long = j.long ∙ h.long;
  sets = λ i b m z. is_set i b z (Memᴰ.append_cases ks m) (set? ks before i);
  keeps = λ i b n. is_kept i b n (h.keeps i b (λ p. n (Memᴰ.append_left js p.0, p.1)));
}
  where
    later : (i : ℕ) → i < length before → i < length between
    later i b = omega (arith, h.long)

    is_set : (i : ℕ) → i < length before → get_or before i 0 ≡ 0 → Memᴰ i ks ⊎ Memᴰ i js → Dec (ToSet ks before i) →
        get_or after i 0 ≡ 1
    is_set i b z m (yes s) =
        let one = h.sets i b s.0 z in
        j.keeps i (later i b) (λ p. omega (arith, one, p.1)) ∙ one
    is_set i b z (inl m) (no n) = absurd (n (m, z))
    is_set i b z (inr m) (no n) = j.sets i (later i b) m (h.keeps i b n ∙ z)

    is_kept : (i : ℕ) → i < length before → ¬ ToSet (ks ++ js) before i → get_or between i 0 ≡ get_or before i 0 →
        get_or after i 0 ≡ get_or before i 0
    is_kept i b n e = j.keeps i (later i b) (λ p. n (Memᴰ.append_right ks p.0, sym e ∙ p.1)) ∙ e

-- of the first i numbers of a list and then of the one at i
pub marked_next : (ks : List ℕ) (i : ℕ) {before between after : List ℕ} → i < length ks →
    Marked (take i ks) before between → Marked (get_or ks i 0 ∷ []) between after → Marked (take (i + 1) ks) before after
marked_next ks i b h j = rw (add-one, take-suc ks i 0) (marked_then h j)

-- of all of them: there are no more
pub marked_all : (ks : List ℕ) (i count : ℕ) {before after : List ℕ} → length ks ≤ i → i ≤ count → Marked (take i ks) before after →
    Marked (take count ks) before after
marked_all ks i count l le h = rw (take_all count ks (omega arith), ← take_all i ks l) h

pub marks_met : (ks before : List ℕ) → (after : List ℕ) × Marked ks before after
marks_met [] before = (before, marked_none before)
marks_met (k ∷ ks) before =
    let (between, one) = one_met before k in
    let (after, rest) = marks_met ks between in
    (after, marked_then one rest)
