-- Searching among the numbers below n: the lowest with a property that can be decided, whether there is one, the smallest offer;
-- and lists of numbers: membership, and a list with one number taken out. The existence proofs choose rules, places and offers by
-- these. Each search goes up by one: what is known of the numbers below n and of n is known of those below n + 1 (`below_suc`).
-- Assumes nothing.
use Prim.Native.Nat.{ℕ, zero, suc, ◌≤◌, ◌<◌}
use native.Mathlib.Omega.{arith}
use native.Mathlib.Decide.{dec_lt, ℕ_discrete}
use mathlib.Core.Path.{◌≡◌, refl, sym}
use mathlib.Core.Logic.{◌⊎◌, inl, inr}
use mathlib.Core.List.Memᴰ
use mathlib.Core.List.{List, [], ◌∷◌}
use lib.ListN.{length}
use Rattle.grammar.specs.Tree.{◌∈◌}
use Rattle.grammar.specs.Measure.{Cost}
use Rattle.grammar.specs.Refusals.{Lowest}
use Rattle.grammar.proofs.CostOrder.{le_of_eq}

-- of two that are decided it is decided whether both hold
pub both? : {P Q : Type 0} → Dec P → Dec Q → Dec (P × Q)
both? (yes p) (yes q) = yes (p, q)
both? (yes p) (no n) = no (λ z. n z.1)
both? (no n) d = no (λ z. n z.0)

-- what holds of n and of all below n holds of all below n + 1
pub below_suc : {n : ℕ} (P : ℕ → Type 0) → P n → ((j : ℕ) → j < n → P j) → (j : ℕ) → j < suc n → P j
below_suc {n} P last before j l = go (ℕ_discrete j n)
  where
    go : Dec (j ≡ n) → P j
    go (yes e) = rw e last
    go (no d) = before j (omega arith)

-- of each number below n it is known whether Q or P: then all have Q, or there is a lowest with P
module _ (P Q : ℕ → Type 0) (n : ℕ) (each : (i : ℕ) → i < n → Q i ⊎ P i) (apart : (i : ℕ) → Q i → P i → ⊥) where
  abbrev SoFar : ℕ → Type 0
  SoFar m = ((i : ℕ) → i < m → Q i) ⊎ ((k : ℕ) × P k × ((i : ℕ) → i < k → Q i))

  so_far : (m : ℕ) → m ≤ n → SoFar m
  so_far zero l = inl (λ i h. absurd (omega arith))
  so_far (suc m) l = go (so_far m (omega arith)) (each m (omega arith))
    where
      go : SoFar m → Q m ⊎ P m → SoFar (suc m)
      go (inr z) h = inr z
      go (inl all) (inl q) = inl (below_suc Q q all)
      go (inl all) (inr p) = inr (m, p, all)

  pub all_or_lowest : ((i : ℕ) → i < n → Q i) ⊎ ((k : ℕ) × Lowest P k)
  all_or_lowest = go (so_far n (omega arith))
    where
      not_lower : (k : ℕ) → ((i : ℕ) → i < k → Q i) → (j : ℕ) → P j → Dec (j < k) → k ≤ j
      not_lower k all j p (yes l) = absurd (apart j (all j l) p)
      not_lower k all j p (no l) = omega arith

      go : SoFar n → ((i : ℕ) → i < n → Q i) ⊎ ((k : ℕ) × Lowest P k)
      go (inl all) = inl all
      go (inr z) = inr (z.0, record { such = z.1; lowest = λ j p. not_lower z.0 z.2 j p (dec_lt j z.0) })

module _ (P : ℕ → Type 0) (decide : (j : ℕ) → Dec (P j)) where
  -- whether some number below n has it
  pub some_below : (n : ℕ) → Dec ((i : ℕ) × (i < n) × P i)
  some_below n = go (all_or_lowest (λ i. (i < n) × P i) (λ i. ¬ P i) n (λ i l. each i l (decide i)) (λ i not-i z. not-i z.1))
    where
      each : (i : ℕ) → i < n → Dec (P i) → (¬ P i) ⊎ ((i < n) × P i)
      each i l (yes p) = inr (l, p)
      each i l (no p) = inl p

      go : ((i : ℕ) → i < n → ¬ P i) ⊎ ((k : ℕ) × Lowest (λ i. (i < n) × P i) k) → Dec ((i : ℕ) × (i < n) × P i)
      go (inl all) = no (λ z. all z.0 z.1 z.2)
      go (inr z) = let (i, low) = z in yes (i, low.such.0, low.such.1)

  -- a property that some number has, a lowest number has
  pub lowest : (n : ℕ) → P n → (k : ℕ) × Lowest P k
  lowest n h = go (all_or_lowest P (λ i. ¬ P i) (suc n) (λ i l. each i (decide i)) (λ i not-i p. not-i p))
    where
      each : (i : ℕ) → Dec (P i) → (¬ P i) ⊎ P i
      each i (yes p) = inr p
      each i (no p) = inl p

      go : ((i : ℕ) → i < suc n → ¬ P i) ⊎ ((k : ℕ) × Lowest P k) → (k : ℕ) × Lowest P k
      go (inl all) = absurd (all n (omega arith) h)
      go (inr z) = z

-- the numbers below n
pub upto : ℕ → List ℕ
upto zero = []
upto (suc n) = n ∷ upto n

pub in_upto : (n A : ℕ) → A < n → A ∈ upto n
unfolding upto
in_upto zero A l = absurd (omega arith)
in_upto (suc n) A l =
    below_suc (λ B. B ∈ (n ∷ upto n)) (Memᴰ.head refl) (λ B below. Memᴰ.tail (in_upto n B below)) A l

-- what is so of x and of all of xs is so of all of x ∷ xs
pub in_cons : {x : ℕ} {xs : List ℕ} (P : ℕ → Type 0) → P x → ((B : ℕ) → B ∈ xs → P B) → (B : ℕ) → B ∈ (x ∷ xs) → P B
in_cons {x} {xs} P first later B m = go (Memᴰ.cases_cons m)
  where
    go : (B ≡ x) ⊎ B ∈ xs → P B
    go (inl e) = rw e first
    go (inr h) = later B h

-- whether a number is in a list is decided
pub member? : (i : ℕ) (ks : List ℕ) → Dec (i ∈ ks)
member? i [] = no Memᴰ.not-nil
member? i (k ∷ ks) = go (ℕ_discrete i k) (member? i ks)
  where
    go : Dec (i ≡ k) → Dec (i ∈ ks) → Dec (i ∈ (k ∷ ks))
    go (yes e) m = yes (Memᴰ.head e)
    go (no n) (yes m) = yes (Memᴰ.tail m)
    go (no n) (no m) = no (λ h. in_cons (λ B. ¬ (i ≡ B)) n (λ B b e. m (rw e b)) i h refl)

-- a list of numbers without A
pub record Except (A : ℕ) (xs : List ℕ) : Type 0 where
  pub list : List ℕ
  pub no_longer : length list ≤ length xs
  pub shorter : A ∈ xs → length list < length xs
  pub gone : ¬ (A ∈ list)
  pub kept : (B : ℕ) → B ∈ xs → ¬ (B ≡ A) → B ∈ list
  pub still : (B : ℕ) → B ∈ list → B ∈ xs

pub except : (A : ℕ) (xs : List ℕ) → Except A xs
except A [] = record {
  list = [];
  no_longer = omega arith;
  shorter = λ m. absurd (Memᴰ.not-nil m);
  gone = Memᴰ.not-nil;
  kept = λ B m d. m;
  still = λ B m. m;
}
except A (x ∷ xs) = go (ℕ_discrete x A) (except A xs)
  where
    later : (B : ℕ) → B ∈ (x ∷ xs) → ¬ (B ≡ x) → B ∈ xs
    later = in_cons (λ B. ¬ (B ≡ x) → B ∈ xs) (λ d. absurd (d refl)) (λ B m d. m)

    go : Dec (x ≡ A) → Except A xs → Except A (x ∷ xs)
    go (yes e) z = record {
      list = z.list;
      no_longer = omega (arith, z.no_longer);
      shorter = λ m. omega (arith, z.no_longer);
      gone = z.gone;
      kept = in_cons (λ B. ¬ (B ≡ A) → B ∈ z.list) (λ d. absurd (d e)) z.kept;
      still = λ B m. Memᴰ.tail (z.still B m);
    }
    go (no d) z = record {
      list = x ∷ z.list;
      no_longer = omega (arith, z.no_longer);
      shorter = λ m. omega (arith, z.shorter (later A m (λ e. d (sym e))));
      gone = λ m. in_cons (λ B. ¬ (B ≡ A)) d (λ B b e. z.gone (rw e at b)) A m refl;
      kept = in_cons (λ B. ¬ (B ≡ A) → B ∈ (x ∷ z.list)) (λ n. Memᴰ.head refl) (λ B m n. Memᴰ.tail (z.kept B m n));
      still = in_cons (λ B. B ∈ (x ∷ xs)) (Memᴰ.head refl) (λ B m. Memᴰ.tail (z.still B m));
    }

-- a list of numbers, one of them taken out
pub record Without (A : ℕ) (xs ys : List ℕ) : Type 0 where
  pub shorter : length ys < length xs
  pub others : (B : ℕ) → ¬ (B ∈ ys) → (B ≡ A) ⊎ (¬ (B ∈ xs))
  pub still : (B : ℕ) → B ∈ ys → B ∈ xs

pub without : (A : ℕ) (xs : List ℕ) → A ∈ xs → (ys : List ℕ) × Without A xs ys
without A xs m = (z.list, record { shorter = z.shorter m; others = λ B n. others B n (ℕ_discrete B A); still = z.still })
  where
    z : Except A xs
    z = except A xs

    others : (B : ℕ) → ¬ (B ∈ z.list) → Dec (B ≡ A) → (B ≡ A) ⊎ (¬ (B ∈ xs))
    others B n (yes e) = inl e
    others B n (no d) = inr (λ h. n (z.kept B h d))

module _ (c : Cost) where
  open c use {C, ◌≼◌, le_trans, le_antisym, le_total, le_dec}

  infix 40 ◌≼◌
  -- whether two costs are equal is decided
  pub equal? : (x y : C) → Dec (x ≡ y)
  equal? x y = go (le_dec x y) (le_dec y x)
    where
      go : Dec (x ≼ y) → Dec (y ≼ x) → Dec (x ≡ y)
      go (yes a) (yes b) = yes (le_antisym a b)
      go (yes a) (no b) = no (λ e. b (le_of_eq c (sym e)))
      go (no a) b = no (λ e. a (le_of_eq c e))

  -- F k x: the number k offers x. This is the smallest offer of the numbers below n
  pub record Smallest (F : ℕ → C → Type 0) (n : ℕ) : Type 0 where
    pub who : ℕ
    pub cost : C
    pub offers : F who cost
    pub below : (j : ℕ) (y : C) → j < n → F j y → cost ≼ y

  abbrev pub NoOffer : (ℕ → C → Type 0) → ℕ → Type 0
  NoOffer F n = (j : ℕ) (y : C) → j < n → F j y → ⊥

  -- a smallest one of the costs with F, or that there is none
  abbrev pub Best : (C → Type 0) → Type 0
  Best F = ((x : C) × F x × ((y : C) → F y → x ≼ y)) ⊎ ((y : C) → F y → ⊥)

  module _ (F : ℕ → C → Type 0) (best : (k : ℕ) → Best (F k)) where
    -- an offer that is at most every offer of n and of the numbers below
    smallest_suc : {n k : ℕ} (x : C) → F k x → ((y : C) → F n y → x ≼ y) → ((j : ℕ) (y : C) → j < n → F j y → x ≼ y) →
        Smallest F (suc n)
    smallest_suc {k = k} x offers last before = record {
      who = k;
      cost = x;
      offers = offers;
      below = λ j y l f. below_suc (λ i. (z : C) → F i z → x ≼ z) last (λ i m z. before i z m) j l y f;
    }

    extend : (n : ℕ) → Best (F n) → Smallest F n ⊎ NoOffer F n → Smallest F (suc n) ⊎ NoOffer F (suc n)
    extend n (inl z) (inl s) = inl (pick (le_total z.0 s.cost))
      where
        pick : (z.0 ≼ s.cost) ⊎ (s.cost ≼ z.0) → Smallest F (suc n)
        pick (inl le) = smallest_suc z.0 z.1 z.2 (λ j y l f. le_trans le (s.below j y l f))
        pick (inr le) = smallest_suc s.cost s.offers (λ y f. le_trans le (z.2 y f)) s.below
    extend n (inl z) (inr no_one) = inl (smallest_suc z.0 z.1 z.2 (λ j y l f. absurd (no_one j y l f)))
    extend n (inr none) (inl s) = inl (smallest_suc s.cost s.offers (λ y f. absurd (none y f)) s.below)
    extend n (inr none) (inr no_one) =
        inr (λ j y l f. below_suc (λ i. (z : C) → F i z → ⊥) none (λ i m z. no_one i z m) j l y f)

    -- where each number makes a smallest offer or none, so do all below n together
    pub smallest : (n : ℕ) → Smallest F n ⊎ NoOffer F n
    smallest zero = inr (λ j y l f. omega arith)
    smallest (suc n) = extend n (best n) (smallest n)
