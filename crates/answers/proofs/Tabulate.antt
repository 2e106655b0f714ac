-- Lists by place: the list of the first n values of a function (`tabulate`), and a function of what exists for each number below
-- n.
-- Assumes nothing.
use Prim.Native.Nat.{ℕ, zero, suc, ◌<◌}
use native.Mathlib.Omega.{arith}
use native.Mathlib.Decide.{dec_lt}
use mathlib.Core.Path.{◌≡◌, refl, ap}
use lib.ListN.{length, get_or, replicate}
use Rattle.answers.specs.Lists.{tabulate}

pub length-tabulate : (f : ℕ → ℕ) (n : ℕ) → length (tabulate f n) ≡ n
unfolding tabulate
length-tabulate f zero = refl
length-tabulate f (suc n) = ap suc (length-tabulate (λ i. f (suc i)) n)

pub get_d_tabulate : (f : ℕ → ℕ) (n i : ℕ) → i < n → get_or (tabulate f n) i 0 ≡ f i
unfolding tabulate
get_d_tabulate f zero i l = absurd (omega arith)
get_d_tabulate f (suc n) zero l = refl
get_d_tabulate f (suc n) (suc i) l = get_d_tabulate (λ j. f (suc j)) n i (omega arith)

pub record Picked {X : Type 0} (P : ℕ → X → Type 0) (n : ℕ) : Type 0 where
  pub f : ℕ → X
  pub is : (i : ℕ) → i < n → P i (f i)

-- x stands for what is past the end
pub picked : {X : Type 0} (x : X) (P : ℕ → X → Type 0) (n : ℕ) → ((i : ℕ) → i < n → (y : X) × P i y) → Picked P n
picked {X} x P n each = record { f = λ i. at i (dec_lt i n); is = λ i l. so i l (dec_lt i n) }
  where
    at : (i : ℕ) → Dec (i < n) → X
    at i (yes l) = (each i l).0
    at i (no m) = x

    so : (i : ℕ) → i < n → (d : Dec (i < n)) → P i (at i d)
    so i l (yes l') = (each i l').1
    so i l (no m) = absurd (m l)

-- a list of 0 has 0 everywhere, past its end too
pub zeros : (n i : ℕ) → ◌≡◌ {A = ℕ} (get_or (replicate n 0) i 0) 0
zeros zero i = refl
zeros (suc n) zero = refl
zeros (suc n) (suc i) = zeros n i
