-- Buffers that code writes from the front, one store after the other. With out all that is to be written, the buffer holds after
-- i stores the first i of out and its own content from there on (`store_next`, `all_over`). Where only what is still to come is
-- known, the buffer's final content is what it holds now, with that written over it from i on (`store_first`, `none_left`).
-- Assumes nothing.
use mathlib.Core.Path.{◌≡◌, refl, ap}
use mathlib.Core.List.{List, [], ◌∷◌, ◌++◌}
use Prim.Native.Nat.{ℕ, zero, suc, ◌+◌, ◌≤◌, ◌<◌}
use native.Mathlib.Omega.{arith}
use native.Mathlib.Nat.{le_of_suc-le-suc, not-suc-le-zero}
use native.Mathlib.Numerals.{add-one}
use lib.ListN.{length, take, drop, get_or, set, take-append-drop, length-append, length-drop}
use lib.Seq.{take-length, take-append_seam, drop-append_seam}
use Rattle.answers.specs.Buffers.{over, Written}

-- the first i of src, and then dst's own: a store of the next makes it the first i + 1
pub store_next : (src dst : List ℕ) (i : ℕ) → i < length src → i < length dst →
    set (take i src ++ drop i dst) i (get_or src i 0) ≡ take (i + 1) src ++ drop (i + 1) dst
store_next src dst i h k = rw add-one (go src dst i h k)
  where
    go : (src dst : List ℕ) (i : ℕ) → i < length src → i < length dst →
        set (take i src ++ drop i dst) i (get_or src i 0) ≡ take (suc i) src ++ drop (suc i) dst
    go [] dst i h k = absurd (not-suc-le-zero h)
    go (x ∷ xs) [] i h k = absurd (not-suc-le-zero k)
    go (x ∷ xs) (y ∷ ys) zero h k = refl
    go (x ∷ xs) (y ∷ ys) (suc i) h k = ap (λ (l : List ℕ). x ∷ l) (go xs ys i (le_of_suc-le-suc h) (le_of_suc-le-suc k))

-- the first n of out are all of it
pub all_over : (out buf : List ℕ) (n : ℕ) → length out ≡ n → take n out ++ drop n buf ≡ over out buf
unfolding over
all_over out buf n e = rw (← e, take-length)

-- what is to come from i on, x first: a store of x leaves the others to come from i + 1 on
pub store_first : (x : ℕ) (out buf : List ℕ) (i : ℕ) → i < length buf →
    take i buf ++ over (x ∷ out) (drop i buf) ≡ take (i + 1) (set buf i x) ++ over out (drop (i + 1) (set buf i x))
unfolding over
store_first x out buf i h = rw add-one (go buf i h)
  where
    go : (buf : List ℕ) (i : ℕ) → i < length buf →
        take i buf ++ over (x ∷ out) (drop i buf) ≡ take (suc i) (set buf i x) ++ over out (drop (suc i) (set buf i x))
    go [] i h = absurd (not-suc-le-zero h)
    go (y ∷ ys) zero h = refl
    go (y ∷ ys) (suc i) h = ap (λ (l : List ℕ). y ∷ l) (go ys i (le_of_suc-le-suc h))

-- nothing is to come
pub none_left : (buf : List ℕ) (i : ℕ) → take i buf ++ over [] (drop i buf) ≡ buf
unfolding over
none_left buf i = take-append-drop i buf

pub written : (out buf : List ℕ) → length out ≤ length buf → Written out buf (length out) (over out buf)
unfolding over
written out buf h =
    let l = length-append out (drop (length out) buf) in
    let m = length-drop (length out) buf in
    record {
      count = refl;
      within = omega arith;
      front = take-append_seam out (drop (length out) buf);
      past = drop-append_seam out (drop (length out) buf);
      same_length = omega arith;
    }
