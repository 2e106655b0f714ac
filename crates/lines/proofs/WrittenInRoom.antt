-- Writing as far as there is room: two texts one after the other are one text, and nothing is a text too. Where a text is cut,
-- both the index past it and the index that it would have reached lie past the end, where stores change nothing. Assumes nothing.
use Prim.Native.Nat.{ℕ, suc, ◌+◌, ◌-◌, ◌≤◌, ◌<◌}
use native.Mathlib.Omega.{arith}
use native.Mathlib.Decide.{dec_le}
use native.Mathlib.Nat.{lt_of_not-le}
use native.Mathlib.Numerals.{add-one}
use mathlib.Core.Path.{◌≡◌, refl, sym, ap, ◌∙◌}
use mathlib.Core.List.{List, [], ◌∷◌, ◌++◌}
use lib.ListN.{length, take, get_or, length-append}
use lib.Seq.{sets, set_out, length-sets, take-suc}
use Rattle.answers.proofs.Stores.{sets_append}
use Rattle.lines.specs.Room.{LineWritten}

-- past the end nothing changes
sets_out : (u l : List ℕ) (i : ℕ) → length l ≤ i → sets l i u ≡ l
sets_out [] l i h = refl
sets_out (x ∷ u) l i h = rw (set_out l i x h) (sets_out u l (suc i) (omega arith))

pub nothing : (buffer : List ℕ) (at : ℕ) → LineWritten [] buffer at buffer at
nothing buffer at = record { holds = refl; index = omega arith }

pub and_then : {u v a b c : List ℕ} {p q r : ℕ} → LineWritten u a p b q → LineWritten v b q c r → LineWritten (u ++ v) a p c r
and_then {u} {v} {a} {b} {c} {p} {q} {r} h k =
    let l = length-append u v in
    let m = ap length h.holds ∙ length-sets a p u in
    record { holds = k.holds ∙ go (dec_le (length u) (length a - p)); index = omega (arith, h.index, k.index) }
  where
    go : Dec (length u ≤ length a - p) → sets b q v ≡ sets a p (u ++ v)
    go (yes l) =
        let e : q ≡ p + length u = omega (arith, h.index) in rw (e, h.holds) (sym (sets_append u v a p))
    go (no l) =
        let cut = lt_of_not-le l in
        let same = ap length h.holds ∙ length-sets a p u in
        sets_out v b q (omega (arith, h.index)) ∙ h.holds ∙
        sym (sets_append u v a p ∙ sets_out v (sets a p u) (p + length u) (rw (length-sets a p u) (omega arith)))

-- a list's first i octets, and then the next
pub one_more : (l : List ℕ) {a b c : List ℕ} {p q r : ℕ} (i : ℕ) → i < length l → LineWritten (take i l) a p b q →
    LineWritten (get_or l i 0 ∷ []) b q c r → LineWritten (take (i + 1) l) a p c r
one_more l i h w v = rw (add-one, take-suc l i 0) (and_then w v)

-- the buffer keeps its length
pub kept : {u a b : List ℕ} {p q : ℕ} → LineWritten u a p b q → length b ≡ length a
kept {u} {a} {b} {p} h = ap length h.holds ∙ length-sets a p u
