-- The rules one after the other: after some rules, the number of all is that many more than the number of those to come, of
-- which as many fewer may begin. Assumes nothing.
use mathlib.Core.Path.{◌≡◌, refl, ap}
use mathlib.Core.List.{List}
use Prim.Native.Nat.{ℕ, suc, ◌+◌, ◌-◌, ◌≤◌, ◌<◌}
use native.Mathlib.Omega.{arith}
use lib.ListN.{length, drop, drop_of_length-le}
use lib.Seq.{drop-cons}
use Rattle.grammar.specs.Words.{Judged, reads, faults, lefts}
use Rattle.layout.specs.JudgeParts.{Part, number_of, more, Ruled}
use Rattle.std.specs.Prelude.{Ok, Err}
use Rattle.layout.specs.Judge.{fault}

more_none : (r : Judged ℕ) → r ≡ more 0 r
more_none (reads n) = let e : n ≡ 0 + n = omega arith in ap reads e
more_none (faults p) = refl

more_one : (n : ℕ) (r : Judged ℕ) → more n (more 1 r) ≡ more (n + 1) r
more_one n (reads m) = let e : n + (1 + m) ≡ n + 1 + m = omega arith in ap reads e
more_one n (faults p) = refl

module _ (ws : List ℕ) (N T : ℕ) where
  -- what the rules come to, once n of them stand before an index
  abbrev pub whole : ℕ → ℕ → Judged ℕ
  whole at n = more n (number_of (lefts (drop at ws) at (256 - n) N T))

  pub none_before : (at : ℕ) → number_of (lefts (drop at ws) at 256 N T) ≡ whole at 0
  none_before at = more_none (number_of (lefts (drop at ws) at 256 N T))

  -- the words end
  pub table_ends : (at n : ℕ) → length ws ≤ at → whole at n ≡ reads n
  unfolding lefts
  table_ends at n l = let e : n + 0 ≡ n = omega arith in rw (drop_of_length-le ws {i = at} l) (ap reads e)

  -- a 257th left side
  pub table_full : (at n : ℕ) → at < length ws → n ≡ 256 → whole at n ≡ faults at
  unfolding lefts
  table_full at n l e = rw (e, drop-cons ws at 0 l)

  room_for : (n : ℕ) → n < 256 → 256 - n ≡ suc (256 - (n + 1))
  room_for n h = omega arith

  pub rule_faulted : (at n p : ℕ) (r : Part) → n < 256 → Ruled ws N T at r → r ≡ Err (fault p) → whole at n ≡ faults p
  rule_faulted at n p r h judged e = rw (room_for n h, (rw e at judged) (256 - (n + 1)))

  pub rule_passed : (at n q : ℕ) (r : Part) → n < 256 → Ruled ws N T at r → r ≡ Ok q → whole at n ≡ whole q (n + 1)
  rule_passed at n q r h judged e =
      rw (room_for n h, (rw e at judged) (256 - (n + 1))) (more_one n (number_of (lefts (drop q ws) q (256 - (n + 1)) N T)))
