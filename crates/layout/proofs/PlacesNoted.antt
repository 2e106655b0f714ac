-- Where the rules stand, noted one after the other: what places is to hold in the end is what it holds now, with the indexes of the
-- rules to come written from the next number on. Assumes nothing.
use mathlib.Core.Path.{◌≡◌, ap, ◌∙◌}
use mathlib.Core.List.{List, ◌++◌}
use Prim.Native.Nat.{ℕ, suc, ◌+◌, ◌-◌, ◌≤◌, ◌<◌}
use native.Mathlib.Decide.{dec_lt}
use native.Mathlib.Omega.{arith}
use lib.ListN.{length, take, drop, set}
use Rattle.answers.specs.Buffers.{over}
use Rattle.answers.proofs.WrittenFromFront.{store_first, none_left}
use Rattle.layout.specs.Walk.{WalkPlace, place, count_at, step_at, span_at}
use Rattle.layout.specs.Rules.{places_from}
use Rattle.layout.specs.JudgeParts.{Part, RuleEnds}
use Rattle.std.specs.Prelude.{Some, None, Ok}
use Rattle.layout.proofs.RulesByNumber.{starts_handed, starts_ended}
use Rattle.layout.proofs.WalkSteps.{step_past_256, step_cut, step_rule}

module _ (ws : List ℕ) where
  -- places once the rules from an index on, before which n stand, are noted
  abbrev pub finally : List ℕ → ℕ → ℕ → List ℕ
  finally places at n = take n places ++ over (places_from (256 - n) ws (place at n)) (drop n places)

  -- a fit rule is noted
  pub one_noted : (places : List ℕ) (at n q : ℕ) (r : Part) → n < 256 → n < length places → RuleEnds ws at r → r ≡ Ok q →
      finally places at n ≡ finally (set places n at) q (n + 1)
  one_noted places at n q r h l ends e =
      let there : RuleEnds ws at (Ok q) = rw e at ends in
      let v = place at n in
      let within : at + 2 + count_at ws at ≤ length ws = omega (arith, there.0, there.1) in
      let later = 256 - (n + 1) in
      let room : 256 - n ≡ suc later = omega arith in
      let step : step_at ws v ≡ Some (span_at ws v) = step_rule ws v h within in
      let first = ap (λ (m : ℕ). places_from m ws v) room ∙ starts_handed ws v later step in
      ap (λ (m : List ℕ). take n places ++ over m (drop n places)) first
      ∙ store_first at (places_from later ws (place (at + 2 + count_at ws at) (n + 1))) places n l
      ∙ ap (λ (m : ℕ). finally (set places n at) m (n + 1)) (omega (arith, there.0))

  -- where the words end no rule stands any more, and all are noted
  ended : (v : WalkPlace) → length ws ≤ v.at → Dec (v.number < 256) → step_at ws v ≡ None
  ended v l (yes h) = step_cut ws v h (omega arith)
  ended v l (no h) = step_past_256 ws v (omega arith)

  pub all_noted : (places : List ℕ) (at n : ℕ) → length ws ≤ at → finally places at n ≡ places
  all_noted places at n l =
      rw (starts_ended ws (place at n) (256 - n) (ended (place at n) l (dec_lt n 256))) (none_left places n)
