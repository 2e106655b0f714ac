-- Figures that saturate. A cap is a monotone map of costs through which sums may pass at any step: what is summed of capped parts
-- and capped again is the cap of the sum. A limit is a property of costs that the cap decides, and below which the cap changes
-- nothing. Document 01's measure is capped at L + 1 for the limit L: the sums never wrap, and are above L exactly where the true
-- ones are. Assumes nothing.
use mathlib.Core.Path.{◌≡◌}
use Rattle.grammar.specs.Measure.{Cost}
use Rattle.grammar.specs.Caps.{Cap, Limit}

module _ {c : Cost} (κ : Cap c) where
  open c use {C, 𝟎, ◌⊕◌, ◌≼◌, unit, comm, mono}
  open κ use {cap, cap_zero, cap_mono, cap_sum}

  infixl 60 ◌⊕◌
  infix 40 ◌≼◌
  -- what is capped stays so
  pub cap-cap : (x : C) → cap (cap x) ≡ cap x
  cap-cap x = cc (cap_sum 𝟎 x, cap_zero, unit x, unit (cap x))

  -- the cap of a sum depends on the caps of its parts alone, and grows with them
  pub cap_same : {x y z u : C} → cap x ≡ cap y → cap z ≡ cap u → cap (x ⊕ z) ≡ cap (y ⊕ u)
  cap_same {x} {y} {z} {u} h k = cc (cap_sum x z, cap_sum y u)

  pub cap_below : {x y z u : C} → cap x ≼ cap y → cap z ≼ cap u → cap (x ⊕ z) ≼ cap (y ⊕ u)
  cap_below {x} {y} {z} {u} h k = rw (cap_sum x z, cap_sum y u) (cap_mono (mono h k))

  -- the parts of a sum that is not over are not over
  module _ (limit : Limit c κ) where
    open limit use {Over, over_sum}

    pub part_left : {x y : C} → ¬ Over (x ⊕ y) → ¬ Over x
    part_left {x} {y} n h = n (over_sum x y h)

    pub part_right : {x y : C} → ¬ Over (x ⊕ y) → ¬ Over y
    part_right {x} {y} n h = n (rw (comm x y) (over_sum y x h))
