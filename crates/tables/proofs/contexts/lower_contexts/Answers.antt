-- What the check leaves of `tables::contexts::lower_contexts`; the argument stands in Invariants.antt. Assumes nothing.
use mathlib.Core.Path.{◌≡◌}
use mathlib.Core.List.{List, []}
use Prim.Native.Nat.{ℕ, ◌+◌, ◌<◌}
use native.Mathlib.Nat.{add-zero, add_assoc}
use native.Mathlib.Numerals.{add-one}
use native.Mathlib.Omega.{arith}
use lib.ListN.{length, drop, drop_of_length-le, get_or}
use lib.Seq.{drop-cons}
use Rattle.tables.specs.ContextSteps.{PlaceStep, PlacesStep, no_symbol, symbol}
use Rattle.tables.proofs.ContextsFall.{place_once}
use Rattle.tables.proofs.contexts.lower_contexts.Goals as goal

-- the symbol at i and those after it
module _ {n whole : ℕ} {vs : List ℕ} where
  from_place : (w : List ℕ) (i : ℕ) {us us' us'' : List ℕ} {f k : ℕ} → i < length w → PlaceStep n whole vs (get_or w i 0) us us' f →
      PlacesStep n whole vs (drop (i + 1) w) us' us'' k → PlacesStep n whole vs (drop i w) us us'' (f + k)
  from_place w i h p ps = rw (drop-cons w i 0 h) (symbol p (rw add-one at ps))

pub loop-s-preserved : goal.loop-s-preserved
loop-s-preserved c =
    let loop = c.loop-s in
    let step = c.lower_context-fell.ensures in (
      omega (arith, place_once step),
      λ us f ps. rw add_assoc (loop.invariant.1 us _ (from_place c.args.symbols.now loop.s-index (omega arith) step ps)),
    )

pub returns : goal.returns
returns c =
    let symbols = c.args.symbols.now in
    let loop = c.loop-s in
    let e : drop loop.s-index symbols ≡ [] = drop_of_length-le symbols {i = loop.s-index} (omega arith) in
    rw add-zero at (loop.invariant.1 loop.contexts 0 (rw e no_symbol))
