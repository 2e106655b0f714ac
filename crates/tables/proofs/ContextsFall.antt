-- Contexts fall: what a rule does to the contexts raises none and lowers the sum of the array's words; a symbol lowers at most
-- one word, and keeps the array's length. Assumes nothing.
use Prim.Native.Nat.{ℕ, ◌≤◌}
use mathlib.Core.Path.{◌≡◌, refl, ◌∙◌}
use mathlib.Core.List.{List}
use native.Mathlib.Omega.{arith}
use lib.ListN.{length}
use Rattle.figures.specs.Figures.{figure}
use Rattle.figures.specs.Weights.{Fallen}
use Rattle.tables.specs.ContextSteps.{PlaceStep, skipped, tried, PlacesStep, no_symbol, symbol}
use Rattle.tables.specs.ContextSteps.{ContextStep, as_seen, unseen}
use Rattle.figures.proofs.FiguresFall.{lowered_fallen}
use Rattle.figures.proofs.FiguresKept.{lowered_once, lowered_length, lowered_no_higher}

abbrev pub NoHigher : List ℕ → List ℕ → Type 0
NoHigher us us' = (A : ℕ) → figure us' A ≤ figure us A

module _ {n whole : ℕ} {vs : List ℕ} where
  pub place_once : {s f : ℕ} {us us' : List ℕ} → PlaceStep n whole vs s us us' f → f ≤ 1
  place_once (skipped h) = omega arith
  place_once (tried h l d) = lowered_once d

  place_fallen : {s f : ℕ} {us us' : List ℕ} → PlaceStep n whole vs s us us' f → Fallen us us' f
  place_fallen (skipped h) = omega arith
  place_fallen (tried h l d) = lowered_fallen d

  pub place_length : {s f : ℕ} {us us' : List ℕ} → PlaceStep n whole vs s us us' f → length us' ≡ length us
  place_length (skipped h) = refl
  place_length (tried h l d) = lowered_length d

  pub places_length : {w us us' : List ℕ} {f : ℕ} → PlacesStep n whole vs w us us' f → length us' ≡ length us
  places_length no_symbol = refl
  places_length (symbol p ps) = places_length ps ∙ place_length p

  places_fallen : {w us us' : List ℕ} {f : ℕ} → PlacesStep n whole vs w us us' f → Fallen us us' f
  places_fallen no_symbol = omega arith
  places_fallen (symbol p ps) = omega (arith, place_fallen p, places_fallen ps)

  place_no_higher : {s f : ℕ} {us us' : List ℕ} → PlaceStep n whole vs s us us' f → NoHigher us us'
  place_no_higher (skipped h) A = omega arith
  place_no_higher (tried h l d) A = lowered_no_higher d A

  pub places_no_higher : {w us us' : List ℕ} {f : ℕ} → PlacesStep n whole vs w us us' f → NoHigher us us'
  places_no_higher no_symbol A = omega arith
  places_no_higher (symbol p ps) A = omega (arith, place_no_higher p A, places_no_higher ps A)

module _ {n size k B : ℕ} {vs w : List ℕ} where
  pub context_length : {f : ℕ} {us us' seen seen' : List ℕ} → ContextStep n size vs k B w us seen us' seen' f →
      length us' ≡ length us
  context_length (as_seen e) = refl
  context_length (unseen room small differs ps) = places_length ps

  pub context_fallen : {f : ℕ} {us us' seen seen' : List ℕ} → ContextStep n size vs k B w us seen us' seen' f → Fallen us us' f
  context_fallen (as_seen e) = omega arith
  context_fallen (unseen room small differs ps) = places_fallen ps

  pub context_no_higher : {f : ℕ} {us us' seen seen' : List ℕ} → ContextStep n size vs k B w us seen us' seen' f → NoHigher us us'
  context_no_higher (as_seen e) A = omega arith
  context_no_higher (unseen room small differs ps) A = places_no_higher ps A
