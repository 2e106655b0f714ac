-- A round after its first turns, one rule after the other, up or down, as a loop over the turns needs it: the count is small, so
-- many figures fell, and in each grammar that the words are the turns together do what each does. After a round that lowered
-- nothing every rule is quiet. Assumes nothing.
use mathlib.Core.Path.{◌≡◌}
use mathlib.Core.Bool.{Bool}
use mathlib.Core.List.{List}
use Prim.Native.Nat.{ℕ, ◌≤◌, ◌<◌}
use Rattle.grammar.specs.Words.{Grammar}
use Rattle.layout.specs.Read.{ReadsAs}
use Rattle.layout.specs.declared.reading.Reading.{Reading}
use Rattle.figures.specs.Figures.{turn}
use Rattle.figures.specs.Weights.{Fallen}
use Rattle.figures.proofs.EachTurn.{each_turn}
use Rattle.leasts.specs.LeastSteps.{LeastsSound, QuietIfSound}
use Rattle.leasts.specs.LeastRounding.{Round, Rounded}

-- the first i turns of a round
pub record Turns (g : Grammar) (up : Bool) (rules i : ℕ) (before after : List ℕ) (n : ℕ) : Type 0 where
  pub keeps : LeastsSound g before → LeastsSound g after
  pub still : n ≡ 0 → (after ≡ before) × ((j : ℕ) → j < i → QuietIfSound g before (turn up rules j))

pub record SoFar (v : Reading) (up : Bool) (i : ℕ) (before after : List ℕ) (m : ℕ) : Type 0 where
  pub few : m ≤ i
  pub fallen : Fallen before after m
  pub turns : (g : Grammar) → ReadsAs v g → Turns g up v.rules i before after m

pub all_so_far : (v : Reading) {up : Bool} {i m : ℕ} {vs us : List ℕ} → SoFar v up i vs us m → i ≡ v.rules →
    (g : Grammar) → ReadsAs v g → Round g v.rules vs us m
all_so_far v {up} {m = m} {vs = vs} {us = us} so_far end g view = record {
  keeps = all.keeps;
  still = λ e. ((all.still e).0, each_turn (QuietIfSound g vs) up v.rules (all.still e).1);
}
  where
    all : Turns g up v.rules v.rules vs us m
    all = rw end at (so_far.turns g view)

-- A ROUND from sound leasts leaves sound leasts, and where nothing fell every rule is quiet
pub rounded : {g : Grammar} {rules k : ℕ} {vs us : List ℕ} → Round g rules vs us k → LeastsSound g vs → Rounded g rules us k
rounded round sound = record {
  sound = round.keeps sound;
  rests = λ e r h. let (q, quiet) = round.still e in rw q (quiet r h sound);
}
