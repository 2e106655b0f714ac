-- Each derivation that a night hands out replays to its sentence: it has at most 4,096 numbers and derives the sentence, so that
-- `replay`, lent room for the sentence, answers Done and writes it. Assumes nothing.
use Prim.Native.Nat.{ℕ, ◌≤◌}
use native.Mathlib.Omega.{arith}
use mathlib.Core.Path.{◌≡◌}
use mathlib.Core.List.{List}
use lib.ListN.{length}
use Rattle.answers.specs.Buffers.{over}
use Rattle.grammar.specs.Words.{Grammar, layout, reads}
use Rattle.replay.specs.Replay.{Replay}
use Rattle.replay.specs.declared.ReplayAnswer.{ReplayAnswer}
use Rattle.replay.specs.declared.ReplayAnswer.TheVariants.{Done}
use Rattle.replay.proofs.Main.{replay_done}
use Rattle.handout.specs.Night.{Handout, Night, HandedOut}
use Rattle.handout.proofs.NightProper.{night_proper}
use Rattle.handout.proofs.NightCovers.{each_proper}

-- EACH REPLAYS
pub handouts_replay : {words table marks : List ℕ} {hs : List Handout} {g : Grammar} → layout words ≡ reads g →
    Night words table hs marks → {r : ℕ} {t ks : List ℕ} → HandedOut hs r t ks →
    {before after : List ℕ} {a : ReplayAnswer} → length t ≤ length before → Replay words ks before a after →
    (a ≡ Done (length t)) × (after ≡ over t before)
handouts_replay {g = g} e night {t = t} h room p =
    let proper = (each_proper (night_proper e night) h).1 in
    (replay_done p t).1 (g, e, (omega (arith, proper.limit), proper.derives, room))
