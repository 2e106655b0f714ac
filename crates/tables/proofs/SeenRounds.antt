-- Rounds over the contexts, where a rule is passed over that was seen with the context that its left side has. Each turn keeps
-- what is known, and where it lowers nothing no context changed and its rule is quiet. Then so do the turns together, one rule
-- after the other, up or down, and after a round that lowered nothing every rule is quiet. What is seen may change all the same,
-- so what is known is of the two arrays, and the laws are not those of one. Assumes nothing.
use mathlib.Core.Path.{◌≡◌, refl, ◌∙◌}
use mathlib.Core.Bool.{Bool, true, false}
use Prim.Native.Nat.{ℕ, ◌+◌, ◌≤◌, ◌<◌}
use native.Mathlib.Omega.{arith}
use borrow.Author.Count.{below_more}
use native.Mathlib.Decide.{dec_lt, ℕ_discrete}
use lib.ListN.{set, replicate, get_or-replicate, length-replicate, get_or-eq_default}
use lib.Seq.{get_or-set_same, get_or-set_other}
use Rattle.std.specs.Int.{from_bool}
use Rattle.grammar.specs.Words.{Grammar, InBounds}
use Rattle.grammar.specs.Terms.{measure}
use Rattle.grammar.specs.Caps.{OfOpen, measure_cap}
use Rattle.grammar.proofs.CappedContexts.{start_figure}
use Rattle.grammar.proofs.LayoutExact.{in_bounds}
use Rattle.figures.specs.Figures.{no_figure, figure, Has, turn}
use Rattle.figures.specs.Weights.{Fallen}
use Rattle.figures.proofs.EachTurn.{each_turn}
use Rattle.leasts.specs.declared.FoundLeasts.{FoundLeasts}
use Rattle.tables.specs.ContextFigures.{Grown, ContextsSound, ContextQuiet, ContextsRest}
use Rattle.tables.specs.ContextSteps.{KnownOf, SeenTurn, SeenRound}
use Rattle.tables.specs.declared.contexts.Contexts.{Contexts}

-- where the start alone has a context, which is 0, the contexts are sound
pub contexts_begin : (g : Grammar) → InBounds g → ContextsSound g (set (replicate 128 no_figure) g.start 0)
contexts_begin g ok = record { start = at_start; of_open = λ A lt has. go A lt has (ℕ_discrete A g.start) }
  where
    at_start : figure (set (replicate 128 no_figure) g.start 0) g.start ≡ 0
    at_start =
        get_or-set_same (replicate 128 no_figure) g.start 0 no_figure
        (omega (arith, ok.start_below, ok.nonterminals, length-replicate {A = ℕ} 128 no_figure))

    go : (A : ℕ) → A < g.N → Has (set (replicate 128 no_figure) g.start 0) A → Dec (A ≡ g.start) →
        OfOpen measure measure_cap g A (figure (set (replicate 128 no_figure) g.start 0) A)
    go A lt has (yes e) = rw (e, at_start) (start_figure measure measure_cap g)
    go A lt has (no d) =
        let kept = get_or-set_other (replicate 128 no_figure) g.start A 0 no_figure d in
        absurd (has (kept ∙ get_or-replicate 128 A no_figure no_figure (omega (arith, ok.nonterminals))))

-- a round after its first i turns; the number of figures that fell is small
pub record SeenTurns (found : FoundLeasts) (up : Bool) (i : ℕ) (before after : Contexts) (n : ℕ) : Type 0 where
  pub few : n ≤ i
  pub fallen : Fallen before.figures after.figures n
  pub keeps : (grown : Grown found) → KnownOf grown before → KnownOf grown after
  pub still : (grown : Grown found) → n ≡ 0 → KnownOf grown before →
      (after.figures ≡ before.figures) ×
      ((j : ℕ) → j < i → ContextQuiet grown.grammar found.leasts before.figures (turn up found.reading.rules j))

module _ {found : FoundLeasts} where
  pub turns_none : {up : Bool} (contexts : Contexts) → SeenTurns found up 0 contexts contexts 0
  turns_none contexts = record {
    few = omega arith;
    fallen = omega arith;
    keeps = λ grown s. s;
    still = λ grown e s. (refl, λ j h. absurd (omega arith));
  }

  pub turns_more : {up fell : Bool} {i m k : ℕ} {before now after : Contexts} → SeenTurns found up i before now m →
      k ≡ turn up found.reading.rules i → SeenTurn found k now after fell →
      SeenTurns found up (i + 1) before after (m + from_bool fell)
  turns_more {up} {fell} {i} {m} {k} {before} {now} {after} so_far is last = record {
    few = omega (arith, so_far.few, once fell);
    fallen = omega (arith, so_far.fallen, last.fallen);
    keeps = λ grown s. last.keeps grown (so_far.keeps grown s);
    still = still;
  }
    where
      once : (b : Bool) → from_bool b ≤ 1
      once false = omega arith
      once true = omega arith

      none : (b : Bool) → from_bool b ≡ 0 → b ≡ false
      none false e = refl
      none true e = absurd (omega arith)

      still : (grown : Grown found) → m + from_bool fell ≡ 0 → KnownOf grown before →
          (after.figures ≡ before.figures) ×
          ((j : ℕ) → j < i + 1 → ContextQuiet grown.grammar found.leasts before.figures (turn up found.reading.rules j))
      still grown e s =
          let (same, quiet) = so_far.still grown (omega arith) s in
          let (same', own) = last.still grown (none fell (omega arith)) (so_far.keeps grown s) in
          (same' ∙ same, below_more _ i quiet (rw (same, is) at own))

  pub turns_all : {up : Bool} {n : ℕ} {before after : Contexts} → SeenTurns found up found.reading.rules before after n →
      SeenRound found before after n
  turns_all {up} {before = before} t = record {
    fallen = t.fallen;
    keeps = t.keeps;
    still = λ grown e s.
        let (same, quiet) = t.still grown e s in
        (same, each_turn (ContextQuiet grown.grammar found.leasts before.figures) up found.reading.rules quiet);
  }

  -- at the outset the start alone has a context, which is 0, and no rule is seen
  pub outset : (grown : Grown found) →
      KnownOf grown (record { figures = set (replicate 128 no_figure) found.reading.start 0; seen = replicate 256 no_figure })
  outset grown = record {
    sound = rw grown.first (contexts_begin grown.grammar (in_bounds found.reading.words.now grown.view.is));
    of_seen = λ k B w r has. absurd (has (none_at k (dec_lt k 256)));
  }
    where
      none_at : (k : ℕ) → Dec (k < 256) → figure (replicate 256 no_figure) k ≡ no_figure
      none_at k (yes h) = get_or-replicate 256 k no_figure no_figure h
      none_at k (no h) =
          get_or-eq_default (replicate 256 no_figure) no_figure {n = k} (omega (arith, length-replicate {A = ℕ} 256 no_figure))

  -- after a round that lowered none the contexts are at rest
  pub at_rest : (grown : Grown found) {before after : Contexts} → KnownOf grown before → SeenRound found before after 0 →
      ContextsRest grown.grammar found.leasts after.figures
  at_rest grown stands round =
      let (same, quiet) = round.still grown refl stands in
      record {
        sound = (round.keeps grown stands).sound;
        quiet = λ k h. rw same (quiet k (omega (arith, grown.view.all_rules)));
      }
