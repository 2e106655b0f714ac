-- What a rule's turn does to the contexts, over leasts that are done. It lowers a figure only to the cut of what some open
-- tree costs: the open tree that the left side's figure stood for when the turn began, the rule, and least trees of the
-- other symbols. That tree is there even where the left side stands among its own symbols and its figure falls on the way.
-- Nothing is below 0, so the start's figure stays. A rule that is tried lowers nothing more until the figure of its left side
-- falls, so one that was seen with that figure may be passed over. Where the turn lowers none it changes no context, and the
-- rule is quiet. What is tried after it, because it lowered one, keeps what is known. Assumes nothing.
use mathlib.Core.Bool.{Bool, true, false}
use mathlib.Core.Path.{◌≡◌, refl, sym, ◌∙◌}
use mathlib.Core.Logic.{inl, inr}
use mathlib.Core.List.{List, ◌∷◌}
use Prim.Native.Nat.{ℕ, zero, suc, ◌+◌, ◌-◌, ◌≤◌, ◌<◌}
use native.Mathlib.Omega.{arith}
use native.Mathlib.Decide.{ℕ_discrete}
use lib.ListN.{length, get_or}
use lib.Seq.{get_or-set_same, get_or-set_other}
use Rattle.grammar.specs.Words.{Grammar, RuleAt}
use Rattle.grammar.specs.Terms.{measure}
use Rattle.grammar.specs.Caps.{OfOpen, measure_cap}
use Rattle.grammar.specs.Certificates.{word_size, Holds, others_size}
use Rattle.grammar.proofs.AtRest.{place_figure}
use Rattle.figures.specs.Figures.{no_figure, figure, Has, capped, Lowered, fell, stayed}
use Rattle.figures.specs.Weights.{Fallen}
use Rattle.tables.specs.ContextFigures.{Grown, LeastsDone, ContextsSound, ContextQuiet}
use Rattle.tables.specs.ContextSteps.{PlaceStep, skipped, tried, PlacesStep, no_symbol, symbol}
use Rattle.tables.specs.ContextSteps.{ContextStep, as_seen, unseen, RuleStep, Tried, Stands, KnownOf, SeenTurn}
use Rattle.tables.specs.declared.contexts.Contexts.{Contexts}
use Rattle.entries.proofs.SizeApart.{size_apart}
use Rattle.tables.proofs.ContextsFall.{place_length, places_no_higher, context_length, context_fallen, context_no_higher}
use Rattle.figures.proofs.FiguresKept.{lowered_no_higher, lowered_known}
use Rattle.layout.proofs.RulesInView.{viewed_rule, viewed_left, viewed_right, viewed_room}
use Rattle.leasts.specs.declared.FoundLeasts.{FoundLeasts}
use Rattle.std.specs.Int.{from_bool}
use Rattle.std.specs.Prelude.{Option, Some, None, IfSome}

abbrev OpenCut : Grammar → ℕ → ℕ → Type 0
OpenCut g A y = OfOpen measure measure_cap g A y

-- what a context is lowered to, so it is the cut of what some open tree costs, keeps the contexts sound
lowered_sound : {g : Grammar} {us us' : List ℕ} {A to f : ℕ} → Lowered us A to us' f → OpenCut g A to →
    ContextsSound g us → ContextsSound g us'
lowered_sound {g} d y sound = record {
  start = omega (arith, lowered_no_higher d g.start, sound.start);
  of_open = λ B l has. lowered_known (λ C z. C < g.N → OpenCut g C z) d (λ l'. y) (λ C has' l'. sound.of_open C l' has') B has l;
}

module _ (g : Grammar) (vs : List ℕ) (whole : ℕ) where
  -- what each nonterminal of some symbols is lowered to is the cut of what some open tree of it costs
  abbrev Opens : List ℕ → Type 0
  Opens w = (i A : ℕ) → Holds w i A → A < g.N → OpenCut g A (capped (whole - figure vs A))

  place_sound : {s f : ℕ} {us us' : List ℕ} → PlaceStep g.N whole vs s us us' f →
      (s < g.N → OpenCut g s (capped (whole - figure vs s))) → ContextsSound g us → ContextsSound g us'
  place_sound (skipped h) y sound = sound
  place_sound (tried l le d) y sound = lowered_sound d (y l) sound

  places_sound : {w us us' : List ℕ} {f : ℕ} → PlacesStep g.N whole vs w us us' f → Opens w →
      ContextsSound g us → ContextsSound g us'
  places_sound no_symbol opens sound = sound
  places_sound (symbol {s} p ps) opens sound =
      places_sound ps (λ i A h l. opens (suc i) A h l) (place_sound p (λ l. opens 0 s refl l) sound)

  -- A is not above what it is lowered to
  abbrev Low : ℕ → List ℕ → Type 0
  Low A us = A < g.N → figure vs A ≤ whole → figure us A ≤ capped (whole - figure vs A)

  abbrev AllLow : List ℕ → List ℕ → Type 0
  AllLow w us = (i A : ℕ) → Holds w i A → Low A us

  place_low : {s f : ℕ} {us us' : List ℕ} → PlaceStep g.N whole vs s us us' f → g.N ≤ length us → Low s us'
  place_low (skipped (inl h)) room l le = absurd (omega arith)
  place_low (skipped (inr h)) room l le = absurd (omega arith)
  place_low {s} {us = us} (tried l le (fell h m)) room _ _ =
      omega (arith, get_or-set_same us s (capped (whole - figure vs s)) no_figure h)
  place_low (tried l le (stayed h)) room _ _ = h (omega arith)

  low_more : (s : ℕ) (w us : List ℕ) → Low s us → AllLow w us → AllLow (s ∷ w) us
  low_more s w us low all zero A h = let e : s ≡ A = cc in rw e at low
  low_more s w us low all (suc i) A h = all i A h

  places_low : {w us us' : List ℕ} {f : ℕ} → PlacesStep g.N whole vs w us us' f → g.N ≤ length us → AllLow w us'
  places_low no_symbol room = λ i A h. absurd (let z : ◌≡◌ {A = ℕ} 0 1 = cc in omega arith)
  places_low (symbol {s} {w = w} {us'' = us''} p ps) room =
      low_more s w us'' (λ l le. omega (arith, place_low p room l le, places_no_higher ps s))
      (places_low ps (omega (arith, place_length p)))

  place_still : {s f : ℕ} {us us' : List ℕ} → PlaceStep g.N whole vs s us us' f → f ≡ 0 → us' ≡ us
  place_still (skipped h) e = refl
  place_still (tried l le (fell h m)) e = absurd (omega arith)
  place_still (tried l le (stayed h)) e = refl

  places_still : {w us us' : List ℕ} {f : ℕ} → PlacesStep g.N whole vs w us us' f → f ≡ 0 → us' ≡ us
  places_still no_symbol e = refl
  places_still (symbol p ps) e = places_still ps (omega arith) ∙ place_still p (omega arith)

-- a rule, its size by the leasts, and the contexts at its turn
module _ {g : Grammar} {k B : ℕ} {w : List ℕ} (r : RuleAt g k B w) {vs us seen : List ℕ} {size : ℕ}
    (is : size ≡ 1 + word_size measure g (figure vs) w) (room : g.N ≤ length us) (stands : Stands g vs us seen) where
  -- the whole is at least the least of the symbol at a place, and this is what is left without it
  module _ (i A : ℕ) (h : Holds w i A) (l : A < g.N) where
    part_of_whole : figure vs A ≤ figure us B + size
    part_of_whole = omega (arith, size_apart g (figure vs) w i A h l)

    left_of_whole : figure us B + size - figure vs A ≡ figure us B + (1 + others_size measure g (figure vs) w i)
    left_of_whole = omega (arith, size_apart g (figure vs) w i A h l)

  -- where the rule is tried its left side has a context: while it had none, none was seen
  unseen_has : ¬ (figure us B ≡ figure seen k) → Has us B
  unseen_has differs none = go (ℕ_discrete (figure seen k) no_figure)
    where
      go : Dec (figure seen k ≡ no_figure) → ⊥
      go (yes e) = differs (none ∙ sym e)
      go (no has) = omega (arith, (stands.of_seen k B w r has).has)

  -- no place is above what the rule, tried, lowers it to
  tried_low : {us' : List ℕ} {f : ℕ} → PlacesStep g.N (figure us B + size) vs w us us' f → (i A : ℕ) → Holds w i A → A < g.N →
      figure us' A ≤ capped (figure us B + (1 + others_size measure g (figure vs) w i))
  tried_low ps i A h l =
      rw (left_of_whole i A h l) at (places_low g vs (figure us B + size) ps room i A h l (part_of_whole i A h l))

  step_sound : LeastsDone g vs → {us' seen' : List ℕ} {f : ℕ} → ContextStep g.N size vs k B w us seen us' seen' f →
      ContextsSound g us'
  step_sound done (as_seen e) = stands.sound
  step_sound done (unseen long small differs ps) = places_sound g vs (figure us B + size) ps opens stands.sound
    where
      opens : Opens g vs (figure us B + size) w
      opens i A h l =
          let y = stands.sound.of_open B r.left (unseen_has differs) in
          rw (left_of_whole i A h l) (place_figure measure measure_cap g (figure vs) done.certificate i A r h l y)

  step_tried : {us' seen' : List ℕ} {f : ℕ} → ContextStep g.N size vs k B w us seen us' seen' f → Has seen' k →
      Tried g vs us' B w (figure seen' k)
  step_tried (as_seen e) has = stands.of_seen k B w r has
  step_tried (unseen long small differs ps) has =
      rw (get_or-set_same seen k (figure us B) no_figure long) (record {
        has = omega (arith, places_no_higher ps B, below);
        low = tried_low ps;
      })
    where
      below : figure us B < no_figure
      below = go (ℕ_discrete (figure us B) no_figure)
        where
          go : Dec (figure us B ≡ no_figure) → figure us B < no_figure
          go (yes e) = absurd (unseen_has differs e)
          go (no d) = omega arith

  step_still : {us' seen' : List ℕ} {f : ℕ} → ContextStep g.N size vs k B w us seen us' seen' f → f ≡ 0 →
      (us' ≡ us) × (Has us B → (i A : ℕ) → Holds w i A → A < g.N →
      figure us A ≤ capped (figure us B + (1 + others_size measure g (figure vs) w i)))
  step_still (as_seen e) none = (refl, λ has. rw e (stands.of_seen k B w r (rw e at has)).low)
  step_still (unseen long small differs ps) none =
      let q = places_still g vs (figure us B + size) ps none in
      (q, λ has i A h l. rw q at (tried_low ps i A h l))

-- what is seen of the other rules stays, and they stay tried
module _ {n size k B : ℕ} {vs w us us' seen seen' : List ℕ} {f : ℕ} (step : ContextStep n size vs k B w us seen us' seen' f) where
  seen_of_others : (j : ℕ) → ¬ (j ≡ k) → figure seen' j ≡ figure seen j
  seen_of_others j d = go step
    where
      go : {ys ss : List ℕ} {m : ℕ} → ContextStep n size vs k B w us seen ys ss m → figure ss j ≡ figure seen j
      go (as_seen e) = refl
      go (unseen long small differs ps) = get_or-set_other seen k j (figure us B) no_figure d

  others_tried : {g : Grammar} → Stands g vs us seen → (j C : ℕ) (u : List ℕ) → ¬ (j ≡ k) → RuleAt g j C u → Has seen' j →
      Tried g vs us' C u (figure seen' j)
  others_tried stands j C u d q has =
      let same = seen_of_others j d in
      let t = stands.of_seen j C u q (rw same at has) in
      rw same (record {
        has = omega (arith, context_no_higher step C, t.has);
        low = λ i A h l. omega (arith, context_no_higher step A, t.low i A h l);
      })

-- A TURN, as the functions read the rule
module _ {found : FoundLeasts} {k f : ℕ} {before after : Contexts} (h : k < found.reading.rules)
    (long : 128 ≤ length before.figures) (step : RuleStep found k before after f) (grown : Grown found) where
  open grown use {grammar, view}

  room : grammar.N ≤ length before.figures
  room = viewed_room view long

  step_of : {B : ℕ} {w : List ℕ} → RuleAt grammar k B w → ContextStep grammar.N (get_or found.sizes k 0) found.leasts k B w
      before.figures before.seen after.figures after.seen f
  step_of r = rw (viewed_left view r, viewed_right view r, view.nonterminals) at step

  of_seen : KnownOf grown before → (j C : ℕ) (u : List ℕ) → RuleAt grammar j C u → Has after.seen j →
      Tried grammar found.leasts after.figures C u (figure after.seen j)
  of_seen stands j C u q has = go (ℕ_discrete j k)
    where
      go : Dec (j ≡ k) → Tried grammar found.leasts after.figures C u (figure after.seen j)
      go (yes e) =
          let own : RuleAt grammar k C u = rw e at q in
          rw e (step_tried own (grown.sizes_are k C u own) room stands (step_of own) (rw e at has))
      go (no d) = others_tried step stands j C u d q has

  rule_keeps : KnownOf grown before → KnownOf grown after
  rule_keeps stands =
      let (B, w, r) = viewed_rule view k h in
      record {
        sound = step_sound r (grown.sizes_are k B w r) room stands grown.leasts (step_of r);
        of_seen = of_seen stands;
      }

  rule_still : f ≡ 0 → KnownOf grown before →
      (after.figures ≡ before.figures) × ContextQuiet grammar found.leasts before.figures k
  rule_still e stands =
      let (B, w, r) = viewed_rule view k h in (
        (step_still r (grown.sizes_are k B w r) room stands (step_of r) e).0,
        λ C u q. (step_still q (grown.sizes_are k C u q) room stands (step_of q) e).1,
      )

-- A TURN of rule k so far, and the rule that is next: k itself where nothing fell yet
pub record Followed (found : FoundLeasts) (k : ℕ) (before after : Contexts) (f : Bool) (next : Option ℕ) : Type 0 where
  pub below : IfSome next (λ r. r < found.reading.rules)
  pub same_length : length after.figures ≡ length before.figures
  pub fallen : Fallen before.figures after.figures (from_bool f)
  pub first : f ≡ false → (after ≡ before) × (next ≡ Some k)
  pub keeps : (grown : Grown found) → KnownOf grown before → KnownOf grown after

module _ {found : FoundLeasts} where
  pub followed_none : {k : ℕ} (contexts : Contexts) → k < found.reading.rules → Followed found k contexts contexts false (Some k)
  followed_none contexts h = record {
    below = h;
    same_length = refl;
    fallen = omega arith;
    first = λ e. (refl, refl);
    keeps = λ grown s. s;
  }

  module _ {k r m : ℕ} {f : Bool} {before now after : Contexts} (so_far : Followed found k before now f (Some r))
      (long : 128 ≤ length now.figures) (step : RuleStep found r now after m) where
    -- rule r lowers a context, and there may be a next rule
    pub followed_more : {next : Option ℕ} → ¬ (m ≡ 0) → IfSome next (λ s. s < found.reading.rules) →
        Followed found k before after true next
    followed_more some below = record {
      below = below;
      same_length = context_length step ∙ so_far.same_length;
      fallen = omega (arith, so_far.fallen, context_fallen step);
      first = λ z. absurd cc;
      keeps = λ grown s. rule_keeps so_far.below long step grown (so_far.keeps grown s);
    }

    -- rule r lowers none
    pub followed_turn : m ≡ 0 → SeenTurn found k before after f
    followed_turn none = record {
      fallen = omega (arith, so_far.fallen, context_fallen step);
      keeps = λ grown s. rule_keeps so_far.below long step grown (so_far.keeps grown s);
      still = λ grown z s.
          let (same, is) = so_far.first z in
          let own : r ≡ k = cc in
          rw (same, own) at (rule_still so_far.below long step grown none (so_far.keeps grown s));
    }

  -- there is no next rule
  pub followed_out : {k : ℕ} {f : Bool} {before after : Contexts} → Followed found k before after f None →
      SeenTurn found k before after f
  followed_out so_far = record {
    fallen = so_far.fallen;
    keeps = so_far.keeps;
    still = λ grown z s. let (same, is) = so_far.first z in absurd (cc);
  }
