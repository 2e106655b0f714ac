-- What the handouts of a night come to. After n of them every rule below n is used: the target of the next one is at least n, for
-- it is new, and if it is above n then n itself was used already. So there are never more than R; and at Finished every rule is
-- used, so that the sentences satisfy Definition 2.10. Assumes nothing.
use Prim.Native.Nat.{ℕ, suc, ◌≤◌, ◌<◌}
use native.Mathlib.Omega.{arith}
use native.Mathlib.Decide.{dec_lt, ℕ_discrete}
use mathlib.Core.Path.{◌≡◌, refl}
use mathlib.Core.Logic.{◌⊎◌, inl, inr}
use mathlib.Core.List.{List}
use lib.ListN.{length}
use Rattle.grammar.specs.Words.{Grammar, R, layout, reads}
use Rattle.grammar.specs.Derivation.{Derives, ProductionCoverage}
use Rattle.grammar.specs.Tree.{◌∈◌}
use Rattle.grammar.proofs.LayoutExact.{in_bounds}
use Rattle.grammar.proofs.Coverage.{coverage}
use Rattle.grammar.proofs.LayoutExact.{reads_unique}
use Rattle.handout.specs.Night.{Handout, Night, Over, HandedOut, this, earlier, SentenceOf, UsedIn}
use Rattle.handout.specs.Night.{Proper, AllProper, none_yet, and_then}
use Rattle.handout.proofs.NextExact.{next-finished}
use Rattle.handout.proofs.NightProper.{night_tells, night_proper}

module _ {g : Grammar} where
  rules_below : {hs : List Handout} → AllProper g hs → (k : ℕ) → k < length hs → k < R g → UsedIn hs k
  rules_below none_yet k l m = absurd (omega arith)
  rules_below (and_then {r} {t} {ks} {hs} p ps) k l m =
      go (λ l'. p.new (rules_below ps r l' p.rule)) (dec_lt k r) (ℕ_discrete k r)
    where
      go : ¬ (r < length hs) → Dec (k < r) → Dec (k ≡ r) → (k ∈ ks) ⊎ UsedIn hs k
      go new (yes below) d = inr (p.lowest k below)
      go new (no above) (yes e) = inl (rw e p.uses)
      go new (no above) (no d) = absurd (new (omega arith))

  few : {hs : List Handout} → AllProper g hs → length hs ≤ R g
  few none_yet = omega arith
  few (and_then {r} {t} {ks} {hs} p ps) = go (dec_lt r (length hs))
    where
      go : Dec (r < length hs) → suc (length hs) ≤ R g
      go (yes l) = absurd (p.new (rules_below ps r l p.rule))
      go (no l) = omega (arith, p.rule)

  -- each handout is proper after those before it
  pub each_proper : {hs : List Handout} {r : ℕ} {t ks : List ℕ} → AllProper g hs → HandedOut hs r t ks →
      (earlier-ones : List Handout) × Proper g earlier-ones r t ks
  each_proper none_yet h = elim h [ ]
  each_proper (and_then {hs = hs} p ps) this = (hs, p)
  each_proper (and_then p ps) (earlier h) = each_proper ps h

  -- each rule used stands in the derivation of a sentence
  used_sentence : {hs : List Handout} → AllProper g hs → (k : ℕ) → UsedIn hs k →
      (t : List ℕ) × SentenceOf hs t × (ks : List ℕ) × Derives g ks t × k ∈ ks
  used_sentence none_yet k u = absurd u
  used_sentence (and_then {r = r} {t = t} {ks = ks} p ps) k (inl m) = (t, (r, ks, this), ks, p.derives, m)
  used_sentence (and_then p ps) k (inr u) =
      let (t, (r, ks, h), js, derives, m) = used_sentence ps k u in
      (t, (r, ks, earlier h), js, derives, m)

module _ {words table : List ℕ} {hs : List Handout} {g : Grammar} (e : layout words ≡ reads g) where
  module _ {marks : List ℕ} (night : Night words table hs marks) where
    -- WITHIN R sentences
    pub at_most_R : length hs ≤ R g
    at_most_R = few (night_proper e night)

    -- AFTER n sentences every rule below n is used
    pub used_below : (k : ℕ) → k < length hs → UsedIn hs k
    used_below k l = rules_below (night_proper e night) k l (omega (arith, at_most_R))

  module _ (o : Over words table hs) where
    -- AT FINISHED every rule is used
    pub all_used : (k : ℕ) → k < R g → UsedIn hs k
    all_used k l =
        let (h, read, (own, enough, used)) = (next-finished o.ends).0 refl in
        let same : h ≡ g = reads_unique words read e in
        ((night_tells e o.night).1 k l).1 ((rw same at used) k l)

    -- THE NIGHT COVERS
    pub night_covers : ProductionCoverage g (SentenceOf hs)
    night_covers =
        let proper = night_proper e o.night in
        coverage (in_bounds words e) (SentenceOf hs)
        (λ t (r, ks, h). (ks, (each_proper proper h).1.derives))
        (λ k l. used_sentence proper k (all_used k l))
