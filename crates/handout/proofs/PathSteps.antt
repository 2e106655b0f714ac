-- The way from a nonterminal up to the start, by context choices: the climb ends, as contexts fall, and its steps are fewer than
-- the nonterminals; and what lies before and after the first nonterminal is what lies beside those on the way, step by step.
-- Assumes nothing.
use Prim.Native.Nat.{ℕ, zero, suc, ◌+◌, ◌-◌, ◌≤◌, ◌<◌}
use native.Mathlib.Numerals.{add-one}
use native.Mathlib.Omega.{arith}
use mathlib.Core.List.{List, [], ◌∷◌, ◌++◌, reverse}
use mathlib.Core.Path.{◌≡◌, refl, ap, sym, ◌∙◌}
use lib.ListN.{length, get_or, set, take, drop}
use lib.Seq.{take-suc-set}
use Rattle.std.proofs.lemmas.List.{drop_more, length-reverse, get_or-reverse}
use Rattle.layout.proofs.WordsRead.{view_few}
use Rattle.entries.specs.Table.{context_in}
use Rattle.handout.specs.declared.tabled.Tabled.{Tabled}
use Rattle.handout.specs.declared.listing.Listing.{Listing}
use Rattle.handout.specs.Listing.{sizes_by, Few, SymbolsListed}
use Rattle.handout.specs.TreeListing.{Inner, front_of, back_of, FrontListed, upper, Leads, arrived, up, before, after}
use Rattle.handout.specs.TreeListing.{SideReady, WayReady, SideListed, WayListed}
use Rattle.handout.proofs.OwnTable.{view_of}
use Rattle.handout.proofs.ContextRules.{upper_below, context_falls}
use Rattle.handout.proofs.FewContexts.{lower, lower_falls, lower_within}
use Rattle.handout.proofs.TreeListerSteps.{start_written, inner_of, before-ready, front_few, before_written}
use Rattle.handout.proofs.TreeListerSteps.{back_few, after-ready, after_written}

module _ (t : Tabled) where
  -- one more nonterminal at the end
  snoc : {A B : ℕ} {w : List ℕ} → Leads t A B w → ¬ (B ≡ t.reading.now.start) → Leads t A (upper t B) (w ++ (B ∷ []))
  snoc arrived d = up d arrived
  snoc (up e h) d = up e (snoc h d)

  -- what the climb keeps: a is so many steps up from A by the front of the path, and by as many fewer contexts are lower
  pub record OnWay (A : ℕ) (path : List ℕ) (a steps : ℕ) : Type 0 where
    pub leads : Leads t A a (take steps path)
    pub nonterminal : a < t.reading.now.nonterminals
    pub fallen : steps + lower t.table.now t.reading.now.nonterminals (context_in t.table.now a) ≤
        lower t.table.now t.reading.now.nonterminals (context_in t.table.now A)

  -- there are no more of them than a path of 128 has room for
  pub path_holds : t.reading.now.nonterminals ≤ 128
  path_holds = (view_few (view_of t)).0

  pub way_begins : (A : ℕ) (path : List ℕ) → A < t.reading.now.nonterminals → OnWay A path A 0
  way_begins A path h = record { leads = arrived; nonterminal = h; fallen = omega arith }

  module _ {A : ℕ} {path : List ℕ} {a steps : ℕ} (below : A < t.reading.now.nonterminals) (way : OnWay A path a steps) where
    pub few_steps : steps < t.reading.now.nonterminals
    few_steps = omega (arith, way.fallen, lower_within t.table.now t.reading.now.nonterminals A below)

    -- one step up
    module _ (d : ¬ (a ≡ t.reading.now.start)) where
      inner : Inner t a
      inner = record { nonterminal = way.nonterminal; other = d }

      pub way_falls : context_in t.table.now (upper t a) < context_in t.table.now a
      way_falls = context_falls t inner

      pub way_on : steps < length path → OnWay A (set path steps a) (upper t a) (steps + 1)
      way_on l = record {
        leads = rw (add-one steps, take-suc-set path steps a l) (snoc way.leads d);
        nonterminal = upper_below t inner;
        fallen =
            omega (
              arith,
              way.fallen,
              lower_falls t.table.now t.reading.now.nonterminals (upper t a) _ (upper_below t inner) way_falls,
            );
      }

  -- what a way begins with, and where none is left
  next_on : {B C a : ℕ} {w : List ℕ} → Leads t B C (a ∷ w) → (B ≡ a) × (¬ (a ≡ t.reading.now.start)) × Leads t (upper t a) C w
  next_on (up d h) = (refl, d, h)

  none_on : {B C : ℕ} → Leads t B C [] → B ≡ C
  none_on arrived = refl

  -- up: what is written so far, and then what lies after the nonterminal that the rest of the way begins with, lie after the first
  pub record AfterSo (A : ℕ) (rest : List ℕ) (p q : Listing) : Type 0 where
    pub B : ℕ
    pub leads : Leads t B t.reading.now.start rest
    pub ready : SideReady after t A p → SideReady after t B q
    pub goes_on : (r : Listing) → SideListed after t B q r → SideListed after t A p r

  pub record WayAfter (way rest : List ℕ) (p q : Listing) : Type 0 where
    pub from : (A : ℕ) → Leads t A t.reading.now.start way → AfterSo A rest p q

  pub after_begins : (way : List ℕ) (p : Listing) → WayAfter way way p p
  after_begins way p = record { from = λ A leads. record { B = A; leads = leads; ready = λ h. h; goes_on = λ r h. h } }

  -- the next one's symbols after the place can be listed, and are
  module _ {way rest : List ℕ} {a : ℕ} {p q : Listing} (so : WayAfter way (a ∷ rest) p q) where
    back_at : WayReady after t way p → Inner t a × Few q (sizes_by t (back_of t a))
    back_at ready =
        let from = so.from ready.A ready.leads in
        let next = next_on from.leads in
        let there = rw next.0 at (from.ready ready.ready) in
        (inner_of t there next.1, back_few t there next.1)

    pub back_inner : WayReady after t way p → Inner t a
    back_inner ready = (back_at ready).0

    pub back_count : WayReady after t way p → Few q (sizes_by t (back_of t a))
    back_count ready = (back_at ready).1

    pub after_goes_on : {r : Listing} → SymbolsListed t (back_of t a) q r → WayAfter way rest p r
    after_goes_on back = record {
      from = λ A leads.
          let from = so.from A leads in
          let next = next_on from.leads in
          record {
            B = upper t a;
            leads = next.2;
            ready = λ ready. after-ready t (rw next.0 at (from.ready ready)) next.1 back;
            goes_on = λ s above. from.goes_on s (rw next.0 (after_written t next.1 back above));
          };
    }

  pub after_ends : {way : List ℕ} {p q : Listing} → WayAfter way [] p q → WayListed after t way p q
  after_ends {q = q} so = record {
    from = λ A leads. let from = so.from A leads in from.goes_on q (start_written t after (none_on from.leads));
  }

  -- down: what lies before the nonterminal that the rest of the way begins with is written
  pub before_begins : (p : Listing) → WayListed before t [] p p
  before_begins p = record { from = λ B leads. start_written t before (none_on leads) }

  -- so far up, what lies before can be listed
  record ReadyAt (rest : List ℕ) (p : Listing) : Type 0 where
    B : ℕ
    leads : Leads t B t.reading.now.start rest
    ready : SideReady before t B p

  ready_at : (i A : ℕ) {way : List ℕ} {p : Listing} → Leads t A t.reading.now.start way → SideReady before t A p →
      i < length way → ReadyAt (drop i way) p
  ready_at zero A leads ready h = record { B = A; leads = leads; ready = ready }
  ready_at (suc i) A arrived ready h = absurd (omega arith)
  ready_at (suc i) A (up d leads) ready h = ready_at i (upper t A) leads (before-ready t ready d) (omega arith)

  module _ {a : ℕ} {rest : List ℕ} {p q : Listing} (so : WayListed before t rest p q) where
    pub front_at : {way : List ℕ} (i : ℕ) → i < length way → drop i way ≡ a ∷ rest → WayReady before t way p →
        Inner t a × Few q (1 + sizes_by t (front_of t a))
    front_at i h e ready =
        let at = rw e at (ready_at i ready.A ready.leads ready.ready h) in
        let next = next_on at.leads in
        let there = rw next.0 at at.ready in
        (inner_of t there next.1, front_few t there next.1 (so.from _ next.2))

    pub before_goes_on : {r : Listing} → FrontListed t a q r → WayListed before t (a ∷ rest) p r
    before_goes_on front = record {
      from = λ B leads.
          let next = next_on leads in
          rw next.0 (before_written t next.1 (so.from _ next.2) front);
    }

-- what is seen of a list from its end on, after so many
pub seen_back : (way : List ℕ) (n a : ℕ) → n < length (reverse way) → a ≡ get_or (reverse way) n a →
    (length way - (n + 1) < length way) × (drop (length way - (n + 1)) way ≡ a ∷ drop (length way - n) way)
seen_back way n a h e =
    let same = length-reverse way in
    let m = length way - (n + 1) in
    let k : length way - 1 - n ≡ m = omega arith in
    let after : m + 1 ≡ length way - n = omega (arith, same) in
    let there : get_or way m a ≡ a =
    sym (e ∙ get_or-reverse way n a (omega (arith, same)) ∙ ap (λ (i : ℕ). get_or way i a) k) in
    let below : m < length way = omega (arith, same) in
    (below, drop_more way m a below ∙ rw (there, after))
