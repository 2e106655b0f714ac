-- What each step of the tree lister needs and leaves: a step up to the context rule of an open leaf, before the leaf and after it.
-- Assumes nothing.
use Prim.Native.Nat.{ℕ, suc, ◌+◌, ◌<◌}
use native.Mathlib.Omega.{arith}
use mathlib.Core.List.{List, [], ◌∷◌, ◌++◌}
use mathlib.Core.Path.{◌≡◌, refl, ap, sym, ◌∙◌}
use lib.ListN.{take, drop}
use Rattle.grammar.specs.Words.{Grammar}
use Rattle.grammar.specs.Tree.{Gap, Open, root, down}
use Rattle.grammar.specs.Terms.{measure}
use Rattle.grammar.specs.Least.{ChosenGap, ChosenOpen}
use Rattle.grammar.proofs.Dead.{gap_nonterminal}
use Rattle.grammar.proofs.LayoutExact.{in_bounds}
use Rattle.grammar.proofs.Unique.{choice_unique}
use Rattle.entries.specs.Table.{rule_in, place_in}
use Rattle.layout.proofs.RulesInView.{viewed_left, viewed_right}
use Rattle.handout.specs.declared.tabled.Tabled.{Tabled}
use Rattle.handout.specs.declared.listing.Listing.{Listing}
use Rattle.handout.specs.Listing.{grammar_of, sizes_by, right_of, Few, Wrote, SymbolsListed}
use Rattle.handout.specs.TreeListing.{Inner, front_of, back_of, left_of, upper, FrontListed, Side, before, after}
use Rattle.handout.specs.TreeListing.{gap_tokens, gap_rules, tokens_on, rules_on, size_on, SideReady, SideListed}
use Rattle.handout.proofs.Listings.{and_then, nothing}
use Rattle.handout.proofs.OwnTable.{view_of, start_of}
use Rattle.handout.proofs.SizesByTable.{known_choice}
use Rattle.handout.proofs.OpenListings.{before_listed, after_listed, listed_same}

-- the same words by another name
pub wrote_as : {us us' vs vs' : List ℕ} {p q : Listing} → us ≡ us' → vs ≡ vs' → Wrote us vs p q → Wrote us' vs' p q
wrote_as e f h = rw (← e, ← f) h

module _ (t : Tabled) where
  abbrev g : Grammar
  g = grammar_of t

  -- the step up from an open leaf A to its context rule, k with A at place i, whose left side is B
  record UpTo {A : ℕ} (x : Open g A) (k i B : ℕ) : Type 0 where
    w : List ℕ
    right : right_of t k ≡ w
    above : Open g B
    follows : ChosenOpen measure g above
    gap : Gap g w i A
    chosen : ChosenGap measure g gap
    tokens_before : tokens_on before x ≡ tokens_on before above ++ gap_tokens before gap
    rules_before : rules_on before x ≡ rules_on before above ++ (k ∷ gap_rules before gap)
    tokens_after : tokens_on after x ≡ gap_tokens after gap ++ tokens_on after above
    rules_after : rules_on after x ≡ gap_rules after gap ++ rules_on after above
    size_before : size_on t before x ≡ size_on t before above + (1 + sizes_by t (take i w))
    size_after : size_on t after x ≡ sizes_by t (drop (suc i) w) + size_on t after above

  up_to : {A : ℕ} (x : Open g A) → ChosenOpen measure g x → ¬ (A ≡ g.start) → (k i B : ℕ) → k ≡ rule_in t.table.now A →
      i ≡ place_in t.table.now A → B ≡ left_of t k → UpTo x k i B
  up_to root h d k i B ek ei e_b = absurd (d refl)
  up_to (down {A} {B = B'} {i = i'} {w} k' r x a) h d k i B ek ei e_b =
      let lt = gap_nonterminal a in
      let (fk, fi) = choice_unique h.0 (known_choice t A lt d) in
      let kk : k ≡ k' = ek ∙ sym fk in
      let ii : i ≡ i' = ei ∙ sym fi in
      let BB : B ≡ B' = e_b ∙ ap (left_of t) kk ∙ viewed_left (view_of t) r in
      rw (kk, ii, BB) (record {
        w = w;
        right = viewed_right (view_of t) r;
        above = x;
        follows = h.1;
        gap = a;
        chosen = h.2;
        tokens_before = refl;
        rules_before = refl;
        tokens_after = refl;
        rules_after = refl;
        size_before = refl;
        size_after = refl;
      })

  abbrev Up : {A : ℕ} → Open g A → Type 0
  Up {A} x = UpTo x (rule_in t.table.now A) (place_in t.table.now A) (upper t A)

  up : {A : ℕ} (x : Open g A) → ChosenOpen measure g x → ¬ (A ≡ t.reading.now.start) → Up x
  up x h d = up_to x h (λ e. d (e ∙ sym (start_of t))) _ _ _ refl refl refl

  pub open_nonterminal : {A : ℕ} → Open g A → A < g.N
  open_nonterminal root = (in_bounds t.reading.now.words.now (view_of t).is).start_below
  open_nonterminal (down k r x a) = gap_nonterminal a

  -- nothing lies beside the start
  at_start : {A : ℕ} (side : Side) (x : Open g A) → ChosenOpen measure g x → A ≡ g.start →
      (tokens_on side x ≡ []) × (rules_on side x ≡ [])
  at_start before root h e = (refl, refl)
  at_start after root h e = (refl, refl)
  at_start before (down k r x a) h e = absurd (h.0.other e)
  at_start after (down k r x a) h e = absurd (h.0.other e)

  pub start_written : (side : Side) {A : ℕ} {p : Listing} → A ≡ t.reading.now.start → SideListed side t A p p
  start_written side {p = p} e = record {
    by = λ x h.
        let (us, vs) = at_start side x h (e ∙ start_of t) in
        record { wrote = wrote_as (sym us) (sym vs) (nothing p); counted = omega arith };
  }

  -- who can be listed beside is a nonterminal, and no start unless it is said
  pub inner_of : {side : Side} {A : ℕ} {p : Listing} → SideReady side t A p → ¬ (A ≡ t.reading.now.start) → Inner t A
  inner_of ready d = record {
    nonterminal = omega (arith, open_nonterminal ready.above, (view_of t).nonterminals);
    other = d;
  }

  -- before an open leaf
  module _ {A : ℕ} {p : Listing} (ready : SideReady before t A p) (d : ¬ (A ≡ t.reading.now.start)) where
    abbrev u : Up ready.above
    u = up ready.above ready.follows d

    pub before-ready : SideReady before t (upper t A) p
    before-ready = record { above = u.above; follows = u.follows; few = omega (arith, ready.few, u.size_before) }

    pub front_few : {q : Listing} → SideListed before t (upper t A) p q → Few q (1 + sizes_by t (front_of t A))
    front_few above =
        let there = above.by u.above u.follows in
        let same = ap (λ w. sizes_by t (take (place_in t.table.now A) w)) u.right in
        omega (arith, ready.few, there.counted, u.size_before, same)

  pub before_written : {A : ℕ} {p q r : Listing} → ¬ (A ≡ t.reading.now.start) → SideListed before t (upper t A) p q →
      FrontListed t A q r → SideListed before t A p r
  before_written {A} d above front = record {
    by = λ x h.
        let u = up x h d in
        let m = rw u.right at front.lists.symbols in
        let (us, vs) = listed_same m (before_listed u.gap u.chosen) in
        let there = above.by u.above u.follows in
        let size = ap (λ w. sizes_by t (take (place_in t.table.now A) w)) u.right in
        record {
          wrote =
              wrote_as (ap (λ m. tokens_on before u.above ++ m) us ∙ sym u.tokens_before)
              (ap (λ m. rules_on before u.above ++ m) (front.lists.is ∙ ap (λ m. rule_in t.table.now A ∷ m) vs) ∙ sym u.rules_before)
              (and_then there.wrote front.wrote);
          counted = omega (arith, there.counted, front.counted, u.size_before, size);
        };
  }

  -- after an open leaf
  module _ {A : ℕ} {p : Listing} (ready : SideReady after t A p) (d : ¬ (A ≡ t.reading.now.start)) where
    abbrev u' : Up ready.above
    u' = up ready.above ready.follows d

    size' : size_on t after ready.above ≡ sizes_by t (back_of t A) + size_on t after u'.above
    size' = omega (arith, u'.size_after, ap (λ w. sizes_by t (drop (suc (place_in t.table.now A)) w)) u'.right)

    pub back_few : Few p (sizes_by t (back_of t A))
    back_few = omega (arith, ready.few, size')

    pub after-ready : {q : Listing} → SymbolsListed t (back_of t A) p q → SideReady after t (upper t A) q
    after-ready back = record { above = u'.above; follows = u'.follows; few = omega (arith, ready.few, size', back.counted) }

  pub after_written : {A : ℕ} {p q r : Listing} → ¬ (A ≡ t.reading.now.start) → SymbolsListed t (back_of t A) p q →
      SideListed after t (upper t A) q r → SideListed after t A p r
  after_written {A} d back above = record {
    by = λ x h.
        let u = up x h d in
        let m = rw u.right at back.lists in
        let (us, vs) = listed_same m (after_listed u.gap u.chosen) in
        let there = above.by u.above u.follows in
        let size = ap (λ w. sizes_by t (drop (suc (place_in t.table.now A)) w)) u.right in
        record {
          wrote =
              wrote_as (ap (λ m. m ++ tokens_on after u.above) us ∙ sym u.tokens_after)
              (ap (λ m. m ++ rules_on after u.above) vs ∙ sym u.rules_after) (and_then back.wrote there.wrote);
          counted = omega (arith, there.counted, back.counted, u.size_after, size);
        };
  }
