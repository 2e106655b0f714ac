-- The steps of `replay` one by one, each with the bounds that it keeps and with what it makes of the replay from there on.
-- Assumes nothing.
use Rattle.std.proofs.Common.{ℕ, ◌≡◌, ◌+◌, ◌-◌, ◌≤◌, ◌<◌, List, [], ◌∷◌, ◌++◌, length, get_or, take, drop}
use Rattle.std.proofs.Common.{None, ◌⊎◌, inl, inr, refl, sym, ap, ◌∙◌, subst, arith}
use Rattle.std.proofs.lemmas.List.{length-append, length-take, length-drop, length-take-le, get_or-take, get_or-drop}
use Rattle.std.proofs.lemmas.Bool.{cases_lt}
use Rattle.grammar.specs.Words.{Grammar, RuleAt}
use Rattle.grammar.specs.Replaying.{derived, stopped, replayed}
use Rattle.layout.specs.View.{View}
use Rattle.layout.specs.Read.{ReadsAs}
use Rattle.layout.specs.Walk.{count_at}
use Rattle.grammar.proofs.RuleNumbers.{rule_number}
use Rattle.grammar.proofs.WordsFew.{words_few}
use Rattle.layout.proofs.RulePlaces as rule_places
use Rattle.layout.proofs.RulesByNumber.{right_whole}
use Rattle.layout.proofs.WordsRead.{begun_of}
use Rattle.layout.proofs.RulesInView.{viewed_rule, viewed_left, viewed_right}
use Rattle.replay.specs.Forms.{side, form_of, waiting_above, behind, past, Passed, Openable, Opened}
use Rattle.replay.specs.ReplaySteps.{words_of, next_number, NextRule, Named, rest, all_front, WithinBounds, Onward, to_do}
use Rattle.replay.specs.declared.forms.Open.{Open}
use Rattle.replay.specs.declared.forms.Rest.{Rest}
use Rattle.replay.specs.declared.rule_list.RuleList.{RuleList}
use Rattle.replay.proofs.FormSteps.{form_first, form_above, form_empty, form_past, Grown, grown}
use Rattle.replay.proofs.ReplayMoves as moves

module _ {l : RuleList} {stack : List Rest} {o : Open} (kept : WithinBounds l stack o) where
  -- the replay of a form that is what is left
  from : (g : Grammar) {σ : List ℕ} → form_of (words_of l) stack o ≡ σ →
      rest g l stack o ≡ replayed g (drop o.next l.numbers.now) o.next σ
  from g e = ap (replayed g (drop o.next l.numbers.now) o.next) e

  -- nothing is left
  pub nothing_stops : (g : Grammar) → o.left ≡ 0 → o.depth ≡ 0 → o.next < length l.numbers.now →
      rest g l stack o ≡ stopped o.next
  nothing_stops g e d h = from g (form_empty (words_of l) stack o e d) ∙ moves.stops_empty g l.numbers.now o.next h

  pub nothing_ends : (g : Grammar) → o.left ≡ 0 → o.depth ≡ 0 → length l.numbers.now ≤ o.next → rest g l stack o ≡ derived []
  nothing_ends g e d h = from g (form_empty (words_of l) stack o e d) ∙ moves.completes g l.numbers.now o.next h

  -- a right side is at its end
  module _ (none : o.left ≡ 0) (some : 0 < o.depth) where
    above : form_of (words_of l) stack o ≡ form_of (words_of l) stack (waiting_above stack o)
    above = form_above (words_of l) stack o none some (omega (arith, kept.room, kept.waits, kept.used))

    pub back : {o' : Open} → o' ≡ waiting_above stack o → (g : Grammar) →
        (o'.tokens ≡ o.tokens) × (rest g l stack o ≡ rest g l stack o')
    back e g = rw e (refl, from g above)

    pub back_bounded : {o' : Open} → o' ≡ waiting_above stack o → Onward l stack o stack o'
    back_bounded e =
        let same = ap length above in
        rw e (record {
          kept = record {
            room = kept.room;
            inside = kept.all_inside (o.depth - 1) (omega arith);
            all_inside = λ i h. kept.all_inside i (omega arith);
            waits = omega (arith, kept.waits);
            used = kept.used;
            few_tokens = omega (arith, kept.few_tokens);
          };
          less = omega arith;
        })

-- what is known of the rules of words that were read
module _ {ws places : List ℕ} {n rules : ℕ} {g : Grammar} (view : View ws places n rules g) {k : ℕ} (below : k < rules) where
  pub whole : get_or places k 0 + 2 + count_at ws (get_or places k 0) ≤ length ws
  whole =
      let (A, w, r) = viewed_rule view k below in
      let begin = view.begin k (rule_number r) in
      let counted = ap (count_at ws) begin ∙ rule_places.count_stands ws g view.is k A w r.stands in
      omega (arith, begin, counted, rule_places.rule_within ws g view.is k A w r.stands)

  pub right_side : {A : ℕ} {w : List ℕ} → RuleAt g k A w →
      side ws (get_or places k 0 + 2) (count_at ws (get_or places k 0)) ≡ w
  right_side r = sym (right_whole ws (get_or places k 0) whole) ∙ viewed_right view r

-- where the next symbol is a nonterminal
module _ {l : RuleList} {stack : List Rest} {o : Open} (kept : WithinBounds l stack o) (some : 0 < o.left) where
  abbrev first : ℕ
  first = get_or (words_of l) o.at 0

  split : form_of (words_of l) stack o ≡ first ∷ form_of (words_of l) stack (behind o)
  split = form_first (words_of l) stack o some kept.inside

  -- its rule is opened
  module _ {at : ℕ} (named : Named l o at) where
    pub openable : Openable (words_of l) at stack o
    openable =
        let begun = begun_of l.reading.now in
        record {
          some = some;
          few_words = omega (arith, words_few (words_of l) begun.grammar begun.view.is);
          few_rules = omega (arith, kept.used, l.few);
          room = omega (arith, kept.waits, kept.room, named.more);
          inside = kept.inside;
          whole = rw named.is (whole begun.view named.below);
        }

    module _ {stack' : List Rest} {o' : Open} (opened : Opened (words_of l) at stack o stack' o') where
      new : Grown (words_of l) at stack o stack' o'
      new = grown openable kept.all_inside opened

      pub opens_bounded : Onward l stack o stack' o'
      opens_bounded =
          let now = new in
          let able = openable in
          let symbols = side (words_of l) (at + 2) (count_at (words_of l) at) in
          let size = ap length split in
          let sized = ap length now.form ∙ length-append symbols (form_of (words_of l) stack (behind o)) in
          let count = length-take (count_at (words_of l) at) (drop (at + 2) (words_of l)) in
          record {
            kept = record {
              room = omega (arith, kept.room, now.same_length);
              inside = now.inside;
              all_inside = now.all_inside;
              waits = omega (arith, kept.waits, now.deeper, now.one_more);
              used = omega (arith, now.one_more, named.more);
              few_tokens = omega (arith, kept.few_tokens);
            };
            less = omega arith;
          }

  module _ {g : Grammar} (view : ReadsAs l.reading.now g) (low : first < l.reading.now.nonterminals) where
    nonterminal : first < g.N
    nonterminal = omega (arith, view.nonterminals)

    -- by its rule
    pub opens : {at : ℕ} {stack' : List Rest} {o' : Open} → Named l o at → Opened (words_of l) at stack o stack' o' →
        (o'.tokens ≡ o.tokens) × (rest g l stack o ≡ rest g l stack' o')
    opens {at} {stack'} {o'} named opened =
        let (A, w, r) = viewed_rule view (next_number l o) named.below in
        let now = new named opened in
        let same : A ≡ first = sym (viewed_left view r) ∙ named.fits in
        let rule = subst (λ (B : ℕ). RuleAt g (next_number l o) B w) same r in
        let symbols : side (words_of l) (at + 2) (count_at (words_of l) at) ≡ w = rw named.is (right_side view named.below r) in
        let form = ap (λ (t : List ℕ). t ++ form_of (words_of l) stack (behind o)) (sym symbols) ∙ sym now.form in (
          now.same_tokens,
          from kept g split ∙ moves.opens g l.numbers.now o.next first _ w named.more rule ∙
              ap (replayed g (drop (o.next + 1) l.numbers.now) (o.next + 1)) form ∙
              ap (λ (m : ℕ). replayed g (drop m l.numbers.now) m (form_of (words_of l) stack' o')) (sym now.one_more),
        )

    -- no number is left, or it names no rule for it
    pub stuck : NextRule l o None → rest g l stack o ≡ stopped o.next
    stuck none = from kept g split ∙ more? (cases_lt o.next (length l.numbers.now))
      where
        rule? : o.next < length l.numbers.now → (next_number l o < l.reading.now.rules) ⊎ (l.reading.now.rules ≤ next_number l o) →
            replayed g (drop o.next l.numbers.now) o.next (first ∷ form_of (words_of l) stack (behind o)) ≡ stopped o.next
        rule? more (inl below) =
            let (A, w, r) = viewed_rule view (next_number l o) below in
            moves.stops_other g l.numbers.now o.next first A _ w more nonterminal r
            (λ e. none more below (viewed_left view r ∙ e))
        rule? more (inr past) = moves.stops_past g l.numbers.now o.next first _ more nonterminal (omega (arith, view.all_rules))

        more? : (o.next < length l.numbers.now) ⊎ (length l.numbers.now ≤ o.next) →
            replayed g (drop o.next l.numbers.now) o.next (first ∷ form_of (words_of l) stack (behind o)) ≡ stopped o.next
        more? (inl more) = rule? more (cases_lt (next_number l o) l.reading.now.rules)
        more? (inr end) = moves.stops_remaining g l.numbers.now o.next first _ end nonterminal

-- tokens passed
module _ {l : RuleList} {stack : List Rest} {o o' : Open} {sentence sentence' : List ℕ} (kept : WithinBounds l stack o)
    (passed : Passed (words_of l) l.reading.now.nonterminals o sentence o' sentence') where
  abbrev pub tokens : List ℕ
  tokens = take passed.count (side (words_of l) o.at o.left)

  long : length (side (words_of l) o.at o.left) ≡ o.left
  long = length-take-le o.left (drop o.at (words_of l)) (omega (arith, kept.inside, length-drop o.at (words_of l)))

  few : passed.count ≤ o.left
  few = omega (arith, passed.stored.counted.within, long)

  pub counted : length tokens ≡ passed.count
  counted = length-take-le passed.count (side (words_of l) o.at o.left) passed.stored.counted.within

  parts : form_of (words_of l) stack o ≡ tokens ++ form_of (words_of l) stack (past o passed.count)
  parts = form_past (words_of l) stack o passed.count few

  size : length (form_of (words_of l) stack o) ≡ passed.count + length (form_of (words_of l) stack (past o passed.count))
  size = omega (arith, ap length parts, length-append tokens (form_of (words_of l) stack (past o passed.count)), counted)

  pub passes : {g : Grammar} → ReadsAs l.reading.now g → rest g l stack o ≡ all_front tokens (rest g l stack o')
  passes {g} view =
      from kept g parts ∙
      moves.replayed_tokens g tokens (drop o.next l.numbers.now) o.next (form_of (words_of l) stack (past o passed.count))
      (λ i h. omega (
        arith,
        view.nonterminals,
        passed.stored.counted.tokens i (omega (arith, counted)),
        get_or-take passed.count (side (words_of l) o.at o.left) i 0 (omega (arith, counted)),
      )) ∙
      ap (λ (p : Open). all_front tokens (rest g l stack p)) (sym passed.is)

  pub passes_kept : WithinBounds l stack o'
  passes_kept =
      rw passed.is (record {
        room = kept.room;
        inside = omega (arith, kept.inside, few);
        all_inside = kept.all_inside;
        waits = kept.waits;
        used = kept.used;
        few_tokens = omega (arith, kept.few_tokens, size);
      })

  -- and no more is to be done than before
  pub passes_no_more : to_do l stack o' ≤ to_do l stack o
  passes_no_more = rw passed.is (omega (arith, size))

  -- none is in front
  pub passes_low : 0 < o'.left → get_or (words_of l) o'.at 0 < l.reading.now.nonterminals
  passes_low = rw passed.is (λ some.
      let symbols = drop o.at (words_of l) in
      let stops = passed.stored.counted.stops (omega (arith, long)) in
      let here = get_or-take o.left symbols passed.count 0 (omega arith) in
      omega (arith, stops, here, get_or-drop o.at (words_of l) passed.count 0))
