-- A run of `replay` from the start to the end: the tokens passed so far stand in the buffer, and in front of what the replay
-- comes to from there on; at the end nothing but they is left. And so the rows of document 01. Assumes nothing.
use Rattle.std.proofs.Common.{ℕ, ◌≡◌, ◌+◌, ◌≤◌, ◌<◌, List, [], ◌++◌, length, get_or, take, drop, Result, Ok, Err}
use Rattle.std.proofs.Common.{refl, sym, ap, ◌∙◌, arith}
use Rattle.std.proofs.lemmas.List.{length-append}
use Rattle.std.proofs.lemmas.List.Edits.{sets, sets-eq}
use Rattle.answers.proofs.Stores.{sets_append}
use Rattle.answers.specs.Buffers.{over}
use Rattle.answers.specs.Refusals.{place_of}
use Rattle.answers.specs.declared.Refusal.{Refusal}
use Rattle.answers.specs.declared.Refusal.TheVariants.{TooShort}
use Rattle.answers.proofs.WrittenFromFront.{written}
use Rattle.grammar.specs.Words.{Grammar, layout, reads}
use Rattle.grammar.specs.Derivation.{Start}
use Rattle.grammar.specs.Replaying.{derived, stopped, replayed, replay}
use Rattle.grammar.proofs.Replay.{replay_exact, replay_stops}
use Rattle.grammar.proofs.LayoutExact.{layout_exact, in_bounds}
use Rattle.layout.specs.Read.{ReadsAs}
use Rattle.layout.proofs.WordsRead.{begun_of}
use Rattle.replay.specs.Answers.{told}
use Rattle.replay.specs.Replay.{Replay, row_11, row_3, row_done}
use Rattle.replay.specs.Forms.{waiting, form_of, Passed}
use Rattle.replay.specs.ReplaySteps.{words_of, rest, all_front, WithinBounds, Stops, Whole, Ran}
use Rattle.replay.specs.declared.forms.Open.{Open}
use Rattle.replay.specs.declared.forms.Rest.{Rest}
use Rattle.replay.specs.declared.rule_list.RuleList.{RuleList}
use Rattle.replay.proofs.ReplayMoves.{all_front_append, all_front_derived, all_front_stopped}
use Rattle.replay.proofs.ReplayStepped.{tokens, counted, passes}

pub record Held (g : Grammar) (l : RuleList) (stack : List Rest) (o : Open) (before sentence : List ℕ) : Type 0 where
  pub passed : List ℕ
  pub count : o.tokens ≡ length passed
  pub holds : sentence ≡ sets before 0 passed
  pub replays : replay g l.numbers.now ≡ all_front passed (rest g l stack o)

-- the start symbol is the word 2
abbrev pub outset : Open
outset = record { at = 2; left = 1; depth = 0; next = 0; tokens = 0 }

start_form : (ws : List ℕ) (stack : List Rest) (g : Grammar) → layout ws ≡ reads g → form_of ws stack outset ≡ Start g
unfolding waiting
start_form ws stack g e = rw ((layout_exact ws g).0 e).1

-- and no token
first_low : (ws : List ℕ) (g : Grammar) → layout ws ≡ reads g → get_or ws 2 0 < g.N
first_low ws g e = rw ((layout_exact ws g).0 e).1 ((in_bounds ws e).start_below)

pub three_words : (ws : List ℕ) (g : Grammar) → layout ws ≡ reads g → 3 ≤ length ws
three_words ws g e = rw ((layout_exact ws g).0 e).1 (omega arith)

module _ (l : RuleList) (stack : List Rest) where
  pub held_start : {g : Grammar} → ReadsAs l.reading.now g → (before : List ℕ) → Held g l stack outset before before
  unfolding replay
  held_start {g} view before = record {
    passed = [];
    count = refl;
    holds = refl;
    replays = ap (replayed g l.numbers.now 0) (sym (start_form (words_of l) stack g view.is));
  }

  pub low_start : get_or (words_of l) 2 0 < l.reading.now.nonterminals
  low_start =
      let begun = begun_of l.reading.now in
      omega (arith, begun.view.nonterminals, first_low (words_of l) begun.grammar begun.view.is)

  pub kept_start : length l.numbers.now ≤ length stack → WithinBounds l stack outset
  kept_start room =
      let begun = begun_of l.reading.now in
      let form = ap length (start_form (words_of l) stack begun.grammar begun.view.is) in
      record {
        room = room;
        inside = three_words (words_of l) begun.grammar begun.view.is;
        all_inside = λ i h. absurd (let z : i < 0 = h in omega arith);
        waits = omega arith;
        used = omega arith;
        few_tokens = omega arith;
      }

module _ {g : Grammar} {l : RuleList} {stack : List Rest} {o : Open} {before sentence : List ℕ}
    (held : Held g l stack o before sentence) where
  pub held_on : {stack' : List Rest} {o' : Open} → (o'.tokens ≡ o.tokens) × (rest g l stack o ≡ rest g l stack' o') →
      Held g l stack' o' before sentence
  held_on (count, on) = record {
    passed = held.passed;
    count = count ∙ held.count;
    holds = held.holds;
    replays = held.replays ∙ ap (all_front held.passed) on;
  }

  pub held_passed : {o' : Open} {sentence' : List ℕ} → WithinBounds l stack o → ReadsAs l.reading.now g →
      Passed (words_of l) l.reading.now.nonterminals o sentence o' sentence' → Held g l stack o' before sentence'
  held_passed kept view p =
      let more = tokens kept p in
      let start : o.tokens ≡ 0 + length held.passed = omega (arith, held.count) in
      record {
        passed = held.passed ++ more;
        count = rw p.is (omega (arith, held.count, counted kept p, length-append held.passed more));
        holds = p.stored.stored ∙ ap (λ (t : List ℕ). sets t o.tokens more) held.holds ∙
            ap (λ (i : ℕ). sets (sets before 0 held.passed) i more) start ∙ sym (sets_append held.passed more before 0);
        replays = held.replays ∙ ap (all_front held.passed) (passes kept p view) ∙
            sym (all_front_append held.passed more _);
      }

  pub held_end : rest g l stack o ≡ derived [] → Whole g l.numbers.now before sentence o.tokens
  held_end end = record {
    passed = held.passed;
    count = held.count;
    holds = held.holds;
    derives = held.replays ∙ ap (all_front held.passed) end ∙ all_front_derived held.passed;
  }

  pub held_stop : {e : Refusal} → Stops (rest g l stack o) e → Stops (replay g l.numbers.now) e
  held_stop {e} (refused, stop) =
      (refused, held.replays ∙ ap (all_front held.passed) stop ∙ all_front_stopped held.passed (place_of e))

-- tokens stored from the front on, as far as they go
stored_over : (t before : List ℕ) → length t ≤ length before → sets before 0 t ≡ over t before
unfolding over
stored_over t before h = let e : 0 + length t ≡ length t = omega arith in rw e at (sets-eq t before 0 (omega arith))

-- the rows of a list
module _ (l : RuleList) (before : List ℕ) where
  abbrev g : Grammar
  g = (begun_of l.reading.now).grammar

  abbrev view : ReadsAs l.reading.now g
  view = (begun_of l.reading.now).view

  abbrev Answers : Result ℕ Refusal → List ℕ → Type 0
  Answers r after = Replay (words_of l) l.numbers.now before (told r) after

  pub answers_11 : {e : Refusal} → Stops (replay g l.numbers.now) e → Answers (Err e) before
  answers_11 {e} (refused, stop) = rw refused (row_11 view.is l.few ((replay_stops g l.numbers.now (place_of e)).0 stop))

  written_row : {t after : List ℕ} {tokens : ℕ} → replay g l.numbers.now ≡ derived t → tokens ≡ length t → tokens ≤ length before →
      after ≡ over t before → Answers (Ok tokens) after
  written_row {t} derives count room held =
      rw (held, count) (row_done view.is l.few ((replay_exact g l.numbers.now t).0 derives) (omega arith))

  module _ {aside after : List ℕ} {tokens : ℕ} (whole : Whole g l.numbers.now aside after tokens) where
    abbrev t : List ℕ
    t = whole.passed

    pub answers_3 : length before < tokens → Answers (Err (TooShort tokens)) before
    answers_3 h =
        let long = whole.count in
        let derives = (replay_exact g l.numbers.now t).0 whole.derives in
        rw long (row_3 view.is l.few derives (omega arith))

    -- what was kept aside, if there was room for all of it, is written
    pub answers_aside : tokens ≤ length aside → tokens ≤ length before →
        Answers (Ok tokens) (take tokens after ++ drop tokens before)
    unfolding over
    answers_aside fits room =
        let long = whole.count in
        let held = whole.holds ∙ stored_over t aside (omega arith) in
        let cut = ap (take tokens) held ∙ ap (λ (n : ℕ). take n (over t aside)) long in
        let front = cut ∙ (written t aside (omega arith)).front in
        written_row whole.derives long room
        (ap (λ (u : List ℕ). u ++ drop tokens before) front ∙ ap (λ (n : ℕ). t ++ drop n before) long)

    -- the second run writes what the first has counted
    pub answers_again : (r : Result ℕ Refusal) {after' : List ℕ} → tokens ≤ length before → Ran g l.numbers.now before r after' →
        Answers r after'
    answers_again (Ok tokens') room again =
        let same : again.passed ≡ t = cc (again.derives, whole.derives) in
        let few : length again.passed ≤ length before = omega (arith, whole.count, ap length same) in
        written_row again.derives again.count (omega (arith, again.count)) (again.holds ∙ stored_over again.passed before few)
    answers_again (Err e) room (refused, stop) = absurd (let z : ◌≡◌ {A = ℕ} 0 1 = cc (whole.derives, stop) in omega arith)

-- a list that comes to a sentence does not stop
pub never_both : {g : Grammar} {list aside after : List ℕ} {tokens p : ℕ} → Whole g list aside after tokens →
    replay g list ≡ stopped p → ⊥
never_both whole e = let d = whole.derives in let z : ◌≡◌ {A = ℕ} 0 1 = cc in omega arith
