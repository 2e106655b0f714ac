-- One line more: each answer of `next` puts a whole line behind what waits, and with it the text is again the text so far; after
-- Finished it is the whole text. Assumes nothing.
use Prim.Native.Nat.{ℕ, ◌+◌, ◌-◌, ◌≤◌, ◌<◌}
use native.Mathlib.Omega.{arith}
use mathlib.Core.Path.{◌≡◌, refl, sym, ap, ◌∙◌}
use mathlib.Core.Bool.{Bool, true, false}
use mathlib.Core.Logic.{◌⊎◌, inl, inr}
use mathlib.Core.List.{List, ◌++◌, append_assoc}
use lib.ListN.{length, take, drop, length-append}
use lib.Seq.{take_at, length-take-le}
use Rattle.grammar.specs.Words.{Grammar}
use Rattle.grammar.specs.Terms.{limit}
use Rattle.grammar.proofs.LayoutExact.{in_bounds}
use Rattle.handout.specs.Next.{Lent, NextPromise}
use Rattle.handout.specs.Night.{Handout, Night, later, Enough, GoesOn}
use Rattle.handout.specs.declared.NextAnswer.{NextAnswer}
use Rattle.handout.specs.declared.NextAnswer.TheVariants.{Next, Finished, Refused}
use Rattle.handout.proofs.Main.{at_most_R, never_refused}
use Rattle.lines.proofs.Main.{within}
use Rattle.lines.specs.Lines.{most_line}
use Rattle.suite.specs.declared.Piece.{Piece}
use Rattle.suite.specs.Text.{sentence_lines, first_line, suite_text, Accepts, suite}
use Rattle.suite.specs.Pieces.{SoFar, going, whole}
use Rattle.suite.specs.Answered.{line_of, counted, is_last, Answered}
use Rattle.suite.specs.Filled.{Waits, Filled}
use Rattle.suite.proofs.LinesFit.{whole_line}

pub true_not_false : {b : Bool} → b ≡ true → b ≡ false → ⊥
true_not_false e f = let z : ◌≡◌ {A = ℕ} 0 1 = cc in omega arith

-- marks for all rules, room for every sentence and every derivation
abbrev pub LineRoom : List ℕ → List ℕ → List ℕ → Type 0
LineRoom marks tokens rules = (256 ≤ length marks) × (limit ≤ length tokens) × (limit ≤ length rules)

-- while it is not over there are no more sentences than rules
pub count_few : {file words table marks out : List ℕ} {count : ℕ} {over : Bool} →
    SoFar file words table marks count over out → over ≡ false → count ≤ 256
count_few {words = words} (going hs on accepts night count e) is =
    let few = at_most_R accepts.grammar night in
    omega (arith, (in_bounds words accepts.grammar).at_most_256)
count_few (whole over t) is = absurd (true_not_false over is)

-- a text with a line behind what waits: its front is now what waited, and the line
front_grows : (text line : List ℕ) (w : ℕ) → w ≤ length text →
    take (w + length line) (take w text ++ line ++ drop (w + length line) text) ≡ take w text ++ line
front_grows text line w h =
    take_at (take w text ++ line) (drop (w + length line) text) (w + length line)
    (length-append (take w text) line ∙ ap (λ (n : ℕ). n + length line) (length-take-le w text h))

-- the line of an answer, behind the text so far
line_more : {file words table out : List ℕ} {g : Grammar} {before after : Lent} {count : ℕ} {over : Bool} (hs : List Handout) →
    Accepts file words table g → Night words table hs before.marks → (a : NextAnswer) → GoesOn a →
    NextPromise words table before a after → over ≡ is_last a → count ≡ counted a (length hs) →
    out ≡ first_line g ++ sentence_lines hs ++ line_of a after (length hs) → SoFar file words table after.marks count over out
unfolding sentence_lines suite_text
line_more {out = out} {g = g} {before = before} {after = after} hs accepts night a (inl is) p last count e =
    let all : out ≡ suite_text g hs = rw is at e in
    whole (rw is at last)
    (rw all (suite accepts (record { before = before; after = after; night = night; ends = rw is at p })))
line_more {g = g} hs accepts night a (inr (r, n, m, is)) p last count e =
    let one = rw is at count in
    going _ (rw is at last) accepts (later night (rw is at p)) (omega arith)
    ((rw is at e) ∙ append_assoc (first_line g) (sentence_lines hs) _)

module _ {words table text text' : List ℕ} {before after : Lent} {so then : Piece} (on : so.over ≡ false)
    (room : so.length + most_line ≤ length text)
    (large : LineRoom before.marks before.tokens before.rules)
    (a : Answered words table before after text text' so then) where
  behind : (file out : List ℕ) →
      SoFar file words table before.marks so.count so.over (out ++ take so.length text) →
      SoFar file words table after.marks then.count then.over (out ++ take then.length text')
  behind file out (whole over t) = absurd (true_not_false over on)
  behind file out (going {g = g} hs is accepts night count e) =
      let bound = (in_bounds words accepts.grammar).at_most_256 in
      let enough : Enough g before =
      record { marks = omega (arith, large.0); tokens = large.1; rules = large.2 } in
      let goes =
      never_refused words table accepts.grammar accepts.accepted accepts.tabled enough a.promise in
      let few = at_most_R accepts.grammar night in
      let whole = whole_line accepts.grammar night a goes (omega arith) room in
      let line = line_of a.answer after so.count in
      let front : take then.length text' ≡ take so.length text ++ line =
      rw (whole.0, whole.1) (front_grows text line so.length (omega arith)) in
      line_more hs accepts night a.answer goes a.promise a.last (a.count ∙ ap (counted a.answer) count)
      (ap (λ (l : List ℕ). out ++ l) front ∙ sym (append_assoc out (take so.length text) line) ∙
      ap (λ (l : List ℕ). l ++ line) e ∙
      ap (λ (k : ℕ). first_line g ++ sentence_lines hs ++ line_of a.answer after k) count)

  -- but for the last line there is a sentence more
  pub sentence_more : then.over ≡ false → so.count < then.count
  sentence_more is = go a.answer a.count (sym a.last ∙ is)
    where
      go : (o : NextAnswer) → then.count ≡ counted o so.count → is_last o ≡ false → so.count < then.count
      go (Next r n m) c l = omega arith
      go Finished c l = absurd (true_not_false {b = true} refl l)
      go (Refused k p) c l = absurd (true_not_false {b = true} refl l)

-- While lines are put behind each other, from so on: what waits is the text so far behind whatever was it at first; and where it
-- has changed there is a sentence more, or it is over.
pub record Filling (words table marks marks' text text' : List ℕ) (so then : Piece) : Type 0 where
  pub same_words : then.words ≡ so.words
  pub waits : Waits words table marks' text' then
  pub follows : (file out : List ℕ) → SoFar file words table marks so.count so.over (out ++ take so.length text) →
      SoFar file words table marks' then.count then.over (out ++ take then.length text')
  pub moves : then.over ≡ false → ((then.length ≡ so.length) × (then.count ≡ so.count)) ⊎ (so.count < then.count)

module _ {words table marks text : List ℕ} {so : Piece} where
  pub filling_begins : Waits words table marks text so → Filling words table marks marks text text so so
  filling_begins w = record { same_words = refl; waits = w; follows = λ file out z. z; moves = λ on. inl (refl, refl) }

  pub filling_goes_on : {text' text'' : List ℕ} {before after : Lent} {then more : Piece} →
      Filling words table marks before.marks text text' so then → then.over ≡ false →
      then.length + most_line ≤ length text' → LineRoom before.marks before.tokens before.rules →
      Answered words table before after text' text'' then more →
      Filling words table marks after.marks text text'' so more
  filling_goes_on {then = then} {more = more} f on room large a =
      let w = f.waits in
      record {
        same_words = a.same_words ∙ f.same_words;
        waits = record {
          within = within a.line (omega arith);
          file = w.file;
          out = w.out;
          so_far = behind on room large a w.file w.out w.so_far;
        };
        follows = λ file out z. behind on room large a file out (f.follows file out z);
        moves = λ is. inr (go (f.moves on) (sentence_more on room large a is));
      }
    where
      go : ((then.length ≡ so.length) × (then.count ≡ so.count)) ⊎ (so.count < then.count) →
          then.count < more.count → so.count < more.count
      go (inl (same, e)) l = omega arith
      go (inr k) l = omega arith

  pub filling_ends : {marks' text' : List ℕ} {then : Piece} → Filling words table marks marks' text text' so then →
      length text' ≡ length text → (then.over ≡ false → length text' < then.length + most_line) →
      Filled words table marks marks' text text' so then
  filling_ends {marks'} {text'} {then} f long ends = record {
    same_words = f.same_words;
    within = f.waits.within;
    behind = f.follows;
    more = λ on room is. go (f.moves is) (ends is) room;
  }
    where
      go : ((then.length ≡ so.length) × (then.count ≡ so.count)) ⊎ (so.count < then.count) →
          length text' < then.length + most_line → so.length + most_line ≤ length text → so.count < then.count
      go (inl (same, e)) l room = absurd (omega arith)
      go (inr k) l room = k

-- what the code's test for room says
pub room_left : {w l : ℕ} → w ≤ l → most_line ≤ l - w → w + most_line ≤ l
room_left h e = omega arith

pub no_room_left : {w l : ℕ} → w ≤ l → l - w < most_line → l < w + most_line
no_room_left h e = omega arith

-- TURNS that are left: none where it is over, else one for each rule but those that have a sentence already, and one for the end
abbrev pub turns : Bool → ℕ → ℕ
turns true count = 0
turns false count = 257 - count

pub turns_fall : (over over' : Bool) (count count' : ℕ) → over ≡ false → count ≤ 256 → (over' ≡ false → count < count') →
    turns over' count' < turns over count
turns_fall true over' count count' on few more = absurd (true_not_false {b = true} refl on)
turns_fall false true count count' on few more = omega arith
turns_fall false false count count' on few more = let l = more refl in omega arith
