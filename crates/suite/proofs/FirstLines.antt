-- The first line: what the calls answer on the way to it comes to the text so far. Assumes nothing.
use Prim.Native.Nat.{ℕ, ◌≤◌, ◌<◌}
use native.Mathlib.Omega.{arith}
use mathlib.Core.Path.{◌≡◌, refl, ap, sym, ◌∙◌}
use mathlib.Core.Bool.{true, false}
use mathlib.Core.List.{List, [], append-nil}
use lib.ListN.{length, take}
use lib.Seq.{length-take-le}
use Rattle.answers.specs.GrammarRefusals as row
use Rattle.answers.specs.GrammarRefusals.{GrammarRefusal, number, broken_layout}
use Rattle.grammar.specs.Rows.{GrammarRefused}
use Rattle.grammar.specs.Terms.{limit}
use Rattle.entries.specs.Table.{most_table}
use Rattle.entries.proofs.Main.{table_few}
use Rattle.grammar.specs.Words.{Grammar, R, Judged, layout, reads, faults}
use Rattle.layout.specs.Judge.{shape, fault, answer_of}
use Rattle.std.specs.Prelude.{Ok, Err}
use Rattle.layout.specs.declared.judge.Shape.{Shape}
use Rattle.layout.specs.declared.judge.Fault.{Fault}
use Rattle.grammar.proofs.LayoutExact.{in_bounds, reads_unique}
use Rattle.packed.specs.Promise.{Unpacked}
use Rattle.packed.specs.declared.FileAnswer.TheVariants as file-answer
use Rattle.packed.proofs.Main.{after_unpack, passes_exactly}
use Rattle.tables.specs.Promise.{Tables, row_4_7, row_3}
use Rattle.tables.specs.declared.TableAnswer.TheVariants as table-answer
use Rattle.tables.proofs.Main.{tables_own}
use Rattle.handout.specs.Night.{clear}
use Rattle.lines.specs.Lines.{suite_line, refused_line, most_line}
use Rattle.lines.specs.Room.{LineWritten}
use Rattle.lines.proofs.Main.{front, within, suite_few, refused_few}
use Rattle.suite.specs.declared.Piece.{Piece}
use Rattle.suite.specs.Text.{sentence_lines, first_line, Unpacks, Text, refused_file, refused_words}
use Rattle.suite.specs.Pieces.{going, whole}
use Rattle.suite.specs.Begun as begun
use Rattle.suite.specs.Begun.{OneLine, SuiteLine, FirstLine, of_grammar, of_fault, OfWords, TextBegun}

module _ {text text' : List ℕ} {past : ℕ} (room : most_line ≤ length text) where
  pub one_line : (number place : ℕ) → number < 65536 → place < 18446744073709551616 →
      LineWritten (refused_line number place) text 0 text' past →
      OneLine number place text' (record { words = 0; count = 0; length = past; over = true })
  one_line number place h k w =
      let few = refused_few number place h k in
      record { words = refl; over = refl; within = within w (omega arith); front = front w (omega arith) }

  suite_line_lem : (words : List ℕ) {g : Grammar} → layout words ≡ reads g → LineWritten (first_line g) text 0 text' past →
      SuiteLine g (length words) text' (record { words = length words; count = 0; length = past; over = false })
  suite_line_lem words {g} e w =
      let ok = in_bounds words e in
      let few =
      suite_few g.N g.T (R g) (omega (arith, ok.nonterminals)) (omega (arith, ok.terminals))
      (omega (arith, ok.at_most_256)) in
      record {
        words = refl;
        count = refl;
        over = refl;
        within = within w (omega arith);
        front = front w (omega arith);
      }

  -- by what the judge answers
  pub judged_grammar : (words : List ℕ) {s : Shape} → Ok s ≡ answer_of (layout words) →
      LineWritten (suite_line s.nonterminals s.terminals s.rules) text 0 text' past →
      FirstLine words text' (record { words = length words; count = 0; length = past; over = false })
  judged_grammar words {s} e w = go (layout words) refl e
    where
      go : (j : Judged Grammar) → layout words ≡ j → Ok s ≡ answer_of j →
          FirstLine words text' (record { words = length words; count = 0; length = past; over = false })
      go (reads g) is told =
          let same : s ≡ shape g.N g.T g.start (R g) = cc in
          of_grammar is (suite_line_lem words is (rw same at w))
      go (faults p) is told = absurd (let z : ◌≡◌ {A = ℕ} 0 1 = cc in omega arith)

pub judged_fault : (words : List ℕ) {text : List ℕ} {so : Piece} {e : Fault} → Err e ≡ answer_of (layout words) →
    OneLine (number (broken_layout e.place)) e.place text so → FirstLine words text so
judged_fault words {text} {so} {e} is line = go (layout words) refl is
  where
    go : (j : Judged Grammar) → layout words ≡ j → Err e ≡ answer_of j → FirstLine words text so
    go (reads g) is told = absurd (let z : ◌≡◌ {A = ℕ} 0 1 = cc in omega arith)
    go (faults q) is told =
        let same : e ≡ fault q = cc in
        of_fault is (rw same at line)

-- by what `tables` answers
pub with_table : {words before after text : List ℕ} {so : Piece} {n : ℕ} → Tables words before (table-answer.Done n) after →
    FirstLine words text so → OfWords words after text so
with_table {words} {n = n} p (of_grammar {g = g} e line) =
    let (h, read, own) = tables_own p n refl in
    let same : h ≡ g = reads_unique words read e in
    let (accepted, table) = rw same at own in
    begun.accepted e accepted table line
with_table {n = n} p (of_fault e line) =
    let (h, read, rest) = tables_own p n refl in
    absurd (let z : ◌≡◌ {A = ℕ} 0 1 = cc in omega arith)

-- a refusal where there is room is one of rows 4 to 7
of_rows : {words before after : List ℕ} {k p : ℕ} → most_table ≤ length before → Tables words before (table-answer.Refused k p) after →
    (x : GrammarRefusal) × GrammarRefused limit words x × (k ≡ row.number x) × (p ≡ row.place x)
of_rows room (row_4_7 {x = x} r) = (x, r, refl, refl)
of_rows {words} room (row_3 {g = g} e a h) = absurd (omega (arith, table_few g (in_bounds words e)))

refused_text : {file words : List ℕ} {k p : ℕ} (x : GrammarRefusal) → Unpacks file words → GrammarRefused limit words x →
    k ≡ row.number x → p ≡ row.place x → Text file (refused_line k p)
refused_text x u r e f = rw (e, f) (refused_words u r)

-- by what `unpack` answers
pub begun_refused : {file words before after table text : List ℕ} {so : Piece} {number place : ℕ} → 8707 ≤ length before →
    Unpacked file before (file-answer.Refused number place) after → OneLine number place text so → TextBegun file words table text so
begun_refused room p line = record {
  words_within = omega (arith, line.words);
  within = line.within;
  so_far = λ marks zeros. whole line.over (rw line.front (refused_file room p));
}

unpacks : {file before after : List ℕ} {n : ℕ} → Unpacked file before (file-answer.Done n) after →
    Unpacks file (take n after) × (n ≤ length after)
unpacks {file} p =
    let (good, written) = after_unpack p refl in
    let (version, long) = (passes_exactly file).1 good in
    (record { version = version; long = long; are = written.front }, written.within)

pub begun_words : {file before after table text : List ℕ} {so : Piece} {n : ℕ} → Unpacked file before (file-answer.Done n) after →
    OfWords (take n after) table text so → TextBegun file after table text so
unfolding sentence_lines
begun_words p (begun.refused_words room tables line) =
    let (x, refused, number_is, place_is) = of_rows room tables in
    record {
      words_within = omega (arith, line.words);
      within = line.within;
      so_far = λ marks zeros. whole line.over (rw line.front (refused_text x (unpacks p).0 refused number_is place_is));
    }
begun_words {after = after} {so = so} {n = n} p (begun.accepted {g = g} e a h line) =
    let (file-words, fits) = unpacks p in
    let long = length-take-le n after fits in
    let same : so.words ≡ n = line.words ∙ long in
    record {
      words_within = omega arith;
      within = line.within;
      so_far =
          λ marks zeros.
          rw same
          (going [] line.over (record { unpacks = file-words; grammar = e; accepted = a; tabled = h })
          (clear e (zeros g (ap layout (sym file-words.are) ∙ e))) line.count (line.front ∙ sym (append-nil (first_line g))));
    }
