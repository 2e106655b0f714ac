-- The text of a file is settled: there is one, and no other. Into a buffer with room for all `unpack` refuses by the file alone,
-- rows 4 to 7 refuse words in one way, and a night is settled. Assumes nothing.
use Prim.Native.Nat.{ℕ, ◌%◌, ◌≤◌, ◌<◌}
use native.Mathlib.Omega.{arith}
use native.Mathlib.Decide.{dec_lt, ℕ_discrete}
use mathlib.Core.Path.{◌≡◌, refl, sym, ap, ◌∙◌}
use mathlib.Core.Logic.{◌⊎◌, inl, inr}
use mathlib.Core.List.{List}
use lib.ListN.{length, get_or, replicate, length-replicate}
use lib.Seq.{take_all}
use Rattle.answers.specs.GrammarRefusals.{GrammarRefusal, number, place}
use Rattle.grammar.specs.Words.{Grammar, layout, reads, Are}
use Rattle.grammar.specs.Refusals.{Accepted}
use Rattle.grammar.specs.Rows.{GrammarRefused}
use Rattle.grammar.proofs.FirstRows.{refused_unique, refused_or_accepted}
use Rattle.grammar.proofs.FirstRowsMet.{refused?}
use Rattle.grammar.specs.Terms.{limit}
use Rattle.grammar.proofs.LayoutExact.{in_bounds, reads_unique}
use Rattle.packed.specs.File.{said, following, words_in}
use Rattle.packed.specs.Promise.{NotVersionOne, BadLength, Unpacked}
use Rattle.packed.specs.Promise.NotVersionOne.{empty, first_not_one}
use Rattle.packed.specs.Promise.BadLength.{under_three, odd, above, not_following}
use Rattle.packed.specs.Promise.Unpacked.{wrong_version, wrong_length, no-room-for-words, all_words}
use Rattle.packed.specs.declared.FileAnswer.TheVariants as file-answer
use Rattle.packed.proofs.Main.{unpack_settles, passes_exactly}
use Rattle.entries.specs.Table.{table_length, HasTable}
use Rattle.entries.proofs.Main.{table_exists}
use Rattle.handout.specs.Night.{Handout, Over}
use Rattle.handout.proofs.Main.{night_ends}
use Rattle.lines.specs.Lines.{refused_line}
use Rattle.suite.specs.Text.{suite_text, Unpacks, Accepts, Text, refused_file, refused_words, suite}
use Rattle.suite.proofs.NightSettled.{night_settles}

few_words : {file words : List ℕ} → Unpacks file words → length (words_in file) ≤ 8707
few_words {file} u = ((passes_exactly file).0 (u.version, u.long)).most

-- with room, a refusal is the same into any other buffer with room
file_refused : {file before after : List ℕ} {k p : ℕ} → 8707 ≤ length before →
    Unpacked file before (file-answer.Refused k p) after → (other : List ℕ) → 8707 ≤ length other →
    Unpacked file other (file-answer.Refused k p) other
file_refused room (wrong_version h) other l = wrong_version h
file_refused room (wrong_length v h) other l = wrong_length v h
file_refused {file} room (no-room-for-words v h k) other l = absurd (omega (arith, ((passes_exactly file).0 (v, h)).most))

line_same : {k p k' p' : ℕ} → k ≡ k' → p ≡ p' → refused_line k p ≡ refused_line k' p'
line_same e f = rw (e, f) refl

words-words : {words words' : List ℕ} {x y : GrammarRefusal} → words ≡ words' → GrammarRefused limit words x →
    GrammarRefused limit words' y → refused_line (number x) (place x) ≡ refused_line (number y) (place y)
words-words {words} same h h' =
    ap (λ (z : GrammarRefusal). refused_line (number z) (place z)) (refused_unique limit words h (rw (sym same) at h'))

-- of one file
module _ {file : List ℕ} where
  file-file : {b a b' a' : List ℕ} {k p k' p' : ℕ} → 8707 ≤ length b → Unpacked file b (file-answer.Refused k p) a →
      8707 ≤ length b' → Unpacked file b' (file-answer.Refused k' p') a' → refused_line k p ≡ refused_line k' p'
  file-file {b' = b'} {k = k} {p = p} {k' = k'} {p' = p'} room h room' h' =
      let e = (unpack_settles (file_refused room h b' room') h').0 in
      let number : k ≡ k' = cc in
      let place : p ≡ p' = cc in
      line_same number place

  file-words : {b a words : List ℕ} {k p : ℕ} → 8707 ≤ length b → Unpacked file b (file-answer.Refused k p) a →
      Unpacks file words → ⊥
  file-words room h u =
      let e = (unpack_settles h (all_words u.version u.long (omega (arith, few_words u)))).0 in
      let z : ◌≡◌ {A = ℕ} 0 1 = cc in
      omega arith

  words_same : {words words' : List ℕ} → Unpacks file words → Unpacks file words' → words ≡ words'
  words_same u v = u.are ∙ sym v.are

  words_suite : {words words' table : List ℕ} {g : Grammar} {x : GrammarRefusal} → words ≡ words' → GrammarRefused limit words x →
      Accepts file words' table g → ⊥
  words_suite {words} {words'} same h s = refused_or_accepted limit words' (rw same at h) s.grammar s.accepted

-- SETTLED
pub text_settles : {file a b : List ℕ} → Text file a → Text file b → a ≡ b
text_settles (refused_file room h) (refused_file room' h') = file-file room h room' h'
text_settles (refused_file room h) (refused_words u h') = absurd (file-words room h u)
text_settles (refused_file room h) (suite s o) = absurd (file-words room h s.unpacks)
text_settles (refused_words u h) (refused_file room' h') = absurd (file-words room' h' u)
text_settles (refused_words u h) (refused_words u' h') = words-words (words_same u u') h h'
text_settles (refused_words u h) (suite s o) = absurd (words_suite (words_same u s.unpacks) h s)
text_settles (suite s o) (refused_file room' h') = absurd (file-words room' h' s.unpacks)
text_settles (suite s o) (refused_words u h) = absurd (words_suite (words_same u s.unpacks) h s)
text_settles (suite {words = words} {g = g} {hs = hs} s o) (suite {words = words'} {g = g'} {hs = hs'} s' o') =
    let same : words ≡ words' = words_same s.unpacks s'.unpacks in
    let grammars : g ≡ g' = reads_unique words s.grammar (rw same s'.grammar) in
    let nights : hs ≡ hs' = night_settles s.grammar o (rw (sym same) at o') in
    rw (grammars, nights) refl

-- MET: each file has a text
roomy : (n : ℕ) → (l : List ℕ) × (n ≤ length l)
roomy n = (replicate n 0, omega (arith, length-replicate {A = ℕ} n 0))

pub version? : (file : List ℕ) → Dec (NotVersionOne file)
version? file = go (ℕ_discrete (get_or file 0 0) 1) (ℕ_discrete (length file) 0)
  where
    go : Dec (get_or file 0 0 ≡ 1) → Dec (length file ≡ 0) → Dec (NotVersionOne file)
    go (no n) d = yes (first_not_one n)
    go (yes v) (yes l) = yes (empty l)
    go (yes v) (no l) = no neither
      where
        neither : NotVersionOne file → ⊥
        neither (empty e) = l e
        neither (first_not_one n) = n v

pub bad_length? : (file : List ℕ) → Dec (BadLength file)
bad_length? file =
    go (dec_lt (length file) 3) (ℕ_discrete (said file % 2) 1) (dec_lt 17414 (said file))
    (ℕ_discrete (said file) (length (following file)))
  where
    go : Dec (length file < 3) → Dec (said file % 2 ≡ 1) → Dec (17414 < said file) → Dec (said file ≡ length (following file)) →
        Dec (BadLength file)
    go (yes h) b c d = yes (under_three h)
    go (no a) (yes h) c d = yes (odd h)
    go (no a) (no b) (yes h) d = yes (above h)
    go (no a) (no b) (no c) (no h) = yes (not_following h)
    go (no a) (no b) (no c) (yes d) = no none
      where
        none : BadLength file → ⊥
        none (under_three h) = a h
        none (odd h) = b h
        none (above h) = c h
        none (not_following h) = h d

with_night : {file words table : List ℕ} {g : Grammar} → Accepts file words table g →
    (hs : List Handout) × Over words table hs → (out : List ℕ) × Text file out
with_night {g = g} s (hs, o) = (suite_text g hs, suite s o)

module _ {file words : List ℕ} (u : Unpacks file words) where
  with_grammar : {g : Grammar} → layout words ≡ reads g → Accepted limit g → (out : List ℕ) × Text file out
  with_grammar {g} e a =
      let (table, is) = table_exists g (in_bounds words e) a.trees a.reached in
      let own : HasTable g table = rw (take_all (table_length g) table (omega (arith, is.long))) is in
      let (buffer, enough) = roomy limit in
      with_night (record { unpacks = u; grammar = e; accepted = a; tabled = own })
      (night_ends words table e a own buffer buffer enough enough)

  of_words : (out : List ℕ) × Text file out
  of_words = go (refused? limit words)
    where
      go : ((x : GrammarRefusal) × GrammarRefused limit words x) ⊎ Are words (Accepted limit) → (out : List ℕ) × Text file out
      go (inl (x, h)) = (refused_line (number x) (place x), refused_words u h)
      go (inr (g, e, a)) = with_grammar e a

pub file_line : {file : List ℕ} {k p : ℕ} → ((before : List ℕ) → Unpacked file before (file-answer.Refused k p) before) →
    Text file (refused_line k p)
file_line h = let (before, room) = roomy 8707 in refused_file room (h before)

pub text_met : (file : List ℕ) → (out : List ℕ) × Text file out
text_met file = go (version? file) (bad_length? file)
  where
    go : Dec (NotVersionOne file) → Dec (BadLength file) → (out : List ℕ) × Text file out
    go (yes v) d = (refused_line 1 0, file_line (λ before. wrong_version v))
    go (no v) (yes l) = (refused_line 2 1, file_line (λ before. wrong_length v l))
    go (no v) (no l) = of_words (record { version = v; long = l; are = refl })
