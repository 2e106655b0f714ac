-- Rows, tested by computing: a table by the one pass over it, a fault of the layout by judging the words, a replay by replaying,
-- a file by spelling its words. A row that passes holds. No test is made for 5 and 6, nor for a night: such rows do not pass.
-- Assumes nothing.
use Prim.Native.Nat.{ℕ, ◌≤◌, ◌<◌}
use native.Mathlib.Omega.{arith}
use mathlib.Core.Path.{◌≡◌, refl}
use mathlib.Core.Bool.{Bool, true, false, ◌&&◌, So, and-eq-true_iff, false≢true}
use mathlib.Core.Logic.{◌⊎◌, inl, inr}
use mathlib.Core.List.{List, [], ◌∷◌}
use lib.Dec.{leb, eqb}
use lib.ListN.{length}
use borrow.Author.Tests.{leb-true, eqb-true}
use Rattle.packed.specs.File.{file_of}
use Rattle.packed.proofs.Main.{unpack_file_of}
use Rattle.grammar.specs.Words.{Grammar, R, Judged, reads, faults, layout}
use Rattle.grammar.specs.Refusals.{Accepted}
use Rattle.grammar.specs.Rows.{row_4}
use Rattle.grammar.specs.Tree.{Tree, plug, StandsIn}
use Rattle.grammar.specs.FigureTests.{each}
use Rattle.grammar.specs.Replaying.{Replayed, derived, stopped, replay}
use Rattle.grammar.specs.Terms.{limit}
use Rattle.grammar.proofs.FigureTest.{each_at}
use Rattle.grammar.proofs.Main.{layout_exact, dead, replay_exact, replay_stops}
use Rattle.replay.specs.Replay.{most_numbers}
use Rattle.entries.specs.Table.{total_in, IsTable}
use Rattle.tables.specs.Promise as tables
use Rattle.entries.specs.TableCertificates.{passes?}
use Rattle.entries.proofs.Main.{computed_table}
use Rattle.replay.specs.Replay as replayed
use Rattle.samples.specs.Row.{Row, unpack_of, tables_of, replay_of, refusal_of, night_of, Result, writes, refuses}
use Rattle.samples.specs.Row.{Holds, All, no_more, ◌and◌}
use Rattle.samples.proofs.AnyBuffer.{refused_of_any}

abbrev pub same? : List ℕ → List ℕ → Bool
same? [] [] = true
same? [] (y ∷ ys) = false
same? (x ∷ xs) [] = false
same? (x ∷ xs) (y ∷ ys) = eqb x y && same? xs ys

same : (xs ys : List ℕ) → So (same? xs ys) → xs ≡ ys
same [] [] t = refl
same [] (y ∷ ys) t = absurd (false≢true t)
same (x ∷ xs) [] t = absurd (false≢true t)
same (x ∷ xs) (y ∷ ys) t =
    let (first, others) = (and-eq-true_iff (eqb x y) (same? xs ys)).0 t in
    let e = eqb-true x y first in
    let es = same xs ys others in
    cc

-- THE TESTS, each of what was computed and of the row's result
abbrev pub totals_fit? : Grammar → List ℕ → Bool
totals_fit? g table = each (λ r. leb (total_in g.N table r) limit) (R g)

abbrev pub table? : Judged Grammar → Result → Bool
table? (reads g) (writes table) = passes? g table && totals_fit? g table
table? (reads g) (refuses number place) = false
table? (faults p) (writes table) = false
table? (faults p) (refuses number place) = eqb number 4 && eqb place p

abbrev pub replayed? : Replayed → Result → Bool
replayed? (derived t) (writes sentence) = same? sentence t
replayed? (derived t) (refuses number place) = false
replayed? (stopped p) (writes sentence) = false
replayed? (stopped p) (refuses number place) = eqb number 11 && eqb place p

abbrev pub replay? : Judged Grammar → List ℕ → Result → Bool
replay? (reads g) list r = leb (length list) most_numbers && replayed? (replay g list) r
replay? (faults p) list r = false

abbrev pub unpacked? : List ℕ → Result → Bool
unpacked? file (writes words) = leb (length words) 8707 && same? (file_of words) file
unpacked? file (refuses number place) = false

abbrev pub row? : Row → Bool
row? (unpack_of file r) = unpacked? file r
row? (tables_of words r) = table? (layout words) r
row? (replay_of list words r) = replay? (layout words) list r
row? (refusal_of words number place) = table? (layout words) (refuses number place)
row? (night_of words table hs) = false

-- a grammar whose table has no total above 4,096 is accepted
pub table_accepts : {g : Grammar} {table : List ℕ} → IsTable g table → So (totals_fit? g table) → Accepted limit g
table_accepts {g} {table} is t =
    let (trees, reached) = (dead g).1 stands in
    record {
      trees = trees;
      reached = reached;
      fit = λ r l. record {
        total = total_in g.N table r;
        is = is.totals r l;
        within = leb-true _ limit (each_at (λ r. leb (total_in g.N table r) limit) (R g) t r l);
      };
    }
  where
    -- a least tree in the place of a context's open leaf
    stands : (A : ℕ) → A < g.N → (t : Tree g g.start) × StandsIn g A t
    stands A lt =
        let above = (is.contexts A lt).tree in
        let below = (is.leasts A lt).tree in
        (plug above below, record { above = above; below = below; whole = refl })

table_sound : (words : List ℕ) (r : Result) (j : Judged Grammar) → layout words ≡ j → So (table? j r) → Holds (tables_of words r)
table_sound words (writes table) (reads g) e t =
    let (passes, fits) = (and-eq-true_iff (passes? g table) (totals_fit? g table)).0 t in
    let is = computed_table ((layout_exact words g).0 e).0 table passes in
    let a = table_accepts is fits in
    λ before room. rw is.long (tables.row_done e a (rw is.long at room) is)
table_sound words (refuses number place) (reads g) e t = absurd (false≢true t)
table_sound words (writes table) (faults p) e t = absurd (false≢true t)
table_sound words (refuses number place) (faults p) e t =
    let (four, at) = (and-eq-true_iff (eqb number 4) (eqb place p)).0 t in
    λ before. rw (eqb-true number 4 four, eqb-true place p at) (tables.row_4_7 (row_4 e))

refused_sound : (words : List ℕ) (number place : ℕ) (j : Judged Grammar) → layout words ≡ j →
    So (table? j (refuses number place)) → Holds (refusal_of words number place)
refused_sound words number place (reads g) e t = absurd (false≢true t)
refused_sound words number place (faults p) e t =
    let (four, at) = (and-eq-true_iff (eqb number 4) (eqb place p)).0 t in
    let at_p : place ≡ p = eqb-true place p at in
    rw (eqb-true number 4 four, at_p) (refused_of_any {one = []} (tables.row_4_7 (row_4 e)) refl (omega arith))

replay_sound : (list words : List ℕ) (r : Result) (j : Judged Grammar) → layout words ≡ j → So (replay? j list r) →
    Holds (replay_of list words r)
replay_sound list words r (faults p) e t = absurd (false≢true t)
replay_sound list words r (reads g) e t =
    let (short, ends) = (and-eq-true_iff (leb (length list) most_numbers) (replayed? (replay g list) r)).0 t in
    go r (replay g list) refl (leb-true _ most_numbers short) ends
  where
    go : (r : Result) (z : Replayed) → replay g list ≡ z → length list ≤ most_numbers → So (replayed? z r) →
        Holds (replay_of list words r)
    go (writes sentence) (derived t) h l ends =
        let is : sentence ≡ t = same sentence t ends in
        λ before room. rw is (replayed.row_done e l ((replay_exact g list t).0 h) (rw is at room))
    go (refuses number place) (derived t) h l ends = absurd (false≢true ends)
    go (writes sentence) (stopped p) h l ends = absurd (false≢true ends)
    go (refuses number place) (stopped p) h l ends =
        let (eleven, at) = (and-eq-true_iff (eqb number 11) (eqb place p)).0 ends in
        λ before. rw (eqb-true number 11 eleven, eqb-true place p at) (replayed.row_11 e l ((replay_stops g list p).0 h))

unpacked_sound : (file : List ℕ) (r : Result) → So (unpacked? file r) → Holds (unpack_of file r)
unpacked_sound file (writes words) t =
    let (few, spells) = (and-eq-true_iff (leb (length words) 8707) (same? (file_of words) file)).0 t in
    λ before room. rw (same (file_of words) file spells) at (unpack_file_of words before (leb-true _ 8707 few) room)
unpacked_sound file (refuses number place) t = absurd (false≢true t)

-- SOUND
pub row_sound : (row : Row) → So (row? row) → Holds row
row_sound (unpack_of file r) t = unpacked_sound file r t
row_sound (tables_of words r) t = table_sound words r (layout words) refl t
row_sound (replay_of list words r) t = replay_sound list words r (layout words) refl t
row_sound (refusal_of words number place) t = refused_sound words number place (layout words) refl t
row_sound (night_of words table hs) t = absurd (false≢true t)

-- so a list of rows holds where each passes or is shown to hold
abbrev pub Shown : Row → Type 0
Shown row = So (row? row) ⊎ Holds row

shown_holds : (row : Row) → Shown row → Holds row
shown_holds row (inl t) = row_sound row t
shown_holds row (inr h) = h

pub all_hold : {rows : List Row} → All Shown rows → All Holds rows
all_hold no_more = no_more
all_hold (◌and◌ {row} s others) = shown_holds row s and all_hold others
