-- WHOLE TEXT: the pieces of successive calls, joined, are the text so far, and the text of the file once it is over; and it is over
-- in time. Assumes nothing.
use Prim.Native.Nat.{ℕ, ◌≤◌}
use native.Mathlib.Omega.{arith}
use mathlib.Core.Path.{◌≡◌, refl}
use mathlib.Core.Bool.{true, false}
use mathlib.Core.List.{List, [], ◌++◌, append-nil}
use lib.ListN.{length, take}
use Rattle.lines.specs.Lines.{most_line}
use Rattle.suite.specs.declared.Piece.{Piece}
use Rattle.suite.specs.Text.{Text}
use Rattle.suite.specs.Pieces.{Clear, SoFar, going, whole, FirstPiece, NextPiece, Pieces, first, next, PieceReached, Made}
use Rattle.suite.specs.Filled.{Waits, Filled}
use Rattle.suite.specs.Begun.{TextBegun}
use Rattle.suite.proofs.MoreLines.{true_not_false, count_few}

module _ {file words table : List ℕ} where
  pub pieces_so_far : {n : ℕ} {out marks : List ℕ} {so : Piece} → Pieces file words table n out marks so →
      SoFar file (take so.words words) table marks so.count so.over out
  pieces_so_far (first p) = p.so_far
  pieces_so_far (next {out = out} z on p) = rw p.same_words (p.behind file out (pieces_so_far z))

  pub pieces_within : {n : ℕ} {out marks : List ℕ} {so : Piece} → Pieces file words table n out marks so →
      so.words ≤ length words
  pieces_within (first p) = p.words_within
  pieces_within (next z on p) = omega (arith, p.same_words, pieces_within z)

  -- WHOLE TEXT
  pub whole_text : {n : ℕ} {out marks : List ℕ} {so : Piece} → Pieces file words table n out marks so → so.over ≡ true →
      Text file out
  whole_text {so = so} z over = go (pieces_so_far z)
    where
      go : {words marks out : List ℕ} → SoFar file words table marks so.count so.over out → Text file out
      go (going hs on accepts night count e) = absurd (true_not_false over on)
      go (whole is t) = t

  -- TURNS: while it is not over there are no more calls than sentences, and no more sentences than 256
  pub calls_few : {n : ℕ} {out marks : List ℕ} {so : Piece} → Pieces file words table n out marks so →
      (so.over ≡ false → n ≤ so.count) × (n ≤ 257)
  calls_few (first p) = (λ on. omega arith, omega arith)
  calls_few (next z on p) =
      let l = (calls_few z).0 on in
      let few = count_few (pieces_so_far z) on in
      (λ is. omega (arith, p.more is), omega arith)

-- what the two functions promise, of the beginning and of what `fill` has put behind it
pub first_made : {file words table marks marks' text text' : List ℕ} {so then : Piece} → TextBegun file words table text so →
    Clear file marks → Filled (take so.words words) table marks marks' text text' so then →
    FirstPiece file words table marks' text' then
first_made {file} {marks = marks} begun zeros f = record {
  words_within = omega (arith, f.same_words, begun.words_within);
  within = f.within;
  so_far = rw f.same_words (f.behind file [] (begun.so_far marks zeros));
}

module _ {words table marks : List ℕ} {so : Piece} where
  pub next_waits : PieceReached words table marks so → so.over ≡ false → (text : List ℕ) →
      Waits (take so.words words) table marks text (record { words = so.words; count = so.count; length = 0; over = false })
  next_waits reached on text = record {
    within = omega arith;
    file = reached.file;
    out = reached.out;
    so_far = rw (append-nil reached.out) (rw on at (pieces_so_far reached.pieces));
  }

  pub next_made : {marks' text text' : List ℕ} {then : Piece} → so.over ≡ false → most_line ≤ length text →
      Filled (take so.words words) table marks marks' text text'
      (record { words = so.words; count = so.count; length = 0; over = false }) then →
      NextPiece words table marks marks' text' so then
  next_made on room f = record {
    same_words = f.same_words;
    within = f.within;
    behind = λ file out z. f.behind file out (rw (append-nil out) (rw on at z));
    more = λ is. f.more refl (omega arith) is;
  }

pub piece_made : {file words table marks piece : List ℕ} {calls : ℕ} {so : Piece} (before : List ℕ) →
    Pieces file words table calls (before ++ piece) marks so → Made piece
piece_made {file} {words} {table} {marks} {piece} {calls} {so} before pieces = record {
  file = file;
  words = words;
  table = table;
  marks = marks;
  calls = calls;
  so = so;
  before = before;
  pieces = pieces;
}
