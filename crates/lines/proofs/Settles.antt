-- Any two outcomes that a promise allows for the same input coincide: the index answered, and all of the lent buffer. The promise
-- of each function is `LineWritten` of its line. Assumes nothing.
use Prim.Native.Nat.{ℕ}
use mathlib.Core.Path.{◌≡◌, sym, ◌∙◌}
use mathlib.Core.List.{List}
use Rattle.lines.specs.Lines.{suite_line, sentence_line, end_line, refused_line}
use Rattle.lines.specs.Room.{LineWritten}

written_settles : {text buffer a b : List ℕ} {at p q : ℕ} → LineWritten text buffer at a p → LineWritten text buffer at b q →
    (p ≡ q) × (a ≡ b)
written_settles h k = (h.index ∙ sym k.index, h.holds ∙ sym k.holds)

pub suite_settles : (N T R : ℕ) {buffer a b : List ℕ} {at p q : ℕ} → LineWritten (suite_line N T R) buffer at a p →
    LineWritten (suite_line N T R) buffer at b q → (p ≡ q) × (a ≡ b)
suite_settles N T R h k = written_settles h k

pub sentence_settles : (target : ℕ) (tokens rules : List ℕ) {buffer a b : List ℕ} {at p q : ℕ} →
    LineWritten (sentence_line target tokens rules) buffer at a p → LineWritten (sentence_line target tokens rules) buffer at b q →
    (p ≡ q) × (a ≡ b)
sentence_settles target tokens rules h k = written_settles h k

pub end_settles : (count : ℕ) {buffer a b : List ℕ} {at p q : ℕ} → LineWritten (end_line count) buffer at a p →
    LineWritten (end_line count) buffer at b q → (p ≡ q) × (a ≡ b)
end_settles count h k = written_settles h k

pub refused_settles : (number place : ℕ) {buffer a b : List ℕ} {at p q : ℕ} → LineWritten (refused_line number place) buffer at a p →
    LineWritten (refused_line number place) buffer at b q → (p ≡ q) × (a ≡ b)
refused_settles number place h k = written_settles h k
