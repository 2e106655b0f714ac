-- The final statements of this crate, each by one citation. A reader who believes specs/ and reads this page is done.
-- Assumes nothing.
use Prim.Native.Nat.{ℕ, ◌+◌, ◌/◌, ◌%◌, ◌≤◌, ◌<◌}
use mathlib.Core.Path.{◌≡◌}
use mathlib.Core.List.{List, [], ◌∷◌, ◌++◌}
use lib.ListN.{length, take, drop, get_or}
use Rattle.lines.specs.Digits.{digit, decimal, spelled}
use Rattle.lines.specs.Lines.{suite_line, sentence_line, end_line, refused_line, Words, most_line}
use Rattle.lines.specs.Room.{LineWritten}
use Rattle.lines.specs.Samples.{samples, Right}
use Rattle.lines.proofs.DigitsOfNumbers as Digits
use Rattle.lines.proofs.WholeLines as Whole
use Rattle.lines.proofs.LineLengths as Lengths
use Rattle.lines.proofs.Settles as Settles
use Rattle.lines.proofs.Samples as Samples

-- SETTLED. Any two outcomes that a promise allows for the same input coincide: the index answered, and all of the lent buffer.
pub suite_settles : (N T R : ℕ) {buffer a b : List ℕ} {at p q : ℕ} → LineWritten (suite_line N T R) buffer at a p →
    LineWritten (suite_line N T R) buffer at b q → (p ≡ q) × (a ≡ b)
suite_settles = Settles.suite_settles

pub sentence_settles : (target : ℕ) (tokens rules : List ℕ) {buffer a b : List ℕ} {at p q : ℕ} →
    LineWritten (sentence_line target tokens rules) buffer at a p → LineWritten (sentence_line target tokens rules) buffer at b q →
    (p ≡ q) × (a ≡ b)
sentence_settles = Settles.sentence_settles

pub end_settles : (count : ℕ) {buffer a b : List ℕ} {at p q : ℕ} → LineWritten (end_line count) buffer at a p →
    LineWritten (end_line count) buffer at b q → (p ≡ q) × (a ≡ b)
end_settles = Settles.end_settles

pub refused_settles : (number place : ℕ) {buffer a b : List ℕ} {at p q : ℕ} → LineWritten (refused_line number place) buffer at a p →
    LineWritten (refused_line number place) buffer at b q → (p ≡ q) × (a ≡ b)
refused_settles = Settles.refused_settles

-- DECIMAL. Below 10 a number is its digit; from 10 on it is the digits of a tenth of it, and its last digit.
pub decimal_one : (n : ℕ) → n < 10 → decimal n ≡ digit n ∷ []
decimal_one = Digits.decimal_one

pub decimal_more : (n : ℕ) → 10 ≤ n → decimal n ≡ decimal (n / 10) ++ (digit (n % 10) ∷ [])
decimal_more = Digits.decimal_more

-- They spell the number, and have no zero in front but for 0 itself.
pub decimal_spells : (n : ℕ) → spelled 0 (decimal n) ≡ n
decimal_spells = Digits.decimal_spells

pub decimal_no_zero : (n : ℕ) → 0 < n → get_or (decimal n) 0 0 ≡ 48 → ⊥
decimal_no_zero = Digits.decimal_no_zero

-- WHOLE. Where there is room the buffer holds the whole line and the index is past it; an index below the buffer's length says
-- that there was room; a line written from 0 on is the buffer's front; and the index stays within the buffer.
pub with_room : {text buffer after : List ℕ} {at past : ℕ} → LineWritten text buffer at after past →
    at + length text ≤ length buffer →
    (past ≡ at + length text) × (after ≡ take at buffer ++ text ++ drop (at + length text) buffer)
with_room = Whole.with_room

pub room_told : {text buffer after : List ℕ} {at past : ℕ} → LineWritten text buffer at after past → past < length buffer →
    at + length text ≤ length buffer
room_told = Whole.room_told

pub front : {text buffer after : List ℕ} {past : ℕ} → LineWritten text buffer 0 after past → length text ≤ length buffer →
    take past after ≡ text
front = Whole.front

pub within : {text buffer after : List ℕ} {at past : ℕ} → LineWritten text buffer at after past → at ≤ length buffer →
    past ≤ length after
within = Whole.within

-- LENGTH. 24,594 octets are room enough for a sentence's line, and for each of the others.
pub sentence_few : (target : ℕ) (tokens rules : List ℕ) → target < 65536 → Words tokens → Words rules →
    length tokens + length rules ≤ 4096 → length (sentence_line target tokens rules) ≤ most_line
sentence_few = Lengths.sentence_few

pub suite_few : (N T R : ℕ) → N < 65536 → T < 65536 → R < 65536 → length (suite_line N T R) ≤ most_line
suite_few = Lengths.suite_few

pub end_few : (count : ℕ) → count < 65536 → length (end_line count) ≤ most_line
end_few = Lengths.end_few

pub refused_few : (number place : ℕ) → number < 65536 → place < 18446744073709551616 →
    length (refused_line number place) ≤ most_line
refused_few = Lengths.refused_few

-- SAMPLES of document 01: the lines printed for D, and `refused 1 0`.
pub samples_right : Right samples
samples_right = Samples.samples_right
