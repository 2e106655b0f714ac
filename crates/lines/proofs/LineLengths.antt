-- How long a line can be: with numbers of at most five digits, six octets for each number and one for the line's end. Document
-- 01: "In the suite no sentence and its derivation together exceed 4,096 numbers." Assumes nothing.
use Prim.Native.Nat.{ℕ, suc, ◌+◌, ◌*◌, ◌≤◌, ◌<◌}
use native.Mathlib.Omega.{arith}
use mathlib.Core.List.{List, [], ◌∷◌, ◌++◌}
use lib.ListN.{length, length-append}
use Rattle.lines.specs.Digits.{decimal}
use Rattle.lines.specs.Lines.{space, line_end, spaced, suite_line, sentence_line, end_line, refused_line, Words, most_line}
use Rattle.lines.proofs.DigitsOfNumbers.{decimal_few}

five : (n : ℕ) → n < 65536 → length (decimal n) ≤ 5
five n h = decimal_few 4 n (omega arith)

spaced_few : (l : List ℕ) → Words l → length (spaced l) ≤ 6 * length l
unfolding spaced
spaced_few [] h = omega arith
spaced_few (n ∷ l) h =
    let one = five n (h 0) in
    let rest = spaced_few l (λ i. h (suc i)) in
    omega (arith, length-append (space ∷ decimal n) (spaced l))

counted_few : (l : List ℕ) → Words l → length l < 65536 → length (spaced (length l ∷ l)) ≤ 6 + 6 * length l
unfolding spaced
counted_few l h few =
    let one = five (length l) few in
    let rest = spaced_few l h in
    omega (arith, length-append (space ∷ decimal (length l)) (spaced l))

-- LENGTH: a buffer with room for 24,594 octets has room for a sentence's line, and for each of the others
pub sentence_few : (target : ℕ) (tokens rules : List ℕ) → target < 65536 → Words tokens → Words rules →
    length tokens + length rules ≤ 4096 → length (sentence_line target tokens rules) ≤ most_line
unfolding sentence_line
sentence_few target tokens rules t u v few =
    let a = decimal target in
    let b = spaced (length tokens ∷ tokens) in
    let c = spaced (length rules ∷ rules) in
    let la = five target t in
    let lb = counted_few tokens u (omega arith) in
    let lc = counted_few rules v (omega arith) in
    omega (arith, length-append a b, length-append (a ++ b) c, length-append (a ++ b ++ c) (line_end ∷ []))

pub suite_few : (N T R : ℕ) → N < 65536 → T < 65536 → R < 65536 → length (suite_line N T R) ≤ most_line
unfolding suite_line spaced
suite_few N T R h k l =
    let a = five N h in
    let b = five T k in
    let c = five R l in
    simp length-append (omega arith)

pub end_few : (count : ℕ) → count < 65536 → length (end_line count) ≤ most_line
unfolding end_line spaced
end_few count h = let few = five count h in simp length-append (omega arith)

pub refused_few : (number place : ℕ) → number < 65536 → place < 18446744073709551616 →
    length (refused_line number place) ≤ most_line
unfolding refused_line spaced
refused_few number place h k =
    let a = five number h in
    let b = decimal_few 19 place (omega arith) in
    simp length-append (omega arith)
