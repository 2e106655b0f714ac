-- "The program reads at most 17,418 octets, so a longer file meets 2 (or 1, by its first octet)": what is read of a file has the
-- file's own text. Assumes nothing.
use Prim.Native.Nat.{ℕ, ◌≤◌}
use native.Mathlib.Omega.{arith}
use native.Mathlib.Decide.{dec_le}
use mathlib.Core.Path.{◌≡◌, refl, sym, ◌∙◌}
use mathlib.Core.List.{List, [], ◌∷◌}
use lib.ListN.{length, take, get_or}
use lib.Seq.{length-take-le, take_all}
use Rattle.packed.specs.Promise.{NotVersionOne, BadLength}
use Rattle.packed.specs.Promise.NotVersionOne.{empty, first_not_one}
use Rattle.packed.specs.Promise.Unpacked.{wrong_version, wrong_length}
use Rattle.packed.proofs.Main.{passes_exactly}
use Rattle.lines.specs.Lines.{refused_line}
use Rattle.suite.specs.Text.{Text}
use Rattle.suite.proofs.TextSettled.{version?, bad_length?, file_line, text_settles}

first_octet : (file : List ℕ) → get_or (take 17418 file) 0 0 ≡ get_or file 0 0
first_octet [] = refl
first_octet (x ∷ file) = refl

long_bad : (file : List ℕ) → 17418 ≤ length file → ¬ NotVersionOne file → BadLength file
long_bad file long v = go (bad_length? file)
  where
    go : Dec (BadLength file) → BadLength file
    go (yes b) = b
    go (no n) = let good = (passes_exactly file).0 (v, n) in absurd (omega (arith, good.all, good.most))

-- two files that begin with the same octet, both too long
same_text : (a b : List ℕ) → 17418 ≤ length a → 17418 ≤ length b → get_or a 0 0 ≡ get_or b 0 0 →
    (out : List ℕ) × Text a out × Text b out
same_text a b long long' e = go (version? a) (version? b)
  where
    moved : (a b : List ℕ) → 17418 ≤ length a → get_or a 0 0 ≡ get_or b 0 0 → NotVersionOne a → NotVersionOne b
    moved a b long e (empty l) = absurd (omega arith)
    moved a b long e (first_not_one n) = first_not_one (λ is. n (e ∙ is))

    go : Dec (NotVersionOne a) → Dec (NotVersionOne b) → (out : List ℕ) × Text a out × Text b out
    go (yes v) d =
        let w = moved a b long e v in
        (refused_line 1 0, file_line (λ before. wrong_version v), file_line (λ before. wrong_version w))
    go (no v) (yes w) = absurd (v (moved b a long' (sym e) w))
    go (no v) (no w) =
        let l = long_bad a long v in
        let k = long_bad b long' w in
        (refused_line 2 1, file_line (λ before. wrong_length v l), file_line (λ before. wrong_length w k))

pub read_text : (file : List ℕ) {out : List ℕ} → Text (take 17418 file) out → Text file out
read_text file {out} t = go (dec_le 17418 (length file))
  where
    go : Dec (17418 ≤ length file) → Text file out
    go (yes long) =
        let l = length-take-le 17418 file long in
        let (line, of-read, of-file) = same_text (take 17418 file) file (omega arith) long (first_octet file) in
        let same : out ≡ line = text_settles t of-read in
        rw same of-file
    go (no short) = let all : take 17418 file ≡ file = take_all 17418 file (omega arith) in rw all at t
