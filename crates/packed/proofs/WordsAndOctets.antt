-- Words as octets and octets as words: how many there are, how each place settles them, their parts, and that each way undoes the
-- other. Assumes nothing.
use Rattle.std.proofs.Common.{◌≡◌, ℕ, zero, suc, ◌+◌, ◌*◌, ◌/◌, ◌%◌, ◌<◌, List, [], ◌∷◌, length, get_or, take, drop}
use Rattle.std.proofs.Common.{length-drop, add-one, refl, sym, ap, ◌∙◌, arith}
use Rattle.std.proofs.Common.{le_of_suc-le-suc, not-suc-le-zero, add_assoc, get_or-append-add, get_or-drop}
use Rattle.std.proofs.lemmas.Grind.{common_steps, same_number_lists}
use native.Mathlib.Nat.{div-add-mod'}
use lib.Arith.{digits_div, digits_mod}
use Rattle.packed.specs.File.{octets_of, file_of, word_of, words_of, following, words_in, Octets}

twice_suc : (n : ℕ) → 2 * suc n ≡ suc (suc (2 * n))
twice_suc n = omega arith

-- HOW MANY
pub length-octets_of : (ws : List ℕ) → length (octets_of ws) ≡ 2 * length ws
unfolding octets_of
length-octets_of [] = refl
length-octets_of (w ∷ ws) = omega (arith, length-octets_of ws)

pub length-file_of : (ws : List ℕ) → length (file_of ws) ≡ 3 + 2 * length ws
unfolding file_of octets_of
length-file_of ws = omega (arith, length-octets_of ws)

pub length_words_of : (xs : List ℕ) (n : ℕ) → length xs ≡ 2 * n → length (words_of xs) ≡ n
unfolding words_of
length_words_of [] n e = omega arith
length_words_of (a ∷ []) n e = absurd (omega arith)
length_words_of (a ∷ b ∷ xs) zero e = absurd (omega arith)
length_words_of (a ∷ b ∷ xs) (suc n) e = ap suc (length_words_of xs n (omega arith))

pub length_words_in : (file : List ℕ) (n : ℕ) → length file ≡ 3 + 2 * n → length (words_in file) ≡ n
length_words_in file n e = length_words_of (following file) n (omega (arith, length-drop 3 file))

-- EACH PLACE. Words are those that octets spell where each is, and octets are those of words where each pair is.
words_of_at : (xs : List ℕ) (i : ℕ) → 2 * i + 1 < length xs →
    get_or (words_of xs) i 0 ≡ word_of (get_or xs (2 * i) 0) (get_or xs (2 * i + 1) 0)
unfolding words_of
words_of_at [] i h = absurd (omega arith)
words_of_at (a ∷ []) i h = absurd (omega arith)
words_of_at (a ∷ b ∷ xs) zero h = refl
words_of_at (a ∷ b ∷ xs) (suc i) h = rw (add-one, twice_suc) (rw add-one at (words_of_at xs i (omega arith)))

pub words_of_each : (octets words : List ℕ) → length octets ≡ 2 * length words →
    ((k : ℕ) → k < length words → get_or words k 0 ≡ word_of (get_or octets (2 * k) 0) (get_or octets (2 * k + 1) 0)) →
    words ≡ words_of octets
words_of_each octets words e h =
    same_number_lists words (words_of octets) (sym (length_words_of octets (length words) e))
    (λ k low. h k low ∙ sym (words_of_at octets k (omega arith)))

pub octets_of_each : (words octets : List ℕ) → length octets ≡ 2 * length words →
    ((k : ℕ) → k < length words →
    (get_or octets (2 * k) 0 ≡ get_or words k 0 / 256) × (get_or octets (2 * k + 1) 0 ≡ get_or words k 0 % 256)) →
    octets ≡ octets_of words
unfolding octets_of
octets_of_each [] [] e h = refl
octets_of_each [] (x ∷ octets) e h = absurd (omega arith)
octets_of_each (w ∷ words) [] e h = absurd (omega arith)
octets_of_each (w ∷ words) (x ∷ []) e h = absurd (omega arith)
octets_of_each (w ∷ words) (x ∷ y ∷ octets) e h =
    let first = h 0 (omega arith) in
    let rest =
    octets_of_each words octets (omega arith)
    (λ k low. rw add-one (rw (add-one, twice_suc) at (h (suc k) (omega arith)))) in
    rw (← first.0, ← first.1, ← rest)

-- The octets of word i, those of a file past its header, and word i of a file of n words.
octets_of_high : (ws : List ℕ) (i : ℕ) → i < length ws → get_or (octets_of ws) (2 * i) 0 ≡ get_or ws i 0 / 256
unfolding octets_of
octets_of_high [] i h = absurd (not-suc-le-zero h)
octets_of_high (w ∷ ws) zero h = refl
octets_of_high (w ∷ ws) (suc i) h = rw twice_suc (octets_of_high ws i (le_of_suc-le-suc h))

octets_of_low : (ws : List ℕ) (i : ℕ) → i < length ws → get_or (octets_of ws) (2 * i + 1) 0 ≡ get_or ws i 0 % 256
unfolding octets_of
octets_of_low [] i h = absurd (not-suc-le-zero h)
octets_of_low (w ∷ ws) zero h = refl
octets_of_low (w ∷ ws) (suc i) h = rw (add-one, twice_suc) (rw add-one at (octets_of_low ws i (le_of_suc-le-suc h)))

file_of_at : (ws : List ℕ) (k : ℕ) → get_or (file_of ws) (3 + k) 0 ≡ get_or (octets_of ws) k 0
unfolding file_of octets_of
file_of_at ws k = get_or-append-add (1 ∷ length (octets_of ws) / 256 ∷ length (octets_of ws) % 256 ∷ []) (octets_of ws) k 0

pub words_in_at : (file : List ℕ) (n i : ℕ) → length file ≡ 3 + 2 * n → i < n →
    get_or (words_in file) i 0 ≡ word_of (get_or file (3 + 2 * i) 0) (get_or file (3 + 2 * i + 1) 0)
words_in_at file n i e h =
    words_of_at (following file) i (omega (arith, length-drop 3 file))
    ∙ rw (get_or-drop 3 file (2 * i) 0, get_or-drop 3 file (2 * i + 1) 0, ← add_assoc 3 (2 * i) 1)

pub file_of_high : (ws : List ℕ) (i : ℕ) → i < length ws → get_or (file_of ws) (3 + 2 * i) 0 ≡ get_or ws i 0 / 256
file_of_high ws i h = file_of_at ws (2 * i) ∙ octets_of_high ws i h

pub file_of_low : (ws : List ℕ) (i : ℕ) → i < length ws → get_or (file_of ws) (3 + 2 * i + 1) 0 ≡ get_or ws i 0 % 256
file_of_low ws i h = rw (add_assoc 3 (2 * i) 1) (file_of_at ws (2 * i + 1) ∙ octets_of_low ws i h)

-- PARTS
pub words_of_take : (octets : List ℕ) (n : ℕ) → words_of (take (2 * n) octets) ≡ take n (words_of octets)
unfolding words_of
words_of_take [] n = grind (arith, common_steps)
words_of_take (a ∷ []) zero = refl
words_of_take (a ∷ []) (suc n) = rw twice_suc
words_of_take (a ∷ b ∷ octets) zero = refl
words_of_take (a ∷ b ∷ octets) (suc n) = rw (twice_suc, words_of_take octets n)

pub words_of_drop : (octets : List ℕ) (n : ℕ) → words_of (drop (2 * n) octets) ≡ drop n (words_of octets)
unfolding words_of
words_of_drop [] n = grind (arith, common_steps)
words_of_drop (a ∷ []) zero = refl
words_of_drop (a ∷ []) (suc n) = rw twice_suc
words_of_drop (a ∷ b ∷ octets) zero = refl
words_of_drop (a ∷ b ∷ octets) (suc n) = rw (twice_suc, words_of_drop octets n)

pub octets_of_take : (ws : List ℕ) (n : ℕ) → octets_of (take n ws) ≡ take (2 * n) (octets_of ws)
unfolding octets_of
octets_of_take [] n = grind (arith, common_steps)
octets_of_take (w ∷ ws) zero = refl
octets_of_take (w ∷ ws) (suc n) = rw (twice_suc, octets_of_take ws n)

pub octets_of_drop : (ws : List ℕ) (n : ℕ) → octets_of (drop n ws) ≡ drop (2 * n) (octets_of ws)
unfolding octets_of
octets_of_drop [] n = grind (arith, common_steps)
octets_of_drop (w ∷ ws) zero = refl
octets_of_drop (w ∷ ws) (suc n) = rw (twice_suc, octets_of_drop ws n)

-- THERE AND BACK
words_back : (ws : List ℕ) → words_of (octets_of ws) ≡ ws
unfolding words_of octets_of
words_back [] = refl
words_back (w ∷ ws) = rw (div-add-mod' w 256, words_back ws)

pub words_in_file_of : (ws : List ℕ) → words_in (file_of ws) ≡ ws
unfolding file_of octets_of
words_in_file_of ws = words_back ws

pub octets_back : (xs : List ℕ) (n : ℕ) → length xs ≡ 2 * n → Octets xs → octets_of (words_of xs) ≡ xs
unfolding words_of octets_of
octets_back [] n e b = refl
octets_back (a ∷ []) n e b = absurd (omega arith)
octets_back (a ∷ l ∷ xs) zero e b = absurd (omega arith)
octets_back (a ∷ l ∷ xs) (suc n) e b =
    rw (digits_div a (b 1), digits_mod a (b 1), octets_back xs n (omega arith) (λ i. b (suc (suc i))))
