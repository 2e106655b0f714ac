-- The packed file, from document 01, "Grammar words": what octets words spell, and what words octets spell. A list of numbers
-- stands for octets and for words alike; that octets are below 256 and words below 65,536 is given by the types of the code.
-- Assumes nothing.
use Rattle.std.specs.Prelude.{ℕ, ◌+◌, ◌*◌, ◌/◌, ◌%◌, ◌≤◌, ◌<◌, ◌≡◌, List, [], ◌∷◌, length, get_or, drop}

-- "each word as two octets, high octet first"
unfoldable pub octets_of : List ℕ → List ℕ
octets_of [] = []
octets_of (w ∷ words) = w / 256 ∷ w % 256 ∷ octets_of words

-- "The file: version byte 1, then the number of following octets as two octets, then each word as two octets, high octet first.
-- Zero words are a valid file"
unfoldable pub file_of : List ℕ → List ℕ
file_of words = 1 ∷ octets_of (length (octets_of words) ∷ words)

-- Back again. The word that two octets spell:
abbrev pub word_of : ℕ → ℕ → ℕ
word_of high low = high * 256 + low

-- the words that octets spell, two octets each; a last octet alone spells none (row 2 refuses such a file)
unfoldable pub words_of : List ℕ → List ℕ
words_of [] = []
words_of (octet ∷ []) = []
words_of (high ∷ low ∷ octets) = word_of high low ∷ words_of octets

-- "the number of following octets", as the header of a file says it
abbrev pub said : List ℕ → ℕ
said file = word_of (get_or file 1 0) (get_or file 2 0)

-- the octets that do follow, and the words that they spell
abbrev pub following : List ℕ → List ℕ
following file = drop 3 file

abbrev pub words_in : List ℕ → List ℕ
words_in file = words_of (following file)

-- what a list of u8 is
abbrev pub Octets : List ℕ → Type 0
Octets file = (i : ℕ) → get_or file i 0 < 256

-- a file that neither row 1 nor row 2 refuses: version 1, and a header that says how many octets follow, two for each of at most
-- 8,707 words
pub record GoodFile (file : List ℕ) : Type 0 where
  pub version : get_or file 0 0 ≡ 1
  pub all : length file ≡ 3 + 2 * length (words_in file)
  pub says : said file ≡ 2 * length (words_in file)
  pub most : length (words_in file) ≤ 8707
