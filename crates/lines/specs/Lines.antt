-- The lines that the suite program prints, each as its octets. Document 01:
--   "The first line has N, T, R. Each next line has target, token count, tokens, rule count, rule numbers. The last has the
--    sentence count. A refused file prints the one line `refused`, number, place: empty input gives `refused 1 0`. Numbers are
--    decimal, one space stands between items, and each line ends with octet 0A."
-- Assumes nothing.
use Rattle.std.specs.Prelude.{ℕ, ◌<◌, List, [], ◌∷◌, ◌++◌, length, get_or}
use Rattle.lines.specs.Digits.{decimal}

abbrev pub space : ℕ
space = 0x20

abbrev pub line_end : ℕ
line_end = 0x0a

-- the words `suite`, `end`, `refused`
abbrev pub suite_word : List ℕ
suite_word = 115 ∷ 117 ∷ 105 ∷ 116 ∷ 101 ∷ []

abbrev pub end_word : List ℕ
end_word = 101 ∷ 110 ∷ 100 ∷ []

abbrev pub refused_word : List ℕ
refused_word = 114 ∷ 101 ∷ 102 ∷ 117 ∷ 115 ∷ 101 ∷ 100 ∷ []

-- numbers that follow an item: "one space stands between items"
unfoldable pub spaced : List ℕ → List ℕ
spaced [] = []
spaced (n ∷ ns) = (space ∷ decimal n) ++ spaced ns

-- "each line ends with octet 0A"
abbrev pub ended : List ℕ → List ℕ
ended text = text ++ (line_end ∷ [])

-- `suite`, N, T, R
unfoldable pub suite_line : ℕ → ℕ → ℕ → List ℕ
suite_line N T R = ended (suite_word ++ spaced (N ∷ T ∷ R ∷ []))

-- "target, token count, tokens, rule count, rule numbers"
unfoldable pub sentence_line : ℕ → List ℕ → List ℕ → List ℕ
sentence_line target tokens rules = ended (decimal target ++ spaced (length tokens ∷ tokens) ++ spaced (length rules ∷ rules))

-- `end`, the sentence count
unfoldable pub end_line : ℕ → List ℕ
end_line count = ended (end_word ++ spaced (count ∷ []))

-- "`refused`, number, place"
unfoldable pub refused_line : ℕ → ℕ → List ℕ
refused_line number place = ended (refused_word ++ spaced (number ∷ place ∷ []))

-- every number of the list is a 16-bit word
abbrev pub Words : List ℕ → Type 0
Words l = (i : ℕ) → get_or l i 0 < 65536

-- the most octets of any of these lines, where their numbers are in document 01's bounds
abbrev pub most_line : ℕ
most_line = 24594
