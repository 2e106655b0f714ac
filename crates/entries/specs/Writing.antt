-- For the functions that write a table, and those above that work one out: the words that figures make, and what a buffer holds
-- when some of them are written. Nobody has to believe this file; the promises do not cite it. Assumes nothing.
use Rattle.std.specs.Prelude.{ℕ, zero, suc, ◌+◌, ◌-◌, ◌*◌, ◌/◌, ◌%◌, List, ◌++◌, ltb, set, take, drop}
use Rattle.answers.specs.Lists.{tabulate}
use Rattle.grammar.specs.Certificates.{either, Figures}
use Rattle.grammar.specs.Terms.{measure}
use Rattle.entries.specs.Table.{length_for}
use Rattle.entries.specs.declared.Entries.{Entries}

-- words with the entries of A stored in them, and with the total of rule r behind n nonterminals
abbrev pub with_entries : List ℕ → ℕ → Entries → List ℕ
with_entries ws A e =
    set (set (set (set (set ws (5 * A) e.least) (5 * A + 1) e.chosen) (5 * A + 2) e.context) (5 * A + 3) e.rule)
    (5 * A + 4) e.place

abbrev pub with_total : List ℕ → ℕ → ℕ → ℕ → List ℕ
with_total ws n r x = set ws (5 * n + r) x

-- the entries that figures give A
abbrev pub entries_of : Figures measure → ℕ → Entries
entries_of F A = record { least = F.least A; chosen = F.chosen A; context = F.context A; rule = F.rule A; place = F.place A }

-- word j of those of A, and word i of the table of n nonterminals
abbrev pub word_of : Figures measure → ℕ → ℕ → ℕ
word_of F A zero = F.least A
word_of F A (suc zero) = F.chosen A
word_of F A (suc (suc zero)) = F.context A
word_of F A (suc (suc (suc zero))) = F.rule A
word_of F A (suc (suc (suc (suc j)))) = F.place A

abbrev pub word_at : ℕ → Figures measure → ℕ → ℕ
word_at n F i = either (ltb i (5 * n)) (word_of F (i / 5) (i % 5)) (F.total (i - 5 * n))

-- the table that figures make of n nonterminals and so many rules
unfoldable pub table_of : ℕ → ℕ → Figures measure → List ℕ
table_of n rules F = tabulate (word_at n F) (length_for n rules)

-- a buffer with the entries of the nonterminals below A in it; and with those of all, and the totals of the rules below r
unfoldable pub entered_to : ℕ → ℕ → Figures measure → List ℕ → ℕ → List ℕ
entered_to n rules F before A = take (5 * A) (table_of n rules F) ++ drop (5 * A) before

unfoldable pub totalled_to : ℕ → ℕ → Figures measure → List ℕ → ℕ → List ℕ
totalled_to n rules F before r = take (5 * n + r) (table_of n rules F) ++ drop (5 * n + r) before
